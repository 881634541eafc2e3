-- `document_printing::row_name_of` meets its contract: the returns are the clauses of `row_name` for an element, for an
-- attribute and for any other row, which is read as a text (`sort_text` of RowLaws).
use mathlib.Core.Path.{sym, ap, ap₂, ◌∙◌}
use Prim.Native.Nat.{ℕ}
use native.Mathlib.Omega.{arith}
use Rattle.rules.specs.declared.RowSort.TheVariants.{Element, Attribute}
use Rattle.rules.specs.Store.{RowSort}
use Rattle.rules.specs.Decode.{row_sort_of, row_name, read_row}
use Rattle.printing_parts.specs.Parts.{names_of, attribute_names_of}
use Rattle.document_printing.proofs.RowLaws.{sort_text}
use Rattle.document_printing.proofs.SortLaws.{is_sort, no_sort}
use Rattle.document_printing.proofs.row_name_of.Goals as goal

pub returns-then-eq : goal.returns-then-eq
returns-then-eq c =
    let a = c.args in
    let sort = is_sort _ Element c.row_sort_of-sort.ensures c.eq.ensures c.if-eq.true in
    record {
      name_is = c.name_of.ensures.name_is
          ∙ ap₂ (λ (s k : ℕ). row_name (names_of a.store.now) (attribute_names_of a.store.now) (row_sort_of s) k) (sym sort) c.row_index-index.ensures;
      short = c.name_of.ensures.short;
    }

pub returns-then-eq-2 : goal.returns-then-eq-2
returns-then-eq-2 c =
    let a = c.args in
    let sort = is_sort _ Attribute c.row_sort_of-sort.ensures c.eq-2.ensures c.if-eq-2.true in
    record {
      name_is = c.attribute_name_of.ensures.name_is
          ∙ ap₂ (λ (s k : ℕ). row_name (names_of a.store.now) (attribute_names_of a.store.now) (row_sort_of s) k) (sym sort) c.row_index-index.ensures;
      short = c.attribute_name_of.ensures.short;
    }

pub returns : goal.returns
returns c =
    let a = c.args in
    record {
      name_is = ap (λ (s : RowSort). row_name (names_of a.store.now) (attribute_names_of a.store.now) s (read_row a.row.now).row.index)
          (sym (sort_text _ (no_sort _ Element c.row_sort_of-sort.ensures c.eq.ensures c.if-eq.false)
          (no_sort _ Attribute c.row_sort_of-sort.ensures c.eq-2.ensures c.if-eq-2.false)));
      short = omega arith;
    }
