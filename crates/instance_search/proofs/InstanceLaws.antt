-- An instance of a definition exists: said by its name, and by its index.
use Prim.Native.Nat.{ℕ, suc, ◌<◌}
use mathlib.Core.Path.{◌≡◌, refl, sym, ap, ap₂, ◌∙◌}
use mathlib.Core.Bool.{Bool, true, false, ◌||◌}
use mathlib.Core.List.{[], ◌∷◌, map}
use lib.ListN.{length}
use Rattle.std.specs.Prelude.{Result}
use Rattle.rules.specs.Bytes.{Bytes, any}
use Rattle.rules.specs.Model.{Distinct}
use Rattle.rules.specs.Store.{Form, Row, Forest, bare, tree}
use Rattle.rules.specs.Preorder.{preorder}
use Rattle.rules.specs.Layout.{row_size, indexed}
use Rattle.rules.specs.Decode.{read_row, read_many, row_count}
use Rattle.rules.specs.WellFormed.{definition_name}
use Rattle.rules.specs.Lines.{Line, lines, element_named}
use Rattle.rules.specs.Change.{name_at_index}
use Rattle.rules.specs.Refusal.{instance_exists, ◌if◌, first}
use Rattle.rules.specs.Given.{refusal_number, number_given}
use Rattle.rules.specs.declared.Refusal.{Refusal}
use Rattle.layout.specs.Bodies.{width_of, WidthIn, Number, tree_rows_in}
use Rattle.lookup.proofs.Laws.{from_all}
use Rattle.rules.proofs.BooleanLaws.{any_append}
use Rattle.store_check.proofs.IndexLaws.{element_test}
use Rattle.store_laws.specs.Stores.{store_in}
use Rattle.store_check.proofs.StoreFacts.{form_in, docs_in, Whole}
use Rattle.instance_search.specs.Instances.{instance_row, refused_where}

module _ (form : Form) (once : Distinct (map definition_name form)) (i : ℕ) (h : i < length form) where
  abbrev n : Bytes
  n = name_at_index i form

  rows_have : (d : ℕ) (owner : Bytes) (up : ℕ) (f : Forest Row)
      → any (instance_row i) (preorder d (indexed form owner f)) ≡ any (λ (l : Line). element_named n l.row) (lines up f)
  rows_have d owner up bare = refl
  rows_have d owner up (tree r b t) =
      ap₂ (λ (u v : Bool). u || v) (element_test form once i h owner r)
      (any_append (instance_row i) (preorder (suc d) (indexed form r.name b)) (preorder d (indexed form owner t))
      ∙ ap₂ (λ (u v : Bool). u || v) (rows_have (suc d) r.name r.serial b) (rows_have d owner up t)
      ∙ sym (any_append (λ (l : Line). element_named n l.row) (lines r.serial b) (lines up t)))

pub instance_is : (bs : Bytes) → Whole bs → (o : ℕ) → o < length (form_in bs)
    → any (instance_row o) (read_many read_row (row_size (width_of bs)) (row_count bs) (tree_rows_in bs)) ≡ instance_exists (name_at_index o (form_in bs)) (store_in bs)
instance_is bs w o l =
    ap (any (instance_row o)) (sym (from_all read_row (row_size (width_of bs)) (tree_rows_in bs) (row_count bs) 0) ∙ w.rows)
    ∙ rows_have (form_in bs) w.good.form.names o l 0 [] 0 (docs_in bs)

-- ---- what is read is the store's
pub instances_any : (bs : Bytes) (o : ℕ) {w count : ℕ} {rows : Bytes} {r : Bool} → WidthIn bs w → Number (row_count bs) count → rows ≡ tree_rows_in bs
    → r ≡ any (instance_row o) (read_many read_row (row_size w) count rows)
    → r ≡ any (instance_row o) (read_many read_row (row_size (width_of bs)) (row_count bs) (tree_rows_in bs))
instances_any bs o v e f q = q ∙ (λ j. any (instance_row o) (read_many read_row (row_size (v.value j)) (e.value j) (f j)))

-- the number of a refusal where something holds, as the first of one condition
pub refused_number : (b : Bool) (n : Refusal) {r : Result (Unit {0}) Refusal} → r ≡ refused_where b n → number_given r ≡ first (refusal_number n if b ∷ [])
refused_number b n e = ap (λ (z : Result (Unit {0}) Refusal). number_given z) e ∙ by b
  where
    by : (c : Bool) → number_given (refused_where c n) ≡ first (refusal_number n if c ∷ [])
    by true = refl
    by false = refl
