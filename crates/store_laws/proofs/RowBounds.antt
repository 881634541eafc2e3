-- How large the fields of the rows of a good store are.
use Prim.Native.Nat.{ℕ, suc, ◌≤◌}
use native.Mathlib.Omega.{arith}
use mathlib.Core.Path.{◌≡◌}
use mathlib.Core.Bool.{true, ◌&&◌}
use mathlib.Core.List.{[]}
use lib.Dec.{leb, ltb}
use lib.ListN.{length, length-map}
use borrow.Author.Tests.{leb-true}
use Rattle.rules.specs.Bytes.{Bytes, all}
use Rattle.rules.specs.Store.{Form, RowSort, element, attribute, text, Row, Forest, bare, tree, Store}
use Rattle.rules.specs.Preorder.{Deep, preorder}
use Rattle.rules.specs.Layout.{FlatRow, flat, flat_definition, all_attributes, attribute_index, row_index, index_of, indexed}
use Rattle.rules.specs.Passing.{serials, good}
use Rattle.rules.proofs.Words.{and_split}
use Rattle.rules.proofs.BooleanLaws.{Every, every_append, every_zip, all_left, all_right}
use Rattle.rules.proofs.DecodeLaws.{GoodParts, good_parts, index_bound, attribute_bound}
use Rattle.rules.proofs.SmallBytes.{good_depths}

-- a row that has a serial, no deeper than there are definitions may be, its index no more than a table holds
pub record Bounded (x : Deep FlatRow) : Type 0 where
  pub serial : 1 ≤ x.row.serial
  pub depth : x.depth ≤ 64
  pub index : x.row.index ≤ 64

-- ---- indices
row_few : (form : Form) (owner : Bytes) (r : Row) → length form ≤ 64 → length (all_attributes 0 form) ≤ 64 → row_index form owner r ≤ 64
row_few form owner r h k = by r.sort
  where
    by : (s : RowSort) → elim s [ element ↦ index_of r.name form | attribute ↦ attribute_index owner r.name form | text ↦ 0 ] ≤ 64
    by element = omega (arith, index_bound r.name form)
    by attribute = omega (arith, attribute_bound owner r.name 0 form)
    by text = omega arith

-- ---- all rows
abbrev Fields : Deep FlatRow → Type 0
Fields x = (1 ≤ x.row.serial) × (x.row.index ≤ 64)

fields : (form : Form) (next : ℕ) → length form ≤ 64 → length (all_attributes 0 form) ≤ 64 → (owner : Bytes) (depth : ℕ) (f : Forest Row)
    → all (λ k. leb 1 k && ltb k next) (serials f) ≡ true → Every Fields (preorder depth (indexed form owner f))
fields form next h k owner depth bare n = tt
fields form next h k owner depth (tree r b t) n =
    let (n₀, n₁) = and_split (leb 1 r.serial && ltb r.serial next) _ n in (
      (leb-true 1 r.serial (and_split (leb 1 r.serial) _ n₀).0, row_few form owner r h k),
      every_append Fields (preorder (suc depth) (indexed form r.name b)) (preorder depth (indexed form owner t))
          (fields form next h k r.name (suc depth) b (all_left (λ k. leb 1 k && ltb k next) (serials b) (serials t) n₁))
          (fields form next h k owner depth t (all_right (λ k. leb 1 k && ltb k next) (serials b) (serials t) n₁)),
    )

pub rows_bounded : (s : Store) → good s ≡ true → Every Bounded (flat s).rows
rows_bounded s g =
    let p : GoodParts s = good_parts s g in
    let few : length s.form ≤ 64 = omega (arith, length-map s.form (flat_definition s.form), p.definition_count) in
    every_zip Fields (λ x. x.depth ≤ length s.form) Bounded (flat s).rows (λ x a l. record { serial = a.0; depth = omega arith; index = a.1 })
    (fields s.form s.next few p.attribute_count [] 0 s.docs p.serials) (good_depths s g)
