-- What the code finds for a row is what the form says of it.
use Prim.Native.Nat.{ℕ, zero, suc, ◌-◌, ◌≤◌, ◌<◌}
use native.Mathlib.Omega.{arith}
use native.Mathlib.Numerals.{sub-one}
use mathlib.Core.Path.{◌≡◌, refl, ap, sym, ◌∙◌}
use mathlib.Core.Bool.{Bool, true, false, not, ◌&&◌}
use lib.Dec.{ltb, leb, eqb}
use borrow.Author.Tests.{lt-ltb, le-leb}
use Rattle.rules.specs.Bytes.{Bytes}
use Rattle.rules.specs.Layout.{FlatRow}
use Rattle.rules.specs.Decode.{read_row}
use Rattle.sets.specs.Sets.{has}
use Rattle.form_index.specs.Indices.{IndexForm}
use Rattle.layout.specs.declared.Form.{Form}
use Rattle.form_index.specs.Reading.{index_form_of}
use Rattle.form_table.specs.Every.{every}
use Rattle.form_table.specs.Table.{wants, Needed, freed_of}
use Rattle.form_table.proofs.Numbers.{every_same}
use Rattle.next_row.specs.declared.OpenElement.{OpenElement}
use Rattle.next_row.specs.Judge.{spare, child_may, children_end, attribute_may, freed, row_may, rows_end}

-- ---- attribute rows
attribute_opened : (f : IndexForm) (i seen : ℕ) (r : FlatRow) → (seen ≡ 0 → ⊥)
    → attribute_may f i seen r
    ≡ (leb (seen - 1) r.index
    && (ltb r.index f.attributes && (eqb (f.owner r.index) i && (f.allows r.index r.value && every (spare f i) r.index (seen - 1)))))
attribute_opened f i zero r z = absurd (z refl)
attribute_opened f i (suc a) r z = rw sub-one

module _ (f : IndexForm) (i seen : ℕ) (r : FlatRow) (j : ℕ) (e : j ≡ r.index) (z : seen ≡ 0 → ⊥) where
  pub attribute_comes : seen - 1 ≤ j → j < f.attributes → (o : ℕ) (a b : Bool) → o ≡ f.owner j → a ≡ f.allows j r.value → b ≡ every (spare f i) j (seen - 1)
      → (eqb o i && (a && b)) ≡ attribute_may f i seen r
  attribute_comes h k o a b eo ea eb =
      let g : seen - 1 ≤ r.index = omega arith in
      let l : r.index < f.attributes = omega arith in
      rw (attribute_opened f i seen r z, le-leb (seen - 1) r.index g, lt-ltb r.index f.attributes l, eo, ea, eb, e)

pub value_read : (f : IndexForm) (j : ℕ) (row v : Bytes) (b : Bool) → v ≡ (read_row row).row.value → b ≡ f.allows j v → b ≡ f.allows j (read_row row).row.value
value_read f j row v b q h = h ∙ ap (f.allows j) q

-- ---- rows
-- a row that is no attribute's
module _ (f : IndexForm) (l : OpenElement) (r : FlatRow) (other : eqb r.sort 2 ≡ false) where
  row_both : (a b : Bool) → a ≡ freed f l.index l.seen → b ≡ child_may (f.kind l.index) (f.model l.index) l.last r.sort r.index
      → (a && b) ≡ row_may f (eqb r.sort 2) l r
  row_both a b ea eb = rw (other, ea, eb)

  -- an attribute is owed
  pub row_owed : (a : Bool) → a ≡ freed f l.index l.seen → a ≡ false → false ≡ row_may f (eqb r.sort 2) l r
  row_owed a ea n =
      ap (λ (x : Bool). x && child_may (f.kind l.index) (f.model l.index) l.last r.sort r.index) (sym n)
      ∙ row_both a (child_may (f.kind l.index) (f.model l.index) l.last r.sort r.index) ea refl

  pub row_child : (a b : Bool) → a ≡ freed f l.index l.seen → a ≡ true
      → b ≡ child_may (f.kind l.index) (f.model l.index) l.last r.sort r.index → b ≡ row_may f (eqb r.sort 2) l r
  row_child a b ea y eb = ap (λ (x : Bool). x && b) (sym y) ∙ row_both a b ea eb

module _ (f : IndexForm) (l : OpenElement) where
  module _ (a : Bool) (p : a ≡ freed f l.index l.seen) where
    -- an attribute is owed
    pub rows_owed : a ≡ false → false ≡ rows_end f l
    rows_owed n = rw (← p, n)

    pub rows_freed : a ≡ true → (b : Bool) → b ≡ children_end (f.kind l.index) (f.model l.index) l.last → b ≡ rows_end f l
    rows_freed y b q = rw (← p, y) q

-- ---- the attributes that are needed, looked up
module _ (t : Form) (i s : ℕ) (d : Needed t i s) (small : t.attribute_count ≤ 64) where
  spare_same : (k : ℕ) → k < t.attribute_count → not (has s k) ≡ spare (index_form_of t) i k
  spare_same k h = ap not (d.is k (omega arith) ∙ ap (λ (b : Bool). b && wants t i k) (lt-ltb k t.attribute_count h))

  pub spares_read : (from to : ℕ) (b : Bool) → to ≤ t.attribute_count → b ≡ every (λ j. not (has s j)) to from → b ≡ every (spare (index_form_of t) i) to from
  spares_read from to b h e = e ∙ every_same (λ j. not (has s j)) (spare (index_form_of t) i) to from (λ k l. spare_same k (omega arith))

  pub freed_read : (seen : ℕ) (b : Bool) → b ≡ freed_of s t.attribute_count seen → b ≡ freed (index_form_of t) i seen
  freed_read zero b e = e
  freed_read (suc x) b e = spares_read x t.attribute_count b (omega arith) e
