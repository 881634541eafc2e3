-- No element with one serial stands below another, where serials stand once.
use Prim.Native.Nat.{ℕ}
use mathlib.Core.Path.{sym, ap, ◌∙◌}
use mathlib.Core.Bool.{and-false, Bool, ◌&&◌}
use mathlib.Core.List.Memᴰ
use mathlib.Core.List.{Memᴰ}
use lib.Dec.{eqb}
use Rattle.rules.specs.Bytes.{Bytes, numbers, eqb_eq}
use Rattle.rules.specs.Model.{Distinct}
use Rattle.rules.specs.Store.{Form, Row, Forest, bare, tree}
use Rattle.rules.specs.Layout.{row_code, indexed}
use Rattle.rules.specs.Passing.{serials}
use Rattle.rules.proofs.Words.{and_split}
use Rattle.rules.proofs.Apart.{differs}
use Rattle.rules.proofs.Correct.{distinct_left, distinct_right}
use Rattle.row_walk.specs.declared.Which.TheVariants.{Serial}
use Rattle.row_walk.specs.Walk.{matches}
use Rattle.plans.specs.Trees.{NoneOf, NotNested}

module _ (form : Form) (k : ℕ) where
  none_other : (owner : Bytes) (f : Forest Row) → (Memᴰ k (serials f) → ⊥) → NoneOf (matches (Serial k)) (indexed form owner f)
  none_other owner bare h = tt
  none_other owner (tree r b t) h = (
    ap (λ (c : Bool). eqb (row_code r.sort) 1 && c) (differs numbers r.serial k (λ e. h (Memᴰ.head (sym e)))) ∙ and-false (eqb (row_code r.sort) 1),
    none_other r.name b (λ m. h (Memᴰ.tail (Memᴰ.append_left (serials t) m))),
    none_other owner t (λ m. h (Memᴰ.tail (Memᴰ.append_right (serials b) m))),
  )

  pub apart_serial : (owner : Bytes) (f : Forest Row) → Distinct (serials f) → NotNested (matches (Serial k)) (indexed form owner f)
  apart_serial owner bare d = tt
  apart_serial owner (tree r b t) (n, d) = (
    λ e. none_other r.name b (λ m. n (Memᴰ.append_left (serials t) (Memᴰ.cast (eqb_eq r.serial k (and_split (eqb (row_code r.sort) 1) (eqb r.serial k) e).1) m))),
    apart_serial r.name b (distinct_left (serials b) (serials t) d),
    apart_serial owner t (distinct_right (serials b) (serials t) d),
  )
