-- What the tests of a row answer, joined to the test of a row that stays as it is.
use Prim.Native.Nat.{ℕ}
use mathlib.Core.Path.{◌≡◌, ap, ◌∙◌}
use mathlib.Core.Bool.{Bool, true, false, not, ◌&&◌, ◌||◌}
use lib.Dec.{eqb}
use Rattle.std.specs.Prelude.{None}
use Rattle.rules.specs.Preorder.{Deep}
use Rattle.rules.specs.Layout.{FlatRow}
use Rattle.row_walk.specs.declared.Plan.{Plan}
use Rattle.row_walk.specs.declared.Open.{Open}
use Rattle.row_walk.specs.declared.Head.{Head}
use Rattle.row_walk.specs.Walk.{moved_index, is_set, is_below_taken, closes, closed, is_taken}
use Rattle.row_walk.specs.Step.{valueless, ends_due, is_plain}

-- what is open once a row has closed the open row or not
pub closed_by : (o : Open) (x : Deep FlatRow) {b : Bool} → b ≡ closes o x
    → elim b as (λ z. Open) [ true ↦ record { taking = None; below = None; due = false } | false ↦ record { taking = None; below = o.below; due = o.due } ] ≡ closed o x
closed_by o x e = ap (λ (b : Bool). elim b as (λ z. Open) [ true ↦ record { taking = None; below = None; due = false } | false ↦ record { taking = None; below = o.below; due = o.due } ]) e

-- q: what is open once the row has closed what it closes
module _ (o : Open) (h : Head) (p : Plan) (q : Open) (eq : q ≡ closed o (valueless h)) where
  pub plain_by_lem : (c e g t v : Bool) (i : ℕ) → c ≡ closes o (valueless h) → e ≡ ends_due p q (valueless h)
      → i ≡ moved_index p (valueless h).row → g ≡ is_below_taken o (valueless h) → t ≡ is_taken p q (valueless h) → v ≡ is_set p.set h.serial
      → ((not g && not ((c && o.due) || e)) && (not t && (eqb i h.index && not v))) ≡ is_plain p o (valueless h)
  unfolding is_plain
  plain_by_lem c e g t v i ec ee ei eg et ev =
      let ends = ee ∙ ap (λ (z : Open). ends_due p z (valueless h)) eq in
      let takes = et ∙ ap (λ (z : Open). is_taken p z (valueless h)) eq in
      λ j. (not (eg j) && not ((ec j && o.due) || ends j)) && (not (takes j) && (eqb (ei j) h.index && not (ev j)))
