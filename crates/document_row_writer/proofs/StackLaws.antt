-- What a token does: the definitions that are opened after it.
use mathlib.Core.Path.{◌≡◌, refl, ap, ap₂, ◌∙◌}
use mathlib.Core.Bool.{Bool, true, false, ◌&&◌, not, false≢true}
use mathlib.Core.List.{List, ◌∷◌}
use Prim.Native.Nat.{ℕ, zero, suc, ◌+◌, ◌-◌, ◌<◌, ◌≤◌}
use native.Mathlib.Omega.{arith}
use native.Mathlib.Numerals.{add-one, sub-one}
use borrow.Author.Tests.{eq-eqb, ne_eqb}
use lib.Dec.{eqb}
use lib.ListN.{length, drop, set, length-set}
use lib.Seq.{get_or-set_same, get_or-set_other}
use Rattle.rules.specs.Bytes.{Bytes}
use Rattle.document_tokens.specs.Telling.{stack_of}
use Rattle.document_row_writer.specs.Putting.{open_by, Advanced}

-- ---- the definitions that are opened
stack_set : (d e : ℕ) (a : Bytes) (x : ℕ) → d ≤ e → stack_of d (set a e x) ≡ stack_of d a
unfolding stack_of
stack_set zero e a x h = refl
stack_set (suc d) e a x h = ap₂ (λ (y : ℕ) (l : List ℕ). y ∷ l) (get_or-set_other a e d x 0 (λ z. omega arith)) (stack_set d e a x (omega arith))

stack_push : (d : ℕ) (a : Bytes) (x : ℕ) → d < length a → stack_of (d + 1) (set a d x) ≡ x ∷ stack_of d a
unfolding stack_of
stack_push d a x h = rw add-one (ap₂ (λ (y : ℕ) (l : List ℕ). y ∷ l) (get_or-set_same a d x 0 h) (stack_set d d a x (omega arith)))

stack_pop : (d : ℕ) (a : Bytes) → stack_of (d - 1) a ≡ drop 1 (stack_of d a)
unfolding stack_of
stack_pop zero a = refl
stack_pop (suc d) a = rw sub-one

module _ (tag : Bool) (a : Bytes) (depth sort index : ℕ) (long : length a ≡ 256) (low : depth ≤ 255) where
  pub opens : sort ≡ 1 → depth < 255 → Advanced tag a depth sort index (depth + 1) (set a depth index)
  opens e h = record { is = rw (eq-eqb sort 1 e, open_by) (stack_push depth a index (omega arith)); low = omega arith; long = length-set a depth index ∙ long }

  module _ (e : sort ≡ 1 → ⊥) where
    pub closes : {r : ℕ} → (eqb sort 0 && not tag) ≡ true → r ≡ depth - 1 → Advanced tag a depth sort index r a
    closes {r} b g = record { is = ap (λ (k : ℕ). stack_of k a) g ∙ stack_pop depth a ∙ rw (ne_eqb sort 1 e, open_by) (by (eqb sort 0) tag b); low = omega arith; long = long }
      where
        by : (x t : Bool) → (x && not t) ≡ true → drop 1 (stack_of depth a) ≡ elim x [ true ↦ elim t [ true ↦ stack_of depth a | false ↦ drop 1 (stack_of depth a) ] | false ↦ stack_of depth a ]
        by true true b = absurd (false≢true b)
        by true false b = refl
        by false t b = absurd (false≢true b)
