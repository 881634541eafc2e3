-- The first condition that holds, one condition after the other.
use Prim.Native.Nat.{ℕ}
use mathlib.Core.Path.{◌≡◌, refl}
use mathlib.Core.Bool.{Bool, true, false}
use mathlib.Core.List.{List, [], ◌∷◌}
use Rattle.rules.specs.Refusal.{Condition, ◌if◌}
use Rattle.change_laws.specs.FirstCondition.{Gives}

pub gives_hit : {n : ℕ} {b : Bool} {cs : List Condition} → b ≡ true → Gives n ((n if b) ∷ cs)
gives_hit {n} {b} {cs} e = record { is = rw e }

pub gives_next : {n x : ℕ} {b : Bool} {cs : List Condition} → b ≡ false → Gives x cs → Gives x ((n if b) ∷ cs)
gives_next {n} {x} {b} {cs} e h = record { is = rw e h.is }

pub gives_none : Gives 0 []
gives_none = record { is = refl }
