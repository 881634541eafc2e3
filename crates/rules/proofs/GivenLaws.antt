-- The number of a refusal is not 0, which stands for none.
use Prim.Native.Nat.{ℕ, suc}
use native.Mathlib.Omega.{arith}
use mathlib.Core.Path.{◌≡◌, refl}
use Rattle.rules.specs.declared.Refusal.{Refusal}
use Rattle.rules.specs.declared.Refusal.TheVariants.{BadStore, BadName, BadValue, BadCode, Taken, Unknown, NoRow, NoPlace, WrongKind, InUse, Round}
use Rattle.rules.specs.declared.Refusal.TheVariants.{Default, OffSpine, Grouping, NoMatch, Ceiling, Serials, Buffer, BadText}
use Rattle.rules.specs.Given.{refusal_number}

pub refusal_counts : (r : Refusal) → (n : ℕ) × (refusal_number r ≡ suc n)
refusal_counts BadStore = (0, refl)
refusal_counts BadName = (1, refl)
refusal_counts BadValue = (2, refl)
refusal_counts BadCode = (3, refl)
refusal_counts Taken = (4, refl)
refusal_counts Unknown = (5, refl)
refusal_counts NoRow = (6, refl)
refusal_counts NoPlace = (7, refl)
refusal_counts WrongKind = (8, refl)
refusal_counts InUse = (9, refl)
refusal_counts Round = (10, refl)
refusal_counts Default = (11, refl)
refusal_counts OffSpine = (12, refl)
refusal_counts Grouping = (13, refl)
refusal_counts NoMatch = (14, refl)
refusal_counts Ceiling = (15, refl)
refusal_counts Serials = (16, refl)
refusal_counts Buffer = (17, refl)
refusal_counts BadText = (18, refl)

pub refusal_some : (r : Refusal) → refusal_number r ≡ 0 → ⊥
refusal_some r e = absurd (omega (arith, (refusal_counts r).1, e))
