-- The sixteen pairs of quantifiers.
use Prim.Native.Nat.{ℕ, zero, suc}
use native.Mathlib.Omega.{arith}
use mathlib.Core.Path.{◌≡◌, refl}
use mathlib.Core.Logic.{◌↔◌}
use mathlib.Core.Bool.{Bool, true, false, not, ◌&&◌, ◌||◌, false≢true}
use Rattle.rules.specs.declared.Quantifier.{Quantifier}
use Rattle.rules.specs.declared.Quantifier.TheVariants.{None, Qmark, Star, Plus}
use Rattle.rules.specs.Model.{skips}
use Rattle.rules.specs.Language.{Allowed}
use Rattle.rules.specs.Quantifiers.{many, gains, cuts, relaxes}
use Rattle.rules.proofs.Carry.{Relaxes}

-- each number that a quantifier allows, in two words: none is allowed if it skips, over one if it is many
pub allowed_one : (q : Quantifier) → Allowed q 1
allowed_one None = refl
allowed_one Qmark = omega arith
allowed_one Star = tt
allowed_one Plus = omega arith

pub allowed_none : (q : Quantifier) → skips q ≡ true → Allowed q 0
allowed_none None e = absurd (false≢true e)
allowed_none Qmark e = omega arith
allowed_none Star e = tt
allowed_none Plus e = absurd (false≢true e)

pub allowed_many : (q : Quantifier) (n : ℕ) → many q ≡ true → Allowed q (suc n)
allowed_many None n e = absurd (false≢true e)
allowed_many Qmark n e = absurd (false≢true e)
allowed_many Star n e = tt
allowed_many Plus n e = omega arith

pub none_skips : (q : Quantifier) → Allowed q 0 → skips q ≡ true
none_skips None a = absurd (omega arith)
none_skips Qmark a = refl
none_skips Star a = refl
none_skips Plus a = absurd (omega arith)

pub more_many : (q : Quantifier) (n : ℕ) → Allowed q (suc (suc n)) → many q ≡ true
more_many None n a = absurd (omega arith)
more_many Qmark n a = absurd (omega arith)
more_many Star n a = refl
more_many Plus n a = refl

not_and : (a b : Bool) → a ≡ true → (a && not b) ≡ false → b ≡ true
not_and true true e h = refl
not_and true false e h = absurd (false≢true (cc))
not_and false b e h = absurd (false≢true e)

and_not : (a b : Bool) → a ≡ true → (not b && a) ≡ false → b ≡ true
and_not true true e h = refl
and_not true false e h = absurd (false≢true (cc))
and_not false b e h = absurd (false≢true e)

-- without a gain nothing stays allowed, without a cut any number but none does
pub stays_none : (q r : Quantifier) → gains q r ≡ false → Allowed q 0 → Allowed r 0
stays_none q r g a = allowed_none r (and_not (skips q) (skips r) (none_skips q a) g)

pub stays_some : (q r : Quantifier) (n : ℕ) → cuts q r ≡ false → Allowed q (suc n) → Allowed r (suc n)
stays_some q r zero c a = allowed_one r
stays_some q r (suc n) c a = allowed_many r (suc n) (not_and (many q) (many r) (more_many q n a) c)

-- each pair is relaxing, or a gain or a cut or both
pub pairs : (q r : Quantifier) → relaxes q r ≡ not (gains q r || cuts q r)
pairs None None = refl
pairs None Qmark = refl
pairs None Star = refl
pairs None Plus = refl
pairs Qmark None = refl
pairs Qmark Qmark = refl
pairs Qmark Star = refl
pairs Qmark Plus = refl
pairs Star None = refl
pairs Star Qmark = refl
pairs Star Star = refl
pairs Star Plus = refl
pairs Plus None = refl
pairs Plus Qmark = refl
pairs Plus Star = refl
pairs Plus Plus = refl

neither : (a b : Bool) → not (a || b) ≡ true → (a ≡ false) × (b ≡ false)
neither true b e = absurd (false≢true e)
neither false true e = absurd (false≢true e)
neither false false e = (refl, refl)

pub relaxes→ : (q r : Quantifier) → relaxes q r ≡ true → Relaxes q r
relaxes→ q r e = let (g, c) = neither (gains q r) (cuts q r) (rw (pairs q r) at e) in record { allow = by g c }
  where
    by : gains q r ≡ false → cuts q r ≡ false → (n : ℕ) → Allowed q n → Allowed r n
    by g c zero a = stays_none q r g a
    by g c (suc n) a = stays_some q r n c a

tested : (q r : Quantifier) → (Allowed q 0 → Allowed r 0) → (Allowed q 2 → Allowed r 2) → relaxes q r ≡ true
tested None r f g = refl
tested Qmark None f g = let z = f (omega arith) in absurd (omega arith)
tested Qmark Qmark f g = refl
tested Qmark Star f g = refl
tested Qmark Plus f g = let z = f (omega arith) in absurd (omega arith)
tested Star None f g = let z = f tt in absurd (omega arith)
tested Star Qmark f g = let z = g tt in absurd (omega arith)
tested Star Star f g = refl
tested Star Plus f g = let z = f tt in absurd (omega arith)
tested Plus None f g = let z = g (omega arith) in absurd (omega arith)
tested Plus Qmark f g = let z = g (omega arith) in absurd (omega arith)
tested Plus Star f g = refl
tested Plus Plus f g = refl

pub relaxes_allowed : (q r : Quantifier) → (relaxes q r ≡ true) ↔ Relaxes q r
relaxes_allowed q r = (relaxes→ q r, λ x. tested q r (x.allow 0) (x.allow 2))
