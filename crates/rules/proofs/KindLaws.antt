-- The kinds of definitions and their codes: two kinds compared, a code read as a kind.
use Prim.Native.Nat.{ℕ, zero, suc, ◌≤◌}
use native.Mathlib.Omega.{arith}
use mathlib.Core.Path.{◌≡◌, refl, sym, ap, ◌∙◌}
use mathlib.Core.Bool.{Bool}
use lib.Dec.{eqb}
use borrow.Author.Tests.{ne_eqb}
use denote.Enum.Bare.{sameb}
use Rattle.rules.specs.declared.Kind.{Kind}
use Rattle.rules.specs.declared.Kind.TheVariants.{Empty, Pcdata, Complex}
use Rattle.rules.specs.contracts.Kind.{the_type}
use Rattle.rules.specs.Kinds.{kind_by, kind_number}

-- ---- two kinds compared
pub kind_test : (k j : Kind) → sameb the_type k j ≡ eqb (kind_number k) (kind_number j)
kind_test Empty Empty = refl
kind_test Empty Pcdata = refl
kind_test Empty Complex = refl
kind_test Pcdata Empty = refl
kind_test Pcdata Pcdata = refl
kind_test Pcdata Complex = refl
kind_test Complex Empty = refl
kind_test Complex Pcdata = refl
kind_test Complex Complex = refl

-- the same of a kind whose code is known
pub kind_compared : (k j : Kind) {n : ℕ} {b : Bool} → kind_number k ≡ n → b ≡ sameb the_type k j → b ≡ eqb n (kind_number j)
kind_compared k j e q = q ∙ kind_test k j ∙ ap (λ (z : ℕ). eqb z (kind_number j)) e

-- ---- a code read as a kind
-- of a code that a kind has
pub kind_back : (n : ℕ) → n ≤ 2 → kind_number (kind_by n) ≡ n
kind_back zero h = refl
kind_back (suc zero) h = refl
kind_back (suc (suc zero)) h = refl
kind_back (suc (suc (suc n))) h = absurd (omega arith)

-- only the code 0 is read as EMPTY, and only 1 as PCDATA
pub kind_none : (n : ℕ) → kind_by n ≡ Empty → n ≡ 0
kind_none zero h = refl
kind_none (suc zero) h = let z : ◌≡◌ {A = ℕ} 1 0 = ap kind_number h in absurd (omega arith)
kind_none (suc (suc n)) h = let z : ◌≡◌ {A = ℕ} 2 0 = ap kind_number h in absurd (omega arith)

pub kind_text : (n : ℕ) → kind_by n ≡ Pcdata → n ≡ 1
kind_text zero h = let z : ◌≡◌ {A = ℕ} 0 1 = ap kind_number h in absurd (omega arith)
kind_text (suc zero) h = refl
kind_text (suc (suc n)) h = let z : ◌≡◌ {A = ℕ} 2 1 = ap kind_number h in absurd (omega arith)

pub kind_model : (n : ℕ) → kind_by n ≡ Complex → 2 ≤ n
kind_model zero h = let z : ◌≡◌ {A = ℕ} 0 2 = ap kind_number h in absurd (omega arith)
kind_model (suc zero) h = let z : ◌≡◌ {A = ℕ} 1 2 = ap kind_number h in absurd (omega arith)
kind_model (suc (suc n)) h = omega arith

-- a code read, compared with PCDATA
pub pcdata_test : (n : ℕ) {k : Kind} {b : Bool} → k ≡ kind_by n → b ≡ sameb the_type k Pcdata → b ≡ eqb n 1
pcdata_test n {k} e q = q ∙ ap (λ (z : Kind). sameb the_type z Pcdata) e ∙ by n
  where
    by : (n : ℕ) → sameb the_type (kind_by n) Pcdata ≡ eqb n 1
    by zero = refl
    by (suc zero) = refl
    by (suc (suc n)) = sym (ne_eqb (suc (suc n)) 1 (λ e. omega (arith, e)))
