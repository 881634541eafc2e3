-- What is too much, by the numbers of a store: each refusal, and none.
use Prim.Native.Nat.{ℕ, ◌+◌, ◌*◌, ◌<◌, ◌≤◌}
use native.Mathlib.Omega.{arith}
use mathlib.Core.Path.{◌≡◌, refl, ◌∙◌, sym}
use mathlib.Core.Bool.{Bool, true, false}
use mathlib.Core.List.{[], ◌∷◌}
use lib.Dec.{ltb}
use borrow.Author.Tests.{lt-ltb, le-ltb, ltb-false}
use Rattle.rules.specs.Layout.{header_size, row_size}
use Rattle.rules.specs.WellFormed.{highest_number}
use Rattle.rules.specs.Refusal.{◌if◌, first}
use Rattle.store_limits.specs.Limits.{limit_of}

pub record Within (w form count next room : ℕ) : Type 0 where
  pub rows : count ≤ 4096
  pub serials : next ≤ highest_number
  pub bytes : header_size + form + row_size w * count ≤ room

module _ (w form count next room : ℕ) where
  abbrev of_limits : Bool → Bool → Bool → ℕ
  of_limits a b c = first (16 if a ∷ 17 if b ∷ 18 if c ∷ [])

  pub as_limits : {a b c : Bool} → ltb 4096 count ≡ a → ltb highest_number next ≡ b → ltb room (header_size + form + row_size w * count) ≡ c
      → limit_of w form count next room ≡ first (16 if a ∷ 17 if b ∷ 18 if c ∷ [])
  unfolding limit_of
  as_limits x y z = λ i. of_limits (x i) (y i) (z i)

  pub limit_ceiling : 4096 < count → 16 ≡ limit_of w form count next room
  limit_ceiling h = sym (as_limits (lt-ltb 4096 count h) refl refl)

  pub limit_serials : count ≤ 4096 → highest_number < next → 17 ≡ limit_of w form count next room
  limit_serials h k = sym (as_limits (le-ltb 4096 count h) (lt-ltb highest_number next k) refl)

  pub limit_buffer : count ≤ 4096 → next ≤ highest_number → room < header_size + form + row_size w * count → 18 ≡ limit_of w form count next room
  limit_buffer h k l = sym (as_limits (le-ltb 4096 count h) (le-ltb highest_number next k) (lt-ltb room (header_size + form + row_size w * count) l))

  pub limit_none : Within w form count next room → 0 ≡ limit_of w form count next room
  limit_none x = sym (as_limits (le-ltb 4096 count x.rows) (le-ltb highest_number next x.serials) (le-ltb room (header_size + form + row_size w * count) x.bytes))

  pub limit_within : limit_of w form count next room ≡ 0 → Within w form count next room
  limit_within e = by (ltb 4096 count) refl (ltb highest_number next) refl (ltb room (header_size + form + row_size w * count)) refl
    where
      by : (a : Bool) → ltb 4096 count ≡ a → (b : Bool) → ltb highest_number next ≡ b → (c : Bool) → ltb room (header_size + form + row_size w * count) ≡ c → Within w form count next room
      by true x b y c z = let n : ◌≡◌ {A = ℕ} 16 0 = sym (as_limits x y z) ∙ e in absurd (omega (arith, n))
      by false x true y c z = let n : ◌≡◌ {A = ℕ} 17 0 = sym (as_limits x y z) ∙ e in absurd (omega (arith, n))
      by false x false y true z = let n : ◌≡◌ {A = ℕ} 18 0 = sym (as_limits x y z) ∙ e in absurd (omega (arith, n))
      by false x false y false z = record { rows = ltb-false 4096 count x; serials = ltb-false highest_number next y; bytes = ltb-false room (header_size + form + row_size w * count) z }
