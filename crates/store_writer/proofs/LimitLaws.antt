-- Refusals 16 to 18 of a store by its bodies, and what is answered.
use Prim.Native.Nat.{ℕ, ◌<◌, ◌≤◌}
use native.Mathlib.Nat.{zero-add}
use native.Mathlib.Omega.{arith}
use mathlib.Core.Path.{◌≡◌, refl, ap, ◌∙◌, sym}
use mathlib.Core.Bool.{Bool, true, false, not}
use mathlib.Core.List.{[], ◌∷◌, ◌++◌}
use lib.Dec.{ltb}
use lib.ListN.{length, drop}
use lib.Seq.{sets-eq}
use borrow.Author.Tests.{lt-ltb, le-ltb}
use Rattle.rules.specs.Bytes.{Bytes}
use Rattle.rules.specs.Layout.{value_width, FlatStore, flat_bytes}
use Rattle.rules.specs.WellFormed.{within_ceilings, highest_number}
use Rattle.rules.specs.Refusal.{◌if◌, first}
use Rattle.rules.specs.Outcome.{Outcome, refused, wrote, unless_refused, Answers}
use Rattle.codec.specs.Laid.{Laid}
use Rattle.store_writer.specs.Writing.{limited}

-- ---- answers
pub answers_refused : {o : Outcome} (n : ℕ) {out : Bytes} → o ≡ refused n → Answers o out n 0 out
answers_refused n e = rw e (record { number_is = refl; length_is = refl; buffer_is = refl })

pub answers_wrote : {o : Outcome} {w out out' : Bytes} {r : ℕ} → o ≡ wrote w → Laid w out 0 r out' → length w ≤ length out → Answers o out 0 r out'
answers_wrote {o} {w} {out} e p h =
    rw e
    (record { number_is = refl; length_is = p.next ∙ zero-add (length w); buffer_is = p.stored ∙ sets-eq w out 0 (omega arith) ∙ ap (λ (k : ℕ). w ++ drop k out) (zero-add (length w)) })

-- ---- limits
module _ (room : ℕ) (f : FlatStore) where
  abbrev written : Bytes
  written = flat_bytes (value_width f.version) f

  -- by the three tests
  abbrev of_tests : Bool → Bool → Bool → Outcome
  of_tests a b c = unless_refused (elim (not a) [ true ↦ 16 | false ↦ elim b [ true ↦ 17 | false ↦ elim c [ true ↦ 18 | false ↦ 0 ] ] ]) written

  as_tests : {a b c : Bool} → within_ceilings f ≡ a → ltb highest_number f.next ≡ b → ltb room (length written) ≡ c → limited room f ≡ of_tests a b c
  unfolding limited
  as_tests x y z = λ i. of_tests (x i) (y i) (z i)

  pub limited_ceiling : within_ceilings f ≡ false → limited room f ≡ refused 16
  limited_ceiling x = as_tests x refl refl

  pub limited_buffer : within_ceilings f ≡ true → f.next ≤ highest_number → room < length written → limited room f ≡ refused 18
  limited_buffer x y z = as_tests x (le-ltb highest_number f.next y) (lt-ltb room (length written) z)

  pub limited_none : within_ceilings f ≡ true → f.next ≤ highest_number → length written ≤ room → limited room f ≡ wrote written
  limited_none x y z = as_tests x (le-ltb highest_number f.next y) (le-ltb room (length written) z)

  -- .. with a number that is the first of their refusals
  pub limited_as : {number : ℕ} {a b c : Bool} → not (within_ceilings f) ≡ a → ltb highest_number f.next ≡ b → ltb room (length written) ≡ c
      → number ≡ first (16 if a ∷ 17 if b ∷ 18 if c ∷ []) → limited room f ≡ unless_refused number written
  unfolding limited
  limited_as {number} x y z e = (λ i. unless_refused (first (16 if x i ∷ 17 if y i ∷ 18 if z i ∷ [])) written) ∙ ap (λ (n : ℕ). unless_refused n written) (sym e)
