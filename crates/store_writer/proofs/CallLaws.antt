-- What a call answers: refused on a bad store, refused by a condition, or as the store that is left is written.
use Prim.Native.Nat.{ℕ, zero, suc}
use mathlib.Core.Path.{◌≡◌, refl, sym, ◌∙◌, subst}
use mathlib.Core.Bool.{Bool, true, false, not, false≢true}
use borrow.Author.Tests.{not-false}
use Rattle.std.specs.Prelude.{Err}
use Rattle.rules.specs.Bytes.{Bytes}
use Rattle.rules.specs.Layout.{FlatStore, flat}
use Rattle.rules.specs.Passing.{passes}
use Rattle.rules.specs.Change.{Call, after}
use Rattle.rules.specs.Refusal.{first, conditions}
use Rattle.rules.specs.Outcome.{Outcome, outcome, Answers}
use Rattle.rules.specs.declared.Refusal.{Refusal}
use Rattle.rules.specs.declared.Refusal.TheVariants.{BadStore}
use Rattle.rules.specs.Given.{refusal_number, AnswersBy}
use Rattle.store_laws.specs.Stores.{store_in}
use Rattle.rules.proofs.GivenLaws.{refusal_some}
use Rattle.store_writer.specs.Writing.{limited}
use Rattle.store_laws.proofs.StoreLaws.{holds}
use Rattle.store_writer.proofs.OutcomeLaws.{outcome_bad, outcome_refused, outcome_limited}
use Rattle.store_writer.proofs.LimitLaws.{answers_refused}

-- an answer to one outcome is one to an equal outcome
pub answers_equal : {o o' : Outcome} {out : Bytes} {number len : ℕ} {left : Bytes} → o ≡ o' → Answers o' out number len left → Answers o out number len left
answers_equal {out = out} {number = n} {len = l} {left = left} e a = subst (λ (x : Outcome). Answers x out n l left) (sym e) a

module _ (c : Call) (bs : Bytes) (room : ℕ) {out : Bytes} where
  answers_bad : passes bs ≡ false → Answers (outcome c bs room) out 1 0 out
  answers_bad h = answers_refused 1 (outcome_bad c bs room h)

  answers_condition : passes bs ≡ true → (n : ℕ) → n ≡ first (conditions c (store_in bs)) → (n ≡ 0 → ⊥) → Answers (outcome c bs room) out n 0 out
  answers_condition h zero e f = absurd (f refl)
  answers_condition h (suc n) e f = answers_refused (suc n) (outcome_refused c bs room (holds bs h) n (sym e))

  -- f: the bodies of the store that is left
  pub answers_written : passes bs ≡ true → (n : ℕ) → n ≡ first (conditions c (store_in bs)) → n ≡ 0 → (f : FlatStore) → flat (after c (store_in bs)) ≡ f
      → {number len : ℕ} {left : Bytes} → Answers (limited room f) out number len left → Answers (outcome c bs room) out number len left
  answers_written h n e z f g a = answers_equal (outcome_limited c bs room (holds bs h) (sym e ∙ z) f g) a

-- ---- in the words of the code: b is what the check gave, m the number of the first condition
pub passed : {b : Bool} (bs : Bytes) → not b ≡ false → b ≡ passes bs → passes bs ≡ true
passed {b = b} bs h e = sym e ∙ not-false b h

failed : {b : Bool} (bs : Bytes) → not b ≡ true → b ≡ passes bs → passes bs ≡ false
failed {b = true} bs h e = absurd (false≢true h)
failed {b = false} bs h e = sym e

module _ (c : Call) (bs : Bytes) (room : ℕ) (out : Bytes) where
  pub bad : {b : Bool} {n l : ℕ} → not b ≡ true → b ≡ passes bs → (n ≡ 1) × (l ≡ 0) → Answers (outcome c bs room) out n l out
  bad h e (n_is, l-is) =
      let a : Answers (outcome c bs room) out 1 0 out = answers_bad c bs room (failed bs h e) in
      record { number_is = n_is ∙ a.number_is; length_is = l-is ∙ a.length_is; buffer_is = a.buffer_is }

  pub turned_away : {b : Bool} {m n l : ℕ} → not b ≡ false → b ≡ passes bs → m ≡ first (conditions c (store_in bs)) → (m ≡ 0 → ⊥) → (n ≡ m) × (l ≡ 0)
      → Answers (outcome c bs room) out n l out
  turned_away {m = m} h e f z (n_is, l-is) =
      let a : Answers (outcome c bs room) out m 0 out = answers_condition c bs room (passed bs h e) m f z in
      record { number_is = n_is ∙ a.number_is; length_is = l-is ∙ a.length_is; buffer_is = a.buffer_is }

  -- .. as results: r is the first condition
  pub bad_by : {b : Bool} → not b ≡ true → b ≡ passes bs → AnswersBy (outcome c bs room) out (Err BadStore) out
  bad_by h e = bad h e (refl, refl)

  pub turned_away_by : {b : Bool} → not b ≡ false → b ≡ passes bs → (r : Refusal) → refusal_number r ≡ first (conditions c (store_in bs))
      → AnswersBy (outcome c bs room) out (Err r) out
  turned_away_by h e r f = turned_away h e f (refusal_some r) (refl, refl)
