-- The rows 16 to 18, and what a call answers that has found which of them holds.
use Prim.Native.Nat.{ℕ, zero, suc, ◌<◌, ◌≤◌}
use native.Mathlib.Omega.{arith}
use mathlib.Core.Path.{◌≡◌, refl, ap, ◌∙◌}
use mathlib.Core.Bool.{true, false}
use lib.ListN.{length}
use Rattle.rules.specs.Bytes.{Bytes}
use Rattle.rules.specs.Layout.{value_width, FlatStore, flat, flat_bytes}
use Rattle.rules.specs.WellFormed.{within_ceilings, highest_number}
use Rattle.rules.specs.Passing.{passes}
use Rattle.rules.specs.Change.{Call, after}
use Rattle.rules.specs.Refusal.{first, conditions}
use Rattle.rules.specs.Outcome.{wrote, unless_refused, outcome, Answers}
use Rattle.codec.specs.Laid.{Laid}
use Rattle.store_laws.specs.Stores.{store_in}
use Rattle.store_writer.specs.Writing.{limited}
use Rattle.store_writer.proofs.LimitLaws.{answers_refused, answers_wrote, limited_ceiling, limited_buffer, limited_none}
use Rattle.store_writer.proofs.CallLaws.{answers_written}
use Rattle.call_laws.specs.Limits.{Limit}

-- w: the width that the store's version says
module _ {w : ℕ} (room : ℕ) (f : FlatStore) (wide : value_width f.version ≡ w) where
  pub limit_ceiling : within_ceilings f ≡ false → Limit w room f 16
  limit_ceiling e = record { outcome = limited_ceiling room f e; fits = λ z. absurd (omega arith) }

  module _ (e : within_ceilings f ≡ true) (h : f.next ≤ highest_number) where
    pub limit_room : room < length (flat_bytes w f) → Limit w room f 18
    limit_room k = record { outcome = limited_buffer room f e h (rw wide k); fits = λ z. absurd (omega arith) }

    pub limit_none : length (flat_bytes w f) ≤ room → Limit w room f 0
    limit_none k = record { outcome = limited_none room f e h (rw wide k) ∙ ap (λ (v : ℕ). wrote (flat_bytes v f)) wide; fits = λ z. k }

-- n: the first condition, 0; f: the bodies of the store that the call leaves; r: the first of the limits, or 0
module _ (c : Call) (bs out : Bytes) (p : passes bs ≡ true) (n : ℕ) (e : n ≡ first (conditions c (store_in bs))) (z : n ≡ 0) (f : FlatStore) (g : flat (after c (store_in bs)) ≡ f) (w r : ℕ)
    (l : Limit w (length out) f r) where
  pub answers_limit : (r ≡ 0 → ⊥) → Answers (outcome c bs (length out)) out r 0 out
  answers_limit h = answers_written c bs (length out) p n e z f g (by r l.outcome h)
    where
      by : (m : ℕ) → limited (length out) f ≡ unless_refused m (flat_bytes w f) → (m ≡ 0 → ⊥) → Answers (limited (length out) f) out m 0 out
      by zero q k = absurd (k refl)
      by (suc m) q k = answers_refused (suc m) q

  pub answers_all : r ≡ 0 → {m : ℕ} {out' : Bytes} → Laid (flat_bytes w f) out 0 m out' → Answers (outcome c bs (length out)) out 0 m out'
  answers_all h laid = answers_written c bs (length out) p n e z f g (answers_wrote (l.outcome ∙ ap (λ (m : ℕ). unless_refused m (flat_bytes w f)) h) laid (l.fits h))
