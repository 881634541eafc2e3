-- What an edit answers.
use Prim.Native.Nat.{ℕ, zero, suc, ◌+◌}
use native.Mathlib.Omega.{arith}
use mathlib.Core.Path.{◌≡◌, refl, ap, ◌∙◌, sym}
use mathlib.Core.List.{List}
use lib.Dec.{ltb}
use lib.ListN.{length}
use Rattle.rules.specs.Bytes.{Bytes}
use Rattle.rules.specs.Preorder.{Deep}
use Rattle.rules.specs.Layout.{value_width, FlatRow, FlatStore, flat_bytes}
use Rattle.rules.specs.Decode.{number_at}
use Rattle.rules.specs.WellFormed.{highest_number}
use Rattle.rules.specs.Outcome.{unless_refused, Answers}
use Rattle.codec.specs.Laid.{Laid}
use Rattle.codec.proofs.Writers.{laid_as}
use Rattle.lookup.specs.Bodies.{bodies_of}
use Rattle.layout.specs.Bodies.{width_of}
use Rattle.row_writer.specs.Written.{new_in}
use Rattle.row_walk.specs.declared.Plan.{Plan}
use Rattle.store_writer.specs.Writing.{limited}
use Rattle.planned_rows.specs.Planned.{rows_after, planned_in}
use Rattle.store_laws.specs.Forms.{form_read, Forms}
use Rattle.store_limits.specs.Limits.{limit_of}
use Rattle.store_laws.proofs.StoreLaws.{Holds}
use Rattle.store_writer.proofs.LimitLaws.{answers_refused, answers_wrote, limited_as}
use Rattle.store_limits.proofs.WithinLaws.{Within, as_limits, limit_within}
use Rattle.plan_writer.proofs.EditedLaws.{width_after, size, past, next_is}
use Rattle.layout.specs.Fields.{next_at}

module _ {bs : Bytes} (h : Holds bs) {form : Bytes} {d p a : ℕ} (x : Forms (width_of bs) form d p a) (plan : Plan) (v : Bytes) where
  abbrev xs : List (Deep FlatRow)
  xs = rows_after plan v (bodies_of bs)

  abbrev after : FlatStore
  after = planned_in (form_read (width_of bs) form d p a) plan v (bodies_of bs)

  module _ (out : Bytes) {number : ℕ} (e : number ≡ limit_of (width_of bs) (length form) (length xs) (number_at next_at 4 bs + new_in xs) (length out)) where
    limited_is : limited (length out) after ≡ unless_refused number (flat_bytes (value_width after.version) after)
    limited_is =
        limited_as (length out) after (past h x plan v) (ap (ltb highest_number) (next_is h x plan v)) (ap (ltb (length out)) (size h x plan v))
        (e ∙ as_limits (width_of bs) (length form) (length xs) (number_at next_at 4 bs + new_in xs) (length out) refl refl refl)

    pub edit_refused : (number ≡ 0 → ⊥) → Answers (limited (length out) after) out number 0 out
    edit_refused n = by number limited_is n
      where
        by : (k : ℕ) → limited (length out) after ≡ unless_refused k (flat_bytes (value_width after.version) after) → (k ≡ 0 → ⊥) → Answers (limited (length out) after) out k 0 out
        by zero q h = absurd (h refl)
        by (suc k) q h = answers_refused (suc k) q

    module _ (none : number ≡ 0) where
      pub within : Within (width_of bs) (length form) (length xs) (number_at next_at 4 bs + new_in xs) (length out)
      within = limit_within (width_of bs) (length form) (length xs) (number_at next_at 4 bs + new_in xs) (length out) (sym e ∙ none)

      pub edit_written : {k : ℕ} {out' : Bytes} → Laid (flat_bytes (width_of bs) after) out 0 k out' → Answers (limited (length out) after) out 0 k out'
      edit_written laid =
          answers_wrote (limited_is ∙ ap (λ (n : ℕ). unless_refused n (flat_bytes (value_width after.version) after)) none)
          (laid_as (ap (λ (w : ℕ). flat_bytes w after) (width_after h x plan v)) laid) (omega (arith, (size h x plan v), within.bytes))
