-- What an edit answers, by the form that it is given.
use Prim.Native.Nat.{ℕ}
use mathlib.Core.Path.{◌≡◌, refl, ap, ◌∙◌, sym}
use mathlib.Core.Bool.{Bool, true, false, ◌&&◌, false≢true}
use lib.Dec.{leb}
use lib.ListN.{length}
use Rattle.rules.specs.Bytes.{Bytes, all}
use Rattle.rules.specs.Preorder.{Deep}
use Rattle.rules.specs.Layout.{FlatParticle, FlatStore}
use Rattle.rules.specs.WellFormed.{within_ceilings}
use Rattle.rules.specs.Outcome.{Answers}
use Rattle.row_walk.specs.declared.Plan.{Plan}
use Rattle.store_writer.specs.Writing.{limited}
use Rattle.planned_rows.specs.Planned.{planned, planned_in}
use Rattle.store_laws.specs.Forms.{form_read, bare_form}
use Rattle.store_laws.proofs.FormLaws.{FormOf, read_form_lem}
use Rattle.planned_rows.proofs.PlannedLaws.{planned_same}
use Rattle.store_writer.proofs.LimitLaws.{answers_refused, limited_ceiling}
use Rattle.store_writer.proofs.CallLaws.{answers_equal}

module _ {w : ℕ} {g : FlatStore} {form : Bytes} {d p a : ℕ} (x : FormOf w g form d p a) where
  -- the store after a plan, by the form itself
  pub planned_of : (plan : Plan) (v : Bytes) (f : FlatStore) → planned_in (form_read w form d p a) plan v f ≡ planned_in g plan v f
  unfolding planned_in
  planned_of plan v f = ap (λ (z : FlatStore). planned_in z plan v f) (read_form_lem x)

  pub form_answers : (plan : Plan) (v : Bytes) (f : FlatStore) (room : ℕ) {out : Bytes} {number len : ℕ} {left : Bytes}
      → Answers (limited room (planned_in (form_read w form d p a) plan v f)) out number len left
      → Answers (limited room (planned_in g plan v f)) out number len left
  form_answers plan v f room r = answers_equal (ap (limited room) (sym (planned_of plan v f))) r

-- ---- a form past the ceilings
without_rows : (a b c d e : Bool) → (a && (b && (c && (d && true)))) ≡ false → (a && (b && (c && (d && e)))) ≡ false
without_rows false b c d e h = refl
without_rows true false c d e h = refl
without_rows true true false d e h = refl
without_rows true true true false e h = refl
without_rows true true true true e h = absurd (false≢true (sym h))

pub form_ceiling : (g : FlatStore) → within_ceilings (bare_form g) ≡ false → (plan : Plan) (v : Bytes) (f : FlatStore) (room : ℕ) {out : Bytes}
    → Answers (limited room (planned_in g plan v f)) out 16 0 out
unfolding planned_in
form_ceiling g h plan v f room =
    answers_refused 16
    (limited_ceiling room (planned_in g plan v f)
    (without_rows (leb (length g.definitions) 64) (leb (length g.particles) 256) (all (λ (p : Deep FlatParticle). leb p.depth 4) g.particles) (leb (length g.attributes) 64) _ h))

-- ---- an edit that leaves the form as it is
pub own_answers : {w : ℕ} {f : FlatStore} {form : Bytes} {d p a : ℕ} → FormOf w f form d p a
    → (plan : Plan) (v : Bytes) (room : ℕ) {out : Bytes} {number len : ℕ} {left : Bytes}
    → Answers (limited room (planned_in (form_read w form d p a) plan v f)) out number len left
    → Answers (limited room (planned plan v f)) out number len left
own_answers {f} x plan v room r = answers_equal (ap (limited room) (sym (planned_of x plan v f ∙ planned_same plan v f))) r
