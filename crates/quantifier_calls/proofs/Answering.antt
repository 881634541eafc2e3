-- What a change of a quantifier answers, of an element or a group.
use Prim.Native.Nat.{ℕ}
use native.Mathlib.Omega.{arith}
use mathlib.Core.Path.{◌≡◌, sym, ap}
use mathlib.Core.Bool.{Bool, true, false}
use mathlib.Core.List.{List}
use Rattle.rules.specs.declared.Quantifier.{Quantifier}
use Rattle.rules.specs.Bytes.{Bytes}
use Rattle.rules.specs.Edit.{Edit, quantify}
use Rattle.rules.specs.Layout.{flat}
use Rattle.rules.specs.Change.{Call, after}
use Rattle.rules.specs.Refusal.{first, conditions}
use Rattle.rules.specs.Outcome.{outcome, Answers}
use Rattle.model.specs.declared.place.Holder.{Holder}
use Rattle.lookup.specs.Bodies.{bodies_of}
use Rattle.filling.specs.declared.Filling.{Filling}
use Rattle.filling.specs.Parts.{Indexed}
use Rattle.row_walk.specs.declared.Plan.{Plan}
use Rattle.model_writer.specs.declared.Edit.TheVariants.{Quantify}
use Rattle.store_laws.specs.Stores.{store_in}
use Rattle.store_writer.specs.Writing.{limited}
use Rattle.planned_rows.specs.Planned.{planned_in}
use Rattle.planned_rows.specs.Walking.{Sized}
use Rattle.store_writer.proofs.CallLaws.{answers_equal}
use Rattle.plans.specs.ModelCalls.{gain_filling, requantify_plan}
use Rattle.model_places.specs.Placing.{Placed}
use Rattle.model_form.specs.Editing.{form_edited, Edits}
use Rattle.model_edit.proofs.Fits.{Fits, asks, edited_answers}

-- ---- numbers small enough for the walk
pub sized : (o : ℕ) (marks : Bytes) (cut : Bool) (i : ℕ) (gain : Bool) (what : Filling) → Indexed what → Sized (requantify_plan o marks cut i gain what)
sized o marks cut i gain what l = record { moves = record { definitions = record { more = omega arith }; attributes = record { more = omega arith } }; filling = by gain }
  where
    by : (b : Bool) → Indexed (gain_filling b what)
    by true = l
    by false = tt

-- ---- a new quantifier at the place found
module _ {bs : Bytes} {o : ℕ} {p : List ℕ} {to : Quantifier} (x : Fits bs o p (quantify to)) {h : Holder} {n : ℕ} (y : Placed bs o false p h n) {new : Quantifier} (r : new ≡ to) where
  pub same_edit : ◌≡◌ {A = Edit ℕ} (quantify new) (quantify to)
  same_edit = ap (λ (q : Quantifier). quantify q) r

  pub edits_there : Edits bs o (quantify new) h n
  edits_there = asks x (Quantify new) same_edit y

  -- the call c, where the plan q is that of the rules
  pub answered : (c : Call) (room : ℕ) (t : Bytes) {q : Plan} (plan : Plan) (m : ℕ) → q ≡ plan → m ≡ first (conditions c (store_in bs)) → m ≡ 0
      → flat (after c (store_in bs)) ≡ planned_in (form_edited bs o (quantify new) h n) plan t (flat (store_in bs))
      → {out : Bytes} {number len : ℕ} {left : Bytes} → Answers (limited room (planned_in (form_edited bs o (quantify new) h n) q t (bodies_of bs))) out number len left
      → Answers (outcome c bs room) out number len left
  answered c room t plan m w f e g a =
      edited_answers x (Quantify new) same_edit y c room plan t m f e g
      (answers_equal (ap (λ (y : Plan). limited room (planned_in (form_edited bs o (quantify new) h n) y t (bodies_of bs))) (sym w)) a)
