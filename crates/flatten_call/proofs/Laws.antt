-- The form and the plan of change 7, and where its edit fits.
use Prim.Native.Nat.{ℕ}
use mathlib.Core.Path.{◌≡◌, refl, sym}
use mathlib.Core.Bool.{true, false, false≢true}
use mathlib.Core.Option.{Option, none, some}
use mathlib.Core.List.{List}
use Rattle.rules.specs.Bytes.{Bytes}
use Rattle.rules.specs.Model.{Members, done, el, group}
use Rattle.rules.specs.Place.{Found as Spot}
use Rattle.rules.specs.Edit.{flatten as ungroup}
use Rattle.rules.specs.Store.{Form}
use Rattle.rules.specs.Lines.{Line}
use Rattle.rules.specs.Passing.{passes}
use Rattle.rules.specs.Change.{flatten_group, edit_model, keeping, plan, form_after}
use Rattle.rules.specs.Refusal.{past_end, found_at, no_group_at, on_group, first, conditions}
use Rattle.change_laws.proofs.EditConditions.{group_some}
use Rattle.change_laws.proofs.Conditions.{none_holds}
use Rattle.model_writer.specs.PartAfter.{suits}
use Rattle.store_laws.specs.Stores.{store_in}
use Rattle.model_places.proofs.PlaceLaws.{found_flatten}
use Rattle.model_edit.proofs.Fits.{Fits, fits_at_lem}

pub flatten_form : (o : ℕ) (p : List ℕ) (form : Form) → form_after (flatten_group o p) form ≡ edit_model o p ungroup form
unfolding form_after
flatten_form o p form = refl

pub flatten_plan : (o : ℕ) (p : List ℕ) (version : ℕ) (form : Form) (ls : List Line) → plan (flatten_group o p) version form ls ≡ keeping
unfolding plan
flatten_plan o p version form ls = refl

-- ---- where no condition holds
suits_group : (t : Members Bytes) → on_group true (λ q. false) t ≡ false → suits {A = Bytes} ungroup t ≡ true
suits_group done h = absurd (false≢true (sym h))
suits_group (el q x rest) h = absurd (false≢true (sym h))
suits_group (group q k ms rest) h = refl

module _ (bs : Bytes) (q : passes bs ≡ true) (o : ℕ) (p : List ℕ) where
  pub flatten_fits : first (conditions (flatten_group o p) (store_in bs)) ≡ 0 → Fits bs o p ungroup
  unfolding conditions
  flatten_fits e = let (index, (place, more)) = none_holds (flatten_group o p) (store_in bs) e in by (found_at ungroup o p (store_in bs)) refl index place
    where
      by : (f : Option (Spot Bytes)) → found_at ungroup o p (store_in bs) ≡ f → past_end o (store_in bs).form ≡ false → no_group_at f ≡ false → Fits bs o p ungroup
      by none at i h = absurd (false≢true (sym h))
      by (some f) at i h = fits_at_lem bs q o p ungroup f (found_flatten o p bs) i at (group_some f.picked h) (suits_group f.picked h)
