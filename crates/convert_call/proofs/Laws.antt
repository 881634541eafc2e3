-- The form and the plan of change 6, and where its edit fits.
use Prim.Native.Nat.{ℕ}
use mathlib.Core.Path.{◌≡◌, refl, sym}
use mathlib.Core.Bool.{true, false, not, ◌||◌, false≢true}
use mathlib.Core.Option.{Option, none, some}
use mathlib.Core.List.{List}
use Rattle.rules.specs.Bytes.{Bytes}
use Rattle.rules.specs.Place.{Found as Spot}
use Rattle.rules.specs.Edit.{convert, has_members}
use Rattle.rules.specs.Store.{Form}
use Rattle.rules.specs.Decode.{group_of}
use Rattle.rules.specs.Lines.{Line}
use Rattle.rules.specs.Passing.{passes}
use Rattle.rules.specs.Change.{convert_to_group, edit_model, keeping, plan, form_after}
use Rattle.rules.specs.Refusal.{past_end, found_at, no_place, at_place, first, conditions}
use Rattle.change_laws.proofs.EditConditions.{has_some}
use Rattle.store_laws.specs.Stores.{store_in}
use Rattle.model_places.proofs.PlaceLaws.{found_convert}
use Rattle.model_edit.proofs.Fits.{Fits, fits_at_lem}
use borrow.Author.Tests.{not-false}
use Rattle.change_laws.proofs.Conditions.{none_holds}

pub convert_form : (o : ℕ) (p : List ℕ) (n k : ℕ) (form : Form) → form_after (convert_to_group o p n k) form ≡ edit_model o p (convert (group_of k) n) form
unfolding form_after
convert_form o p n k form = refl

pub convert_plan : (o : ℕ) (p : List ℕ) (n k version : ℕ) (form : Form) (ls : List Line) → plan (convert_to_group o p n k) version form ls ≡ keeping
unfolding plan
convert_plan o p n k version form ls = refl

-- where no condition holds
module _ (bs : Bytes) (q : passes bs ≡ true) (o : ℕ) (p : List ℕ) where
  pub convert_fits : (n k : ℕ) → first (conditions (convert_to_group o p n k) (store_in bs)) ≡ 0 → Fits bs o p (convert (group_of k) n)
  unfolding conditions
  convert_fits n k e =
      let (code, (index, (place, more))) = none_holds (convert_to_group o p n k) (store_in bs) e in by (found_at (convert (group_of k) n) o p (store_in bs)) refl index place
    where
      by : (f : Option (Spot Bytes)) → found_at (convert (group_of k) n) o p (store_in bs) ≡ f → past_end o (store_in bs).form ≡ false
          → (no_place f || at_place (λ c x. not (has_members n x)) f) ≡ false → Fits bs o p (convert (group_of k) n)
      by none at i h = absurd (false≢true (sym h))
      by (some f) at i h = fits_at_lem bs q o p (convert (group_of k) n) f (found_convert (group_of k) n o p bs) i at (has_some n f.picked h) (not-false (has_members n f.picked) h)
