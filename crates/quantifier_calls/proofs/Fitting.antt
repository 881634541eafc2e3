-- Where no condition of change 5 or 8 holds, its edit fits at an element or at a group.
use Prim.Native.Nat.{ℕ, ◌≤◌}
use mathlib.Core.Path.{◌≡◌, refl, sym, ap, ◌∙◌}
use mathlib.Core.Bool.{Bool, true, false, false≢true}
use mathlib.Core.Option.{Option, none, some}
use mathlib.Core.List.{List}
use lib.Dec.{ltb}
use borrow.Author.Tests.{ltb-false}
use Rattle.rules.specs.declared.Quantifier.{Quantifier}
use Rattle.rules.specs.declared.GroupKind.{GroupKind}
use Rattle.rules.specs.Bytes.{Bytes}
use Rattle.rules.specs.Model.{Members, done, el, group, is_done}
use Rattle.rules.specs.Place.{Found as Spot}
use Rattle.rules.specs.Edit.{Edit, quantify, place_of as placed}
use Rattle.rules.specs.Decode.{quantifier_of}
use Rattle.rules.specs.WellFormed.{is_value}
use Rattle.rules.specs.Passing.{passes}
use Rattle.rules.specs.Change.{change_quantifier, change_group_quantifier}
use Rattle.rules.specs.Refusal.{bad_text, past_end, found_at, no_element_at, no_group_at, on_element, on_group, first, conditions}
use Rattle.layout.specs.Bodies.{width_of}
use Rattle.change_laws.proofs.EditConditions.{element_some, group_some}
use Rattle.change_laws.proofs.Conditions.{none_holds}
use Rattle.model_writer.specs.PartAfter.{suits}
use Rattle.store_laws.specs.Stores.{store_in}
use Rattle.store_check.proofs.StoreFacts.{value_given}
use Rattle.model_places.specs.Placing.{model_in}
use Rattle.model_places.proofs.PlaceLaws.{found_quantify}
use Rattle.model_edit.proofs.Fits.{Fits, Element, fits_at_lem}
use Rattle.quantifier_refusals.specs.Requantifying.{requantify}

-- the edit e of definition o fits at the place p, where a group stands
pub record Group (bs : Bytes) (o : ℕ) (p : List ℕ) (e : Edit Bytes) : Type 0 where
  pub fits : Fits bs o p e
  pub quantifier : Quantifier
  pub kind : GroupKind
  pub inner : Members Bytes
  pub rest : Members Bytes
  pub is : fits.found.picked ≡ group quantifier kind inner rest

pub group_picked : {bs : Bytes} {o : ℕ} {p : List ℕ} {e : Edit Bytes} (x : Group bs o p e)
    → placed e p (model_in bs o) ≡ some (record { context = x.fits.found.context; picked = group x.quantifier x.kind x.inner x.rest })
group_picked x = x.fits.at ∙ ap (λ (t : Members Bytes). some (record { context = x.fits.found.context; picked = t })) x.is

member_suits : (r : Quantifier) (t : Members Bytes) → is_done t ≡ false → suits {A = Bytes} (quantify r) t ≡ true
member_suits r done h = absurd (false≢true (sym h))
member_suits r (el q x rest) h = refl
member_suits r (group q k ms rest) h = refl

-- change 5 asks for an element at the place, change 8 for a group
abbrev misses : Bool → Option (Spot Bytes) → Bool
misses false f = no_element_at f
misses true f = no_group_at f

misses_none : (g : Bool) → misses g none ≡ true
misses_none false = refl
misses_none true = refl

some_picked : (g : Bool) (f : Spot Bytes) → misses g (some f) ≡ false → is_done f.picked ≡ false
some_picked false f h = element_some f.picked h
some_picked true f h = group_some f.picked h

-- what the conditions leave: the text is a value, the number is that of a quantifier, and the edit fits at the place
pub record Given (g : Bool) (bs : Bytes) (o : ℕ) (p : List ℕ) (k : ℕ) (t : Bytes) : Type 0 where
  pub value : is_value (width_of bs) t ≡ true
  pub code : k ≤ 3
  pub fits : Fits bs o p (quantify (quantifier_of k))
  pub holds : misses g (some fits.found) ≡ false

pub given_some : {g : Bool} {bs : Bytes} {o : ℕ} {p : List ℕ} {k : ℕ} {t : Bytes} (x : Given g bs o p k t) → is_done x.fits.found.picked ≡ false
given_some {g} x = some_picked g x.fits.found x.holds

module _ (bs : Bytes) (q : passes bs ≡ true) (o : ℕ) (p : List ℕ) (k : ℕ) (t : Bytes) where
  given_at : (g : Bool) (f : Option (Spot Bytes)) → found_at (quantify (quantifier_of k)) o p (store_in bs) ≡ f
      → bad_text (store_in bs) t ≡ false → ltb 3 k ≡ false → past_end o (store_in bs).form ≡ false → misses g f ≡ false → Given g bs o p k t
  given_at g none at text code l h = absurd (false≢true (sym h ∙ misses_none g))
  given_at g (some f) at text code l h =
      let there : is_done f.picked ≡ false = some_picked g f h in
      record {
        value = value_given bs t text;
        code = ltb-false 3 k code;
        fits = fits_at_lem bs q o p (quantify (quantifier_of k)) f (found_quantify (quantifier_of k) o p bs) l at there (member_suits (quantifier_of k) f.picked there);
        holds = h;
      }

  pub given : (g : Bool) → first (conditions (requantify g o p k t) (store_in bs)) ≡ 0 → Given g bs o p k t
  unfolding conditions
  given false e = let (text, (code, (index, (place, more)))) = none_holds (change_quantifier o p k t) (store_in bs) e in given_at false _ refl text code index place
  given true e = let (text, (code, (index, (place, more)))) = none_holds (change_group_quantifier o p k t) (store_in bs) e in given_at true _ refl text code index place

module _ {bs : Bytes} {o : ℕ} {p : List ℕ} {k : ℕ} {t : Bytes} where
  pub element_given : Given false bs o p k t → Element bs o p (quantify (quantifier_of k))
  element_given x = by x.fits.found.picked refl
    where
      by : (m : Members Bytes) → x.fits.found.picked ≡ m → Element bs o p (quantify (quantifier_of k))
      by done e = absurd (false≢true (sym x.holds ∙ ap (on_element true (λ z. false)) e))
      by (el j n rest) e = record { fits = x.fits; quantifier = j; name = n; rest = rest; is = e }
      by (group j g ms rest) e = absurd (false≢true (sym x.holds ∙ ap (on_element true (λ z. false)) e))

  pub group_given : Given true bs o p k t → Group bs o p (quantify (quantifier_of k))
  group_given x = by x.fits.found.picked refl
    where
      by : (m : Members Bytes) → x.fits.found.picked ≡ m → Group bs o p (quantify (quantifier_of k))
      by done e = absurd (false≢true (sym x.holds ∙ ap (on_group true (λ z. false)) e))
      by (el j n rest) e = absurd (false≢true (sym x.holds ∙ ap (on_group true (λ z. false)) e))
      by (group j g ms rest) e = record { fits = x.fits; quantifier = j; kind = g; inner = ms; rest = rest; is = e }
