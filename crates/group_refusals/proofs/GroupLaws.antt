-- The conditions of changes 6 and 7, by what the code finds.
use Prim.Native.Nat.{ℕ}
use native.Mathlib.Omega.{arith}
use borrow.Author.Tests.{ne_eqb}
use mathlib.Core.Path.{◌≡◌, refl, sym, ap, ap₂, ◌∙◌}
use mathlib.Core.Bool.{Bool, true, false, ◌||◌, not}
use mathlib.Core.Option.{none, some}
use mathlib.Core.List.{List, [], ◌∷◌}
use lib.Dec.{eqb, ltb}
use lib.ListN.{length}
use Rattle.rules.specs.declared.Quantifier.{Quantifier}
use Rattle.rules.specs.declared.GroupKind.{GroupKind}
use Rattle.rules.specs.declared.GroupKind.TheVariants.{Sequence}
use Rattle.rules.specs.Bytes.{Bytes}
use Rattle.rules.specs.Model.{Members, done, el, group}
use Rattle.rules.specs.Layout.{how_many}
use Rattle.rules.specs.Place.{Context, kind_at}
use Rattle.rules.specs.Edit.{lone, same_kind, is_one, flatten}
use Rattle.rules.specs.Change.{flatten_group}
use Rattle.rules.specs.Refusal.{◌if◌, first, conditions, found_at, no_group_at, at_place, on_group, flatten_unlike}
use Rattle.model.specs.declared.place.Holder.{Holder}
use Rattle.store_laws.specs.Stores.{store_in}
use Rattle.store_check.proofs.StoreFacts.{form_in}
use Rattle.change_laws.specs.FirstCondition.{Gives}
use Rattle.change_laws.proofs.FirstCondition.{gives_hit, gives_next}
use Rattle.model_places.specs.Placing.{model_in, found_by, ElementAt, GroupAt}
use Rattle.group_refusals.specs.Grouping.{unlike_kind}
use Rattle.std.specs.Prelude.{Option as Maybe, Some}
use Rattle.model.specs.declared.What.{What}
use Rattle.model.specs.declared.What.TheVariants.{Element, Group}
use Rattle.model_places.specs.declared.Picked.{Picked}
use Rattle.model_places.specs.Placing.{Picking}
use Rattle.model_places.proofs.PickLaws.{as_element}
use Rattle.model_places.proofs.PlaceLaws.{found_flatten}
use Rattle.model_places.proofs.CountLaws.{done_many}

-- ---- how many members
pub lone_many : {A : Type 0} (ms : Members A) → lone ms ≡ eqb (how_many ms) 1
lone_many done = sym (ne_eqb 0 1 (λ z. omega arith))
lone_many (el q x rest) = done_many rest
lone_many (group q k ms rest) = done_many rest

-- the kind of the list around
unlike_is : {list : GroupKind} (c : Context Bytes) (k : GroupKind) (n : ℕ) {b : Bool} → list ≡ kind_at Sequence c → b ≡ eqb n 1 → not (same_kind k (kind_at Sequence c) || b) ≡ unlike_kind list k n
unlike_is c k n e f = ap₂ (λ (z : GroupKind) (b : Bool). not (same_kind k z || b)) (sym e) f

-- ---- 7
module _ (bs : Bytes) (o : ℕ) (p : List ℕ) where
  pub flatten_6 : not (ltb o (length (form_in bs))) ≡ true → Gives 6 (conditions (flatten_group o p) (store_in bs))
  unfolding conditions
  flatten_6 h = gives_hit h

  module _ (h : not (ltb o (length (form_in bs))) ≡ false) where
    pub flatten_none : found_by false p (model_in bs o) ≡ none → Gives 8 (conditions (flatten_group o p) (store_in bs))
    unfolding conditions
    flatten_none e = gives_next h (gives_hit (ap no_group_at (found_flatten o p bs ∙ e)))

    pub flatten_element : {l : Holder} {n : ℕ} {q : Quantifier} → ElementAt bs o p l n q → Gives 8 (conditions (flatten_group o p) (store_in bs))
    unfolding conditions
    flatten_element x = gives_next h (gives_hit (ap no_group_at (found_flatten o p bs ∙ x.placed.there) ∙ ap (on_group true (λ q. false)) x.is))

    pub flatten_other : {r : Maybe Picked} (x : Picking bs o p r) {y : Picked} → r ≡ Some y → ((k : GroupKind) (n : ℕ) → y.member.what ≡ Group k n → ⊥) → Gives 8 (conditions (flatten_group o p) (store_in bs))
    flatten_other x {y} e other = by y.member.what refl
      where
        by : (w : What) → y.member.what ≡ w → Gives 8 (conditions (flatten_group o p) (store_in bs))
        by (Element i) w = flatten_element (as_element x e w)
        by (Group k n) w = absurd (other k n w)

    pub flatten_group_lem : {l : Holder} {n : ℕ} {q : Quantifier} {k : GroupKind} {m : ℕ} → GroupAt bs o p l n q k m → {r : ℕ}
        → Gives r (14 if (not (is_one q) || unlike_kind l.kind k m) ∷ []) → Gives r (conditions (flatten_group o p) (store_in bs))
    unfolding conditions
    flatten_group_lem {l} {n} {q} {k} {m} x {r} f =
        let e : found_at flatten o p (store_in bs) ≡ some x.placed.found = found_flatten o p bs ∙ x.placed.there in
        let u : at_place flatten_unlike (found_at flatten o p (store_in bs)) ≡ (not (is_one q) || unlike_kind l.kind k m) =
        ap (at_place flatten_unlike) e
        ∙ ap (flatten_unlike x.placed.found.context) x.is
        ∙ ap (λ (b : Bool). not (is_one q) || b) (unlike_is x.placed.found.context k m x.placed.kind (lone_many x.inner ∙ ap (λ (z : ℕ). eqb z 1) (sym x.many))) in
        gives_next h (gives_next (ap no_group_at e ∙ ap (on_group true (λ q. false)) x.is) (record { is = f.is ∙ ap (λ (b : Bool). first (14 if b ∷ [])) (sym u) }))
