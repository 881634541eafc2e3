-- What a call answers that edits a model at a place found.
use Prim.Native.Nat.{ℕ, ◌*◌, ◌<◌, ◌≤◌}
use native.Mathlib.Omega.{arith}
use mathlib.Core.Path.{◌≡◌, sym, ap, ◌∙◌, subst}
use mathlib.Core.Bool.{true, false}
use mathlib.Core.Option.{some}
use mathlib.Core.List.{List, ◌∷◌, ◌++◌}
use lib.ListN.{drop}
use Rattle.rules.specs.declared.Quantifier.{Quantifier}
use Rattle.rules.specs.Bytes.{Bytes}
use Rattle.rules.specs.Model.{Members, el, is_done, rename}
use Rattle.rules.specs.Place.{Found as Spot}
use Rattle.rules.specs.Edit.{Edit, place_of as placed}
use Rattle.rules.specs.Store.{complex}
use Rattle.rules.specs.Preorder.{Deep}
use Rattle.rules.specs.Layout.{particle_size, FlatParticle, FlatStore, flat}
use Rattle.rules.specs.Decode.{read_particle, definition_count}
use Rattle.rules.specs.Passing.{passes}
use Rattle.rules.specs.Change.{Call, definition_at, edit_model, form_after, after}
use Rattle.rules.specs.Refusal.{past_end, first, conditions}
use Rattle.rules.specs.Outcome.{outcome, Answers}
use Rattle.change_laws.proofs.Conditions.{not_past}
use Rattle.change_laws.proofs.EditConditions.{complex_content, picked_complex}
use Rattle.change_laws.proofs.ModelAfter.{place_right}
use Rattle.model.specs.declared.place.Holder.{Holder}
use Rattle.model.specs.Members.{particles_of}
use Rattle.model.specs.Positions.{element_particle, spread, trailing, level}
use Rattle.lookup.specs.Bodies.{bodies_of}
use Rattle.row_walk.specs.declared.Plan.{Plan}
use Rattle.model_writer.specs.PartAfter.{suits, rename_edit, inserts}
use Rattle.model_writer.specs.declared.Edit.{Edit as EditCode}
use Rattle.model_writer.specs.Writing.{edit_of}
use Rattle.model_writer.proofs.FormAfter.{reformed}
use Rattle.store_laws.specs.Stores.{store_in}
use Rattle.store_writer.specs.Writing.{limited}
use Rattle.planned_rows.specs.Planned.{planned_in}
use Rattle.store_laws.proofs.StoreLaws.{holds}
use Rattle.store_writer.proofs.CallLaws.{answers_equal, answers_written}
use Rattle.plans.specs.Bodies as plans
use Rattle.store_laws.proofs.Encoded.{encoded}
use Rattle.model_places.specs.Placing.{index_of_name, model_in, part_in, found_by, Placed}
use Rattle.model_places.proofs.PickLaws.{around, from_there, read_there}
use Rattle.model_form.specs.Editing.{form_edited, Edits}
use Rattle.model_form.proofs.OwnParts.{form_size}
use Rattle.model_form.proofs.Edits.{edits, edited_flat}

-- the edit e of definition o fits at the place p
pub record Fits (bs : Bytes) (o : ℕ) (p : List ℕ) (e : Edit Bytes) : Type 0 where
  pub good : passes bs ≡ true
  pub there : o < definition_count bs
  pub found : Spot Bytes
  pub content : (definition_at o (store_in bs).form).content ≡ complex (model_in bs o)
  pub at : placed e p (model_in bs o) ≡ some found
  pub by : found_by (inserts e) p (model_in bs o) ≡ some found
  pub suits : suits e found.picked ≡ true

pub owner_fits : {bs : Bytes} {o : ℕ} {p : List ℕ} {e : Edit Bytes} → Fits bs o p e → o ≤ 256
owner_fits {bs} x = omega (arith, x.there, (encoded bs x.good).definitions, (encoded bs x.good).few_definitions)

-- ---- the place found is the one that the edit fits at
pub same_found : {bs : Bytes} {o : ℕ} {p : List ℕ} {e : Edit Bytes} (x : Fits bs o p e) {h : Holder} {n : ℕ} (y : Placed bs o (inserts e) p h n) → y.found ≡ x.found
same_found x y = let same : some y.found ≡ some x.found = sym y.there ∙ x.by in cc same

module _ {bs : Bytes} {o : ℕ} {p : List ℕ} {e : Edit Bytes} (x : Fits bs o p e) (E : EditCode) (same : edit_of E ≡ rename_edit (index_of_name bs) e) {h : Holder} {n : ℕ}
    (y : Placed bs o (inserts e) p h n) where
  pub asks : Edits bs o (edit_of E) h n
  asks = subst (λ (d : Edit ℕ). Edits bs o d h n) (sym same) (edits bs x.good o x.there p e x.found x.content x.at x.suits h n y.at)

  form_is : flat (reformed (edit_model o p e (store_in bs).form) (store_in bs)) ≡ form_edited bs o (edit_of E) h n
  form_is =
      edited_flat bs x.good o x.there p e x.found x.content x.at x.suits h n y.at
      ∙ ap (λ (d : Edit ℕ). form_edited bs o d h n) (sym same)

  pub bodies_hold : (c : Call) → form_after c (store_in bs).form ≡ edit_model o p e (store_in bs).form
      → plans.HoldsForm (form_edited bs o (edit_of E) h n) (form_after c (store_in bs).form)
  bodies_hold c w =
      let g : flat (reformed (form_after c (store_in bs).form) (store_in bs)) ≡ form_edited bs o (edit_of E) h n =
      ap (λ z. flat (reformed z (store_in bs))) w ∙ form_is in
      record {
        definitions = sym (ap (λ (z : FlatStore). z.definitions) g);
        particles = sym (ap (λ (z : FlatStore). z.particles) g);
        attributes = sym (ap (λ (z : FlatStore). z.attributes) g);
      }

  -- the call c, with the plan q
  pub edited_answers : (c : Call) (room : ℕ) (q : Plan) (v : Bytes) → (m : ℕ) → m ≡ first (conditions c (store_in bs)) → m ≡ 0
      → flat (after c (store_in bs)) ≡ planned_in (form_edited bs o (edit_of E) h n) q v (flat (store_in bs))
      → {out : Bytes} {number len : ℕ} {left : Bytes} → Answers (limited room (planned_in (form_edited bs o (edit_of E) h n) q v (bodies_of bs))) out number len left
      → Answers (outcome c bs room) out number len left
  edited_answers c room q v m w z g a =
      answers_written c bs room x.good m w z (planned_in (form_edited bs o (edit_of E) h n) q v (flat (store_in bs))) g
      (answers_equal (ap (λ (y : FlatStore). limited room (planned_in (form_edited bs o (edit_of E) h n) q v y)) (sym (holds bs x.good).bodies)) a)

-- the particle at the place has a number in range
pub place_low : {bs : Bytes} {o : ℕ} {e : Edit ℕ} {h : Holder} {n : ℕ} → Edits bs o e h n → n ≤ 256
place_low {bs} v = omega (arith, v.inside, v.own, (encoded bs v.good).particles, (encoded bs v.good).few_particles)

-- ---- where no condition holds
module _ (bs : Bytes) (q : passes bs ≡ true) (o : ℕ) (p : List ℕ) where
  pub inside : past_end o (store_in bs).form ≡ false → o < definition_count bs
  inside e = omega (arith, not_past o (store_in bs).form e, form_size bs q)

  pub some_content : (e : Edit Bytes) (f : Spot Bytes) → placed e p (model_in bs o) ≡ some f → is_done f.picked ≡ false
      → (definition_at o (store_in bs).form).content ≡ complex (model_in bs o)
  some_content e f at d =
      complex_content (definition_at o (store_in bs).form).content
      (picked_complex (definition_at o (store_in bs).form).content f.context f.picked (place_right e p (model_in bs o) f at) d)

  -- a member is found there, where the edit suits it
  abbrev pub fits_at_lem : (e : Edit Bytes) (f : Spot Bytes) → placed e p (model_in bs o) ≡ found_by (inserts e) p (model_in bs o) → past_end o (store_in bs).form ≡ false
      → placed e p (model_in bs o) ≡ some f → is_done f.picked ≡ false → suits e f.picked ≡ true → Fits bs o p e
  fits_at_lem e f same i at d s = record { good = q; there = inside i; found = f; content = some_content e f at d; at = at; by = sym same ∙ at; suits = s }

-- ---- an edit that fits at an element
pub record Element (bs : Bytes) (o : ℕ) (p : List ℕ) (e : Edit Bytes) : Type 0 where
  pub fits : Fits bs o p e
  pub quantifier : Quantifier
  pub name : Bytes
  pub rest : Members Bytes
  pub is : fits.found.picked ≡ el quantifier name rest

module _ {bs : Bytes} {o : ℕ} {p : List ℕ} {e : Edit Bytes} (x : Element bs o p e) where
  pub picked_at : placed e p (model_in bs o) ≡ some (record { context = x.fits.found.context; picked = el x.quantifier x.name x.rest })
  picked_at = x.fits.at ∙ ap (λ (t : Members Bytes). some (record { context = x.fits.found.context; picked = t })) x.is

  -- the index that stands in the particle
  pub index_there : {h : Holder} {n : ℕ} → Placed bs o (inserts e) p h n → (read_particle (drop (particle_size * n) (part_in bs o))).row.index ≡ index_of_name bs x.name
  unfolding rename
  index_there {h} {n} y =
      let d : ℕ = level 0 (around y) in
      let here : y.found.picked ≡ el x.quantifier x.name x.rest = ap (λ (w : Spot Bytes). w.picked) (same_found x.fits y) ∙ x.is in
      let f : drop n (particles_of (part_in bs o)) ≡ element_particle d x.quantifier (index_of_name bs x.name) ∷ (spread d (rename (index_of_name bs) x.rest) ++ trailing 0 (around y)) =
      from_there y ∙ ap (λ (t : Members Bytes). spread d (rename (index_of_name bs) t) ++ trailing 0 (around y)) here in
      ap (λ (w : Deep FlatParticle). w.row.index) (read_there y _ _ f)
