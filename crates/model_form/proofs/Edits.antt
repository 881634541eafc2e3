-- An edit that fits at its place is one that the code can make.
use Prim.Native.Nat.{ℕ, ◌<◌}
use native.Mathlib.Omega.{arith}
use mathlib.Core.Path.{◌≡◌, sym, ap, ◌∙◌, subst}
use mathlib.Core.Bool.{true}
use mathlib.Core.Option.{some}
use mathlib.Core.List.{List}
use lib.Dec.{leb}
use lib.ListN.{length}
use Rattle.rules.specs.Bytes.{Bytes, all}
use Rattle.rules.specs.Place.{Found as Spot}
use Rattle.rules.specs.Edit.{Edit, place_of as placed}
use Rattle.rules.specs.Store.{complex, Form}
use Rattle.rules.specs.Preorder.{Deep}
use Rattle.rules.specs.Layout.{FlatParticle, FlatStore, flat, particle_bytes, each}
use Rattle.rules.specs.Decode.{definition_count}
use Rattle.rules.specs.WellFormed.{within_ceilings}
use Rattle.rules.specs.Passing.{passes}
use Rattle.rules.specs.Change.{definition_at, edit_at, edit_model, in_model}
use Rattle.rules.proofs.BooleanLaws.{Every}
use Rattle.rules.proofs.LayoutLaws.{SmallParticle}
use Rattle.model.specs.declared.place.Holder.{Holder}
use Rattle.model.specs.Members.{particles_of, start_of}
use Rattle.model.specs.Places.{Particles, leads_to, place_in}
use Rattle.layout.specs.Bodies.{particles_in}
use Rattle.lookup.specs.Bodies.{bodies_of}
use Rattle.model_writer.specs.Spliced.{count_of, spliced_form}
use Rattle.model_writer.specs.PartAfter.{suits, rename_edit, inserts, part_after, length_after}
use Rattle.model_writer.specs.Writing.{EditPart}
use Rattle.model_writer.specs.Writing as writing
use Rattle.model_writer.proofs.FormAfter.{reformed}
use Rattle.model_writer.proofs.EditedStore.{edit_flat, edit_length, edit_body}
use Rattle.store_laws.specs.Stores.{store_in}
use Rattle.store_laws.specs.Forms.{bare_form}
use Rattle.store_laws.proofs.StoreLaws.{holds}
use Rattle.store_laws.proofs.FormBytesLaws.{Few, few_of, few_particles}
use Rattle.store_laws.proofs.Encoded.{encoded}
use Rattle.model_places.specs.Placing.{index_of_name, model_in, part_in}
use Rattle.model_places.proofs.PlaceLaws.{present_at}
use Rattle.model_form.specs.Editing.{start_in, model_length, part_edited, form_edited, Edits}
use Rattle.model_form.proofs.OwnParts.{own_length, start_is, count_is, own_is, own_inside, parts_are, form_size}
use Rattle.model_form.proofs.Small.{small_particles, update_length}

module _ (bs : Bytes) (q : passes bs ≡ true) (o : ℕ) (l : o < definition_count bs) (p : List ℕ) (e : Edit Bytes) (x : Spot Bytes)
    (c : (definition_at o (store_in bs).form).content ≡ complex (model_in bs o))
    (found : placed e p (model_in bs o) ≡ some x) (fits : suits e x.picked ≡ true) (h : Holder) (n : ℕ) (at : place_in (inserts e) p (part_in bs o) ≡ leads_to h n) where
  abbrev own : Bytes
  own = writing.particle_range (start_of o (flat (store_in bs)).definitions) (count_of o (flat (store_in bs)).definitions) (each particle_bytes (flat (store_in bs)).particles)

  abbrev new : Form
  new = edit_model o p e (store_in bs).form

  bodies : flat (store_in bs) ≡ bodies_of bs
  bodies = sym (holds bs q).bodies

  start : start_of o (flat (store_in bs)).definitions ≡ start_in bs o
  start = ap (λ (f : FlatStore). start_of o f.definitions) bodies ∙ sym (start_is bs q o (omega arith))

  count : count_of o (flat (store_in bs)).definitions ≡ model_length bs o
  count = ap (λ (f : FlatStore). count_of o f.definitions) bodies ∙ sym (count_is bs q o l)

  parts : each particle_bytes (flat (store_in bs)).particles ≡ particles_in bs
  parts = ap (λ (f : FlatStore). each particle_bytes f.particles) bodies ∙ parts_are bs q

  own_same : own ≡ part_in bs o
  own_same = (λ i. writing.particle_range (start i) (count i) (parts i)) ∙ sym (own_is bs q o)

  there : o < length (store_in bs).form
  there = omega (arith, form_size bs q)

  at_own : place_in (inserts e) p own ≡ leads_to h n
  at_own = ap (place_in (inserts e) p) own_same ∙ at

  -- THE FORM AFTER THE EDIT
  pub edited_flat : flat (reformed new (store_in bs)) ≡ form_edited bs o (rename_edit (index_of_name bs) e) h n
  unfolding form_edited part_edited
  edited_flat =
      edit_flat (store_in bs) o p e x there c found fits h n at_own
      ∙ (λ i. spliced_form o (part_after (rename_edit (index_of_name bs) e) h n (particles_of (own_same i))) (bodies i))

  small : within_ceilings (bare_form (form_edited bs o (rename_edit (index_of_name bs) e) h n)) ≡ true → Every SmallParticle (flat (reformed new (store_in bs))).particles
  small w =
      let f : Few (bare_form (form_edited bs o (rename_edit (index_of_name bs) e) h n)) = few_of (bare_form (form_edited bs o (rename_edit (index_of_name bs) e) h n)) w in
      let same : (flat (reformed new (store_in bs))).particles ≡ (form_edited bs o (rename_edit (index_of_name bs) e) h n).particles = ap (λ (z : FlatStore). z.particles) edited_flat in
      small_particles new (omega (arith, update_length o (in_model (edit_at e p)) (store_in bs).form, form_size bs q, (encoded bs q).definitions, (encoded bs q).few_definitions))
      (omega (arith, ap (λ (xs : Particles). length xs) same, few_particles f)) (ap (all (λ (y : Deep FlatParticle). leb y.depth 4)) same ∙ f.depths)

  body_of : within_ceilings (bare_form (form_edited bs o (rename_edit (index_of_name bs) e) h n)) ≡ true → EditPart (rename_edit (index_of_name bs) e) h n (start_in bs o) (model_length bs o) (particles_in bs)
  body_of w =
      subst (λ (z : ℕ). EditPart (rename_edit (index_of_name bs) e) h n z (model_length bs o) (particles_in bs)) start
      (subst (λ (z : ℕ). EditPart (rename_edit (index_of_name bs) e) h n (start_of o (flat (store_in bs)).definitions) z (particles_in bs)) count
      (subst (λ (z : Bytes). EditPart (rename_edit (index_of_name bs) e) h n (start_of o (flat (store_in bs)).definitions) (count_of o (flat (store_in bs)).definitions) z) parts
      (edit_body (store_in bs) o p e x there c found fits h n at_own (small w))))

  pub edits : Edits bs o (rename_edit (index_of_name bs) e) h n
  unfolding part_edited
  edits =
      record {
        good = q;
        there = l;
        own = own_inside bs q o l;
        inside = omega (arith, own_length bs o, (present_at bs q o l (inserts e) p h n at).inside);
        many =
            ap (λ (z : Bytes). length (part_after (rename_edit (index_of_name bs) e) h n (particles_of z))) (sym own_same)
            ∙ edit_length (store_in bs) o p e x there c found fits h n at_own
            ∙ ap (length_after (rename_edit (index_of_name bs) e)) count;
        body = body_of;
      }
