-- A store after an edit of one model, from its bodies before it: what the calls of changes 3 to 8 cite.
use Prim.Native.Nat.{ℕ, zero, suc, ◌+◌, ◌*◌, ◌<◌, ◌≤◌}
use native.Mathlib.Omega.{arith}
use mathlib.Core.Path.{◌≡◌, sym, ap, ◌∙◌, subst}
use mathlib.Core.Bool.{true, false, false≢true}
use mathlib.Core.Option.{some}
use mathlib.Core.List.{List, [], ◌∷◌, ◌++◌, map}
use lib.ListN.{length, take, drop, length-append, length-drop}
use lib.Seq.{take-append_seam, drop-append-add, length-take-le}
use Rattle.rules.specs.Bytes.{Bytes}
use Rattle.rules.specs.Model.{Members, done, el, group, rename}
use Rattle.rules.specs.Place.{Found as Spot, Context, plug, rename_around}
use Rattle.rules.specs.Edit.{Edit, insert, remove, quantify, convert, flatten as ungroup, place_of as placed}
use Rattle.rules.specs.Store.{complex, Form, Store, members}
use Rattle.rules.specs.Preorder.{preorder}
use Rattle.rules.specs.Layout.{FlatStore, index_of, particle_bytes, each, particles, content_particles, flat_definition, all_particles, flat, particle_size}
use Rattle.rules.specs.Change.{definition_at, edit_model}
use Rattle.rules.proofs.BooleanLaws.{Every, every_left, every_right}
use Rattle.rules.proofs.LayoutLaws.{SmallParticle}
use Rattle.change_laws.proofs.ModelAfter.{place_right}
use Rattle.rules.proofs.RenamingPlaces.{plug_rename}
use Rattle.model.specs.declared.place.Holder.{Holder}
use Rattle.model.specs.Members.{particles_of, start_of}
use Rattle.model.specs.Places.{Particles, leads_to, top, place_in}
use Rattle.model.specs.Positions.{spread, count, offset, holder, leading, trailing, level}
use Rattle.model.proofs.PositionLaws.{spread_named, spread_plug, length_leading, length_spread}
use Rattle.model.proofs.WrittenLaws.{particles_written}
use Rattle.model_writer.specs.Spliced.{count_of, spliced_form}
use Rattle.model_writer.specs.PartAfter.{suits, rename_edit, inserts, part_after, length_after}
use Rattle.model_writer.specs.Writing.{Fitting, particle_range, EditPart}
use Rattle.model_writer.proofs.FormAfter.{reformed, form_after_lem}
use Rattle.model_writer.proofs.HeadAfter.{start_before}
use Rattle.model_writer.proofs.PartAfter.{place_here, same_list, same_particle, edited_part, suits_named}
use Rattle.model_writer.proofs.BodyWriting.{length_after_lem}
use Rattle.model_writer.proofs.HeadWriting.{each_take, each_drop, length_bytes}

-- ---- where a definition's particles stand
own_part : (form : Form) (o : ℕ) (ds : Form) (ms : Members Bytes) → o < length ds → (definition_at o ds).content ≡ complex ms
    → take (count_of o (map (flat_definition form) ds)) (drop (start_of o (map (flat_definition form) ds)) (all_particles form ds)) ≡ preorder 0 (particles form ms)
own_part form o [] ms l e = absurd (omega arith)
own_part form zero (d ∷ ds) ms l e = take-append_seam (content_particles form d.content) (all_particles form ds) ∙ ap (content_particles form) e
own_part form (suc o) (d ∷ ds) ms l e =
    let a : ℕ = start_of o (map (flat_definition form) ds) in
    ap (take (count_of o (map (flat_definition form) ds))) (drop-append-add (content_particles form d.content) (all_particles form ds) a) ∙ own_part form o ds ms (omega arith) e

pub own_inside : (form : Form) (o : ℕ) (ds : Form) → start_of o (map (flat_definition form) ds) + count_of o (map (flat_definition form) ds) ≤ length (all_particles form ds)
own_inside form o [] = omega arith
own_inside form zero (d ∷ ds) = omega (arith, length-append (content_particles form d.content) (all_particles form ds))
own_inside form (suc o) (d ∷ ds) = omega (arith, length-append (content_particles form d.content) (all_particles form ds), own_inside form o ds)

-- ---- a place stands among the particles
pub offset_inside : (c : Context ℕ) (t : Members ℕ) → offset c + count t ≤ length (spread 0 (plug c t))
offset_inside c t =
    omega (
      arith,
      ap (λ (xs : Particles). length xs) (spread_plug 0 c t),
      length-append (leading 0 c t) (spread (level 0 c) t ++ trailing 0 c),
      length-append (spread (level 0 c) t) (trailing 0 c),
      length_leading 0 c t,
      length_spread (level 0 c) t,
    )

-- an edit of a member has one
pub suits_some : (e : Edit ℕ) (t : Members ℕ) → suits e t ≡ true → inserts e ≡ false → 1 ≤ count t
suits_some (insert q i) t s f = absurd (false≢true (sym f))
suits_some remove done s f = absurd (false≢true s)
suits_some remove (el q x t) s f = omega arith
suits_some remove (group q k ms t) s f = absurd (false≢true s)
suits_some (quantify r) done s f = absurd (false≢true s)
suits_some (quantify r) (el q x t) s f = omega arith
suits_some (quantify r) (group q k ms t) s f = omega arith
suits_some (convert j zero) t s f = absurd (false≢true s)
suits_some (convert j (suc n)) done s f = absurd (false≢true s)
suits_some (convert j (suc n)) (el q x t) s f = omega arith
suits_some (convert j (suc n)) (group q k ms t) s f = omega arith
suits_some ungroup done s f = absurd (false≢true s)
suits_some ungroup (el q x t) s f = absurd (false≢true s)
suits_some ungroup (group q k ms t) s f = omega arith

-- ---- the store
module _ (s : Store) (o : ℕ) (p : List ℕ) (e : Edit Bytes) (x : Spot Bytes) (l : o < length s.form) (c : (definition_at o s.form).content ≡ complex (members (definition_at o s.form)))
    (found : placed e p (members (definition_at o s.form)) ≡ some x) (fits : suits e x.picked ≡ true) where
  abbrev index : Bytes → ℕ
  index n = index_of n s.form

  -- the particles before, as bytes; where the owner's start, and how many those are
  abbrev parts : Bytes
  parts = each particle_bytes (flat s).particles

  abbrev first : ℕ
  first = start_of o (flat s).definitions

  abbrev many : ℕ
  many = count_of o (flat s).definitions

  abbrev own : Bytes
  own = particle_range first many parts

  own_particles : own ≡ each particle_bytes (take many (drop first (flat s).particles))
  own_particles = ap (take (particle_size * many)) (each_drop first (flat s).particles) ∙ each_take many (drop first (flat s).particles)

  own_bytes : own ≡ each particle_bytes (spread 0 (rename index (members (definition_at o s.form))))
  own_bytes =
      own_particles
      ∙ ap (each particle_bytes) (own_part s.form o s.form (members (definition_at o s.form)) l c ∙ spread_named s.form 0 (members (definition_at o s.form)))

  all_there : length (take many (drop first (flat s).particles)) ≡ many
  all_there = length-take-le many (drop first (flat s).particles) (omega (arith, own_inside s.form o s.form, length-drop first (flat s).particles))

  own_count : length (particles_of own) ≡ many
  own_count = ap (λ (bs : Bytes). length (particles_of bs)) own_particles ∙ ap length (particles_written (take many (drop first (flat s).particles))) ∙ all_there

  own_many : length own ≡ particle_size * many
  own_many = ap length own_particles ∙ length_bytes (take many (drop first (flat s).particles)) ∙ ap (λ (k : ℕ). particle_size * k) all_there

  module _ (h : Holder) (n : ℕ) (at : place_in (inserts e) p own ≡ leads_to h n) where
    -- THE BODIES AFTER THE EDIT
    pub edit_flat : flat (reformed (edit_model o p e s.form) s) ≡ spliced_form o (part_after (rename_edit index e) h n (particles_of own)) (flat s)
    edit_flat =
        form_after_lem s o p e x l c found
        ∙ ap (λ (xs : Particles). spliced_form o xs (flat s)) (edited_part index e p (members (definition_at o s.form)) x own h n own_bytes found fits at)

    abbrev context : Context ℕ
    context = rename_around index x.context

    same_place : leads_to (holder top 0 context) (offset context) ≡ leads_to h n
    same_place = sym (place_here index e p (members (definition_at o s.form)) x found) ∙ ap (place_in (inserts e) p) (sym own_bytes) ∙ at

    own_long : length own ≡ particle_size * length (spread 0 (plug context (rename index x.picked)))
    own_long =
        ap length own_bytes
        ∙ length_bytes (spread 0 (rename index (members (definition_at o s.form))))
        ∙ ap (λ (ms : Members ℕ). particle_size * length (spread 0 ms))
        (ap (rename index) (sym (place_right e p (members (definition_at o s.form)) x found)) ∙ plug_rename index x.context x.picked)

    -- HOW MANY PARTICLES the owner has then
    pub edit_length : length (part_after (rename_edit index e) h n (particles_of own)) ≡ length_after (rename_edit index e) many
    edit_length =
        let stands : offset context ≡ n = same_particle same_place in
        let inside : offset context + count (rename index x.picked) ≤ many = omega (arith, own_long, own_many, offset_inside context (rename index x.picked)) in
        let some_there : inserts (rename_edit index e) ≡ false → n < length (particles_of own) =
        λ f. omega (arith, stands, inside, own_count, suits_some (rename_edit index e) (rename index x.picked) (suits_named index e x.picked ∙ fits) f) in
        length_after_lem (rename_edit index e) h n (particles_of own) (omega (arith, stands, inside, own_count)) some_there ∙ ap (length_after (rename_edit index e)) own_count

    -- what the writer of the particles asks for
    pub edit_body : Every SmallParticle (flat (reformed (edit_model o p e s.form) s)).particles → EditPart (rename_edit index e) h n first many parts
    unfolding Fitting spliced_form
    edit_body small =
        let starts : holder top 0 context ≡ h = same_list same_place in
        let stands : offset context ≡ n = same_particle same_place in
        let new : Particles = part_after (rename_edit index e) h n (particles_of own) in
        record {
          whole = omega (arith, length_bytes (flat s).particles);
          inside = omega (arith, length_bytes (flat s).particles, own_inside s.form o s.form);
          part =
              record {
                whole = omega (arith, own_long);
                after = omega (arith, ap (λ (z : Holder). z.start) starts, stands, start_before context);
                inside = omega (arith, own_long, stands, offset_inside context (rename index x.picked));
                fitting =
                    every_left SmallParticle new (drop (first + many) (flat s).particles)
                    (every_right SmallParticle (take first (flat s).particles) (new ++ drop (first + many) (flat s).particles)
                    (subst (λ (xs : Particles). Every SmallParticle xs) (ap (λ (z : FlatStore). z.particles) edit_flat) small));
              };
        }
