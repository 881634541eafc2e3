-- The form after an edit: its ceilings and its bytes.
use Prim.Native.Nat.{ℕ, suc, ◌+◌, ◌-◌, ◌*◌, ◌<◌, ◌≤◌}
use native.Mathlib.Omega.{arith}
use mathlib.Core.Path.{◌≡◌, refl, sym, ap, ap₂, ◌∙◌, subst}
use mathlib.Core.Bool.{Bool, true, false, ◌&&◌, false≢true}
use mathlib.Core.List.{◌++◌}
use lib.Dec.{leb}
use lib.ListN.{length, take, drop, take-append-drop, length-append, length-drop}
use lib.Seq.{length-take-le, length-sets, sets-eq, take-append_seam}
use borrow.Author.Tests.{le-leb, lt-leb}
use Rattle.rules.specs.Bytes.{Bytes, all}
use Rattle.rules.specs.Edit.{Edit}
use Rattle.rules.specs.Preorder.{Deep}
use Rattle.rules.specs.Layout.{particle_size, definition_size, attribute_size, FlatParticle, FlatStore, definition_bytes, particle_bytes, attribute_bytes, each}
use Rattle.rules.specs.Decode.{definition_count, particle_count, attribute_count}
use Rattle.rules.specs.WellFormed.{within_ceilings}
use Rattle.rules.proofs.BooleanLaws.{all_left, all_right, all_append}
use Rattle.rules.proofs.LayoutLaws.{length_each, length_definition, length_particle, length_attribute}
use Rattle.rules.proofs.Words.{and_held}
use Rattle.codec.specs.Laid.{Laid}
use Rattle.codec.proofs.Writers.{laid_then, laid_as}
use Rattle.codec.proofs.Strings.{part_there}
use Rattle.model.specs.declared.place.Holder.{Holder}
use Rattle.model.specs.Members.{particles_of, start_of}
use Rattle.model.specs.Places.{Particles}
use Rattle.model.proofs.ParticleLaws.{particles_part}
use Rattle.form_index.specs.Reading.{definition_in, particles_before}
use Rattle.layout.specs.Bodies.{width_of, Number, definitions_in, particles_in, attributes_in, most_form}
use Rattle.layout.proofs.LayoutLaws.{width_within}
use Rattle.layout.proofs.HeaderLaws.{attributes_short, definition_table_short}
use Rattle.lookup.specs.Bodies.{bodies_of}
use Rattle.model_writer.specs.Spliced.{count_of, counted, spliced, spliced_form}
use Rattle.model_writer.specs.PartAfter.{part_after, length_after}
use Rattle.layout.specs.RecordBytes.{counted_bytes}
use Rattle.model_writer.specs.Writing.{EditPart, depths_within}
use Rattle.model_writer.specs.Writing as writing
use Rattle.model_writer.specs.declared.Edit.{Edit as EditCode}
use Rattle.model_writer.proofs.CountedBytes.{counted_bytes_lem}
use Rattle.store_laws.specs.Forms.{form_bytes, bare_form}
use Rattle.store_laws.proofs.FormLaws.{FormOf, forms_of}
use Rattle.store_laws.proofs.FormBytesLaws.{Few, few_of, few_particles}
use Rattle.store_laws.proofs.FormBytesLaws as bytes
use Rattle.plans.proofs.FormsAfter.{spliced_form_lem, counted_length}
use Rattle.store_laws.proofs.Encoded.{Encoded, encoded, definitions_at, attributes_at}
use Rattle.model_places.specs.Placing.{part_in}
use Rattle.model_form.specs.Editing.{start_in, model_length, part_edited, form_edited, Edits}
use Rattle.model_form.proofs.OwnParts.{start_is, count_is, own_is, parts_are, particles_are}
use Rattle.model_writer.proofs.BodyWriting.{one_more}

-- ---- tests
middle : (a b c d : Bool) → a ≡ true → d ≡ true → (a && (b && (c && (d && true)))) ≡ (b && c)
middle true true true true x y = refl
middle true true false true x y = refl
middle true false c true x y = refl
middle true b c false x y = absurd (false≢true y)
middle false b c d x y = absurd (false≢true x)

abbrev low : Deep FlatParticle → Bool
low x = leb x.depth 4

module _ {bs : Bytes} {o : ℕ} {e : Edit ℕ} {h : Holder} {n : ℕ} (v : Edits bs o e h n) where
  abbrev f : FlatStore
  f = bodies_of bs

  abbrev g : FlatStore
  g = form_edited bs o e h n

  abbrev a : ℕ
  a = start_of o f.definitions

  abbrev k : ℕ
  k = count_of o f.definitions

  enc : Encoded bs f
  enc = encoded bs v.good

  few : Few f
  few = few_of f enc.ceilings

  start : start_in bs o ≡ a
  start = start_is bs v.good o (omega (arith, v.there))

  count : model_length bs o ≡ k
  count = count_is bs v.good o v.there

  pub owner_low : o ≤ 256
  owner_low = omega (arith, v.there, enc.definitions, enc.few_definitions)

  pub own_low : model_length bs o ≤ particle_count bs
  own_low = omega (arith, v.own)

  particles_after : g.particles ≡ spliced a k (part_edited bs o e h n) f.particles
  unfolding form_edited spliced_form
  particles_after = refl

  all_length : length g.particles ≡ particle_count bs - model_length bs o + length_after e (model_length bs o)
  all_length =
      let ps : Particles = f.particles in
      let part : Particles = part_edited bs o e h n in
      omega (
        arith,
        ap (λ (xs : Particles). length xs) particles_after,
        length-append (take a ps) (part ++ drop (a + k) ps),
        length-append part (drop (a + k) ps),
        length-take-le a ps (omega (arith, start, count, v.own, enc.particles)),
        length-drop (a + k) ps,
        v.many,
        v.own,
        start,
        count,
        enc.particles,
      )

  pub as_many : {p : ℕ} → p ≡ particle_count bs - model_length bs o + length_after e (model_length bs o) → p ≡ length g.particles
  as_many p = p ∙ sym all_length

  -- ---- the ceilings
  depths_are : all low g.particles ≡ depths_within (part_edited bs o e h n)
  unfolding depths_within
  depths_are =
      let ps : Particles = f.particles in
      let front : all low (take a ps) ≡ true = all_left low (take a ps) (drop a ps) (ap (all low) (take-append-drop a ps) ∙ few.depths) in
      let back : all low (drop (a + k) ps) ≡ true = all_right low (take (a + k) ps) (drop (a + k) ps) (ap (all low) (take-append-drop (a + k) ps) ∙ few.depths) in
      let rest : all low (part_edited bs o e h n ++ drop (a + k) ps) ≡ all low (part_edited bs o e h n) =
      all_append low (part_edited bs o e h n) (drop (a + k) ps) ∙ and_held (all low (part_edited bs o e h n)) (all low (drop (a + k) ps)) back in
      ap (all low) particles_after ∙ all_append low (take a ps) (part_edited bs o e h n ++ drop (a + k) ps) ∙ ap₂ (λ (x y : Bool). x && y) front rest

  definitions_few : leb (length g.definitions) 64 ≡ true
  unfolding form_edited spliced_form
  definitions_few = ap (λ (m : ℕ). leb m 64) (counted_length o (length (part_edited bs o e h n)) f.definitions) ∙ few.definitions

  attributes_few : leb (length g.attributes) 64 ≡ true
  unfolding form_edited spliced_form
  attributes_few = few.attributes

  ceiling_is : within_ceilings (bare_form g) ≡ (leb (length g.particles) 256 && depths_within (part_edited bs o e h n))
  ceiling_is =
      middle (leb (length g.definitions) 64) (leb (length g.particles) 256) (all low g.particles) (leb (length g.attributes) 64) definitions_few attributes_few
      ∙ ap (λ (b : Bool). leb (length g.particles) 256 && b) depths_are

  pub keeps_not : {p : ℕ} → p ≡ length g.particles → 256 < p → false ≡ within_ceilings (bare_form g)
  keeps_not p l = sym (ceiling_is ∙ ap (λ (b : Bool). b && depths_within (part_edited bs o e h n)) (lt-leb (length g.particles) 256 (omega (arith, p))))

  module _ {own : Bytes} (same : own ≡ part_in bs o) where
    pub keeps : {p : ℕ} {r : Bool} → p ≡ length g.particles → p ≤ 256 → r ≡ depths_within (part_after e h n (particles_of own)) → r ≡ within_ceilings (bare_form g)
    unfolding part_edited
    keeps p l w =
        w ∙ ap (λ (z : Bytes). depths_within (part_after e h n (particles_of z))) same
        ∙ sym (ceiling_is ∙ ap (λ (b : Bool). b && depths_within (part_edited bs o e h n)) (le-leb (length g.particles) 256 (omega (arith, p))))

    own_particles : particles_of own ≡ take (model_length bs o) (drop (start_in bs o) f.particles)
    own_particles =
        let s : ℕ = start_in bs o in
        let m : ℕ = model_length bs o in
        let fit : particle_size * s + particle_size * m ≤ length (particles_in bs) =
        omega (arith, v.own, ap (λ (z : Bytes). length z) (parts_are bs v.good), length_each particle_bytes particle_size length_particle f.particles, enc.particles) in
        ap particles_of (same ∙ own_is bs v.good o ∙ sym (part_there (particle_size * s) (particle_size * m) (particles_in bs) fit))
        ∙ particles_part s m (particles_in bs) fit
        ∙ ap (λ (z : Particles). take m (drop s z)) (particles_are bs v.good)

    pub still_within : (depths_within (particles_of own) ≡ true) × (n < 4611686018427387904)
    unfolding depths_within
    still_within =
        let s : ℕ = start_in bs o in
        let m : ℕ = model_length bs o in
        let rest : Particles = drop s f.particles in
        let back : all low rest ≡ true = all_right low (take s f.particles) rest (ap (all low) (take-append-drop s f.particles) ∙ few.depths) in
        (ap (all low) own_particles ∙ all_left low (take m rest) (drop m rest) (ap (all low) (take-append-drop m rest) ∙ back), omega (arith, v.inside, v.own, enc.particles, enc.few_particles))

  -- ---- the bytes
  pub own_laid : {first many : ℕ} {parts out : Bytes} {at r : ℕ} {out' : Bytes} → first ≡ start_in bs o → many ≡ model_length bs o → parts ≡ particles_in bs
      → Laid (each particle_bytes (spliced first many (part_after e h n (particles_of (writing.particle_range first many parts))) (particles_of parts))) out at r out'
      → Laid (each particle_bytes g.particles) out at r out'
  unfolding part_edited
  own_laid {first} {many} {parts} ef em ep w =
      let part : part_edited bs o e h n ≡ part_after e h n (particles_of (writing.particle_range first many parts)) =
      ap (λ (z : Bytes). part_after e h n (particles_of z)) (own_is bs v.good o ∙ (λ i. writing.particle_range (sym ef i) (sym em i) (sym ep i))) in
      laid_as (ap (each particle_bytes) (particles_after ∙ (λ i. spliced (sym (ef ∙ start) i) (sym (em ∙ count) i) (part i) ((sym (ap particles_of ep ∙ particles_are bs v.good)) i)))) w

  pub table_short : {table : Bytes} → table ≡ definitions_in bs → length table ≤ definition_size * 64
  table_short = definition_table_short bs (omega (arith, enc.definitions, enc.few_definitions))

  -- what comes before the attributes, and they themselves
  module _ (w : within_ceilings (bare_form g) ≡ true) where
    pub particles_short : length (each particle_bytes g.particles) ≤ particle_size * 256
    particles_short = omega (arith, length_each particle_bytes particle_size length_particle g.particles, few_particles (few_of (bare_form g) w))

    pub own_short : length_after e (model_length bs o) ≤ 256
    own_short = omega (arith, all_length, few_particles (few_of (bare_form g) w))

    pub form_short : length (form_bytes (width_of bs) g) ≤ most_form
    unfolding form_edited
    form_short = bytes.form_short (forms_of (spliced_form_lem o (part_edited bs o e h n) f enc.good w refl refl refl refl)) (width_within bs)

  pub form_laid : {count : ℕ} {table attrs out out₁ out₂ out₃ : Bytes} {at₁ at₂ at₃ : ℕ} → count ≡ length_after e (model_length bs o) → table ≡ definitions_in bs → attrs ≡ attributes_in bs
      → Laid (counted_bytes o count table) out 0 at₁ out₁ → Laid (each particle_bytes g.particles) out₁ at₁ at₂ out₂ → Laid attrs out₂ at₂ at₃ out₃ → Laid (form_bytes (width_of bs) g) out 0 at₃ out₃
  unfolding form_edited spliced_form
  form_laid {count} ec et ea x y z =
      let l : o < length f.definitions = omega (arith, v.there, enc.definitions) in
      let m : length (part_edited bs o e h n) ≡ count = v.many ∙ sym ec in
      laid_as
      (ap₂ (λ (s t : Bytes). s ++ (each particle_bytes g.particles ++ t))
      (counted_bytes_lem o (length (part_edited bs o e h n)) f.definitions l ∙ ap₂ (λ (c : ℕ) (t : Bytes). counted_bytes o c t) m (sym (et ∙ definitions_at enc))) (sym (ea ∙ attributes_at enc)))
      (laid_then x (laid_then y z))

  pub body_in : within_ceilings (bare_form g) ≡ true → {first many from : ℕ} {parts : Bytes} → first ≡ start_in bs o → many ≡ model_length bs o → parts ≡ particles_in bs → from ≤ most_form
      → EditPart e h n first many parts × (from + particle_size * length parts < 2305843009213693952)
  body_in w {first} {many} {from} {parts} ef em ep l = (
    subst (λ (z : ℕ). EditPart e h n z many parts) (sym ef)
        (subst (λ (z : ℕ). EditPart e h n (start_in bs o) z parts) (sym em) (subst (λ (z : Bytes). EditPart e h n (start_in bs o) (model_length bs o) z) (sym ep) (v.body w))),
    omega (arith, ap (λ (z : Bytes). length z) (ep ∙ sym (parts_are bs v.good)), length_each particle_bytes particle_size length_particle f.particles, enc.few_particles),
  )

  -- what stands before the attributes
  pub counted_short : {count : ℕ} {table : Bytes} → count ≡ length_after e (model_length bs o) → table ≡ definitions_in bs → length (counted_bytes o count table) ≤ definition_size * 64
  counted_short {count} {table} ec et =
      let l : o < length f.definitions = omega (arith, v.there, enc.definitions) in
      omega (
        arith,
        ap (λ (z : Bytes). length (counted_bytes o count z)) (et ∙ definitions_at enc),
        ap (λ (z : Bytes). length z) (counted_bytes_lem o count f.definitions l),
        length_each definition_bytes definition_size length_definition (counted o count f.definitions),
        counted_length o count f.definitions,
        enc.few_definitions,
      )

  pub attrs_short : {attrs : Bytes} → attrs ≡ attributes_in bs → length attrs ≤ attribute_size 96 * 64
  attrs_short ea =
      omega (
        arith,
        ap (λ (z : Bytes). length z) (ea ∙ attributes_at enc),
        length_each (attribute_bytes (width_of bs)) (attribute_size (width_of bs)) (length_attribute (width_of bs)) f.attributes,
        attributes_short (width_of bs) (length f.attributes) (width_within bs) enc.few_attributes,
      )

  -- ---- the store
  module _ (w : within_ceilings (bare_form g) ≡ true) {d p b : ℕ} (ed : Number (definition_count bs) d) (ep : p ≡ length g.particles) (eb : Number (attribute_count bs) b) {form : Bytes}
      (ef : form ≡ form_bytes (width_of bs) g) where
    pub form_of : FormOf (width_of bs) g form d p b
    unfolding form_edited
    form_of = spliced_form_lem o (part_edited bs o e h n) f enc.good w ef (ed.value ∙ enc.definitions) ep (eb.value ∙ enc.attributes)

-- what was written into an array that has room
pub record Stored (w : Bytes) (end : ℕ) (out : Bytes) : Type 0 where
  pub inside : end ≤ length out
  pub count : end ≡ length (take end out)
  pub is : take end out ≡ w

pub stored : {w out out' : Bytes} {end size : ℕ} → Laid w out 0 end out' → length out ≡ size → length w ≤ size → Stored w end out'
stored {w} {out} {out'} {end} l n r =
    let z : 0 + length w ≡ length w = omega arith in
    let fit : length w ≤ length out = omega (arith, n) in
    let whole : take end out' ≡ w = (λ i. take ((l.next ∙ z) i) ((l.stored ∙ sets-eq w out 0 (omega arith) ∙ ap (λ (k : ℕ). w ++ drop k out) z) i)) ∙ take-append_seam w (drop (length w) out) in
    record {
      inside = omega (arith, l.next, ap (λ (k : Bytes). length k) l.stored, length-sets out 0 w);
      count = l.next ∙ z ∙ ap (λ (k : Bytes). length k) (sym whole);
      is = whole;
    }

-- an edit of the code, case by case
pub length_case : (n : ℕ) {e d : EditCode} → e ≡ d → length_after (writing.edit_of d) n ≡ length_after (writing.edit_of e) n
length_case n p = ap (λ (z : EditCode). length_after (writing.edit_of z) n) (sym p)

module _ (bs : Bytes) (o : ℕ) {defs : Bytes} (d : defs ≡ definitions_in bs) where
  pub first_in : {m : ℕ} → m ≡ particles_before defs o → m ≡ start_in bs o
  first_in m = m ∙ ap (λ (z : Bytes). particles_before z o) d

  pub many_in : {m : ℕ} → m ≡ (definition_in defs o).particles → m ≡ model_length bs o
  many_in m = m ∙ ap (λ (z : Bytes). (definition_in z o).particles) d

  pub after_in : {m r : ℕ} (e : EditCode) → m ≡ (definition_in defs o).particles → r ≡ length_after (writing.edit_of e) m → r ≡ length_after (writing.edit_of e) (model_length bs o)
  after_in e m r = r ∙ ap (length_after (writing.edit_of e)) (many_in m)

pub few_more : (e : EditCode) (m : ℕ) {r : ℕ} → r ≡ length_after (writing.edit_of e) m → r ≤ suc m
few_more e m x = omega (arith, x, one_more (writing.edit_of e) m)
