-- The bytes of a form, cut before an attribute.
use Prim.Native.Nat.{ℕ, ◌+◌, ◌-◌, ◌*◌, ◌≤◌}
use native.Mathlib.Omega.{arith}
use mathlib.Core.Bool.{true}
use mathlib.Core.Path.{◌≡◌, refl, sym, ap, ◌∙◌}
use mathlib.Core.List.{List, [], ◌++◌, append_assoc}
use lib.ListN.{length, take, drop, length-append, length-take, length-drop, take-append-drop, replicate, length-replicate}
use lib.Seq.{sets-eq, length-sets, take_at, drop_at, length-take-le}
use Rattle.rules.specs.Bytes.{Bytes}
use Rattle.rules.specs.Layout.{header_size, definition_size, particle_size, attribute_size, FlatAttribute, FlatStore, definition_bytes, particle_bytes, attribute_bytes, each}
use Rattle.rules.specs.Decode.{definition_count, particle_count, attribute_count}
use Rattle.rules.specs.Passing.{passes}
use Rattle.rules.proofs.LayoutLaws.{length_definition, length_particle, length_attribute, length_each, each_append}
use Rattle.codec.specs.Laid.{Laid}
use Rattle.layout.specs.Bodies.{width_of, most_form}
use Rattle.layout.proofs.LayoutLaws.{width_within}
use Rattle.lookup.specs.Bodies.{bodies_of, RowsBegin}
use Rattle.store_laws.specs.Forms.{form_bytes, bare_form}
use Rattle.store_laws.proofs.StoreLaws.{Holds, holds}
use Rattle.store_laws.proofs.FormBytesLaws.{Few, few_of, few_definitions, few_particles, few_attributes, ceilings_rows, form_short}
use Rattle.store_laws.proofs.FormLaws.{FormOf, forms_of, own_form, within, good_bodies, counted_definitions, counted_particles, counted_attributes}
use Rattle.plans.specs.AttributeCalls.{attributes_replaced}
use Rattle.attribute_form.specs.Attributes.{AttributeStands}

-- ---- the form of a store that passes
pub form_at_lem : {bs : Bytes} → passes bs ≡ true → {start end : ℕ} → start ≡ header_size → RowsBegin bs end → {form : Bytes} → form ≡ take (end - start) (drop start bs)
    → form ≡ form_bytes (width_of bs) (bodies_of bs)
form_at_lem {bs} q h b e =
    let y : Holds bs = holds bs q in
    let x : Few (bodies_of bs) = few_of (bodies_of bs) (within y) in
    e
    ∙ (own_form y {d = definition_count bs} {p = particle_count bs} {a = attribute_count bs} h b (record { value = refl; small = omega (arith, counted_definitions bs, few_definitions x) })
    (record { value = refl; small = omega (arith, counted_particles bs, few_particles x) }) (record { value = refl; small = omega (arith, counted_attributes bs, few_attributes x) })).bytes

module _ (bs : Bytes) {form : Bytes} (q : passes bs ≡ true) (e : form ≡ form_bytes (width_of bs) (bodies_of bs)) where
  form_small : length form ≤ most_form
  form_small =
      let f : FlatStore = bodies_of bs in
      let h : Holds bs = holds bs q in
      let x : FormOf (width_of bs) f form (length f.definitions) (length f.particles) (length f.attributes) =
      record {
        bytes = e;
        definition_count = refl;
        particle_count = refl;
        attribute_count = refl;
        definitions = (good_bodies h).definitions;
        attributes = (good_bodies h).attributes;
        ceilings = ceilings_rows (bare_form f) f 0 [] (within h);
      } in
      form_short (forms_of x) (width_within bs)

  pub before_small : (at : ℕ) {u : Bytes} → u ≡ take at form → length u ≤ most_form
  before_small at w = omega (arith, ap length w, length-take at form, form_small)

  pub rest_small : (at : ℕ) {u : Bytes} → u ≡ drop at form → length u ≤ most_form
  rest_small at w = omega (arith, ap length w, length-drop at form, form_small)

-- ---- the form, cut before attribute i
module _ (w : ℕ) (f : FlatStore) (i : ℕ) where
  abbrev pub front : Bytes
  front = each definition_bytes f.definitions ++ (each particle_bytes f.particles ++ each (attribute_bytes w) (take i f.attributes))

  pub front_then : (cs : List FlatAttribute) → form_bytes w (attributes_replaced (take i f.attributes ++ cs) f) ≡ front ++ each (attribute_bytes w) cs
  front_then cs =
      let d : Bytes = each definition_bytes f.definitions in
      let p : Bytes = each particle_bytes f.particles in
      let t : Bytes = each (attribute_bytes w) (take i f.attributes) in
      let u : Bytes = each (attribute_bytes w) cs in
      ap (λ (l : Bytes). d ++ (p ++ l)) (each_append (attribute_bytes w) (take i f.attributes) cs) ∙ sym (append_assoc d (p ++ t) u ∙ ap (λ (l : Bytes). d ++ l) (append_assoc p t u))

  form_cut : form_bytes w f ≡ front ++ each (attribute_bytes w) (drop i f.attributes)
  form_cut =
      ap (λ (cs : List FlatAttribute). each definition_bytes f.definitions ++ (each particle_bytes f.particles ++ each (attribute_bytes w) cs)) (sym (take-append-drop i f.attributes))
      ∙ front_then (drop i f.attributes)

  module _ (at : ℕ) (e : at ≡ definition_size * length f.definitions + (particle_size * length f.particles + attribute_size w * i)) (h : i ≤ length f.attributes) where
    front_long : length front ≡ at
    front_long =
        omega (
          arith,
          e,
          length-append (each definition_bytes f.definitions) (each particle_bytes f.particles ++ each (attribute_bytes w) (take i f.attributes)),
          length-append (each particle_bytes f.particles) (each (attribute_bytes w) (take i f.attributes)),
          length_each definition_bytes definition_size length_definition f.definitions,
          length_each particle_bytes particle_size length_particle f.particles,
          length_each (attribute_bytes w) (attribute_size w) (length_attribute w) (take i f.attributes),
          ap (λ (k : ℕ). attribute_size w * k) (length-take-le i f.attributes h),
        )

    form_before : take at (form_bytes w f) ≡ front
    form_before = ap (take at) form_cut ∙ take_at front (each (attribute_bytes w) (drop i f.attributes)) at front_long

    pub form_from : drop at (form_bytes w f) ≡ each (attribute_bytes w) (drop i f.attributes)
    form_from = ap (drop at) form_cut ∙ drop_at front (each (attribute_bytes w) (drop i f.attributes)) at front_long

module _ {w : ℕ} (f : FlatStore) (i : ℕ) {form : Bytes} {at : ℕ} (same : form ≡ form_bytes w f) (s : AttributeStands w f i at) {u out out₁ : Bytes} {r₁ : ℕ} (u-is : u ≡ take at form)
    (x : Laid u out 0 r₁ out₁) where
  pub before_is : i ≤ length f.attributes → u ≡ front w f i
  before_is h = u-is ∙ ap (take at) same ∙ form_before w f i at s.place h

-- ---- a form in a buffer of its ceilings
pub zeros_long : length (replicate {A = ℕ} most_form 0) ≡ most_form
zeros_long = length-replicate {A = ℕ} most_form 0

pub fits : {w buffer left : Bytes} {r : ℕ} → length buffer ≡ most_form → length w ≤ most_form → Laid w buffer 0 r left → r ≤ length left
fits {w} {buffer} long few y = omega (arith, y.next, long, few, ap length y.stored, length-sets buffer 0 w)

-- what a buffer begins with
pub front_laid : {w out left : Bytes} {r : ℕ} → Laid w out 0 r left → length w ≤ length out → take r left ≡ w
front_laid {w} {out} {r = r} x h =
    ap (take r) (x.stored ∙ sets-eq w out 0 (omega arith)) ∙ take_at w (drop (0 + length w) out) r (omega (arith, x.next))
