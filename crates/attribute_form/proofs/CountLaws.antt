-- How many attributes the definitions up to one have, and the counts of the bodies.
use Prim.Native.Nat.{ℕ, suc, ◌+◌, ◌-◌, ◌*◌, ◌<◌, ◌≤◌}
use native.Mathlib.Omega.{arith}
use borrow.Author.Tests.{le-leb, lt-leb}
use mathlib.Core.Path.{◌≡◌, sym, ap, ◌∙◌}
use mathlib.Core.Bool.{Bool, true, false}
use mathlib.Core.List.{List, ◌∷◌}
use lib.Dec.{leb}
use lib.ListN.{length, get_or}
use Rattle.rules.specs.Bytes.{Bytes}
use Rattle.rules.specs.Layout.{header_size, definition_size, particle_size, attribute_size, FlatAttribute}
use Rattle.rules.specs.Decode.{read_attribute, read_many, definition_count, particle_count, attribute_count}
use Rattle.layout.specs.Bodies.{record_at, width_of, WidthIn, Number, Place, attributes_in}
use Rattle.layout.proofs.LayoutLaws.{record_read, attributes_read}
use Rattle.lookup.specs.Bodies.{bodies_of, records_from}
use Rattle.lookup.proofs.Laws.{from_step, from_none, from_all}
use Rattle.store_check.specs.Reading.{no_attribute}
use Rattle.store_laws.proofs.FormLaws.{counted_definitions, counted_particles, counted_attributes}
use Rattle.plans.specs.AttributeCalls.{attributes_to, owner_at}
use Rattle.attribute_form.specs.Attributes.{AttributeStands, UpTo, To}

-- ---- the bodies
module _ (bs : Bytes) {n : ℕ} where
  pub number_of_definitions : Number (definition_count bs) n → n ≡ length (bodies_of bs).definitions
  number_of_definitions e = e.value ∙ counted_definitions bs

  pub number_of_particles : Number (particle_count bs) n → n ≡ length (bodies_of bs).particles
  number_of_particles e = e.value ∙ counted_particles bs

  pub number_of_attributes : Number (attribute_count bs) n → n ≡ length (bodies_of bs).attributes
  number_of_attributes e = e.value ∙ counted_attributes bs

-- w, attrs: the width and the attributes as the code reads them
module _ (bs : Bytes) {w : ℕ} {attrs : Bytes} (wide : WidthIn bs w) (body : attrs ≡ attributes_in bs) where
  own_attributes_lem : (bodies_of bs).attributes ≡ read_many read_attribute (attribute_size w) (attribute_count bs) attrs
  unfolding bodies_of
  own_attributes_lem = sym (attributes_read bs) ∙ (λ i. read_many read_attribute (attribute_size (sym wide.value i)) (attribute_count bs) (sym body i))

  pub owner_is : (a : ℕ) {rec : Bytes} {x : ℕ} → a < length (bodies_of bs).attributes → rec ≡ record_at (attribute_size w) a attrs → x ≡ (read_attribute rec).owner
      → x ≡ owner_at a (bodies_of bs).attributes
  owner_is a {rec} h e q =
      q ∙ ap (λ (l : Bytes). (read_attribute l).owner) e
      ∙ sym
      (ap (λ (c : FlatAttribute). c.owner)
      (ap (λ (cs : List FlatAttribute). get_or cs a no_attribute) own_attributes_lem
      ∙ record_read read_attribute (attribute_size w) (attribute_count bs) a attrs no_attribute (omega (arith, counted_attributes bs))))

pub stands : (bs : Bytes) (i : ℕ) {w d p r h : ℕ} → WidthIn bs w → Number (definition_count bs) d → Number (particle_count bs) p
    → Place (header_size + definition_size * d + particle_size * p + attribute_size w * i) r → h ≡ header_size
    → AttributeStands (width_of bs) (bodies_of bs) i (r - h)
stands bs i {w} x e q r h =
    let z : attribute_size w * i ≡ attribute_size (width_of bs) * i = ap (λ (k : ℕ). attribute_size k * i) x.value in
    record { place = omega (arith, r.value, h, z, number_of_definitions bs e, number_of_particles bs q); small = omega (arith, r.small) }

-- ---- the count
pub up_to : (o : ℕ) (rec : Bytes) {x : ℕ} → x ≡ (read_attribute rec).owner → x ≤ o → UpTo o (read_attribute rec) 1
up_to o rec {x} e h =
    record {
      more = λ cs. ap (λ (b : Bool). elim b as (λ z. ℕ) [ true ↦ suc (attributes_to o cs) | false ↦ attributes_to o cs ]) (ap (λ (k : ℕ). leb k o) (sym e) ∙ le-leb x o h) ∙ omega arith;
      most = omega arith;
    }

pub past_it : (o : ℕ) (rec : Bytes) {x : ℕ} → x ≡ (read_attribute rec).owner → o < x → UpTo o (read_attribute rec) 0
past_it o rec {x} e h =
    record {
      more = λ cs. ap (λ (b : Bool). elim b as (λ z. ℕ) [ true ↦ suc (attributes_to o cs) | false ↦ attributes_to o cs ]) (ap (λ (k : ℕ). leb k o) (sym e) ∙ lt-leb x o h) ∙ omega arith;
      most = omega arith;
    }

-- `sum` of the first j
pub record Counting (w o : ℕ) (body : Bytes) (count sum j : ℕ) : Type 0 where
  pub rest : attributes_to o (read_many read_attribute (attribute_size w) count body) ≡ sum + attributes_to o (records_from read_attribute (attribute_size w) body count j)
  pub small : sum ≤ j
  pub inside : j ≤ count
  pub bound : count < 4294967296

module _ (w o : ℕ) (body : Bytes) {count : ℕ} where
  pub counting_start : count < 4294967296 → Counting w o body count 0 0
  counting_start h = record { rest = omega (arith, ap (attributes_to o) (from_all read_attribute (attribute_size w) body count 0)); small = omega arith; inside = omega arith; bound = h }

  module _ {sum j : ℕ} (c : Counting w o body count sum j) where
    pub counting_on : j < count → {rec : Bytes} {r : ℕ} → rec ≡ record_at (attribute_size w) j body → UpTo o (read_attribute rec) r → Counting w o body count (sum + r) (j + 1)
    counting_on h {rec} {r} e k =
        let y : attributes_to o (records_from read_attribute (attribute_size w) body count j) ≡ r + attributes_to o (records_from read_attribute (attribute_size w) body count (j + 1)) =
        ap (attributes_to o) (from_step read_attribute (attribute_size w) body count j h)
        ∙ ap (λ (l : Bytes). attributes_to o (read_attribute l ∷ records_from read_attribute (attribute_size w) body count (j + 1))) (sym e)
        ∙ k.more (records_from read_attribute (attribute_size w) body count (j + 1))
        in
        record { rest = omega (arith, c.rest, y); small = omega (arith, c.small, k.most); inside = omega arith; bound = c.bound }

    pub counting_end : (bs : Bytes) → WidthIn bs w → body ≡ attributes_in bs → Number (attribute_count bs) count → count ≤ j → To o (bodies_of bs).attributes sum
    counting_end bs x b e h =
        let z : attributes_to o (bodies_of bs).attributes ≡ attributes_to o (read_many read_attribute (attribute_size w) count body) =
        ap (attributes_to o) (own_attributes_lem bs x b) ∙ ap (λ (n : ℕ). attributes_to o (read_many read_attribute (attribute_size w) n body)) (sym e.value)
        in
        record {
          is = omega (arith, z, c.rest, ap (attributes_to o) (from_none read_attribute (attribute_size w) body count j h));
          most = omega (arith, c.small, c.inside, number_of_attributes bs e);
        }
