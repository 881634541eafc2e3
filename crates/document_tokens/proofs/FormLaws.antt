-- What a token asks of a form: the kind of a definition, and the place of an attribute.
use mathlib.Core.Path.{◌≡◌, refl, sym, ap, ◌∙◌}
use mathlib.Core.Bool.{Bool, true, false, ◌&&◌}
use mathlib.Core.List.{List, [], ◌∷◌}
use Prim.Native.Nat.{ℕ, zero, suc, ◌+◌, ◌*◌, ◌<◌, ◌≤◌}
use native.Mathlib.Omega.{arith}
use native.Mathlib.Nat.{mul-suc, zero-add}
use lib.Dec.{eqb}
use native.Mathlib.Numerals.{add-one}
use Rattle.std.specs.Prelude.{Option, None, Some, MatchOption}
use lib.ListN.{length, take, drop}
use lib.Seq.{drop-drop}
use Rattle.rules.specs.Bytes.{Bytes, same}
use Rattle.rules.specs.Layout.{header_size, definition_size, attribute_size, FlatAttribute}
use Rattle.rules.specs.Decode.{read_definition, read_attribute, read_many, definition_count, attribute_count}
use Rattle.codec.proofs.Records.{length_many}
use Rattle.layout.specs.Bodies.{width_of}
use Rattle.lookup.specs.Bodies.{bodies_of}
use Rattle.lookup.proofs.Laws.{from_all, from_none}
use Rattle.printing_parts.specs.Parts.{from_definitions, from_attributes, definition_part, attribute_part, attributes_from}
use Rattle.printing_parts.proofs.PartLaws.{attribute_step}
use Rattle.declaration_scan.specs.Names.{PlaceIn}
use Rattle.document_tokens.specs.Tokens.{kind_of_definition, attribute_among}

-- ---- how many
module _ (bs : Bytes) where
  pub definitions_many : length (bodies_of bs).definitions ≡ definition_count bs
  unfolding bodies_of
  definitions_many = length_many read_definition definition_size (definition_count bs) (drop header_size bs)

  pub attributes_many : length (bodies_of bs).attributes ≡ attribute_count bs
  unfolding bodies_of
  attributes_many = length_many read_attribute (attribute_size (width_of bs)) (attribute_count bs) _

-- ---- the kind of a definition
kind_at : (n i : ℕ) (bs : Bytes) → i < n → kind_of_definition i (read_many read_definition definition_size n bs) ≡ (read_definition (take definition_size (drop (definition_size * i) bs))).kind
unfolding kind_of_definition
kind_at zero i bs h = absurd (omega arith)
kind_at (suc n) zero bs h = refl
kind_at (suc n) (suc i) bs h =
    let place : definition_size + definition_size * i ≡ definition_size * suc i = omega (arith, mul-suc definition_size i) in
    kind_at n i (drop definition_size bs) (omega arith)
    ∙ ap (λ (l : Bytes). (read_definition (take definition_size l)).kind) (drop-drop (definition_size * i) definition_size bs ∙ ap (λ (k : ℕ). drop k bs) place)

kind_past : (n i : ℕ) (bs : Bytes) → n ≤ i → kind_of_definition i (read_many read_definition definition_size n bs) ≡ 0
unfolding kind_of_definition
kind_past zero i bs h = refl
kind_past (suc n) zero bs h = absurd (omega arith)
kind_past (suc n) (suc i) bs h = kind_past n i (drop definition_size bs) (omega arith)

module _ (bs : Bytes) (i : ℕ) where
  pub kind_there : i < definition_count bs → kind_of_definition i (bodies_of bs).definitions ≡ (read_definition (definition_part bs i)).kind
  unfolding bodies_of definition_part from_definitions
  kind_there h = kind_at (definition_count bs) i (drop header_size bs) h

  pub kind_none : definition_count bs ≤ i → kind_of_definition i (bodies_of bs).definitions ≡ 0
  unfolding bodies_of
  kind_none h = kind_past (definition_count bs) i (drop header_size bs) h

-- ---- the place of an attribute
among_here : (o : ℕ) (n : Bytes) (a : FlatAttribute) (table : List FlatAttribute) → (eqb o a.owner && same n a.name) ≡ true → attribute_among o n (a ∷ table) ≡ 0
unfolding attribute_among
among_here o n a table e = rw (e, attribute_among)

among_past : (o : ℕ) (n : Bytes) (a : FlatAttribute) (table : List FlatAttribute) → (eqb o a.owner && same n a.name) ≡ false → attribute_among o n (a ∷ table) ≡ suc (attribute_among o n table)
unfolding attribute_among
among_past o n a table e = rw (e, attribute_among)

among_none : (o : ℕ) (n : Bytes) (table : List FlatAttribute) → length table ≡ 0 → attribute_among o n table ≡ 0
unfolding attribute_among
among_none o n [] e = refl
among_none o n (a ∷ table) e = absurd (omega arith)

-- the attributes from number i on are left
record Placing (bs : Bytes) (o : ℕ) (n : Bytes) (i : ℕ) : Type 0 where
  low : i ≤ attribute_count bs
  rest : attribute_among o n (bodies_of bs).attributes ≡ i + attribute_among o n (attributes_from bs (attribute_count bs) i)

abbrev attribute_at : Bytes → ℕ → Bytes → ℕ → Bool
attribute_at bs o n i = eqb o (read_attribute (attribute_part bs i)).owner && same n (read_attribute (attribute_part bs i)).name

module _ (bs : Bytes) (o : ℕ) (n : Bytes) where
  placing_start : Placing bs o n 0
  unfolding bodies_of from_attributes
  placing_start =
      record {
        low = omega arith;
        rest = sym (zero-add _ ∙ ap (attribute_among o n) (from_all read_attribute (attribute_size (width_of bs)) (from_attributes bs) (attribute_count bs) 0));
      }

  module _ {i : ℕ} (p : Placing bs o n i) where
    module _ (h : i < attribute_count bs) where
      abbrev later : List FlatAttribute
      later = attributes_from bs (attribute_count bs) (i + 1)

      here : attribute_among o n (bodies_of bs).attributes ≡ i + attribute_among o n (read_attribute (attribute_part bs i) ∷ later)
      here = p.rest ∙ ap (λ (l : List FlatAttribute). i + attribute_among o n l) (attribute_step bs (attribute_count bs) i h)

      placing_hit : attribute_at bs o n i ≡ true → i ≡ attribute_among o n (bodies_of bs).attributes
      placing_hit q = sym (here ∙ omega (arith, among_here o n (read_attribute (attribute_part bs i)) later q))

      placing_on : attribute_at bs o n i ≡ false → Placing bs o n (i + 1)
      placing_on q = record { low = omega arith; rest = here ∙ omega (arith, among_past o n (read_attribute (attribute_part bs i)) later q) }

    placing_end : attribute_count bs ≤ i → attribute_among o n (bodies_of bs).attributes ≡ i
    placing_end h =
        p.rest
        ∙ omega (arith, among_none o n (attributes_from bs (attribute_count bs) i) (ap length (from_none read_attribute (attribute_size (width_of bs)) (from_attributes bs) (attribute_count bs) i h)))

  placing_to : (i : ℕ) → i ≤ attribute_count bs → ((k : ℕ) → k < i → attribute_at bs o n k ≡ false) → Placing bs o n i
  placing_to zero h f = placing_start
  placing_to (suc i) h f = rw (← add-one i) (placing_on (placing_to i (omega arith) (λ k l. f k (omega arith))) (omega arith) (f i (omega arith)))

  -- what a search from the front says
  pub attribute_found : {count : ℕ} → count ≡ attribute_count bs → (r : Option ℕ)
      → MatchOption r ((k : ℕ) → 0 ≤ k → k < count → attribute_at bs o n k ≡ false)
      (λ i. (0 ≤ i) × (i < count) × (attribute_at bs o n i ≡ true) × ((k : ℕ) → 0 ≤ k → k < i → attribute_at bs o n k ≡ false))
      → PlaceIn (length (bodies_of bs).attributes) (attribute_among o n (bodies_of bs).attributes) r
  attribute_found e None f =
      record { found = placing_end (placing_to (attribute_count bs) (omega arith) (λ k h. f k (omega arith) (omega arith))) (omega arith) ∙ sym (attributes_many bs) }
  attribute_found e (Some i) (z, h, q, f) =
      record { found = (placing_hit (placing_to i (omega arith) (λ k l. f k (omega arith) l)) (omega arith) q, omega (arith, attributes_many bs)) }
