-- The form that declarations say, as the bytes of a store: the ceilings, the names of its definitions, its parts.
use Prim.Native.Nat.{ℕ, ◌+◌, ◌≤◌}
use mathlib.Core.Path.{◌≡◌, refl, sym, ap, ap₂, ◌∙◌}
use mathlib.Core.Bool.{Bool, true, false, ◌&&◌, false≢true}
use mathlib.Core.List.{List, [], ◌∷◌, ◌++◌, map, append-nil}
use native.Mathlib.Omega.{arith}
use borrow.Author.Tests.{leb-true}
use lib.Dec.{leb}
use Rattle.std.specs.Prelude.{Option, Some, None}
use lib.ListN.{length, take, drop, length-take, length-append}
use lib.Seq.{sets-eq, take_at}
use Rattle.rules.specs.Bytes.{Bytes}
use Rattle.rules.specs.Layout.{le, FlatDefinition, definition_size, particle_size, attribute_size, definition_bytes, particle_bytes, attribute_bytes, each, flat_bytes}
use Rattle.rules.specs.WellFormed.{in_name, within_ceilings}
use Rattle.rules.specs.Decode.{read_definition, read_many, flat_name}
use Rattle.rules.proofs.Words.{and_split, and_held}
use Rattle.rules.proofs.BooleanLaws.{Every}
use Rattle.rules.proofs.LayoutLaws.{GoodFlatDefinition, length_definition, length_particle, length_attribute, read_definition_lem, length_each, read_each}
use Rattle.codec.specs.Laid.{Laid}
use Rattle.codec.proofs.Writers.{laid_then, laid_as, laid_long}
use Rattle.layout.specs.Bodies.{Width}
use Rattle.layout.specs.Header.{contents}
use Rattle.layout.proofs.HeaderLaws.{attributes_few}
use Rattle.text_scan.specs.Scan.{front_while}
use Rattle.declaration_scan.specs.Declared.{is_definition, after_declared, model_of_content, definition_of_line, definitions_of_lines, particles_of_lines, attributes_of_lines, declarations, declared_form}
use Rattle.declaration_scan.specs.Names.{written_names}
use Rattle.model_scan.specs.Scanning.{shallow}
use Rattle.declaration_reading.specs.declared.Body.TheVariants.{Definitions, Particles, Attributes}
use Rattle.declaration_reading.specs.Lines.{Counted, said_definitions, said_particles, said_attributes, form_head, form_bodies, FormFits, Ready, FormRead}
use Rattle.declaration_reading.proofs.LineLaws.{said, particles_alike, attributes_alike}

-- ---- the ceilings
module _ (txt : Bytes) {d p a : ℕ} {low : Bool} (c : Counted (declarations txt) d p a low) where
  abbrev names : List Bytes
  names = map flat_name (definitions_of_lines (declarations txt))

  particles_count : p ≡ length (particles_of_lines names (declarations txt))
  particles_count = c.particles_are ∙ (particles_alike [] names (declarations txt)).long

  attributes_count : (w : ℕ) → a ≡ length (attributes_of_lines w 0 (declarations txt))
  attributes_count w = c.attributes_are ∙ attributes_alike 0 w 0 0 (declarations txt)

  module _ (b : Bool) (e : b ≡ (leb d 64 && (leb p 256 && (low && leb a 64)))) where
    pub ceilings_are : (version w : ℕ) → b ≡ within_ceilings (declared_form version w txt)
    unfolding declared_form
    ceilings_are version w =
        e
        ∙ (λ i. leb (c.definitions_are i) 64
        && (leb (particles_count i) 256 && ((c.low_is ∙ (particles_alike [] names (declarations txt)).low) i && leb (attributes_count w i) 64)))
        ∙ ap (λ (t : Bool). leb (length (definitions_of_lines (declarations txt))) 64
        && (leb (length (particles_of_lines names (declarations txt))) 256 && (shallow (particles_of_lines names (declarations txt)) && t)))
        (sym (and_held (leb (length (attributes_of_lines w 0 (declarations txt))) 64) true refl))

    pub form_fits : b ≡ true → FormFits 0 (declarations txt)
    form_fits h =
        let (ds, rest) = and_split (leb d 64) (leb p 256 && (low && leb a 64)) (sym e ∙ h) in
        let (ps, others) = and_split (leb p 256) (low && leb a 64) rest in
        let (deep, os) = and_split low (leb a 64) others in
        record {
          definitions = omega (arith, leb-true d 64 ds, c.definitions_are);
          particles = omega (arith, leb-true p 256 ps, c.particles_are);
          attributes = omega (arith, leb-true a 64 os, c.attributes_are);
          low = sym c.low_is ∙ deep;
        }

    -- the counts themselves
    pub counts_fit_lem : b ≡ true → (d ≤ 64) × (p ≤ 256) × (a ≤ 64)
    counts_fit_lem h = let f = form_fits h in (omega (arith, f.definitions, c.definitions_are), omega (arith, f.particles, c.particles_are), omega (arith, f.attributes, c.attributes_are))

-- ---- the definitions that were written aside
abbrev counted : Bool → FlatDefinition → List FlatDefinition → List FlatDefinition
counted b d ds = elim b [ true ↦ d ∷ ds | false ↦ ds ]

definitions_good : (ls : List Bytes) → length (particles_of_lines [] ls) ≤ 256 → Every GoodFlatDefinition (definitions_of_lines ls)
unfolding definitions_of_lines particles_of_lines
definitions_good [] h = tt
definitions_good (l ∷ ls) h = by (is_definition l) h (definitions_good ls)
  where
    by : (b : Bool) → length (said b (model_of_content [] (after_declared l)) (particles_of_lines [] ls)) ≤ 256 → (length (particles_of_lines [] ls) ≤ 256 → Every GoodFlatDefinition (definitions_of_lines ls))
        → Every GoodFlatDefinition (counted b (definition_of_line l) (definitions_of_lines ls))
    by true h rest =
        let both = length-append (model_of_content [] (after_declared l)) (particles_of_lines [] ls) in
        (record { name = omega (arith, length-take 16 (front_while in_name (drop 10 l))); particles = omega (arith, both) }, rest (omega (arith, both)))
    by false h rest = rest h

module _ (ls : List Bytes) {o : ℕ} (f : FormFits o ls) where
  pub definitions_size : length (said_definitions ls) ≤ 1280
  unfolding said_definitions
  definitions_size = omega (arith, length_each definition_bytes definition_size length_definition (definitions_of_lines ls), f.definitions)

  pub particles_size : (ns : List Bytes) → length (said_particles ns ls) ≤ 1024
  unfolding said_particles
  particles_size ns = omega (arith, length_each particle_bytes particle_size length_particle (particles_of_lines ns ls), (particles_alike ns [] ls).long, f.particles)

  pub attributes_size : (w : ℕ) → Width w → length (said_attributes w 0 ls) ≤ 17664
  unfolding said_attributes
  attributes_size w h =
      let few : length (attributes_of_lines w 0 ls) ≤ 64 = omega (arith, attributes_alike w 0 0 0 ls, f.attributes) in
      omega (arith, length_each (attribute_bytes w) (attribute_size w) (length_attribute w) (attributes_of_lines w 0 ls), attributes_few w (length (attributes_of_lines w 0 ls)) h few)

  pub particles_fit : (ns : List Bytes) → shallow (particles_of_lines ns ls) ≡ true
  particles_fit ns = (particles_alike ns [] ls).low ∙ f.low

-- d definitions, as many as there are, stand in the first `size` bytes
pub record Aside (ls : List Bytes) (d : ℕ) (defs : Bytes) (size : ℕ) : Type 0 where
  pub few : d ≤ 64
  pub short : size ≤ 1280
  pub long : length defs ≡ 1280
  pub front : take size defs ≡ said_definitions ls
  pub sized : size ≡ length (take size defs)
  pub names : written_names d defs ≡ map flat_name (definitions_of_lines ls)

module _ {ls : List Bytes} (f : FormFits 0 ls) where
  pub definitions_ready : Ready Definitions [] 0 0 ls
  definitions_ready = record { asks = tt; fits = f; room = omega (arith, definitions_size ls f) }

  pub written_aside : {d : ℕ} {zeros defs : Bytes} {size : ℕ} → d ≡ length (definitions_of_lines ls) → length zeros ≡ 1280 → Laid (said_definitions ls) zeros 0 size defs → Aside ls d defs size
  unfolding written_names said_definitions
  written_aside {d} {zeros} {defs} {size} e whole l =
      record {
        few = omega (arith, e, f.definitions);
        short = omega (arith, l.next, definitions_size ls f);
        long = laid_long l ∙ whole;
        front = front;
        sized = omega (arith, l.next, ap length front);
        names =
            ap (map flat_name)
            (ap₂ (read_many read_definition definition_size) e parts
            ∙ read_each read_definition definition_bytes definition_size GoodFlatDefinition length_definition read_definition_lem (definitions_of_lines ls) rest
            (definitions_good ls f.particles));
      }
    where
      bytes : Bytes
      bytes = each definition_bytes (definitions_of_lines ls)

      rest : Bytes
      rest = drop (0 + length bytes) zeros

      parts : defs ≡ bytes ++ rest
      parts = l.stored ∙ sets-eq bytes zeros 0 (omega (arith, definitions_size ls f, whole))

      front : take size defs ≡ bytes
      front = ap (take size) parts ∙ take_at bytes rest size (omega (arith, l.next))

-- ---- the parts of the bytes
-- the header by the lists themselves
abbrev head_of : ℕ → ℕ → List Bytes → Bytes
head_of version w ls = form_head version w (length (definitions_of_lines ls)) (length (particles_of_lines (map flat_name (definitions_of_lines ls)) ls)) (length (attributes_of_lines w 0 ls))

flat_parts : (version w : ℕ) (txt : Bytes) → flat_bytes w (declared_form version w txt) ≡ head_of version w (declarations txt) ++ form_bodies w (declarations txt)
unfolding declared_form form_head form_bodies contents said_definitions said_particles said_attributes
flat_parts version w txt =
    ap (λ (z : Bytes). head_of version w ls ++ (each definition_bytes (definitions_of_lines ls) ++ (each particle_bytes (particles_of_lines (map flat_name (definitions_of_lines ls)) ls) ++ z)))
    (append-nil (each (attribute_bytes w) (attributes_of_lines w 0 ls)))
  where
    ls : List Bytes
    ls = declarations txt

pub head_laid : (version w d p a : ℕ) {out o₁ o₂ o₃ : Bytes} {a₁ a₂ r : ℕ} → Laid (le 4 version) out 0 a₁ o₁ → Laid (le 4 1) o₁ a₁ a₂ o₂ → Laid (contents w d p a 0) o₂ a₂ r o₃
    → Laid (form_head version w d p a) out 0 r o₃
unfolding form_head
head_laid version w d p a x y z = laid_then x (laid_then y z)

pub head_size : (version w d p a : ℕ) {out out' : Bytes} {r : ℕ} → Laid (form_head version w d p a) out 0 r out' → r ≤ 40
unfolding form_head contents
head_size version w d p a l = omega (arith, l.next)

module _ (version w : ℕ) (txt : Bytes) {d p a : ℕ} {low : Bool} (c : Counted (declarations txt) d p a low) (b : Bool) (e : b ≡ (leb d 64 && (leb p 256 && (low && leb a 64)))) where
  abbrev Reads : Bytes → Option ℕ → Bytes → Type 0
  Reads form r form' = FormRead (flat_bytes w (declared_form version w txt)) (within_ceilings (declared_form version w txt)) form r form'

  pub form_refused : b ≡ false → {form : Bytes} → Reads form None form
  form_refused h = record { written = λ t. absurd (false≢true (sym h ∙ ceilings_are txt c b e version w ∙ t)); refused = λ t. refl }

  pub form_read_lem : b ≡ true → {form o₁ o₂ : Bytes} {at r : ℕ} → Laid (form_head version w d p a) form 0 at o₁ → Laid (form_bodies w (declarations txt)) o₁ at r o₂ → Reads form (Some r) o₂
  form_read_lem h x y =
      record {
        written = λ t. laid_as
            (flat_parts version w txt
            ∙ (λ i. form_head version w (sym c.definitions_are i) (sym (particles_count txt c) i) (sym (attributes_count txt c w) i) ++ form_bodies w (declarations txt)))
            (laid_then x y);
        refused = λ t. absurd (false≢true (sym t ∙ sym (ceilings_are txt c b e version w) ∙ h));
      }

-- ---- the bodies, one after the other: the definitions from aside, then the particles, then the attributes
module _ {ls : List Bytes} (f : FormFits 0 ls) {d : ℕ} {defs : Bytes} {size : ℕ} (s : Aside ls d defs size) where
  module _ {out o₁ : Bytes} {at a₁ : ℕ} (h : at ≤ 40) (x : Laid (take size defs) out at a₁ o₁) where
    defined_next : a₁ ≤ 1320
    defined_next = omega (arith, x.next, s.sized, s.short)

    pub particles_ready : Ready (Particles d) defs a₁ 0 ls
    particles_ready =
        record { asks = (s.few, omega (arith, s.few, s.long)); fits = f; room = omega (arith, defined_next, particles_size ls f (written_names d defs)) }

    module _ {w : ℕ} (g : Width w) {o₂ : Bytes} {a₂ : ℕ} (y : Laid (said_particles (written_names d defs) ls) o₁ a₁ a₂ o₂) where
      pub attributes_ready : Ready (Attributes w) defs a₂ 0 ls
      attributes_ready =
          record { asks = g; fits = f; room = omega (arith, defined_next, y.next, particles_size ls f (written_names d defs), attributes_size ls f w g) }

      pub bodies_laid : {o₃ : Bytes} {r : ℕ} → Laid (said_attributes w 0 ls) o₂ a₂ r o₃ → Laid (form_bodies w ls) out at r o₃
      unfolding form_bodies
      bodies_laid z = laid_then (laid_as (sym s.front) x) (laid_then (laid_as (ap (λ (ms : List Bytes). said_particles ms ls) (sym s.names)) y) z)
