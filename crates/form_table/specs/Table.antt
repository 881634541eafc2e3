-- The table of a form: an entry for each definition, filled once and looked up for each row.
use Rattle.std.specs.Prelude.{ℕ, zero, suc, ◌<◌, ◌≤◌, ◌≡◌, Bool, true, false, not, ◌&&◌, ◌||◌, List, [], eqb, ltb, length, get_or}
use Rattle.rules.specs.Bytes.{Bytes}
use Rattle.rules.specs.Decode.{version_in, definition_count, particle_count, attribute_count, sort_of}
use Rattle.rules.specs.Conforming.{must_be_present}
use Rattle.layout.specs.declared.Form.{Form}
use Rattle.layout.specs.Bodies.{Width, width_of, definitions_in, particles_in, attributes_in}
use Rattle.sets.specs.Sets.{has}
use Rattle.model.specs.Members.{all_members}
use Rattle.next_children.specs.Line.{NextsLine}
use Rattle.form_index.specs.Reading.{attribute_in, model_part}
use Rattle.form_table.specs.declared.Entry.{Entry}
use Rattle.form_table.specs.Every.{every}

-- a form within the ceilings of a store
pub record FormFew (f : Form) : Type 0 where
  pub width : Width f.width
  pub definitions : f.definition_count ≤ 64
  pub attributes : f.attribute_count ≤ 64

-- attribute j is one that definition i needs
abbrev pub wants : Form → ℕ → ℕ → Bool
wants f i j = eqb (attribute_in f.width f.attributes.now j).owner i && must_be_present f.version (sort_of (attribute_in f.width f.attributes.now j).sort)

-- s has the attributes that definition i needs
pub record Needed (f : Form) (i s : ℕ) : Type 0 where
  pub is : (j : ℕ) → j < 64 → has s j ≡ (ltb j f.attribute_count && wants f i j)

-- of attributes that are needed none is owed after `seen`
abbrev pub freed_of : ℕ → ℕ → ℕ → Bool
freed_of s a zero = true
freed_of s a (suc from) = every (λ j. not (has s j)) a from

-- what a table has for definition i; nothing past its end
abbrev pub entry_at : List Entry → ℕ → Entry
entry_at t i = get_or t i (record { line = record { after = []; lasts = 0; nothing = false }; needed = 0 })

-- the lines of the models of the first i definitions
pub record Modelled (f : Form) (i : ℕ) (t : List Entry) : Type 0 where
  pub line : (k : ℕ) → k < i → NextsLine f.definition_count (all_members (model_part f.definitions.now f.particles.now k)) (entry_at t k).line

-- THE TABLE of a form
pub record Tabled (f : Form) (t : List Entry) : Type 0 where
  pub long : 64 ≤ length t
  pub models : Modelled f f.definition_count t
  pub needed : (i : ℕ) → i < f.definition_count → Needed f i (entry_at t i).needed

-- .. of one within the ceilings
pub record TabledForm (f : Form) (t : List Entry) : Type 0 where
  pub few : FormFew f
  pub table : Tabled f t

-- the form that a byte string says, as one that is lent
abbrev pub form_in : Bytes → Form
form_in bs =
    record {
      version = version_in bs;
      width = width_of bs;
      definition_count = definition_count bs;
      particle_count = particle_count bs;
      attribute_count = attribute_count bs;
      definitions = record { ref_ptr = (0, 0); now = definitions_in bs };
      particles = record { ref_ptr = (0, 0); now = particles_in bs };
      attributes = record { ref_ptr = (0, 0); now = attributes_in bs };
    }

-- .. of the form that a byte string says
pub record TableOf (bs : Bytes) (t : List Entry) : Type 0 where
  pub is : Tabled (form_in bs) t

-- ---- while it is filled
-- the models of the first i definitions, and no attribute yet
pub record Lined (f : Form) (i : ℕ) (t : List Entry) : Type 0 where
  pub models : Modelled f i t
  pub blank : (k : ℕ) → k < i → (entry_at t k).needed ≡ 0

-- the models' lines stay
pub record LinesStay (t t' : List Entry) : Type 0 where
  pub same : (i : ℕ) → (entry_at t' i).line ≡ (entry_at t i).line

-- attribute j more
pub record OneNeed (f : Form) (j : ℕ) (t t' : List Entry) : Type 0 where
  pub apart : LinesStay t t'
  pub wanted : (i k : ℕ) → i < f.definition_count → k < 64 → has (entry_at t' i).needed k ≡ (has (entry_at t i).needed k || (wants f i j && eqb k j))

-- the first a attributes, where there was none
pub record Needs (f : Form) (a : ℕ) (t t' : List Entry) : Type 0 where
  pub apart : LinesStay t t'
  pub wanted : (i k : ℕ) → i < f.definition_count → k < 64 → (entry_at t i).needed ≡ 0 → has (entry_at t' i).needed k ≡ (ltb k a && wants f i k)
