-- The filling of what the bytes of a form hold at the width `w` of a value:
-- of particles, of definitions, of what a change fills with.
use Rattle.std.specs.Prelude.{ℕ, zero, suc, ◌+◌, ◌*◌, ◌<◌, ◌≤◌, Bool, true, false, not, ◌||◌, List, [], ◌∷◌, ltb, length, drop, get_or}
use Rattle.rules.specs.declared.GroupKind.{GroupKind}
use Rattle.rules.specs.declared.GroupKind.TheVariants.{Sequence, Choice}
use Rattle.rules.specs.declared.Quantifier.{Quantifier}
use Rattle.rules.specs.Bytes.{Bytes}
use Rattle.rules.specs.Model.{Members, skips, nothing, unless, filling}
use Rattle.rules.specs.Preorder.{Deep}
use Rattle.rules.specs.Layout.{FlatAttribute, FlatParticle, FlatRow}
use Rattle.rules.specs.Decode.{quantifier_of, group_of, read_particle, sort_of}
use Rattle.rules.specs.Filling.{created_value}
use Rattle.model.specs.declared.What.{What}
use Rattle.model.specs.declared.What.TheVariants.{Element, Group}
use Rattle.model.specs.Particle.{particle_of}
use Rattle.model.specs.Members.{particles_of, members_from, all_members}
use Rattle.layout.specs.Bodies.{Width}
use Rattle.layout.specs.declared.Form.{Form}
use Rattle.form_index.specs.Indices.{IndexForm}
use Rattle.form_index.specs.Reading.{definition_in, attribute_in, model_part, index_form}
use Rattle.row_writer.specs.declared.Cursor.{Cursor}
use Rattle.row_writer.specs.Written.{Room}
use Rattle.filling.specs.declared.Filling.{Filling}
use Rattle.filling.specs.declared.Filling.TheVariants.{Nothing, Definition, Attribute, Particles}
use Rattle.filling.specs.Fillings.{required_rows, fillings_of, content_rows, fill_index, filling_rows}
use Rattle.layout.specs.Fields.{particle_quantifier_at, particle_sort_at}
use Rattle.rules.specs.Layout.{particle_size}

-- ---- 'a particle that accepts nothing fills with nothing'
-- a particle by what it is; `below` are its members
abbrev pub what_filling : Quantifier → What → Members ℕ → List ℕ
what_filling q (Element i) below = unless (skips q) (i ∷ [])
what_filling q (Group k n) below = unless (skips q || nothing k below) (filling k below)

-- the particle of depth d that s begins with
unfoldable pub member_filling : ℕ → Bytes → List ℕ
member_filling d s = what_filling (particle_of (read_particle s)).quantifier (particle_of (read_particle s)).what (members_from (suc d) (drop particle_size s))

-- a member of a LIST whose quantifier lets it be absent fills with nothing; a CHOICE takes its first member as it is
abbrev pub left_out : GroupKind → Quantifier → Bool
left_out Sequence q = skips q
left_out Choice q = false

-- a particle of depth own that a group of kind k with members of depth d goes past: it is deeper, or is left out
abbrev pub passed : ℕ → GroupKind → ℕ → Quantifier → Bool
passed d k own q = ltb d own || left_out k q

-- ---- 'accepts nothing'
-- whether a first member that accepts nothing (true), or does not, settles it for a group of kind k
abbrev pub settled : GroupKind → Bool → Bool
settled Sequence b = not b
settled Choice b = b

-- a particle by its sort; `below` are its members
abbrev pub sort_nothing : Quantifier → ℕ → Members ℕ → Bool
sort_nothing q zero below = skips q
sort_nothing q (suc k) below = skips q || nothing (group_of (suc k)) below

-- the particle of depth d that s begins with
unfoldable pub member_nothing : ℕ → Bytes → Bool
member_nothing d s = sort_nothing (quantifier_of (get_or s particle_quantifier_at 0)) (get_or s particle_sort_at 0) (members_from (suc d) (drop particle_size s))

-- ---- 'a particle that accepts nothing fills with nothing', told of the particles of a group at one go
-- a particle by its sort and quantifier is an element that must be there
abbrev pub element_needed : ℕ → Quantifier → Bool
element_needed zero q = not (skips q)
element_needed (suc k) q = false

-- none of the particles is one, up to the first of a depth less than d: of the members of depth d, and below them; and
-- of those that s holds
unfoldable pub none_needed : ℕ → List (Deep FlatParticle) → Bool
none_needed d [] = true
none_needed d (p ∷ ps) =
    elim (ltb p.depth d) [
      | true ↦ true
      | false ↦ elim (element_needed p.row.sort (quantifier_of p.row.quantifier)) [ true ↦ false | false ↦ none_needed d ps ]
    ]

unfoldable pub no_element_needed : ℕ → Bytes → Bool
no_element_needed d s = none_needed d (particles_of s)

-- the members of depth e from particle k on
unfoldable pub members_read_at : Bytes → ℕ → ℕ → Members ℕ
members_read_at parts k e = members_from e (drop (particle_size * k) parts)

-- ---- rows of depth d
-- the value of a created row of an attribute, and of attribute j
abbrev pub value_of : FlatAttribute → Bytes
value_of c = created_value (sort_of c.sort) c.value

abbrev pub value_in : ℕ → Bytes → ℕ → Bytes
value_in w attrs j = value_of (attribute_in w attrs j)

-- ---- a form that is lent, by indices
abbrev pub index_form_in : Form → IndexForm
index_form_in F = index_form F.version F.width F.definition_count F.definitions.now F.particles.now F.attributes.now F.attribute_count

abbrev pub values_in : Form → ℕ → Bytes
values_in F j = value_in F.width F.attributes.now j

-- of the attributes those that are REQUIRED of definition i: number j alone, and all below n
unfoldable pub required_at : Form → ℕ → ℕ → ℕ → List (Deep FlatRow)
required_at F d i j = required_rows (index_form_in F) (values_in F) d i j 1

unfoldable pub required_in : Form → ℕ → ℕ → ℕ → List (Deep FlatRow)
required_in F d i n = required_rows (index_form_in F) (values_in F) d i 0 n

-- of definitions of at most height h
module _ (F : Form) (txt : Bytes) (h d : ℕ) where
  unfoldable pub definition_rows : ℕ → List (Deep FlatRow)
  definition_rows i = fill_index (index_form_in F) (values_in F) h txt d i

  unfoldable pub member_rows : List ℕ → List (Deep FlatRow)
  member_rows is = fillings_of (index_form_in F) (values_in F) (λ i. definition_rows i) is

  -- what stands below an element of definition i, after its attributes
  unfoldable pub below_rows : ℕ → List (Deep FlatRow)
  below_rows i = content_rows (index_form_in F) (values_in F) (λ j. definition_rows j) txt d (all_members (model_part F.definitions.now F.particles.now i)) (definition_in F.definitions.now i).kind

-- what a change fills with
abbrev pub fill_with : Form → Filling → Bytes → ℕ → List (Deep FlatRow)
fill_with F what txt d = filling_rows (index_form_in F) (λ j. values_in F j) (λ k e. members_read_at F.particles.now k e) what txt d

-- ---- what the writers ask
pub record Asks (F : Form) (c : Cursor) (txt : Bytes) (h d : ℕ) : Type 0 where
  pub width : Width F.width
  pub room : Room F.width c
  pub text : length txt ≤ F.width
  pub attributes : F.attribute_count ≤ 64
  pub deep : d + h < 256

-- an index that its reader or its row takes; a clause, and no ghost field: the functions that make plans take every
-- index
abbrev pub Indexed : Filling → Type 0
Indexed Nothing = Unit {0}
Indexed (Definition i) = i ≤ 256
Indexed (Attribute j) = j < 65536
Indexed (Particles g k e) = (k ≤ 256) × (e ≤ 256)
