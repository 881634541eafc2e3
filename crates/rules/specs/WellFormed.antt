-- 'Well-formed', with the names, values and ceilings it speaks of: in the paper's words, and as a test.
use Rattle.std.specs.Prelude.{ℕ, zero, suc, ◌≡◌, Bool, true, false, ◌&&◌, ◌||◌, not, eqb, leb, length}
use Rattle.std.proofs.Math.Option.{Option, none, some}
use mathlib.Core.List.{List, [], ◌∷◌, map, Memᴰ}
use Rattle.rules.specs.declared.AttributeSort.{AttributeSort}
use Rattle.rules.specs.declared.AttributeSort.TheVariants.{Implied, Required, Fixed}
use Rattle.rules.specs.Bytes.{Bytes, same, bytes, all, any, between, is_none}
use Rattle.rules.specs.Model.{names, Distinct, Full, distinct, full}
use Rattle.rules.specs.Store.{Attribute, Definition, Form, members}
use Rattle.rules.specs.Preorder.{Deep}
use Rattle.rules.specs.Layout.{name_width, FlatParticle, FlatStore}

-- ---- names and values
abbrev pub starts_name : ℕ → Bool
starts_name x = between 65 90 x || between 97 122 x || eqb x 95

abbrev pub in_name : ℕ → Bool
in_name x = starts_name x || between 48 57 x || eqb x 45 || eqb x 46

-- 'Names: 1–16 bytes, first a letter or `_`, then also digits, `-`, `.`'
abbrev pub is_name : Bytes → Bool
is_name [] = false
is_name (x ∷ xs) = starts_name x && all in_name xs && leb (length (x ∷ xs)) name_width

-- paper 02, W1: 'XML 1.0 section 2.3 reserves names whose first three bytes are x, m, l, each in either case':
-- x 120, X 88; m 109, M 77; l 108, L 76
abbrev pub reserved_name : Bytes → Bool
reserved_name [] = false
reserved_name (a ∷ []) = false
reserved_name (a ∷ b ∷ []) = false
reserved_name (a ∷ b ∷ c ∷ rest) = (eqb a 120 || eqb a 88) && ((eqb b 109 || eqb b 77) && (eqb c 108 || eqb c 76))

-- the name test of the check: 'Stores that already hold one still pass the check'
abbrev pub stored_name : Bytes → Bool
stored_name n = is_name n

-- the name test of changes 1 and 9: 'Creating a definition or adding an attribute now treats such a name as bad (2)'
abbrev pub given_name : Bytes → Bool
given_name n = is_name n && not (reserved_name n)

-- a value of at most w bytes
abbrev pub is_value : ℕ → Bytes → Bool
is_value w v = leb (length v) w && all (between 0x20 0x7E) v

-- ---- ceilings, of what the bodies hold
abbrev pub highest_number : ℕ
highest_number = 4294967295

abbrev pub within_ceilings : FlatStore → Bool
within_ceilings f =
    leb (length f.definitions) 64
    && (leb (length f.particles) 256
    && (all (λ (p : Deep FlatParticle). leb p.depth 4) f.particles
    && (leb (length f.attributes) 64 && leb (length f.rows) 4096)))

-- ---- definitions by name
abbrev pub definition_name : Definition → Bytes
definition_name d = d.name

abbrev pub attribute_name : Attribute → Bytes
attribute_name a = a.name

abbrev pub lookup : Bytes → Form → Option Definition
lookup n [] = none
lookup n (d ∷ ds) = elim (same n d.name) [ true ↦ some d | false ↦ lookup n ds ]

abbrev pub is_there : {A : Type 0} → Option A → Bool
is_there none = false
is_there (some x) = true

abbrev pub known : Form → Bytes → Bool
known form n = is_there (lookup n form)

-- the names in a definition's model
abbrev pub names_in : Option Definition → List Bytes
names_in none = []
names_in (some d) = names (members d)

abbrev pub members_of : Bytes → Form → List Bytes
members_of n form = names_in (lookup n form)

-- ---- reaching through models
pub data Reaches (form : Form) : Bytes → Bytes → Type 0 where
  directly : {n m : Bytes} → Memᴰ m (members_of n form) → Reaches form n m
  through : {n m k : Bytes} → Memᴰ m (members_of n form) → Reaches form m k → Reaches form n k

-- n reaches the target through at most so many models
abbrev pub reaches : ℕ → Form → Bytes → Bytes → Bool
reaches zero form target n = false
reaches (suc h) form target n = any (λ m. same m target || reaches h form target m) (members_of n form)

-- through any number of models: no more than there are definitions are needed
abbrev pub reaches_in : Form → Bytes → Bytes → Bool
reaches_in form n target = reaches (length form) form target n

-- no definition and no attribute has a name that is reserved
abbrev pub unreserved : Definition → Bool
unreserved d = not (reserved_name d.name) && all (λ (a : Attribute). not (reserved_name a.name)) d.attributes

unfoldable pub none_reserved : Form → Bool
none_reserved form = all unreserved form

-- ---- well-formed
-- a REQUIRED fill is not empty, an IMPLIED value is
abbrev pub is_fill : AttributeSort → Bytes → Bool
is_fill Implied v = is_none v
is_fill Required v = not (is_none v)
is_fill Fixed v = true

abbrev pub is_attribute_of : ℕ → Attribute → Bool
is_attribute_of w a = stored_name a.name && (is_value w a.value && is_fill a.sort a.value)

pub record GoodDefinition (w : ℕ) (form : Form) (d : Definition) : Type 0 where
  pub name : stored_name d.name ≡ true
  pub in_range : (m : Bytes) → Memᴰ m (names (members d)) → known form m ≡ true
  pub once : Distinct (names (members d))
  pub groups : Full (members d)
  pub circle : Reaches form d.name d.name → ⊥
  pub attribute_names : Distinct (map attribute_name d.attributes)
  pub attributes : (a : Attribute) → Memᴰ a d.attributes → is_attribute_of w a ≡ true

-- 'Well-formed', but for layout and ceilings: names distinct, and every definition good
pub record WellFormed (w : ℕ) (form : Form) : Type 0 where
  pub names : Distinct (map definition_name form)
  pub definitions : (d : Definition) → Memᴰ d form → GoodDefinition w form d

-- the same as a test
unfoldable pub good_definition : ℕ → Form → Definition → Bool
good_definition w form d =
    stored_name d.name
    && (all (known form) (names (members d))
    && (distinct bytes (names (members d))
    && (full (members d)
    && (not (reaches_in form d.name d.name)
    && (distinct bytes (map attribute_name d.attributes) && all (is_attribute_of w) d.attributes)))))

unfoldable pub well_formed : ℕ → Form → Bool
well_formed w form = distinct bytes (map definition_name form) && all (good_definition w form) form
