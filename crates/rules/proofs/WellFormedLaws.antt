-- The test for well-formed decides it; what a well-formed form gives at a name.
use Prim.Native.Nat.{ℕ, zero, suc, ◌<◌}
use mathlib.Core.Path.{◌≡◌, refl, sym, ap, ◌∙◌}
use mathlib.Core.Logic.{◌⊎◌, inl, inr, ◌↔◌}
use mathlib.Core.Bool.{true, not}
use mathlib.Core.Option.{Option, none, some}
use mathlib.Core.List.Memᴰ
use mathlib.Core.List.{[], ◌∷◌, map, Memᴰ}
use lib.ListN.{length}
use Rattle.rules.specs.Bytes.{Bytes, bytes, all}
use Rattle.rules.specs.Model.{names, Distinct, distinct, full}
use Rattle.rules.specs.Store.{Definition, Form, members}
use Rattle.rules.specs.WellFormed.{definition_name, attribute_name, lookup, known, names_in, members_of, Reaches, reaches_in, stored_name, is_attribute_of}
use Rattle.rules.specs.WellFormed.{GoodDefinition, WellFormed, good_definition, well_formed, is_value}
use Rattle.rules.specs.Change.{definition_at}
use Rattle.rules.proofs.Words.{and_both, and_split}
use Rattle.rules.proofs.Apart.{differs}
use Rattle.rules.proofs.Children.{Sound, sound}
use Rattle.rules.proofs.Sound.{sound_test}
use Rattle.rules.proofs.TestLaws.{not_test, all_test, distinct_test}
use Rattle.rules.proofs.Height.{deep, known_found, reaches_known, acyclic_deep, reaches_test}
use native.Mathlib.Omega.{arith}
use borrow.Author.Tests.{le-leb}
pub use Rattle.rules.proofs.Height.{lookup_member}

pub good_definition_lem : (w : ℕ) (form : Form) (d : Definition) → (good_definition w form d ≡ true) ↔ GoodDefinition w form d
unfolding good_definition sound
good_definition_lem w form d = (to, from)
  where
    to : good_definition w form d ≡ true → GoodDefinition w form d
    to e =
        let (name, e₁) = and_split (stored_name d.name) _ e in
        let (in_range, e₂) = and_split (all (known form) (names (members d))) _ e₁ in
        let (once, e₃) = and_split (distinct bytes (names (members d))) _ e₂ in
        let (groups, e₄) = and_split (full (members d)) _ e₃ in
        let (circle, e₅) = and_split (not (reaches_in form d.name d.name)) _ e₄ in
        let (attribute_names, attributes) = and_split (distinct bytes (map attribute_name d.attributes)) _ e₅ in
        let s : Sound (members d) = (sound_test bytes (members d)).0 (and_both once groups) in
        record {
          name = name;
          in_range = (all_test (known form) (names (members d))).0 in_range;
          once = s.distinct;
          groups = s.full;
          circle = λ r. (not_test (reaches_in form d.name d.name)).0 circle ((reaches_test form d.name d.name).1 r);
          attribute_names = (distinct_test bytes (map attribute_name d.attributes)).0 attribute_names;
          attributes = (all_test (is_attribute_of w) d.attributes).0 attributes;
        }

    from : GoodDefinition w form d → good_definition w form d ≡ true
    from g =
        let (once, groups) = and_split (distinct bytes (names (members d))) _ ((sound_test bytes (members d)).1 record { distinct = g.once; full = g.groups }) in
        and_both g.name (
        and_both ((all_test (known form) (names (members d))).1 g.in_range) (
        and_both once (
        and_both groups (
        and_both ((not_test (reaches_in form d.name d.name)).1 (λ e. g.circle ((reaches_test form d.name d.name).0 e))) (
        and_both ((distinct_test bytes (map attribute_name d.attributes)).1 g.attribute_names) ((all_test (is_attribute_of w) d.attributes).1 g.attributes))))))

pub well_formed_lem : (w : ℕ) (form : Form) → (well_formed w form ≡ true) ↔ WellFormed w form
unfolding well_formed
well_formed_lem w form = (
  λ e.
      let (n, a) = and_split (distinct bytes (map definition_name form)) (all (good_definition w form) form) e in
      record { names = (distinct_test bytes (map definition_name form)).0 n; definitions = λ d m. (good_definition_lem w form d).0 ((all_test (good_definition w form) form).0 a d m) },
  λ f.
      and_both ((distinct_test bytes (map definition_name form)).1 f.names) ((all_test (good_definition w form) form).1 (λ d m. (good_definition_lem w form d).1 (f.definitions d m))),
)

-- one step of a look-up
pub lookup_here : (n : Bytes) (d : Definition) (form : Form) → n ≡ d.name → lookup n (d ∷ form) ≡ some d
lookup_here n d form q = rw (bytes.same← n d.name q, lookup)

pub lookup_there : (n : Bytes) (d : Definition) (form : Form) → (n ≡ d.name → ⊥) → lookup n (d ∷ form) ≡ lookup n form
lookup_there n d form f = rw (differs bytes n d.name f, lookup)

-- names stand once: a definition is found under its own
pub lookup_distinct : (form : Form) → Distinct (map definition_name form) → (d : Definition) → Memᴰ d form → lookup d.name form ≡ some d
lookup_distinct [] u d m = absurd (Memᴰ.not-nil m)
lookup_distinct (c ∷ form) (n, u) d m = by (Memᴰ.cases_cons m) (lookup_distinct form u d)
  where
    by : (d ≡ c) ⊎ Memᴰ d form → (Memᴰ d form → lookup d.name form ≡ some d) → lookup d.name (c ∷ form) ≡ some d
    by (inl q) f = lookup_here d.name c form (ap definition_name q) ∙ ap (λ (z : Definition). some z) (sym q)
    by (inr i) f = lookup_there d.name c form (λ q. n (Memᴰ.cast (sym q) (Memᴰ.map definition_name i))) ∙ f i

-- the definition with an index is one of the form
pub definition_stands : (form : Form) (i : ℕ) → i < length form → Memᴰ (definition_at i form) form
definition_stands [] i h = absurd (omega arith)
definition_stands (d ∷ ds) zero h = Memᴰ.head refl
definition_stands (d ∷ ds) (suc i) h = Memᴰ.tail (definition_stands ds i (omega arith))

module _ (w : ℕ) (form : Form) (ok : well_formed w form ≡ true) where
  pub definition_good : (n : Bytes) (d : Definition) → lookup n form ≡ some d → GoodDefinition w form d
  definition_good n d e = ((well_formed_lem w form).0 ok).definitions d (lookup_member n form d e).0

  -- every member is known
  pub members_known : (n m : Bytes) → Memᴰ m (members_of n form) → known form m ≡ true
  members_known n m = by (lookup n form) refl
    where
      by : (o : Option Definition) → lookup n form ≡ o → Memᴰ m (names_in o) → known form m ≡ true
      by none q i = absurd (Memᴰ.not-nil i)
      by (some d) q i = (definition_good n d q).in_range m i

  -- no definition reaches itself
  pub no_circle : (n : Bytes) → Reaches form n n → ⊥
  no_circle n r =
      let (d, e) = known_found form n (reaches_known form r) in
      let q : d.name ≡ n = (lookup_member n form d e).1 in
      (definition_good n d e).circle (rw q r)

  pub definition_deep : (n : Bytes) → known form n ≡ true → deep (length form) form n ≡ true
  definition_deep = acyclic_deep form members_known no_circle

-- the empty text is a value of any width
pub none_value : (w : ℕ) → is_value w [] ≡ true
none_value w = and_both (le-leb 0 w (omega arith)) refl
