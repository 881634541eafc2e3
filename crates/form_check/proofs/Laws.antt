-- Loops over pairs of records: what is left to compare from one on.
use Prim.Native.Nat.{ℕ, zero, suc, ◌+◌, ◌-◌, ◌*◌, ◌≤◌, ◌<◌}
use native.Mathlib.Omega.{arith}
use lib.ListN.{take, drop}
use borrow.Author.Tests.{le-leb, lt-leb}
use mathlib.Core.Path.{◌≡◌, refl, sym, ap, ap₂, ◌∙◌}
use mathlib.Core.Bool.{Bool, true, false, ◌&&◌, ◌||◌, not}
use mathlib.Core.List.{List, [], ◌∷◌, map}
use Rattle.std.specs.List.{list_any, range_with_len}
use Rattle.rules.specs.Bytes.{Bytes, same, bytes, any}
use Rattle.rules.specs.Model.{member, distinct}
use Rattle.rules.specs.Layout.{definition_size, particle_size, attribute_size, FlatDefinition, FlatAttribute, FlatStore}
use Rattle.rules.specs.Decode.{flat_name, read_definition, read_particle, read_attribute, read_bodies}
use Rattle.form_check.specs.FormTests.{definitions_apart, models_fit, clashes, owners_rise, attributes_apart, bodies_fit}
use Rattle.model_check.specs.Particles.{particles_read, apart}
use Rattle.form_check.specs.Bodies.{definitions, attributes, form_of_bodies, same_name}
use Rattle.form_check.proofs.Reading.{definitions_length}
use Rattle.codec.proofs.Records.{many_within}

-- ---- no two alike
not-or : (a b : Bool) → not (a || b) ≡ (not a && not b)
not-or true b = refl
not-or false b = refl

any_listed : (test : ℕ → Bool) (js : List ℕ) → list_any test js ≡ any test js
any_listed test [] = refl
any_listed test (j ∷ js) = ap (λ (b : Bool). test j || b) (any_listed test js)

-- no number from i on clashes with a later one
pub none_apart : (clash : ℕ → ℕ → Bool) (n k i : ℕ) → i + k ≡ n
    → not (list_any (λ (j : ℕ). list_any (clash j) (range_with_len (j + 1) (n - (j + 1)))) (range_with_len i k)) ≡ apart clash (range_with_len i k)
unfolding apart
none_apart clash n zero i e = refl
none_apart clash n (suc k) i e =
    let left : n - (i + 1) ≡ k = omega (arith, e) in
    not-or (list_any (clash i) (range_with_len (i + 1) (n - (i + 1)))) (list_any (λ (j : ℕ). list_any (clash j) (range_with_len (j + 1) (n - (j + 1)))) (range_with_len (i + 1) k))
    ∙ ap₂ (λ (b d : Bool). not b && d) (ap (λ (l : ℕ). list_any (clash i) (range_with_len (i + 1) l)) left ∙ any_listed (clash i) (range_with_len (i + 1) k))
    (none_apart clash n k (i + 1) (omega (arith, e)))

-- ---- the tests are of this form
named : (x : Bytes) (ds : List FlatDefinition) → member bytes x (map flat_name ds) ≡ any (λ (d : FlatDefinition). same x d.name) ds
unfolding member
named x [] = refl
named x (d ∷ ds) = by (same x d.name) (named x ds)
  where
    by : (b : Bool) → member bytes x (map flat_name ds) ≡ any (λ (d : FlatDefinition). same x d.name) ds
        → elim b [ true ↦ true | false ↦ member bytes x (map flat_name ds) ] ≡ (b || any (λ (d : FlatDefinition). same x d.name) ds)
    by true h = refl
    by false h = h

pub definitions_apart_lem : (ds : List FlatDefinition) → apart same_name ds ≡ definitions_apart ds
unfolding apart definitions_apart distinct
definitions_apart_lem [] = refl
definitions_apart_lem (d ∷ ds) = ap₂ (λ (a b : Bool). not a && b) (sym (named d.name ds)) (definitions_apart_lem ds)

pub attributes_apart_lem : (cs : List FlatAttribute) → apart clashes cs ≡ attributes_apart cs
unfolding apart attributes_apart
attributes_apart_lem [] = refl
attributes_apart_lem (a ∷ cs) = ap (λ (b : Bool). not (any (clashes a) cs) && b) (attributes_apart_lem cs)

-- ---- owners
module _ (least : ℕ) {o : ℕ} {l rest : List FlatAttribute} {x : FlatAttribute} (e : l ≡ x ∷ rest) (f : o ≡ x.owner) where
  pub owners_off : o < least → owners_rise least l ≡ false
  unfolding owners_rise
  owners_off h = rw (e, ← f, lt-leb least o h)

  pub owners_on : least ≤ o → owners_rise o rest ≡ owners_rise least l
  unfolding owners_rise
  owners_on h = rw (e, ← f, le-leb least o h)

pub owners_end : (least : ℕ) {l : List FlatAttribute} → l ≡ [] → owners_rise least l ≡ true
unfolding owners_rise
owners_end least e = rw e

-- ---- the whole
pub bodies_by : (w n : ℕ) (defs : Bytes) (p : ℕ) (parts : Bytes) (a : ℕ) (attrs : Bytes) {t u v x : Bool}
    → t ≡ definitions_apart (definitions n defs) → u ≡ models_fit n (definitions n defs) (particles_read p parts) → v ≡ owners_rise 0 (attributes w a attrs) → x ≡ attributes_apart (attributes w a attrs)
    → (t && (u && (v && x))) ≡ bodies_fit (form_of_bodies w n defs p parts a attrs)
unfolding bodies_fit
bodies_by w n defs p parts a attrs ht hu hv hw = rw (ht, hu, hv, hw, bodies_fit, definitions_length n defs)

-- the tests look at the three bodies and no further
pub bodies_only : (f g : FlatStore) → f.definitions ≡ g.definitions → f.particles ≡ g.particles → f.attributes ≡ g.attributes → bodies_fit f ≡ bodies_fit g
unfolding bodies_fit
bodies_only f g d p a = rw (bodies_fit, d, p, a)

-- the bodies that follow one another in a byte string
module _ (w version next n p a r : ℕ) (bs : Bytes) where
  abbrev definition_part : Bytes
  definition_part = take (definition_size * n) bs

  abbrev particle_part : Bytes
  particle_part = take (particle_size * p) (drop (definition_size * n) bs)

  abbrev attribute_part : Bytes
  attribute_part = take (attribute_size w * a) (drop (particle_size * p) (drop (definition_size * n) bs))

  pub bodies_read : bodies_fit (read_bodies w version next n p a r bs) ≡ bodies_fit (form_of_bodies w n definition_part p particle_part a attribute_part)
  unfolding definitions particles_read attributes
  bodies_read =
      bodies_only (read_bodies w version next n p a r bs) (form_of_bodies w n definition_part p particle_part a attribute_part)
      (sym (many_within read_definition definition_size n bs))
      (sym (many_within read_particle particle_size p (drop (definition_size * n) bs)))
      (sym (many_within read_attribute (attribute_size w) a (drop (particle_size * p) (drop (definition_size * n) bs))))
