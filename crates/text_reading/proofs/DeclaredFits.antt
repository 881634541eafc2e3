-- What a text declares fits the fields of a store, whatever the text is, where it keeps within the ceilings: names and
-- values are cut to their fields, and no definition has more particles than all have.
use Prim.Native.Nat.{ℕ, suc, ◌+◌, ◌-◌, ◌≤◌, ◌<◌}
use native.Mathlib.Omega.{arith}
use mathlib.Core.Path.{◌≡◌, refl}
use mathlib.Core.Bool.{Bool, true, false}
use mathlib.Core.List.{List, [], ◌∷◌, ◌++◌, map}
use lib.Dec.{eqb}
use lib.ListN.{length, take, drop, length-append, length-take}
use Rattle.rules.specs.Bytes.{Bytes}
use Rattle.rules.specs.Preorder.{Deep}
use Rattle.rules.specs.Layout.{name_width, FlatParticle, FlatStore}
use Rattle.rules.specs.Decode.{flat_name}
use Rattle.rules.specs.WellFormed.{in_name, within_ceilings}
use Rattle.rules.proofs.BooleanLaws.{Every}
use Rattle.rules.proofs.LayoutLaws.{GoodFlatDefinition, GoodFlatAttribute, GoodFlat}
use Rattle.store_laws.proofs.FormBytesLaws.{Few, few_of, few_definitions, few_particles, few_attributes}
use Rattle.text_scan.specs.Scan.{front_while}
use Rattle.model_scan.proofs.ModelLaws.{model_alike}
use Rattle.declaration_scan.specs.Declared.{model_from, is_definition, after_declared, declared_kind, declared_value, after_type, model_of_content}
use Rattle.declaration_scan.specs.Declared.{definition_of_line, attribute_of_line, definitions_of_lines, particles_of_lines, attributes_of_lines, declarations, declared_form}

taken : (n : ℕ) (xs : Bytes) → length (take n xs) ≤ n
taken n xs = omega (arith, length-take n xs)

-- ---- how many particles: the names do not count
model_in_size : (ns ms : List Bytes) (c : Bytes) → length (model_of_content ns c) ≡ length (model_of_content ms c)
model_in_size ns ms c = by (eqb (declared_kind c) 2)
  where
    by : (b : Bool) → length {A = Deep FlatParticle} (elim b [ true ↦ model_from ns 0 false (drop 1 c) | false ↦ [] ])
        ≡ length {A = Deep FlatParticle} (elim b [ true ↦ model_from ms 0 false (drop 1 c) | false ↦ [] ])
    by true = (model_alike ns ms 0 false (drop 1 c)).long
    by false = refl

-- ---- definitions
definitions_fit : (ns : List Bytes) (ls : List Bytes) → length (particles_of_lines ns ls) ≤ 256 → Every GoodFlatDefinition (definitions_of_lines ls)
unfolding definitions_of_lines particles_of_lines
definitions_fit ns [] few = tt
definitions_fit ns (l ∷ ls) few = by (is_definition l) few (definitions_fit ns ls)
  where
    by : (b : Bool)
        → length {A = Deep FlatParticle} (elim b [ true ↦ model_of_content ns (after_declared l) ++ particles_of_lines ns ls | false ↦ particles_of_lines ns ls ]) ≤ 256
        → (length (particles_of_lines ns ls) ≤ 256 → Every GoodFlatDefinition (definitions_of_lines ls))
        → Every GoodFlatDefinition (elim b [ true ↦ definition_of_line l ∷ definitions_of_lines ls | false ↦ definitions_of_lines ls ])
    by true h on =
        let e : length (model_of_content ns (after_declared l) ++ particles_of_lines ns ls)
        ≡ length (model_of_content ns (after_declared l)) + length (particles_of_lines ns ls) = length-append (model_of_content ns (after_declared l)) (particles_of_lines ns ls) in
        let own : length (model_of_content [] (after_declared l)) ≡ length (model_of_content ns (after_declared l)) = model_in_size [] ns (after_declared l) in
        (record { name = taken name_width (front_while in_name (drop 10 l)); particles = omega arith }, on (omega arith))
    by false h on = on h

-- ---- attributes
attributes_fit : (w o : ℕ) (ls : List Bytes) → Every (GoodFlatAttribute w) (attributes_of_lines w o ls)
unfolding attributes_of_lines
attributes_fit w o [] = tt
attributes_fit w o (l ∷ ls) = by (is_definition l) (attributes_fit w (suc o) ls) (attributes_fit w o ls)
  where
    by : (b : Bool) → Every (GoodFlatAttribute w) (attributes_of_lines w (suc o) ls) → Every (GoodFlatAttribute w) (attributes_of_lines w o ls)
        → Every (GoodFlatAttribute w) (elim b [ true ↦ attributes_of_lines w (suc o) ls | false ↦ attribute_of_line w (o - 1) l ∷ attributes_of_lines w o ls ])
    by true h t = h
    by false h t = (record { name = taken name_width (front_while in_name (after_declared l)); value = taken w (declared_value (after_type (after_declared l))) }, t)

pub declared_fits : (version w : ℕ) (txt : Bytes) → version < 4294967296 → within_ceilings (declared_form version w txt) ≡ true → GoodFlat w (declared_form version w txt)
unfolding declared_form
declared_fits version w txt small e =
    let f : FlatStore = declared_form version w txt in
    let few : Few f = few_of f e in
    record {
      version = small;
      next = omega arith;
      definition_count = omega (arith, few_definitions few);
      particle_count = omega (arith, few_particles few);
      attribute_count = omega (arith, few_attributes few);
      row_count = omega arith;
      definitions = definitions_fit (map flat_name (definitions_of_lines (declarations txt))) (declarations txt) (few_particles few);
      attributes = attributes_fit w 0 (declarations txt);
      rows = tt;
    }
