-- The conditions of change 2, by what the code tests.
use Prim.Native.Nat.{ℕ, ◌<◌, ◌≤◌}
use native.Mathlib.Omega.{arith}
use mathlib.Core.Path.{◌≡◌, refl, sym, ap, ap₂, ◌∙◌}
use mathlib.Core.Bool.{Bool, true, false, ◌||◌, not}
use mathlib.Core.List.{[], ◌∷◌}
use lib.Dec.{ltb}
use lib.ListN.{length, length-map}
use borrow.Author.Tests.{lt-ltb, le-ltb}
use Rattle.rules.specs.Bytes.{Bytes, bytes, any}
use Rattle.rules.specs.Model.{names, member}
use Rattle.rules.specs.Store.{Definition, Store, members, heads}
use Rattle.rules.specs.Layout.{particle_size, row_size, FlatStore, flat_definition}
use Rattle.rules.specs.Decode.{read_particle, read_row, read_many, definition_count, particle_count, row_count}
use Rattle.rules.specs.Lines.{element_named}
use Rattle.rules.specs.Passing.{passes}
use Rattle.rules.specs.Change.{destroy_definition, name_at_index}
use Rattle.rules.specs.Refusal.{first, conditions, past_end, ◌if◌}
use Rattle.rules.proofs.Words.{or_split}
use Rattle.change_laws.proofs.Conditions.{first_append, conditions_numbered, not_past}
use Rattle.layout.specs.Bodies.{WidthIn, Number, particles_in, tree_rows_in}
use Rattle.store_laws.specs.Stores.{store_in}
use Rattle.store_laws.proofs.StoreLaws.{holds}
use Rattle.definition_removal.specs.Bodies.{is_member, is_root, Defined}
use Rattle.store_laws.proofs.Encoded.{encoded}
use Rattle.definition_removal.proofs.InUse.{used_in_models, used_as_root}
use Rattle.definition_removal.proofs.Left.{particles_read_lem, rows_read_lem}

module _ (bs : Bytes) (i : ℕ) (p : passes bs ≡ true) where
  abbrev s : Store
  s = store_in bs

  abbrev condition : ℕ
  condition = first (conditions (destroy_definition i) (store_in bs))

  abbrev in_models : Bool
  in_models = any (λ (d : Definition). member bytes (name_at_index i s.form) (names (members d))) s.form

  abbrev in_roots : Bool
  in_roots = any (element_named (name_at_index i s.form)) (heads s.docs)

  abbrev tests : Bool → Bool → ℕ
  tests a b = first (6 if not a ∷ 10 if b ∷ [])

  count_is : definition_count bs ≡ length s.form
  count_is = (encoded bs p).definitions ∙ ap (λ (f : FlatStore). length f.definitions) (holds bs p).bodies ∙ length-map s.form (flat_definition s.form)

  condition_is : condition ≡ tests (ltb i (length s.form)) (in_models || in_roots)
  unfolding conditions
  condition_is = refl

  pub unknown : definition_count bs ≤ i → 6 ≡ condition
  unknown h = sym (condition_is ∙ ap (λ (b : Bool). tests b (in_models || in_roots)) (le-ltb i (length s.form) (omega (arith, count_is))))

  module _ (h : i < definition_count bs) where
    below : i < length s.form
    below = omega (arith, count_is)

    -- the bodies that the code searches, with their counts and the width
    module _ {w : ℕ} {ps rs : Bytes} {n m : ℕ} {a b : Bool} (ew : WidthIn bs w) (ep : ps ≡ particles_in bs) (er : rs ≡ tree_rows_in bs) (en : Number (particle_count bs) n) (em : Number (row_count bs) m)
        (ea : a ≡ any (is_member i) (read_many read_particle particle_size n ps)) (eb : b ≡ any (is_root i) (read_many read_row (row_size w) m rs)) where
      in_use : condition ≡ tests true (a || b)
      in_use =
          condition_is
          ∙ ap (λ (z : Bool). tests z (in_models || in_roots)) (lt-ltb i (length s.form) below)
          ∙ ap₂ (λ (y z : Bool). tests true (y || z))
          (sym
          (ea
          ∙ ap₂ (λ (k : ℕ) (l : Bytes). any (is_member i) (read_many read_particle particle_size k l)) en.value ep
          ∙ sym (ap (any (is_member i)) (particles_read_lem bs))
          ∙ ap (λ (f : FlatStore). any (is_member i) f.particles) (holds bs p).bodies
          ∙ used_in_models s (holds bs p).good i below))
          (sym
          (eb
          ∙ (λ j. any (is_root i) (read_many read_row (row_size (ew.value j)) (em.value j) (er j)))
          ∙ sym (ap (any (is_root i)) (rows_read_lem bs))
          ∙ ap (λ (f : FlatStore). any (is_root i) f.rows) (holds bs p).bodies
          ∙ used_as_root s (holds bs p).good i below))

      pub used : (a || b) ≡ true → 10 ≡ condition
      used e = sym (in_use ∙ ap (tests true) e)

      pub unused : (a || b) ≡ false → 0 ≡ condition
      unused e = sym (in_use ∙ ap (tests true) e)

  -- no condition holds
  pub unmet : condition ≡ 0 → (past_end i s.form ≡ false) × (in_models ≡ false) × (in_roots ≡ false)
  unfolding conditions
  unmet z =
      let (there, (used, end)) = (first_append (conditions (destroy_definition i) s) [] (conditions_numbered (destroy_definition i) s) z).0 in
      let (models, roots) = or_split in_models in_roots used in
      (there, models, roots)

  pub stands : condition ≡ 0 → Defined bs i
  stands z = record { good = p; there = omega (arith, count_is, not_past i s.form (unmet z).0) }
