-- The filling of a group by indices is the filling of the rules, written.
use Prim.Native.Nat.{ℕ}
use mathlib.Core.Path.{◌≡◌, refl, sym, ap, ap₂, ◌∙◌}
use mathlib.Core.Bool.{Bool, true, false}
use mathlib.Core.List.{List, [], ◌∷◌, ◌++◌, map, Memᴰ}
use Rattle.rules.specs.declared.GroupKind.{GroupKind}
use Rattle.rules.specs.Bytes.{Bytes}
use Rattle.rules.specs.Model.{Members, names, nothing, unless, rename, filling}
use Rattle.rules.specs.Store.{Forest, Store}
use Rattle.rules.specs.Preorder.{Deep, preorder}
use Rattle.rules.specs.Layout.{FlatRow, index_of, indexed, flat}
use Rattle.rules.specs.WellFormed.{known}
use Rattle.rules.specs.Passing.{good}
use Rattle.rules.specs.Filling.{fill_each, fill_definition}
use Rattle.rules.proofs.PassingLaws.{good_is}
use Rattle.rules.proofs.RenamingPlaces.{nothing_rename, filling_rename}
use Rattle.rules.proofs.FillingLaws.{in_filling}
use Rattle.store_check.specs.Reading.{entry_of, flat_index_form}
use Rattle.filling.specs.declared.Filling.TheVariants.{Particles}
use Rattle.filling.specs.Fillings.{fillings_of, fill_index, group_filled, filling_rows}
use Rattle.filling.specs.Parts.{value_of}
use Rattle.planned_rows.specs.Planned.{members_at}
use Rattle.plans.proofs.Fillings.{preorder_beside, indexed_beside, filling_index}
use Rattle.plans.proofs.ModelForms.{index_of_name_lem}

module _ (s : Store) (g : good s ≡ true) (txt : Bytes) (d : ℕ) (owner : Bytes) where
  abbrev index : Bytes → ℕ
  index n = index_of n s.form

  abbrev value : ℕ → Bytes
  value j = value_of (entry_of j (flat s).attributes)

  abbrev fill : ℕ → List (Deep FlatRow)
  fill i = fill_index (flat_index_form (flat s)) value (flat_index_form (flat s)).size txt d i

  abbrev written : List Bytes → List (Deep FlatRow)
  written ns = preorder d (indexed s.form owner (fill_each (λ n. fill_definition s.version s.form txt n) ns))

  one_named : (n : Bytes) → known s.form n ≡ true → fill (index n) ≡ preorder d (indexed s.form owner (fill_definition s.version s.form txt n))
  one_named n k =
      let (below, name) = index_of_name_lem s.form ((good_is s).0 g).form.names n k in
      sym (filling_index s g txt d (index n) owner below) ∙ ap (λ (z : Bytes). preorder d (indexed s.form owner (fill_definition s.version s.form txt z))) name

  each_named : (ns : List Bytes) → ((n : Bytes) → Memᴰ n ns → known s.form n ≡ true) → fillings_of (flat_index_form (flat s)) value fill (map index ns) ≡ written ns
  unfolding fill_each fillings_of
  each_named [] k = refl
  each_named (n ∷ ns) k =
      ap₂ (λ (u v : List (Deep FlatRow)). u ++ v) (one_named n (k n (Memᴰ.head refl))) (each_named ns (λ m i. k m (Memᴰ.tail i)))
      ∙ sym (preorder_beside d (indexed s.form owner (fill_definition s.version s.form txt n)) (indexed s.form owner (fill_each (λ n. fill_definition s.version s.form txt n) ns)))
      ∙ sym (ap (λ (z : Forest FlatRow). preorder d z) (indexed_beside s.form owner (fill_definition s.version s.form txt n) (fill_each (λ n. fill_definition s.version s.form txt n) ns)))

  group_named : (j : GroupKind) (ms : Members Bytes) → ((n : Bytes) → Memᴰ n (names ms) → known s.form n ≡ true) → (b : Bool)
      → fillings_of (flat_index_form (flat s)) value fill (unless b (map index (filling j ms))) ≡ written (unless b (filling j ms))
  unfolding fill_each fillings_of
  group_named j ms k true = refl
  group_named j ms k false = each_named (filling j ms) (λ n i. k n (in_filling n j ms i))

  -- THE FILLING OF A GROUP whose members of depth e begin with particle number f
  pub filling_group : (j : GroupKind) (ms : Members Bytes) (f e : ℕ) → ((n : Bytes) → Memᴰ n (names ms) → known s.form n ≡ true) → members_at (flat s) f e ≡ rename (λ n. index_of n s.form) ms
      → filling_rows (flat_index_form (flat s)) (λ i. value_of (entry_of i (flat s).attributes)) (λ a b. members_at (flat s) a b) (Particles j f e) txt d
      ≡ preorder d (indexed s.form owner (fill_each (λ n. fill_definition s.version s.form txt n) (unless (nothing j ms) (filling j ms))))
  unfolding group_filled
  filling_group j ms f e k q =
      ap (λ (x : Members ℕ). fillings_of (flat_index_form (flat s)) value fill (unless (nothing j x) (filling j x))) q
      ∙ ap₂ (λ (b : Bool) (is : List ℕ). fillings_of (flat_index_form (flat s)) value fill (unless b is)) (nothing_rename index j ms) (filling_rename index j ms)
      ∙ group_named j ms k (nothing j ms)
