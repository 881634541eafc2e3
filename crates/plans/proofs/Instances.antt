-- Instances never nest: below an element stand only elements of
-- definitions that its own reaches, and none reaches itself.
use Prim.Native.Nat.{ℕ, ◌<◌}
use mathlib.Core.Path.{◌≡◌, refl, sym, ◌∙◌, subst}
use mathlib.Core.Bool.{Bool, true, false, ◌&&◌}
use mathlib.Core.List.Memᴰ
use mathlib.Core.List.{List, [], map, Memᴰ}
use lib.ListN.{length}
use Rattle.rules.specs.Bytes.{Bytes, same, bytes, same_eq}
use Rattle.rules.specs.Model.{Distinct}
use Rattle.rules.specs.Store.{Form, RowSort, element, attribute, text, Row, Forest, bare, tree, heads, Store}
use Rattle.rules.specs.Layout.{value_width, indexed}
use Rattle.rules.specs.WellFormed.{definition_name, members_of, Reaches, directly}
use Rattle.rules.specs.Conforming.{is_element, EveryRow, RowConforms}
use Rattle.rules.specs.Passing.{good}
use Rattle.rules.specs.Change.{name_at_index}
use Rattle.rules.proofs.Words.{and_split}
use Rattle.rules.proofs.Apart.{differs}
use Rattle.rules.proofs.Height.{reaches_then}
use Rattle.rules.proofs.WellFormedLaws.{well_formed_lem, no_circle}
use Rattle.rules.proofs.PassingLaws.{good_is}
use Rattle.change_laws.proofs.ConformingForms.{element_named_lem}
use Rattle.store_check.proofs.IndexLaws.{element_test}
use Rattle.row_walk.specs.declared.Which.TheVariants.{Elements}
use Rattle.row_walk.specs.Walk.{matches}
use Rattle.plans.specs.Trees.{NoneOf, NotNested}
use Rattle.rules.proofs.ConformingLaws.{is_element_lem}

-- ---- rows below a row
-- an element right below a row that conforms is a member of an element's definition
member_below : (version : ℕ) (form : Form) (u : Row) (below : List Row) → RowConforms version form u below → (r : Row) → Memᴰ r below → r.sort ≡ element
    → (u.sort ≡ element) × Memᴰ r.name (members_of u.name form)
member_below version form u below x r m s = by u.sort refl x
  where
    by : (k : RowSort) → u.sort ≡ k → RowConforms version form u below → (u.sort ≡ element) × Memᴰ r.name (members_of u.name form)
    by element q x = let (d, e, y) = rw q at x in (q, rw e (element_named_lem d below y r m s))
    by attribute q x = let e : below ≡ [] = rw q at x in absurd (Memᴰ.not-nil (rw e at m))
    by text q x = let e : below ≡ [] = rw q at x in absurd (Memᴰ.not-nil (rw e at m))

module _ (version : ℕ) (form : Form) (once : Distinct (map definition_name form)) (acyclic : (n : Bytes) → Reaches form n n → ⊥) (o : ℕ) (below : o < length form) where
  -- where the elements at the top are reached from definition o
  none_below : (owner : Bytes) (f : Forest Row) → EveryRow (λ r rows. RowConforms version form r rows) f
      → ((r : Row) → Memᴰ r (heads f) → r.sort ≡ element → Reaches form (name_at_index o form) r.name)
      → NoneOf (matches (Elements o)) (indexed form owner f)
  none_below owner bare x h = tt
  none_below owner (tree r b t) (x, y, z) h = (
    element_test form once o below owner r ∙ other (is_element r.sort) refl,
    none_below r.name b y (λ s m e. let (k, i) = member_below version form r (heads b) x s m e in reaches_then form (h r (Memᴰ.head refl) k) (directly i)),
    none_below owner t z (λ s m. h s (Memᴰ.tail m)),
  )
    where
      other : (c : Bool) → is_element r.sort ≡ c → (is_element r.sort && same (name_at_index o form) r.name) ≡ false
      other true q =
          rw (
            q,
            differs bytes (name_at_index o form) r.name
                (λ e. acyclic (name_at_index o form)
                (subst (λ (n : Bytes). Reaches form (name_at_index o form) n) (sym e) (h r (Memᴰ.head refl) (is_element_lem r.sort q)))),
          )
      other false q = rw q

  apart_elements : (owner : Bytes) (f : Forest Row) → EveryRow (λ r rows. RowConforms version form r rows) f → NotNested (matches (Elements o)) (indexed form owner f)
  apart_elements owner bare x = tt
  apart_elements owner (tree r b t) (x, y, z) = (
    λ e.
        let n : name_at_index o form ≡ r.name =
        same_eq (name_at_index o form) r.name
        (and_split (is_element r.sort) (same (name_at_index o form) r.name) (sym (element_test form once o below owner r) ∙ e)).1 in
        none_below r.name b y (λ s m q. subst (λ (k : Bytes). Reaches form k s.name) (sym n) (directly (member_below version form r (heads b) x s m q).1)),
    apart_elements r.name b y,
    apart_elements owner t z,
  )

-- INSTANCES NEVER NEST in a store that passes
pub apart_instances : (s : Store) → good s ≡ true → (o : ℕ) → o < length s.form → NotNested (matches (Elements o)) (indexed s.form [] s.docs)
apart_instances s g o l =
    let ok = (good_is s).0 g in
    apart_elements s.version s.form ok.form.names
    (no_circle (value_width s.version) s.form ((well_formed_lem (value_width s.version) s.form).1 ok.form)) o l [] s.docs ok.docs.rows
