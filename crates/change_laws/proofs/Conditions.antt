-- What an accepted call says: none of its conditions holds.
use Prim.Native.Nat.{ℕ, ◌≤◌, ◌<◌}
use mathlib.Core.Path.{◌≡◌, refl, sym, ap, ◌∙◌}
use mathlib.Core.Bool.{Bool, true, false, false≢true}
use mathlib.Core.List.{List, [], ◌∷◌, ◌++◌, append-nil}
use lib.Dec.{leb, ltb}
use lib.ListN.{length}
use borrow.Author.Tests.{ltb-true, ltb-false, not-false}
use Rattle.rules.specs.Bytes.{all}
use Rattle.rules.specs.Store.{Store}
use Rattle.rules.specs.Layout.{flat}
use Rattle.rules.specs.WellFormed.{within_ceilings, highest_number}
use Rattle.rules.specs.Change.{Call, create_definition, destroy_definition, insert_element, remove_element, change_quantifier, convert_to_group, flatten_group}
use Rattle.rules.specs.Change.{change_group_quantifier, add_attribute, destroy_attribute, add_document, add_element, destroy_element, set_attribute}
use Rattle.rules.specs.Change.{destroy_attribute_row, set_text, after}
use Rattle.rules.specs.Refusal.{Condition, first, past_end, conditions, limits, refusal}
use Rattle.rules.proofs.Words.{and_split}

-- ---- tests that are false
-- an index that is not past the end
pub not_past : {A : Type 0} (i : ℕ) (xs : List A) → past_end i xs ≡ false → i < length xs
not_past i xs e = ltb-true i (length xs) (not-false (ltb i (length xs)) e)

-- ---- the first that holds is 0: none does
-- no condition of the list holds
abbrev pub Unmet : List Condition → Type 0
Unmet [] = Unit {0}
Unmet (c ∷ cs) = (c.holds ≡ false) × Unmet cs

-- the numbers are from 1
abbrev pub numbered : List Condition → Bool
numbered cs = all (λ (c : Condition). leb 1 c.number) cs

pub first_append : (cs ds : List Condition) → numbered cs ≡ true → first (cs ++ ds) ≡ 0 → Unmet cs × (first ds ≡ 0)
first_append [] ds k e = (tt, e)
first_append (c ∷ cs) ds k e = by c.holds refl (first_append cs ds (and_split (leb 1 c.number) (numbered cs) k).1)
  where
    by : (b : Bool) → c.holds ≡ b → (first (cs ++ ds) ≡ 0 → Unmet cs × (first ds ≡ 0)) → Unmet (c ∷ cs) × (first ds ≡ 0)
    by true q f = let z : c.number ≡ 0 = rw q at e in absurd (false≢true (sym (ap (λ (x : ℕ). leb 1 x) z) ∙ (and_split (leb 1 c.number) (numbered cs) k).0))
    by false q f = let (u, z) = f (rw q at e) in ((q, u), z)

pub conditions_numbered : (c : Call) (s : Store) → numbered (conditions c s) ≡ true
unfolding conditions
conditions_numbered (create_definition n k) s = refl
conditions_numbered (destroy_definition i) s = refl
conditions_numbered (insert_element o p i q t) s = refl
conditions_numbered (remove_element o p) s = refl
conditions_numbered (change_quantifier o p q t) s = refl
conditions_numbered (convert_to_group o p n k) s = refl
conditions_numbered (flatten_group o p) s = refl
conditions_numbered (change_group_quantifier o p q t) s = refl
conditions_numbered (add_attribute o n k v) s = refl
conditions_numbered (destroy_attribute a) s = refl
conditions_numbered (add_document i t) s = refl
conditions_numbered (add_element k j i t) s = refl
conditions_numbered (destroy_element k) s = refl
conditions_numbered (set_attribute k a v) s = refl
conditions_numbered (destroy_attribute_row k a) s = refl
conditions_numbered (set_text k t) s = refl

pub none_holds : (c : Call) (s : Store) → first (conditions c s) ≡ 0 → Unmet (conditions c s)
none_holds c s e = (first_append (conditions c s) [] (conditions_numbered c s) (ap first (append-nil (conditions c s)) ∙ e)).0

module _ (room : ℕ) (c : Call) (s : Store) (accepted : refusal room c s ≡ 0) where
  none_held : Unmet (conditions c s) × (first (limits room (after c s)) ≡ 0)
  unfolding refusal
  none_held = first_append (conditions c s) (limits room (after c s)) (conditions_numbered c s) accepted

  -- At a call, with `unfolding conditions`, its type is a product of `… ≡
  -- false` in the table's order that ends in `Unit`:
  -- `let (name, (kind, (fresh, end))) = unmet room (create_definition n k) s a in`.
  pub unmet : Unmet (conditions c s)
  unmet = none_held.0

  limits_unmet : Unmet (limits room (after c s))
  limits_unmet = (first_append (limits room (after c s)) [] refl none_held.1).0

  pub ceilings_after : within_ceilings (flat (after c s)) ≡ true
  ceilings_after = not-false (within_ceilings (flat (after c s))) limits_unmet.0

  pub next_after : (after c s).next ≤ highest_number
  next_after = ltb-false highest_number (after c s).next limits_unmet.1.0
