-- Changes 14 and 15 on the documents of a store that passes: the plan by indices does what the plan of the rules does.
use Prim.Native.Nat.{ℕ}
use mathlib.Core.Path.{◌≡◌, refl, sym, ap, ap₂, ◌∙◌, subst}
use mathlib.Core.Bool.{Bool, true, false, ◌&&◌, false≢true}
use mathlib.Core.Option.{Option, none, some}
use mathlib.Core.List.{List, [], ◌∷◌, map, Memᴰ}
use lib.Dec.{eqb}
use Rattle.rules.specs.Bytes.{Bytes, same, numbers, any, same_eq, eqb_eq}
use Rattle.rules.specs.Model.{Distinct}
use Rattle.rules.specs.Store.{Definition, Row, Forest, Store}
use Rattle.rules.specs.Preorder.{Deep, preorder}
use Rattle.rules.specs.Layout.{FlatRow, attribute_index, indexed, flat}
use Rattle.rules.specs.WellFormed.{definition_name, attribute_name}
use Rattle.rules.specs.Conforming.{name_of, is_element}
use Rattle.rules.specs.Lines.{Line, lines, ground, element_with, attribute_named, find_row, children_of, serial_at}
use Rattle.rules.specs.Passing.{good}
use Rattle.rules.specs.Refusal.{is_other, unknown_attribute}
use Rattle.rules.specs.Change.{set_attribute, destroy_attribute_row, Owned, attribute_at, taking, set_at, set_plan, drop_plan, plan, changed}
use Rattle.rules.specs.Change as change
use Rattle.rules.proofs.Words.{and_split}
use Rattle.rules.proofs.Apart.{differs}
use Rattle.rules.proofs.PassingLaws.{good_is}
use Rattle.change_laws.proofs.Rowwise.{Standing}
use Rattle.change_laws.proofs.StandingLaws.{standing_line, child_stands, found_element, one_row_lem}
use Rattle.store_check.proofs.AttributeRows.{row_written}
use Rattle.filling.specs.Fillings.{new_attribute_row}
use Rattle.filling.specs.declared.Filling.TheVariants.{Attribute}
use Rattle.row_walk.specs.declared.Which.TheVariants.{Serial, Attributes}
use Rattle.row_walk.specs.declared.Later.TheVariants.{Past}
use Rattle.row_walk.specs.declared.Plan.{Plan}
use Rattle.row_walk.specs.Walk.{matches, is_later}
use Rattle.planned_rows.specs.Planned.{fill_of}
use Rattle.plans.specs.Following.{Does}
use Rattle.plans.specs.CallPlans.{unmarked, setting_plan, set_attribute_plan, destroy_attribute_row_plan}
use Rattle.plans.proofs.TreePlans.{documents_follow}
use Rattle.plans.proofs.FollowingLaws.{serial_test, follows_all, fills_follow, takes_follow}
use Rattle.plans.proofs.AttributeIndices.{own_index, take_test, past_test}
use Rattle.plans.proofs.DocumentPlans.{given, set_value_does}
use borrow.Author.Tests.{not-false}

-- a row with a line is found
find_some : (test : Row → Bool) (ls : List Line) → any (λ (l : Line). test l.row) ls ≡ true → find_row test ls ≡ none → ⊥
unfolding find_row
find_some test [] e f = false≢true e
find_some test (l ∷ ls) e f = by (test l.row) refl (find_some test ls)
  where
    by : (c : Bool) → test l.row ≡ c → (any (λ (l : Line). test l.row) ls ≡ true → find_row test ls ≡ none → ⊥) → ⊥
    by true q g = let z : some l.row ≡ none = rw (q, find_row) at f in let y : false ≡ true = cc z in false≢true y
    by false q g = g (rw q at e) (rw (q, find_row) at f)

module _ (s : Store) (g : good s ≡ true) (k a : ℕ) (o : Owned) (at : attribute_at a s.form ≡ some o) (own : unknown_attribute k a s ≡ false) where
  -- the element with serial k is the owner's
  owner_named : (u : Row) (b : Forest Row) → Standing s.docs u b → element_with k u ≡ true → u.name ≡ o.owner.name
  owner_named u b i e = by (find_row (element_with k) (lines 0 s.docs)) refl
    where
      by : (x : Option Row) → find_row (element_with k) (lines 0 s.docs) ≡ x → u.name ≡ o.owner.name
      by none q = absurd (find_some (element_with k) (lines 0 s.docs) (standing_line (element_with k) 0 s.docs u b i e) q)
      by (some r) q =
          let (c, j, z, n) = found_element k s.docs r q in
          let p : u ≡ r = (one_row_lem s.next s.docs ((good_is s).0 g).serials u r b c i j (eqb_eq u.serial k (and_split (is_element u.sort) (eqb u.serial k) e).1 ∙ sym n)).0 in
          ap name_of p ∙ sym (same_eq o.owner.name r.name (not-false (same o.owner.name r.name) (sym (ap₂ is_other at q) ∙ own)))

  -- what is known of a row above: it is the element with serial k or not, and then the owner's
  abbrev Above : Bool → Row → Type 0
  Above sel u = (sel ≡ element_with k u) × (element_with k u ≡ true → u.name ≡ o.owner.name)

  above_row : (u r : Row) (b : Forest Row) → Standing s.docs r b → Above (matches (Serial k) (row_written s.form u.name r)) r
  above_row u r b i = (serial_test s.form u.name k r, owner_named r b i)

  above_ground : Above false ground
  above_ground = (refl, λ e. absurd (false≢true e))

  once : Distinct (map definition_name s.form)
  once = ((good_is s).0 g).form.names

  apart : (d : Definition) → Memᴰ d s.form → Distinct (map attribute_name d.attributes)
  apart d m = (((good_is s).0 g).form.definitions d m).attribute_names

  -- ---- 15
  pub destroy_attribute_row_does : (v : Bytes) → Does (destroy_attribute_row k a) s (destroy_attribute_row_plan k a) v
  unfolding plan
  destroy_attribute_row_does v =
      documents_follow s.form s.form q (destroy_attribute_row_plan k a) v fill record { keeps = refl; spares = refl } s.docs
      record {
        fills = refl;
        filling = λ e. absurd (false≢true e);
        rows =
            follows_all s.form s.form q (destroy_attribute_row_plan k a) v fill s.docs Above
            (λ sel w u r b (x, n) i. (
              takes_follow s.form v fill sel w u r q.takes (Serial k) (Attributes a) (given s g r b i)
                  (take_test a s.form o once apart at sel (element_with k u) u r x n),
              above_row u r b i,
            ))
            above_ground;
      }
      ∙ ap (λ (x : Option Owned). preorder 0 (indexed s.form [] (changed (drop_plan (λ o u. element_with k u) x) s.docs))) (sym at)
    where
      q : change.Plan
      q = taking (λ u r. element_with k u && attribute_named o.attribute.name r)

      fill : ℕ → List (Deep FlatRow)
      fill = fill_of (destroy_attribute_row_plan k a) v (flat s)

  -- ---- 14; ms: the serials of the attribute's rows below the element
  set_plan_lem : (v : Bytes) (ms : List ℕ) → children_of (attribute_named o.attribute.name) k (lines 0 s.docs) ≡ ms
      → plan (set_attribute k a v) s.version s.form (lines 0 s.docs) ≡ set_at k o v ms
  unfolding plan
  set_plan_lem v ms e = ap (set_plan (lines 0 s.docs) k v) at ∙ ap (set_at k o v) e

  new_attribute_does : (v : Bytes) → children_of (attribute_named o.attribute.name) k (lines 0 s.docs) ≡ [] → Does (set_attribute k a v) s (set_attribute_plan k a 0) v
  unfolding plan
  new_attribute_does v absent =
      documents_follow s.form s.form q (set_attribute_plan k a 0) v fill record { keeps = refl; spares = refl } s.docs
      record {
        fills = refl;
        filling = λ e. absurd (false≢true e);
        rows =
            follows_all s.form s.form q (set_attribute_plan k a 0) v fill s.docs Above
            (λ sel w u r b (x, n) i. (
              fills_follow s.form v fill sel w u r q.fills q.later q.filling (Serial k) (Past a) (Attribute a) (given s g r b i)
                  (λ e. ap (λ (z : Bytes). is_later unmarked (Past a) (row_written s.form z r)) (n (sym x ∙ e))
                  ∙ past_test a s.form o once apart at unmarked r)
                  (serial_test s.form u.name k r)
                  (λ e d. filled r.name (owner_named r b i e) d),
              above_row u r b i,
            ))
            above_ground;
      }
      ∙ ap (λ (z : change.Plan). preorder 0 (indexed s.form [] (changed z s.docs))) (sym (set_plan_lem v [] absent))
    where
      q : change.Plan
      q = set_at k o v []

      fill : ℕ → List (Deep FlatRow)
      fill = fill_of (set_attribute_plan k a 0) v (flat s)

      filled : (n : Bytes) → n ≡ o.owner.name → (d : ℕ) → fill d ≡ preorder d (indexed s.form n q.filling)
      filled n e d =
          let z : attribute_index n o.attribute.name s.form ≡ a = ap (λ (z : Bytes). attribute_index z o.attribute.name s.form) e ∙ own_index a s.form o once apart at in
          λ i. new_attribute_row d (sym z i) v ∷ []

  old_attribute_does : (v : Bytes) (m : ℕ) (ms : List ℕ) → children_of (attribute_named o.attribute.name) k (lines 0 s.docs) ≡ m ∷ ms → Does (set_attribute k a v) s (set_attribute_plan k a m) v
  old_attribute_does v m ms e =
      let (r, b, i, t, n) = child_stands (attribute_named o.attribute.name) k 0 s.docs m (rw e (Memᴰ.head refl)) in
      let z : set_attribute_plan k a m ≡ setting_plan m = rw (differs numbers m 0 (λ z. given s g r b i (n ∙ z)), set_attribute_plan) in
      subst (λ (p : Plan). Does (set_attribute k a v) s p v) (sym z) (set_value_does s g m v (set_attribute k a v) (set_plan_lem v (m ∷ ms) e))

  pub set_attribute_does : (v : Bytes) → Does (set_attribute k a v) s (set_attribute_plan k a (serial_at 0 (children_of (attribute_named o.attribute.name) k (lines 0 s.docs)))) v
  set_attribute_does v = by (children_of (attribute_named o.attribute.name) k (lines 0 s.docs)) refl
    where
      by : (ms : List ℕ) → children_of (attribute_named o.attribute.name) k (lines 0 s.docs) ≡ ms → Does (set_attribute k a v) s (set_attribute_plan k a (serial_at 0 ms)) v
      by [] e = new_attribute_does v e
      by (m ∷ ms) e = old_attribute_does v m ms e
