-- THE STORE AFTER CHANGES 9 AND 10, where no condition of the refusal
-- table holds: the bodies after the plan by indices.
use Prim.Native.Nat.{ℕ, suc, ◌+◌, ◌<◌, ◌≤◌}
use native.Mathlib.Omega.{arith}
use mathlib.Core.Path.{◌≡◌, refl, sym, ap, ◌∙◌, subst}
use mathlib.Core.Logic.{◌⊎◌, inl, inr}
use mathlib.Core.Bool.{Bool, true, false, ◌&&◌, not, and-false, false≢true, and_comm}
use mathlib.Core.Option.{Option, none, some}
use mathlib.Core.List.{List, [], ◌∷◌, ◌++◌, map, Memᴰ}
use lib.Dec.{eqb, ltb}
use lib.ListN.{length, take, drop}
use borrow.Author.Tests.{lt-ltb, ltb-false}
use Rattle.rules.specs.Bytes.{Bytes, same, bytes, same_eq}
use Rattle.rules.specs.Model.{Distinct}
use Rattle.rules.specs.Store.{Attribute, Definition, Form, RowSort, element, attribute, text, Row, Forest, bare, tree, Store}
use Rattle.rules.specs.Preorder.{Deep, preorder}
use Rattle.rules.specs.Layout.{FlatRow, row_code, row_index, index_of, index_in, attribute_index, all_attributes, indexed, flat}
use Rattle.rules.specs.Decode.{sort_of}
use Rattle.rules.specs.WellFormed.{definition_name, attribute_name}
use Rattle.rules.specs.Conforming.{is_element, is_attribute, must_be_present}
use Rattle.rules.specs.Filling.{attribute_row}
use Rattle.rules.specs.Lines.{element_named, attribute_named}
use Rattle.rules.specs.Passing.{good}
use Rattle.rules.specs.Refusal.{first, conditions}
use Rattle.rules.specs.Change.{add_attribute, destroy_attribute, definition_at, name_at_index, Owned, attribute_at, update, with_attributes, lacking, drop_owned}
use Rattle.rules.specs.Change.{new_attribute, form_after, making, taking, drop_plan, plan, changed, docs_after, after}
use Rattle.rules.specs.Change as change
use Rattle.rules.proofs.Words.{and_both, and_split}
use Rattle.rules.proofs.TestLaws.{member_test}
use Rattle.rules.proofs.PassingLaws.{good_is}
use Rattle.change_laws.proofs.Conditions.{not_past, none_holds}
use Rattle.change_laws.proofs.Rowwise.{Standing}
use Rattle.change_laws.proofs.FormLaws.{attribute_owned, owner_at_lem, owner_below, index_kept}
use Rattle.store_check.proofs.IndexLaws.{element_test}
use Rattle.store_check.proofs.AttributeReads.{sort_back}
use Rattle.store_check.proofs.AttributeRows.{row_written}
use Rattle.store_check.proofs.AttributeBlocks.{offset}
use Rattle.filling.specs.Fillings as filling
use Rattle.row_walk.specs.declared.Which.TheVariants.{Elements, Attributes}
use Rattle.row_walk.specs.declared.Later.TheVariants.{Past}
use Rattle.row_walk.specs.declared.Plan.{Plan}
use Rattle.row_walk.specs.Walk.{matches, is_later}
use Rattle.planned_rows.specs.Planned.{fill_of, planned_in}
use Rattle.plans.specs.Trees.{documents_walk}
use Rattle.plans.specs.Bodies.{HoldsForm}
use Rattle.plans.specs.Following.{RowFollows}
use Rattle.plans.specs.Kept.{BothTake}
use Rattle.plans.specs.AttributeCalls.{attributes_to, owner_at, add_attribute_plan, destroy_attribute_plan, attribute_added, attribute_dropped}
use Rattle.plans.proofs.TreeWalk.{Clear, apart}
use Rattle.plans.proofs.TreePlans.{documents_kept}
use Rattle.plans.proofs.FormPlanned.{flat_planned_in}
use Rattle.plans.proofs.FollowingLaws.{index_moved, value_same, kept_all}
use Rattle.plans.proofs.AttributeIndices.{own_index, take_test}
use Rattle.plans.proofs.AttributeShifts.{index_new, offset_next, spot_own, own_at, own_lower, added_shift, dropped_shift}
use Rattle.plans.proofs.AttributeBodies.{definitions_kept, particles_kept, attributes_added, attributes_dropped, owner_read, attributes_to_lem}
use Rattle.plans.proofs.OwnedRows.{Owns, each_owned}
use Rattle.plans.proofs.DocumentPlans.{given}
use Rattle.plans.proofs.CallsPlanned.{owned_there}
use Rattle.plans.proofs.Instances.{apart_instances}

module _ (s : Store) (g : good s ≡ true) where
  once : Distinct (map definition_name s.form)
  once = ((good_is s).0 g).form.names

  pub clear_elements : (o : ℕ) (p : Plan) → o < length s.form → p.above ≡ Elements o → Clear p (indexed s.form [] s.docs)
  clear_elements o p l e = apart (rw e (apart_instances s g o l))

  -- ---- 9
  module _ (o : ℕ) (n : Bytes) (k : ℕ) (v : Bytes) (l : o < length s.form) (fresh : Memᴰ n (map attribute_name (definition_at o s.form).attributes) → ⊥) where
    abbrev a : ℕ
    a = offset (suc o) s.form

    abbrev name : Bytes
    name = name_at_index o s.form

    abbrev p : Plan
    p = add_attribute_plan s.version o a k

    abbrev q : change.Plan
    q = making (λ r. must_be_present s.version (sort_of k) && element_named name r) (λ u r. not (is_attribute r.sort)) (tree (attribute_row (new_attribute n k v)) bare bare)

    abbrev more : List Attribute → List Attribute
    more table = table ++ new_attribute n k v ∷ []

    abbrev new : Form
    new = update o (with_attributes more) s.form

    abbrev fill : ℕ → List (Deep FlatRow)
    fill = fill_of p v (flat s)

    -- attribute rows below an instance come before the new one
    later : (u r : Row) → Owns s.form u r → name ≡ u.name → is_later p.marks (Past a) (row_written s.form u.name r) ≡ not (is_attribute r.sort)
    later u r own e = by r.sort refl
      where
        by : (t : RowSort) → r.sort ≡ t → not (eqb (row_code r.sort) 2 && ltb (row_index s.form u.name r) a) ≡ not (is_attribute r.sort)
        by element z = rw z
        by attribute z =
            let (i, (d, f, m)) = own (ap is_attribute z) in
            rw z (ap not (lt-ltb (attribute_index u.name r.name s.form) a (own_lower o s.form once l u.name d f r.name m e)))
        by text z = rw z

    filled : (m : Bytes) → name ≡ m → (d : ℕ) → fill d ≡ preorder d (indexed new m q.filling)
    filled m e d =
        let z : attribute_index m n new ≡ a =
        ap (λ (b : Bytes). attribute_index b n new) (sym e) ∙ spot_own more o s.form once l n
        ∙ omega (arith, offset_next o s.form, index_new n (definition_at o s.form).attributes (new_attribute n k v) fresh refl) in
        λ i. filling.new_attribute_row d (sym z i) v ∷ []

    step : (sel : Bool) (w u r : Row) (b : Forest Row) → sel ≡ element_named name u → Owns s.form u r → Standing s.docs r b → RowFollows s.form new q p v fill sel w u r
    step sel w u r b x own i =
        record {
          takes = and-false sel;
          later = λ e f. later u r own (same_eq name u.name (and_split (is_element u.sort) (same name u.name) (sym x ∙ e)).1);
          index =
              index_moved s.form new p u.name r refl (index_kept (with_attributes more) (λ d. refl) o s.form r.name)
              (λ e. let (j, (d, f, m)) = own e in added_shift o s.form once l u.name d f r.name m (new_attribute n k v));
          value = value_same r [] (given s g r b i);
          fills = ap (λ (c : Bool). c && must_be_present s.version (sort_of k)) (element_test s.form once o l u.name r) ∙ and_comm (element_named name r) (must_be_present s.version (sort_of k));
          filling = λ e.
              filled r.name (same_eq name r.name (and_split (is_element r.sort) (same name r.name) (and_split (must_be_present s.version (sort_of k)) (element_named name r) e).1).1);
        }

    add_attribute_does : documents_walk p v fill (indexed s.form [] s.docs) ≡ preorder 0 (indexed (form_after (add_attribute o n k v) s.form) [] (docs_after (add_attribute o n k v) s))
    unfolding plan form_after
    add_attribute_does =
        documents_kept s.form new q p v fill record { keeps = refl; spares = refl } s.docs (sym (and-false (must_be_present s.version (sort_of k))))
        (λ e. absurd (false≢true (sym (and-false (must_be_present s.version (sort_of k))) ∙ e)))
        (kept_all s.form new q p v fill s.docs (λ sel u. sel ≡ element_named name u) (Owns s.form)
        (λ sel w u r b x own i. inr (step sel w u r b x own i, element_test s.form once o l u.name r)) refl
        (each_owned s g))

    add_attribute_holds : k ≤ 2 → HoldsForm (attribute_added a (record { owner = o; name = n; sort = k; value = v }) (flat s)) (form_after (add_attribute o n k v) s.form)
    unfolding form_after
    add_attribute_holds h =
        record {
          definitions = sym (definitions_kept more o s.form);
          particles = sym (particles_kept more o s.form);
          attributes =
              ap (λ (c : ℕ). take a (all_attributes 0 s.form) ++ record { owner = o; name = n; sort = c; value = v } ∷ drop a (all_attributes 0 s.form)) (sym (sort_back k h))
              ∙ attributes_added o s.form (new_attribute n k v) l;
        }

  pub add_attribute_planned : (o : ℕ) (n : Bytes) (k : ℕ) (v : Bytes) → first (conditions (add_attribute o n k v) s) ≡ 0
      → flat (after (add_attribute o n k v) s)
      ≡ planned_in (attribute_added (attributes_to o (flat s).attributes) (record { owner = o; name = n; sort = k; value = v }) (flat s))
      (add_attribute_plan s.version o (attributes_to o (flat s).attributes) k) v (flat s)
  unfolding conditions
  add_attribute_planned o n k v e =
      let (name, (value, (code, (fresh, (index, more))))) = none_holds (add_attribute o n k v) s e in
      let l : o < length s.form = not_past o s.form index in
      let new : Memᴰ n (map attribute_name (definition_at o s.form).attributes) → ⊥ =
      λ m. false≢true (sym fresh ∙ (member_test bytes n (map attribute_name (definition_at o s.form).attributes)).1 m) in
      flat_planned_in (add_attribute o n k v) s (add_attribute_plan s.version o (offset (suc o) s.form) k) v
      (attribute_added (offset (suc o) s.form) (record { owner = o; name = n; sort = k; value = v }) (flat s))
      (add_attribute_holds o n k v l new (ltb-false 2 k code)) (clear_elements o (add_attribute_plan s.version o (offset (suc o) s.form) k) l refl) (add_attribute_does o n k v l new)
      ∙ ap (λ (a : ℕ). planned_in (attribute_added a (record { owner = o; name = n; sort = k; value = v }) (flat s)) (add_attribute_plan s.version o a k) v (flat s)) (sym (attributes_to_lem o s.form))

  -- ---- 10
  module _ (a : ℕ) (o : Owned) (at : attribute_at a s.form ≡ some o) where
    abbrev owner : Bytes
    owner = o.owner.name

    abbrev lost : Bytes
    lost = o.attribute.name

    abbrev i : ℕ
    i = index_of owner s.form

    abbrev left : Form
    left = update i (with_attributes (lacking lost)) s.form

    distinct : (d : Definition) → Memᴰ d s.form → Distinct (map attribute_name d.attributes)
    distinct d m = (((good_is s).0 g).form.definitions d m).attribute_names

    below : i < length s.form
    below = owner_below a s.form once o at

    owner_is : name_at_index i s.form ≡ owner
    owner_is = ap definition_name (owner_at_lem a s.form once o at)

    there : Memᴰ lost (map attribute_name (definition_at i s.form).attributes)
    there = subst (λ (d : Definition). Memᴰ lost (map attribute_name d.attributes)) (sym (owner_at_lem a s.form once o at)) (mathlib.Core.List.Memᴰ.map attribute_name (attribute_owned a s.form o at).1)

    at_index : a ≡ offset i s.form + index_in lost (definition_at i s.form).attributes
    at_index = sym (own_index a s.form o once distinct at) ∙ ap (λ (m : Bytes). attribute_index m lost s.form) (sym owner_is) ∙ own_at i s.form once below lost

    module _ (v : Bytes) where
      abbrev dropping : Plan
      dropping = destroy_attribute_plan i a

      abbrev taker : change.Plan
      taker = taking (λ u r. element_named owner u && attribute_named lost r)

      abbrev none_filled : ℕ → List (Deep FlatRow)
      none_filled = fill_of dropping v (flat s)

      instance_test : (u r : Row) → matches (Elements i) (row_written s.form u.name r) ≡ element_named owner r
      instance_test u r = element_test s.form once i below u.name r ∙ ap (λ (m : Bytes). element_named m r) owner_is

      -- an attribute row that stays is of another owner or name
      stays : (u r : Row) → (element_named owner u && attribute_named lost r) ≡ false → is_element u.sort ≡ true → is_attribute r.sort ≡ true → name_at_index i s.form ≡ u.name → r.name ≡ lost → ⊥
      stays u r e x y m n =
          false≢true (sym e ∙ and_both (and_both x (bytes.same← owner u.name (sym owner_is ∙ m))) (and_both y (bytes.same← lost r.name (sym n))))

      drop_step : (sel : Bool) (w u r : Row) (b : Forest Row) → sel ≡ element_named owner u → Owns s.form u r → Standing s.docs r b
          → BothTake s.form left taker dropping v none_filled sel u r
          ⊎ (RowFollows s.form left taker dropping v none_filled sel w u r
          × (matches (Elements i) (row_written s.form u.name r) ≡ element_named owner r))
      drop_step sel w u r b x own j = by (element_named owner u && attribute_named lost r) refl
        where
          test : (sel && matches (Attributes a) (row_written s.form u.name r)) ≡ (element_named owner u && attribute_named lost r)
          test = take_test a s.form o once distinct at sel (element_named owner u) u r x (λ e. sym (same_eq owner u.name (and_split (is_element u.sort) (same owner u.name) e).1))

          by : (c : Bool) → (element_named owner u && attribute_named lost r) ≡ c
              → BothTake s.form left taker dropping v none_filled sel u r
              ⊎ (RowFollows s.form left taker dropping v none_filled sel w u r
              × (matches (Elements i) (row_written s.form u.name r) ≡ element_named owner r))
          by true e = inl record { taken = e; takes = test ∙ e }
          by false e =
              inr (
                record {
                  takes = test;
                  later = λ z y. refl;
                  index =
                      index_moved s.form left dropping u.name r refl (index_kept (with_attributes (lacking lost)) (λ d. refl) i s.form r.name)
                      (λ z. let (y, (d, f, m)) = own z in dropped_shift i s.form once below u.name d f r.name m lost a there at_index (stays u r e y z));
                  value = value_same r [] (given s g r b j);
                  fills = and-false (matches (Elements i) (row_written s.form u.name r));
                  filling = λ z. absurd (false≢true z);
                },
                instance_test u r,
              )

      destroy_attribute_does : documents_walk dropping v none_filled (indexed s.form [] s.docs)
          ≡ preorder 0 (indexed (form_after (destroy_attribute a) s.form) [] (docs_after (destroy_attribute a) s))
      unfolding plan form_after
      destroy_attribute_does =
          documents_kept s.form left taker dropping v none_filled record { keeps = refl; spares = refl } s.docs refl (λ e. absurd (false≢true e))
          (kept_all s.form left taker dropping v none_filled s.docs (λ sel u. sel ≡ element_named owner u) (Owns s.form) drop_step refl (each_owned s g))
          ∙ ap (λ (x : Option Owned). preorder 0 (indexed (drop_owned x s.form) [] (changed (drop_plan (λ o u. element_named o.owner.name u) x) s.docs))) (sym at)

    destroy_attribute_holds : HoldsForm (attribute_dropped a (flat s)) (form_after (destroy_attribute a) s.form)
    unfolding form_after
    destroy_attribute_holds =
        subst (λ (x : Option Owned). HoldsForm (attribute_dropped a (flat s)) (drop_owned x s.form)) (sym at)
        record {
          definitions = sym (definitions_kept (lacking lost) i s.form);
          particles = sym (particles_kept (lacking lost) i s.form);
          attributes = attributes_dropped i s.form below lost there a at_index;
        }

    destroy_owned_planned : (v : Bytes) → flat (after (destroy_attribute a) s) ≡ planned_in (attribute_dropped a (flat s)) (destroy_attribute_plan (owner_at a (flat s).attributes) a) v (flat s)
    destroy_owned_planned v =
        flat_planned_in (destroy_attribute a) s (destroy_attribute_plan i a) v (attribute_dropped a (flat s)) destroy_attribute_holds
        (clear_elements i (destroy_attribute_plan i a) below refl) (destroy_attribute_does v)
        ∙ ap (λ (j : ℕ). planned_in (attribute_dropped a (flat s)) (destroy_attribute_plan j a) v (flat s)) (sym (owner_read i s.form below lost there a at_index))

  -- any text: none is used
  pub destroy_attribute_planned : (a : ℕ) (v : Bytes) → first (conditions (destroy_attribute a) s) ≡ 0
      → flat (after (destroy_attribute a) s) ≡ planned_in (attribute_dropped a (flat s)) (destroy_attribute_plan (owner_at a (flat s).attributes) a) v (flat s)
  unfolding conditions
  destroy_attribute_planned a v e =
      let (index, end) = none_holds (destroy_attribute a) s e in
      let (o, at) = owned_there (attribute_at a s.form) none index in
      destroy_owned_planned a o at v
