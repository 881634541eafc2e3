-- THE STORE AFTER CHANGES 3, 4, 5 AND 8, where no condition of the
-- refusal table holds: the bodies after the plan by indices.
use Prim.Native.Nat.{ℕ}
use mathlib.Core.Path.{◌≡◌, refl}
use mathlib.Core.Bool.{true, false, ◌&&◌, ◌||◌, not}
use mathlib.Core.Option.{some}
use mathlib.Core.List.{List, [], ◌∷◌}
use Rattle.rules.specs.declared.Quantifier.{Quantifier}
use Rattle.rules.specs.declared.GroupKind.{GroupKind}
use Rattle.rules.specs.Bytes.{Bytes}
use Rattle.rules.specs.Model.{Members, el, group, names, rename, skips}
use Rattle.rules.specs.Quantifiers.{gains, cuts}
use Rattle.rules.specs.Place.{Context, spine, before_place}
use Rattle.rules.specs.Edit.{insert, remove, quantify, place_of}
use Rattle.rules.specs.Store.{Store, members}
use Rattle.rules.specs.Layout.{FlatStore, index_of, flat}
use Rattle.rules.specs.Decode.{quantifier_of}
use Rattle.rules.specs.Passing.{good}
use Rattle.rules.specs.Refusal.{past_end, first, conditions}
use Rattle.rules.specs.Change.{insert_element, remove_element, change_quantifier, change_group_quantifier, definition_at, name_at_index, form_after, after}
use Rattle.rules.proofs.Words.{or_split}
use Rattle.change_laws.proofs.Conditions.{not_past, none_holds}
use Rattle.filling.specs.declared.Filling.TheVariants.{Definition, Particles}
use Rattle.planned_rows.specs.Planned.{members_at, planned_in}
use Rattle.plans.specs.Bodies.{HoldsForm}
use Rattle.plans.specs.ModelCalls.{Marked, insert_element_plan, remove_element_plan, requantify_plan}
use Rattle.plans.proofs.FormPlanned.{flat_planned_in}
use Rattle.plans.proofs.AttributeCallsPlanned.{clear_elements}
use Rattle.plans.proofs.MemberPlans.{insert_element_does, remove_element_does}
use Rattle.plans.proofs.QuantifierPlans.{change_quantifier_does, change_group_quantifier_does}

-- c: what is around the place p in the model of definition o; new: the bodies of the form after the call
module _ (s : Store) (g : good s ≡ true) (o : ℕ) (p : List ℕ) (c : Context Bytes) (new : FlatStore) where
  -- 3; ms: the members after the place
  pub insert_element_planned : (i k : ℕ) (t : Bytes) (ms : Members Bytes) (marks : Bytes) → first (conditions (insert_element o p i k t) s) ≡ 0
      → place_of (insert (quantifier_of k) (name_at_index i s.form)) p (members (definition_at o s.form)) ≡ some (record { context = c; picked = ms })
      → ((not (skips (quantifier_of k)) && spine c) ≡ true → Marked s.form (before_place c) [] marks) → HoldsForm new (form_after (insert_element o p i k t) s.form)
      → flat (after (insert_element o p i k t) s) ≡ planned_in new (insert_element_plan o marks i (not (skips (quantifier_of k)) && spine c)) t (flat s)
  unfolding conditions
  insert_element_planned i k t ms marks e at marked holds =
      let (text, (code, (index, more))) = none_holds (insert_element o p i k t) s e in
      let (a, b) = or_split (past_end o s.form) (past_end i s.form) index in
      flat_planned_in (insert_element o p i k t) s (insert_element_plan o marks i (not (skips (quantifier_of k)) && spine c)) t new holds
      (clear_elements s g o (insert_element_plan o marks i (not (skips (quantifier_of k)) && spine c)) (not_past o s.form a) refl)
      (insert_element_does s g o (not_past o s.form a) p i k t c ms (not_past i s.form b) at marks marked)

  -- 4: element n; any text: none is used
  pub remove_element_planned : (q : Quantifier) (n : Bytes) (rest : Members Bytes) (v : Bytes) → first (conditions (remove_element o p) s) ≡ 0
      → place_of remove p (members (definition_at o s.form)) ≡ some (record { context = c; picked = el q n rest }) → HoldsForm new (form_after (remove_element o p) s.form)
      → flat (after (remove_element o p) s) ≡ planned_in new (remove_element_plan o (index_of n s.form)) v (flat s)
  unfolding conditions
  remove_element_planned q n rest v e at holds =
      let (index, more) = none_holds (remove_element o p) s e in
      flat_planned_in (remove_element o p) s (remove_element_plan o (index_of n s.form)) v new holds (clear_elements s g o (remove_element_plan o (index_of n s.form)) (not_past o s.form index) refl)
      (remove_element_does s g o (not_past o s.form index) p c q n rest at v)

  -- 5: element n
  pub change_quantifier_planned : (k : ℕ) (t : Bytes) (old : Quantifier) (n : Bytes) (rest : Members Bytes) (marks : Bytes) → first (conditions (change_quantifier o p k t) s) ≡ 0
      → place_of (quantify (quantifier_of k)) p (members (definition_at o s.form)) ≡ some (record { context = c; picked = el old n rest })
      → (((spine c && cuts old (quantifier_of k)) || (spine c && gains old (quantifier_of k))) ≡ true → Marked s.form (before_place c) (n ∷ []) marks)
      → HoldsForm new (form_after (change_quantifier o p k t) s.form)
      → flat (after (change_quantifier o p k t) s)
      ≡ planned_in new (requantify_plan o marks (spine c && cuts old (quantifier_of k)) (index_of n s.form) (spine c && gains old (quantifier_of k)) (Definition (index_of n s.form))) t (flat s)
  unfolding conditions
  change_quantifier_planned k t old n rest marks e at marked holds =
      let (text, (code, (index, more))) = none_holds (change_quantifier o p k t) s e in
      flat_planned_in (change_quantifier o p k t) s
      (requantify_plan o marks (spine c && cuts old (quantifier_of k)) (index_of n s.form) (spine c && gains old (quantifier_of k))
      (Definition (index_of n s.form)))
      t new holds
      (clear_elements s g o
      (requantify_plan o marks (spine c && cuts old (quantifier_of k)) (index_of n s.form) (spine c && gains old (quantifier_of k))
      (Definition (index_of n s.form)))
      (not_past o s.form index) refl)
      (change_quantifier_does s g o (not_past o s.form index) p k t c old marks n rest at marked)

  -- 8: a group, whose members of depth e begin with particle number f
  pub change_group_quantifier_planned : (k : ℕ) (t : Bytes) (old : Quantifier) (j : GroupKind) (ms rest : Members Bytes) (marks : Bytes) (f e : ℕ)
      → first (conditions (change_group_quantifier o p k t) s) ≡ 0
      → place_of (quantify (quantifier_of k)) p (members (definition_at o s.form)) ≡ some (record { context = c; picked = group old j ms rest })
      → ((spine c && gains old (quantifier_of k)) ≡ true → Marked s.form (before_place c) (names ms) marks)
      → ((spine c && gains old (quantifier_of k)) ≡ true → members_at (flat s) f e ≡ rename (λ n. index_of n s.form) ms)
      → HoldsForm new (form_after (change_group_quantifier o p k t) s.form)
      → flat (after (change_group_quantifier o p k t) s) ≡ planned_in new (requantify_plan o marks false 0 (spine c && gains old (quantifier_of k)) (Particles j f e)) t (flat s)
  unfolding conditions
  change_group_quantifier_planned k t old j ms rest marks f e unmet at marked begin holds =
      let (text, (code, (index, more))) = none_holds (change_group_quantifier o p k t) s unmet in
      flat_planned_in (change_group_quantifier o p k t) s (requantify_plan o marks false 0 (spine c && gains old (quantifier_of k)) (Particles j f e)) t new holds
      (clear_elements s g o (requantify_plan o marks false 0 (spine c && gains old (quantifier_of k)) (Particles j f e)) (not_past o s.form index) refl)
      (change_group_quantifier_does s g o (not_past o s.form index) p k t c old marks j ms rest at marked f e begin)
