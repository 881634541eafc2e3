-- Changes 5 and 8 on the documents: the quantifier of an element, and of a group.
use Prim.Native.Nat.{ℕ, ◌<◌}
use mathlib.Core.Path.{◌≡◌, refl, sym, ap, ◌∙◌, subst}
use mathlib.Core.Logic.{◌⊎◌}
use mathlib.Core.Bool.{Bool, true, false, ◌&&◌, ◌||◌, not, false≢true}
use mathlib.Core.Option.{Option, some}
use mathlib.Core.List.Memᴰ
use mathlib.Core.List.{List, [], ◌∷◌, map, append-nil, Memᴰ}
use lib.ListN.{length}
use Rattle.rules.specs.declared.Quantifier.{Quantifier}
use Rattle.rules.specs.declared.GroupKind.{GroupKind}
use Rattle.rules.specs.Bytes.{Bytes, same, bytes, same_eq}
use Rattle.rules.specs.Model.{Members, done, el, group, skips, nothing, unless, filling, names, rename, Distinct, member}
use Rattle.rules.specs.Quantifiers.{gains, cuts}
use Rattle.rules.specs.Place.{Context, Found, spine, before_place}
use Rattle.rules.specs.Edit.{quantify, place_of, ◌⊕◌}
use Rattle.rules.specs.Store.{Row, Forest, heads, Store, members}
use Rattle.rules.specs.Preorder.{Deep, preorder}
use Rattle.rules.specs.Layout.{FlatRow, index_of, indexed, flat}
use Rattle.rules.specs.Decode.{quantifier_of}
use Rattle.rules.specs.WellFormed.{definition_name, known}
use Rattle.rules.specs.Conforming.{is_element}
use Rattle.rules.specs.Filling.{fill_each, fill_definition}
use Rattle.rules.specs.Lines.{lines, element_named, element_among}
use Rattle.rules.specs.Passing.{good}
use Rattle.rules.specs.Change.{change_quantifier, change_group_quantifier, definition_at, name_at_index, update, in_model, edit_at, form_after, group_filling, quantify_plan, picked_plan, plan, changed}
use Rattle.rules.proofs.Words.{and_split}
use Rattle.rules.proofs.Letters.{member_in, member_out}
use Rattle.rules.proofs.PassingLaws.{good_is}
use Rattle.change_laws.proofs.Rowwise.{Standing}
use Rattle.store_check.specs.Reading.{flat_index_form, entry_of}
use Rattle.filling.specs.declared.Filling.{Filling}
use Rattle.filling.specs.declared.Filling.TheVariants.{Definition, Particles}
use Rattle.filling.specs.Fillings.{filling_rows}
use Rattle.row_walk.specs.Walk.{owed}
use Rattle.filling.specs.Parts.{value_of}
use Rattle.planned_rows.specs.Planned.{members_at}
use Rattle.plans.specs.ModelCalls.{Marked, gain_filling, requantify_plan, DoesIn}
use Rattle.plans.proofs.Fillings.{filling_index}
use Rattle.plans.proofs.GroupFillings.{filling_group}
use Rattle.plans.proofs.ModelForms.{picked_known, index_of_name_lem, named_test}
use Rattle.plans.proofs.PlacedRows.{NoneAt, FirstAt, instance_rows}
use Rattle.plans.proofs.RequantifyPlans.{requantify_does}
use borrow.Author.Tests.{not-true}
use Rattle.model_writer.proofs.FormAfter.{rows_kept}

same_one : (n m : Bytes) → same n m ≡ member bytes m (n ∷ [])
same_one n m = by (same n m) refl
  where
    by : (b : Bool) → same n m ≡ b → same n m ≡ member bytes m (n ∷ [])
    by true e = e ∙ sym (member_in bytes m (n ∷ []) (Memᴰ.head (sym (same_eq n m e))))
    by false e = e ∙ sym (member_out bytes m (n ∷ []) (λ j. false≢true (sym e ∙ bytes.same← n m (sym (Memᴰ.eq_of_singleton j)))))

both_spined : (a b d : Bool) → ((a && b) || (a && d)) ≡ true → a ≡ true
both_spined true b d e = refl
both_spined false b d e = e

module _ (s : Store) (g : good s ≡ true) (o : ℕ) (l : o < length s.form) (p : List ℕ) (k : ℕ) (t : Bytes) (c : Context Bytes) (old : Quantifier) (marks : Bytes) where
  abbrev new : Quantifier
  new = quantifier_of k

  abbrev owner : Bytes
  owner = name_at_index o s.form

  abbrev cut : Bool
  cut = spine c && cuts old new

  abbrev gain : Bool
  gain = spine c && gains old new

  once : Distinct (map definition_name s.form)
  once = ((good_is s).0 g).form.names

  abbrev rows_of : Filling → ℕ → List (Deep FlatRow)
  rows_of what d = filling_rows (flat_index_form (flat s)) (λ j. value_of (entry_of j (flat s).attributes)) (λ a b. members_at (flat s) a b) what t d

  -- the filling if there is a gain
  gained : (what : Filling) (rows : Forest Row) (b : Bool) (d : ℕ) (m : Bytes) → (b ≡ true → rows_of what d ≡ preorder d (indexed s.form m rows))
      → rows_of (gain_filling b what) d ≡ owed b (preorder d (indexed s.form m rows))
  gained what rows true d m e = e refl
  gained what rows false d m e = refl

  -- ---- 5: element n
  module _ (n : Bytes) (rest : Members Bytes) (at : place_of (quantify (quantifier_of k)) p (members (definition_at o s.form)) ≡ some (record { context = c; picked = el old n rest }))
      (marked : ((spine c && cuts old (quantifier_of k)) || (spine c && gains old (quantifier_of k))) ≡ true → Marked s.form (before_place c) (n ∷ []) marks) where
    abbrev x : ℕ
    x = index_of n s.form

    there : known s.form n ≡ true
    unfolding names
    there = picked_known s g o l (quantify new) p (record { context = c; picked = el old n rest }) at n (Memᴰ.head refl)

    among : (r : Row) → element_named n r ≡ element_among (n ∷ []) r
    among r = ap (λ (z : Bool). is_element r.sort && z) (same_one n r.name)

    definition_rows_lem : (d : ℕ) (m : Bytes) → rows_of (Definition x) d ≡ preorder d (indexed s.form m (fill_definition s.version s.form t n))
    definition_rows_lem d m =
        let (below, name) = index_of_name_lem s.form once n there in
        sym (filling_index s g t d x m below) ∙ ap (λ (z : Bytes). preorder d (indexed s.form m (fill_definition s.version s.form t z))) name

    standing : (cut || gain) ≡ true → (r : Row) (b : Forest Row) → Standing s.docs r b → element_named owner r ≡ true → NoneAt (n ∷ []) (heads b) ⊎ FirstAt (before_place c) (n ∷ []) (heads b)
    unfolding names ◌⊕◌
    standing f = instance_rows s g o l (quantify new) p c (el old n done) rest at refl (both_spined (spine c) (cuts old new) (gains old new) f)

    pub change_quantifier_does : DoesIn (change_quantifier o p k t) s
        (requantify_plan o marks (spine c && cuts old (quantifier_of k)) (index_of n s.form) (spine c && gains old (quantifier_of k))
        (Definition (index_of n s.form)))
        t
    unfolding plan form_after
    change_quantifier_does =
        requantify_does s g o l c (n ∷ []) marks cut gain x n (Definition x) t (fill_definition s.version s.form t n) (element_named n) marked standing
        among (λ e m r. named_test s.form once n there m r) (λ e. among)
        (λ d m. gained (Definition x) (fill_definition s.version s.form t n) gain d m (λ e. definition_rows_lem d m))
        ∙ sym (ap (preorder 0) (rows_kept (edit_at (quantify new) p) o s.form [] (changed (quantify_plan s.version s.form (lines 0 s.docs) owner t new c (el old n rest)) s.docs)))
        ∙ ap
        (λ (z : Option (Found Bytes)). preorder 0
        (indexed (update o (in_model (edit_at (quantify new) p)) s.form) []
        (changed (picked_plan (quantify_plan s.version s.form (lines 0 s.docs) owner t new) z) s.docs)))
        (sym at)

  -- ---- 8: a group, whose members of depth e begin with particle number f
  module _ (j : GroupKind) (ms rest : Members Bytes) (at : place_of (quantify (quantifier_of k)) p (members (definition_at o s.form)) ≡ some (record { context = c; picked = group old j ms rest }))
      (marked : (spine c && gains old (quantifier_of k)) ≡ true → Marked s.form (before_place c) (names ms) marks) (f e : ℕ)
      (begin : (spine c && gains old (quantifier_of k)) ≡ true → members_at (flat s) f e ≡ rename (λ n. index_of n s.form) ms) where
    abbrev rows : Forest Row
    rows = fill_each (λ n. fill_definition s.version s.form t n) (group_filling new j ms)

    -- a gain needs a filling
    needed : gain ≡ true → group_filling new j ms ≡ unless (nothing j ms) (filling j ms)
    needed h =
        let (a, b) = and_split (spine c) (gains old new) h in
        ap (λ (z : Bool). unless (z || nothing j ms) (filling j ms)) (not-true (skips new) (and_split (not (skips new)) (skips old) b).0)

    known_member : (n : Bytes) → Memᴰ n (names ms) → known s.form n ≡ true
    unfolding names
    known_member n m = picked_known s g o l (quantify new) p (record { context = c; picked = group old j ms rest }) at n (Memᴰ.append_left (names rest) m)

    group_rows : gain ≡ true → (d : ℕ) (m : Bytes) → rows_of (Particles j f e) d ≡ preorder d (indexed s.form m rows)
    group_rows h d m =
        filling_group s g t d m j ms f e known_member (begin h)
        ∙ ap (λ (ns : List Bytes). preorder d (indexed s.form m (fill_each (λ n. fill_definition s.version s.form t n) ns))) (sym (needed h))

    standing_group : gain ≡ true → (r : Row) (b : Forest Row) → Standing s.docs r b → element_named owner r ≡ true → NoneAt (names ms) (heads b) ⊎ FirstAt (before_place c) (names ms) (heads b)
    unfolding names ◌⊕◌
    standing_group f r b i n =
        subst (λ (ns : List Bytes). NoneAt ns (heads b) ⊎ FirstAt (before_place c) ns (heads b)) (append-nil (names ms))
        (instance_rows s g o l (quantify new) p c (group old j ms done) rest at refl (both_spined (spine c) false (gains old new) (or_no (spine c) (spine c && gains old new) f)) r b i n)
      where
        or_no : (a b : Bool) → b ≡ true → ((a && false) || b) ≡ true
        or_no true b e = e
        or_no false b e = e

    pub change_group_quantifier_does : DoesIn (change_group_quantifier o p k t) s (requantify_plan o marks false 0 (spine c && gains old (quantifier_of k)) (Particles j f e)) t
    unfolding plan form_after
    change_group_quantifier_does =
        requantify_does s g o l c (names ms) marks false gain 0 [] (Particles j f e) t rows (element_among (names ms)) marked standing_group (λ r. refl)
        (λ e. absurd (false≢true e)) (λ e. absurd (false≢true e))
        (λ d m. gained (Particles j f e) rows gain d m (λ h. group_rows h d m))
        ∙ sym (ap (preorder 0) (rows_kept (edit_at (quantify new) p) o s.form [] (changed (quantify_plan s.version s.form (lines 0 s.docs) owner t new c (group old j ms rest)) s.docs)))
        ∙ ap
        (λ (z : Option (Found Bytes)). preorder 0
        (indexed (update o (in_model (edit_at (quantify new) p)) s.form) []
        (changed (picked_plan (quantify_plan s.version s.form (lines 0 s.docs) owner t new) z) s.docs)))
        (sym at)
