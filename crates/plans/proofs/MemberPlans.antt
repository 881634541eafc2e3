-- Changes 3 and 4 on the documents of a store that passes: the plan by indices does what the plan of the rules does.
use Prim.Native.Nat.{ℕ, ◌<◌}
use mathlib.Core.Path.{◌≡◌, refl, sym, ap, ap₂, ◌∙◌}
use mathlib.Core.Bool.{Bool, true, ◌&&◌, not, and-false, false≢true, and_comm}
use mathlib.Core.Option.{Option, some}
use mathlib.Core.List.Memᴰ
use mathlib.Core.List.{List, [], map}
use lib.ListN.{length}
use Rattle.rules.specs.declared.Quantifier.{Quantifier}
use Rattle.rules.specs.Bytes.{Bytes}
use Rattle.rules.specs.Model.{Members, el, Distinct, skips, names}
use Rattle.rules.specs.Place.{Context, Found, spine, before_place}
use Rattle.rules.specs.Edit.{Edit, insert, remove, place_of}
use Rattle.rules.specs.Store.{Row, Forest, Store, members}
use Rattle.rules.specs.Preorder.{Deep, preorder}
use Rattle.rules.specs.Layout.{FlatRow, index_of, indexed, flat}
use Rattle.rules.specs.Decode.{quantifier_of}
use Rattle.rules.specs.WellFormed.{definition_name, known}
use Rattle.rules.specs.Filling.{fill_definition}
use Rattle.rules.specs.Lines.{element_named}
use Rattle.rules.specs.Passing.{good}
use Rattle.rules.specs.Change.{insert_element, remove_element, definition_at, name_at_index, update, in_model, edit_at, form_after, taking, making, later_than}
use Rattle.rules.specs.Change.{insert_plan, remove_plan, picked_plan, plan, changed}
use Rattle.rules.specs.Change as change
use Rattle.rules.proofs.PassingLaws.{good_is}
use Rattle.change_laws.proofs.Rowwise.{Standing}
use Rattle.store_check.proofs.IndexLaws.{element_test}
use Rattle.store_check.proofs.AttributeRows.{row_written}
use Rattle.row_walk.specs.declared.Which.TheVariants.{Elements}
use Rattle.row_walk.specs.declared.Plan.{Plan}
use Rattle.planned_rows.specs.Planned.{fill_of}
use Rattle.plans.specs.Following.{RowFollows}
use Rattle.plans.specs.ModelCalls.{Marked, remove_element_plan, insert_element_plan, DoesIn}
use Rattle.plans.proofs.Fillings.{filling_index}
use Rattle.plans.proofs.TreePlans.{documents_follow}
use Rattle.plans.proofs.FollowingLaws.{index_same, value_same, follows_all, takes_follow}
use Rattle.plans.proofs.DocumentPlans.{given}
use Rattle.plans.proofs.ModelForms.{known_element, picked_known, named_test, later_test}
use Rattle.model_writer.proofs.FormAfter.{rows_kept}

module _ (s : Store) (g : good s ≡ true) (o : ℕ) (l : o < length s.form) (p : List ℕ) where
  abbrev owner : Bytes
  owner = name_at_index o s.form

  once : Distinct (map definition_name s.form)
  once = ((good_is s).0 g).form.names

  -- ---- 4: member n at the place
  pub remove_element_does : (c : Context Bytes) (q : Quantifier) (n : Bytes) (t : Members Bytes)
      → place_of remove p (members (definition_at o s.form)) ≡ some (record { context = c; picked = el q n t })
      → (v : Bytes) → DoesIn (remove_element o p) s (remove_element_plan o (index_of n s.form)) v
  unfolding plan form_after names
  remove_element_does c q n t at v =
      documents_follow s.form s.form taker (remove_element_plan o x) v fill record { keeps = refl; spares = refl } s.docs
      record {
        fills = refl;
        filling = λ e. absurd (false≢true e);
        rows =
            follows_all s.form s.form taker (remove_element_plan o x) v fill s.docs (λ sel u. sel ≡ element_named owner u)
            (λ sel w u r b y i. (
              takes_follow s.form v fill sel w u r taker.takes (Elements o) (Elements x) (given s g r b i) (ap₂ (λ (a d : Bool). a && d) y (named_test s.form once n there u.name r)),
              element_test s.form once o l u.name r,
            ))
            refl;
      }
      ∙ sym (ap (preorder 0) (rows_kept (edit_at remove p) o s.form [] (changed taker s.docs)))
      ∙ ap (λ (z : Option (Found Bytes)). preorder 0 (indexed (update o (in_model (edit_at remove p)) s.form) [] (changed (picked_plan (λ c t. remove_plan owner t) z) s.docs))) (sym at)
    where
      x : ℕ
      x = index_of n s.form

      there : known s.form n ≡ true
      there = picked_known s g o l remove p (record { context = c; picked = el q n t }) at n (Memᴰ.head refl)

      taker : change.Plan
      taker = taking (λ u r. element_named owner u && element_named n r)

      fill : ℕ → List (Deep FlatRow)
      fill = fill_of (remove_element_plan o x) v (flat s)

  -- ---- 3: definition i, before the members t at the place
  module _ (i k : ℕ) (t : Bytes) (c : Context Bytes) (ms : Members Bytes) (below : i < length s.form)
      (at : place_of (insert (quantifier_of k) (name_at_index i s.form)) p (members (definition_at o s.form)) ≡ some (record { context = c; picked = ms }))
      (marks : Bytes) (marked : (not (skips (quantifier_of k)) && spine c) ≡ true → Marked s.form (before_place c) [] marks) where
    abbrev needs : Bool
    needs = not (skips (quantifier_of k)) && spine c

    abbrev inserting : Plan
    inserting = insert_element_plan o marks i needs

    abbrev maker : change.Plan
    maker = making (λ r. needs && element_named owner r) (later_than (before_place c)) (fill_definition s.version s.form t (name_at_index i s.form))

    abbrev fill : ℕ → List (Deep FlatRow)
    fill = fill_of inserting t (flat s)

    insert_row : (sel : Bool) (w u r : Row) (b : Forest Row) → Standing s.docs r b → RowFollows s.form s.form maker inserting t fill sel w u r
    insert_row sel w u r b j =
        record {
          takes = and-false sel;
          later = λ e f. later_test s.form once (before_place c) [] marks (marked f) u.name r (known_element s g r b j);
          index = index_same inserting refl refl (row_written s.form u.name r);
          value = value_same r [] (given s g r b j);
          fills = ap (λ (a : Bool). a && needs) (element_test s.form once o l u.name r) ∙ and_comm (element_named owner r) needs;
          filling = λ e d. sym (filling_index s g t d i r.name below);
        }

    pub insert_element_does : DoesIn (insert_element o p i k t) s (insert_element_plan o marks i (not (skips (quantifier_of k)) && spine c)) t
    unfolding plan form_after
    insert_element_does =
        documents_follow s.form s.form maker inserting t fill record { keeps = refl; spares = refl } s.docs
        record {
          fills = sym (and-false needs);
          filling = λ e d. sym (filling_index s g t d i [] below);
          rows =
              follows_all s.form s.form maker inserting t fill s.docs (λ sel u. sel ≡ element_named owner u)
              (λ sel w u r b y j. (insert_row sel w u r b j, element_test s.form once o l u.name r)) refl;
        }
        ∙ sym (ap (preorder 0) (rows_kept (edit_at edit p) o s.form [] (changed maker s.docs)))
        ∙ ap
        (λ (z : Option (Found Bytes)). preorder 0
        (indexed (update o (in_model (edit_at edit p)) s.form) []
        (changed (insert_plan s.version s.form owner t (quantifier_of k) (name_at_index i s.form) z) s.docs)))
        (sym at)
      where
        edit : Edit Bytes
        edit = insert (quantifier_of k) (name_at_index i s.form)
