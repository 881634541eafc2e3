-- Changes 11, 12, 13 and 16 on the documents of a store that passes: the
-- plan by indices does what the plan of the rules does.
use Prim.Native.Nat.{ℕ, ◌<◌}
use mathlib.Core.Path.{◌≡◌, refl, sym, ap, ◌∙◌}
use mathlib.Core.Bool.{true, false≢true}
use mathlib.Core.List.{List, []}
use lib.Dec.{eqb}
use lib.ListN.{length}
use Rattle.rules.specs.Bytes.{Bytes, numbers}
use Rattle.rules.specs.Store.{Row, Forest, Store}
use Rattle.rules.specs.Preorder.{Deep, preorder}
use Rattle.rules.specs.Layout.{FlatRow, indexed, flat}
use Rattle.rules.specs.Lines.{lines, element_with}
use Rattle.rules.specs.Passing.{good}
use Rattle.rules.specs.Filling.{fill_definition}
use Rattle.rules.specs.Change.{Call, add_document, add_element, destroy_element, set_text, name_at_index, neither, making, taking, setting, plan, changed}
use Rattle.rules.specs.Change as change
use Rattle.rules.proofs.Apart.{differs}
use Rattle.rules.proofs.PassingLaws.{good_is}
use Rattle.change_laws.proofs.Rowwise.{Standing}
use Rattle.change_laws.proofs.StandingLaws.{no_zero}
use Rattle.filling.specs.declared.Filling.TheVariants.{Definition}
use Rattle.row_walk.specs.declared.Which.TheVariants.{Everything, Ground, Serial}
use Rattle.row_walk.specs.declared.Later.TheVariants as later
use Rattle.row_walk.specs.declared.Plan.{Plan}
use Rattle.planned_rows.specs.Planned.{fill_of}
use Rattle.plans.specs.Following.{Does}
use Rattle.plans.specs.CallPlans.{setting_plan, child_serial, text_serial, add_document_plan, add_element_plan, destroy_element_plan, set_text_plan}
use Rattle.plans.proofs.Fillings.{filling_index}
use Rattle.plans.proofs.TreePlans.{documents_follow}
use Rattle.plans.proofs.FollowingLaws.{serial_test, follows_all, fills_follow, takes_follow, sets_follow}

module _ (s : Store) (g : good s ≡ true) where
  -- no row has serial 0
  pub given : (r : Row) (b : Forest Row) → Standing s.docs r b → r.serial ≡ 0 → ⊥
  given r b i = no_zero s.next s.docs ((good_is s).0 g).serials r b i

  -- ---- 11
  pub add_document_does : (i : ℕ) (t : Bytes) → i < length s.form → Does (add_document i t) s (add_document_plan i) t
  unfolding plan
  add_document_does i t l =
      documents_follow s.form s.form q (add_document_plan i) t fill record { keeps = refl; spares = refl } s.docs
      record {
        fills = refl;
        filling = λ e d. sym (filling_index s g t d i [] l);
        rows =
            follows_all s.form s.form q (add_document_plan i) t fill s.docs (λ sel u. Unit {0})
            (λ sel w u r b k j. (
              fills_follow s.form t fill sel w u r q.fills neither q.filling Ground later.Never (Definition i) (given r b j) (λ e. refl) (sym (differs numbers r.serial 0 (given r b j)))
                  (λ e d. sym (filling_index s g t d i r.name l)),
              tt,
            ))
            tt;
      }
    where
      q : change.Plan
      q = making (λ r. eqb r.serial 0) neither (fill_definition s.version s.form t (name_at_index i s.form))

      fill : ℕ → List (Deep FlatRow)
      fill = fill_of (add_document_plan i) t (flat s)

  -- ---- 12; m: the child that the filling comes before
  pub add_element_does : (k j i : ℕ) (t : Bytes) → i < length s.form → Does (add_element k j i t) s (add_element_plan k (child_serial k j s) i) t
  unfolding plan
  add_element_does k j i t l =
      documents_follow s.form s.form q p t fill record { keeps = refl; spares = refl } s.docs
      record {
        fills = refl;
        filling = λ e. absurd (false≢true e);
        rows =
            follows_all s.form s.form q p t fill s.docs (λ sel u. Unit {0})
            (λ sel w u r b x n. (
              fills_follow s.form t fill sel w u r q.fills q.later q.filling (Serial k) (later.Row m) (Definition i) (given r b n) (λ e. refl) (serial_test s.form u.name k r)
                  (λ e d. sym (filling_index s g t d i r.name l)),
              tt,
            ))
            tt;
      }
    where
      m : ℕ
      m = child_serial k j s

      p : Plan
      p = add_element_plan k m i

      q : change.Plan
      q = making (element_with k) (λ u r. eqb r.serial m) (fill_definition s.version s.form t (name_at_index i s.form))

      fill : ℕ → List (Deep FlatRow)
      fill = fill_of p t (flat s)

  -- ---- 13
  pub destroy_element_does : (k : ℕ) (v : Bytes) → Does (destroy_element k) s (destroy_element_plan k) v
  unfolding plan
  destroy_element_does k v =
      documents_follow s.form s.form q (destroy_element_plan k) v fill record { keeps = refl; spares = refl } s.docs
      record {
        fills = refl;
        filling = λ e. absurd (false≢true e);
        rows =
            follows_all s.form s.form q (destroy_element_plan k) v fill s.docs (λ sel u. Unit {0})
            (λ sel w u r b x n. (takes_follow s.form v fill sel w u r q.takes Everything (Serial k) (given r b n) (serial_test s.form u.name k r), tt)) tt;
      }
    where
      q : change.Plan
      q = taking (λ u r. element_with k r)

      fill : ℕ → List (Deep FlatRow)
      fill = fill_of (destroy_element_plan k) v (flat s)

  -- ---- 14 where the attribute's row is there, and 16: a value is set
  pub set_value_does : (m : ℕ) (v : Bytes) (c : Call) → plan c s.version s.form (lines 0 s.docs) ≡ setting m v → Does c s (setting_plan m) v
  set_value_does m v c e =
      documents_follow s.form s.form (setting m v) (setting_plan m) v fill record { keeps = refl; spares = refl } s.docs
      record {
        fills = refl;
        filling = λ e. absurd (false≢true e);
        rows = follows_all s.form s.form (setting m v) (setting_plan m) v fill s.docs (λ sel u. Unit {0}) (λ sel w u r b x n. (sets_follow s.form v fill sel w u r m, tt)) tt;
      }
      ∙ ap (λ (q : change.Plan). preorder 0 (indexed s.form [] (changed q s.docs))) (sym e)
    where
      fill : ℕ → List (Deep FlatRow)
      fill = fill_of (setting_plan m) v (flat s)

  pub set_text_does : (k : ℕ) (t : Bytes) → Does (set_text k t) s (set_text_plan (text_serial k s)) t
  unfolding plan
  set_text_does k t = set_value_does (text_serial k s) t (set_text k t) refl
