-- Changes 5 and 8 on the documents of a store that passes: the plan by indices does what the plan of the rules does.
use Prim.Native.Nat.{ℕ, ◌<◌}
use mathlib.Core.Path.{◌≡◌, refl, sym, ap, ap₂, ◌∙◌, subst}
use mathlib.Core.Logic.{◌⊎◌, inl, inr}
use mathlib.Core.Bool.{Bool, true, false, ◌&&◌, ◌||◌, not, and-true, and-false, false≢true}
use mathlib.Core.List.Memᴰ
use mathlib.Core.List.{List, [], ◌∷◌, map, Memᴰ}
use lib.Dec.{eqb}
use lib.ListN.{length}
use borrow.Author.Tests.{eq-eqb, ne_eqb}
use Rattle.rules.specs.Bytes.{Bytes, is_none}
use Rattle.rules.specs.Model.{Distinct}
use Rattle.rules.specs.Place.{Context, before_place}
use Rattle.rules.specs.Store.{Row, Forest, bare, tree, heads, Store}
use Rattle.rules.specs.Preorder.{Deep, preorder}
use Rattle.rules.specs.Layout.{FlatRow, indexed, flat}
use Rattle.rules.specs.WellFormed.{definition_name}
use Rattle.rules.specs.Lines.{Line, lines, element_named, element_among, children_of, serial_at}
use Rattle.rules.specs.Passing.{good, GoodSerials}
use Rattle.rules.specs.Change.{name_at_index, later_than, changed}
use Rattle.rules.specs.Change as change
use Rattle.rules.proofs.PassingLaws.{good_is}
use Rattle.rules.proofs.Words.{or_split}
use Rattle.change_laws.proofs.RowEdits.{row_serial, keep, revalued}
use Rattle.change_laws.proofs.Rowwise.{Standing}
use Rattle.change_laws.proofs.StandingLaws.{children_are, children_once}
use Rattle.change_laws.proofs.InstanceRows.{keep_none, keep_no, keep_yes}
use Rattle.store_check.proofs.IndexLaws.{element_test}
use Rattle.store_check.proofs.AttributeRows.{row_written}
use Rattle.filling.specs.declared.Filling.{Filling}
use Rattle.row_walk.specs.declared.Which.TheVariants.{Elements}
use Rattle.row_walk.specs.declared.Later.TheVariants.{Unmarked}
use Rattle.row_walk.specs.declared.Plan.{Plan}
use Rattle.row_walk.specs.Walk.{matches, is_later, owed}
use Rattle.planned_rows.specs.Planned.{fill_of}
use Rattle.plans.specs.Trees.{taken_at, filled_at, documents_walk}
use Rattle.plans.specs.Simulation.{planted, Going, Staying}
use Rattle.plans.specs.ModelCalls.{Marked, cut_takes, requantify_plan}
use Rattle.plans.proofs.SimulationLaws.{documents_simulate}
use Rattle.plans.proofs.FollowingLaws.{index_same, value_same}
use Rattle.plans.proofs.DocumentPlans.{given}
use Rattle.plans.proofs.ModelForms.{known_element, later_test, place_test}
use Rattle.plans.proofs.PlacedRows.{is_late, NoneAt, FirstAt}

-- ---- rows that pass a test
first_stands : (bs ns : List Bytes) (test : Row → Bool) → ((r : Row) → test r ≡ element_among ns r) → (rows : List Row) → FirstAt bs ns rows → is_none (map row_serial (keep test rows)) ≡ false
first_stands bs ns test same [] f = absurd f
first_stands bs ns test same (r ∷ rows) (inl (l, a)) = ap (λ (z : List Row). is_none (map row_serial z)) (keep_yes test r rows (same r ∙ a))
first_stands bs ns test same (r ∷ rows) (inr (l, a, f)) = ap (λ (z : List Row). is_none (map row_serial z)) (keep_no test r rows (same r ∙ a)) ∙ first_stands bs ns test same rows f

-- ---- tests
owed_twice : (a b : Bool) (w : List (Deep FlatRow)) → owed a (owed b w) ≡ owed (b && a) w
owed_twice true true w = refl
owed_twice true false w = refl
owed_twice false true w = refl
owed_twice false false w = refl

-- `cut`, `gain`: a cut or a gain at the place c, where the elements of the
-- names ns are; x: of the name n, which a cut takes
module _ (s : Store) (g : good s ≡ true) (o : ℕ) (l : o < length s.form) (c : Context Bytes) (ns : List Bytes) (marks : Bytes) (cut gain : Bool) (x : ℕ)
    (n : Bytes) (what : Filling) (v : Bytes) (rows : Forest Row) (test : Row → Bool)
    (marked : (cut || gain) ≡ true → Marked s.form (before_place c) ns marks)
    (instances : (cut || gain) ≡ true → (r : Row) (b : Forest Row) → Standing s.docs r b → element_named (name_at_index o s.form) r ≡ true
    → NoneAt ns (heads b) ⊎ FirstAt (before_place c) ns (heads b))
    (tests : (r : Row) → test r ≡ element_among ns r)
    (takes : cut ≡ true → (m : Bytes) (r : Row) → matches (Elements x) (row_written s.form m r) ≡ element_named n r)
    (alone : cut ≡ true → (r : Row) → element_named n r ≡ element_among ns r)
    (fills : (d : ℕ) (m : Bytes) → fill_of (requantify_plan o marks cut x gain what) v (flat s) d ≡ owed gain (preorder d (indexed s.form m rows))) where
  abbrev owner : Bytes
  owner = name_at_index o s.form

  abbrev ls : List Line
  ls = lines 0 s.docs

  abbrev p : Plan
  p = requantify_plan o marks cut x gain what

  -- the first of the name n below row u
  abbrev pub first_below : Row → ℕ
  first_below u = serial_at 0 (children_of (element_named n) u.serial ls)

  abbrev pub requantified : change.Plan
  requantified =
      record {
        takes = λ u r. cut && (element_named owner u && (element_named n r && not (eqb r.serial (first_below u))));
        fills = λ r. gain && (element_named owner r && is_none (children_of test r.serial ls));
        later = later_than (before_place c);
        filling = rows;
        set = 0;
        value = [];
      }

  abbrev fill : ℕ → List (Deep FlatRow)
  fill = fill_of p v (flat s)

  once : Distinct (map definition_name s.form)
  once = ((good_is s).0 g).form.names

  serials : GoodSerials s.next s.docs
  serials = ((good_is s).0 g).serials

  -- where the rows f, from some row on, stand: not below an instance; below one where none of ns stands; below one
  -- before its first of ns; below one, after that
  data Phase (sel due owes : Bool) (u : Row) (f : Forest Row) : Type 0 where
    outside : sel ≡ false → due ≡ false → owes ≡ false → element_named owner u ≡ false → Phase sel due owes u f
    bereft : sel ≡ true → due ≡ true → owes ≡ gain → element_named owner u ≡ true → (cut || gain) ≡ true → NoneAt ns (heads f) → Phase sel due owes u f
    waiting : sel ≡ true → due ≡ true → owes ≡ false → element_named owner u ≡ true → (cut || gain) ≡ true → FirstAt (before_place c) ns (heads f)
        → (cut ≡ true → first_below u ≡ serial_at 0 (map row_serial (keep (element_named n) (heads f)))) → Distinct (map row_serial (heads f)) → Phase sel due owes u f
    over : sel ≡ true → due ≡ false → owes ≡ false → element_named owner u ≡ true
        → (cut ≡ true → (r : Row) → Memᴰ r (heads f) → element_named n r ≡ true → r.serial ≡ first_below u → ⊥) → Phase sel due owes u f

  abbrev State : Bool → Bool → Bool → Row → Row → Forest Row → Type 0
  State sel due owes w u f = Phase sel due owes u f × ((r : Row) (b : Forest Row) → Standing f r b → Standing s.docs r b)

  -- ---- into the rows below row r
  enter : (u r : Row) (b : Forest Row) → Standing s.docs r b → ((y : Row) (d : Forest Row) → Standing b y d → Standing s.docs y d)
      → State (matches (Elements o) (row_written s.form u.name r)) (matches (Elements o) (row_written s.form u.name r) && (cut || gain))
      (requantified.fills (revalued requantified r)) (revalued requantified r) r b
  enter u r b i inside = (by (element_named owner r) refl, inside)
    where
      m : Bool
      m = matches (Elements o) (row_written s.form u.name r)

      is : m ≡ element_named owner r
      is = element_test s.form once o l u.name r

      children : (at : Row → Bool) → children_of at r.serial ls ≡ map row_serial (keep at (heads b))
      children at = children_are s.next s.docs serials at r b i

      Entered : Type 0
      Entered = Phase m (m && (cut || gain)) (requantified.fills (revalued requantified r)) r b

      placed : element_named owner r ≡ true → (cut || gain) ≡ true → NoneAt ns (heads b) ⊎ FirstAt (before_place c) ns (heads b) → Entered
      placed e f (inl none) =
          bereft (is ∙ e) (ap₂ (λ (a d : Bool). a && d) (is ∙ e) f)
          (ap₂ (λ (a d : Bool). gain && (a && d)) e
          (ap is_none (children test) ∙ ap (λ (z : List Row). is_none (map row_serial z)) (keep_none test (heads b) (λ y j. tests y ∙ none y j)))
          ∙ and-true gain)
          e f none
      placed e f (inr first) =
          waiting (is ∙ e) (ap₂ (λ (a d : Bool). a && d) (is ∙ e) f)
          (ap₂ (λ (a d : Bool). gain && (a && d)) e (ap is_none (children test) ∙ first_stands (before_place c) ns test tests (heads b) first) ∙ and-false gain) e f
          first (λ k. ap (serial_at 0) (children (element_named n)))
          (children_once s.next s.docs serials r b i)

      due : element_named owner r ≡ true → (d : Bool) → (cut || gain) ≡ d → Entered
      due e true f = placed e f (instances f r b i e)
      due e false f =
          over (is ∙ e) (ap₂ (λ (a d : Bool). a && d) (is ∙ e) f) (ap (λ (a : Bool). a && (element_named owner r && is_none (children_of test r.serial ls))) (or_split cut gain f).1) e
          (λ k y j h z. false≢true (sym (or_split cut gain f).0 ∙ k))

      by : (d : Bool) → element_named owner r ≡ d → Entered
      by true e = due e (cut || gain) refl
      by false e =
          outside (is ∙ e) (ap (λ (a : Bool). a && (cut || gain)) (is ∙ e)) (ap (λ (a : Bool). gain && (a && is_none (children_of test r.serial ls))) e ∙ and-false gain) e

  module _ (w u r : Row) (b t : Forest Row) where
    abbrev x' : FlatRow
    x' = row_written s.form u.name r

    abbrev Step : Bool → Bool → Bool → Type 0
    Step sel due owes =
        (Going s.form s.form requantified p v fill sel due u r × State sel due owes w u t)
        ⊎ (Staying s.form s.form requantified p v fill sel due owes w u r
        × State (matches (Elements o) x') (matches (Elements o) x' && (cut || gain)) (requantified.fills (revalued requantified r)) (revalued requantified r) r b
        × State sel (due && not (is_later marks Unmarked x')) (owes && not (is_late (before_place c) r)) w u t)

    step_as : (sel due owes a d e : Bool) → sel ≡ a → due ≡ d → owes ≡ e → Step a d e → Step sel due owes
    step_as sel due owes a d e p q r h = subst (λ (z : Bool). Step z due owes) (sym p) (subst (λ (z : Bool). Step a z owes) (sym q) (subst (λ (z : Bool). Step a d z) (sym r) h))

  module _ (w u r : Row) (b t : Forest Row) (i : Standing s.docs r b) (inside : (y : Row) (d : Forest Row) → Standing b y d → Standing s.docs y d)
      (beside : (y : Row) (d : Forest Row) → Standing t y d → Standing s.docs y d) where
    stays : (sel due owes : Bool) → requantified.takes u r ≡ false → taken_at p sel due (x' w u r b t) ≡ false
        → ((d : ℕ) → owed (filled_at p due (x' w u r b t)) (fill d) ≡ planted s.form s.form requantified p v fill (owes && is_late (before_place c) r) u.name d)
        → Staying s.form s.form requantified p v fill sel due owes w u r
    stays sel due owes a e f = record { taken = a; takes = e; filling = f; index = index_same p refl refl (x' w u r b t); value = value_same r [] (given s g r b i) }

    later : (cut || gain) ≡ true → is_later marks Unmarked (x' w u r b t) ≡ is_late (before_place c) r
    later f = later_test s.form once (before_place c) ns marks (marked f) u.name r (known_element s g r b i)

    filled : (cut || gain) ≡ true → filled_at p true (x' w u r b t) ≡ (is_late (before_place c) r && not (element_among ns r))
    filled f = ap₂ (λ (a d : Bool). a && not d) (later f) (place_test s.form once (before_place c) ns marks (marked f) u.name r (known_element s g r b i))

    -- up to the first no row is taken
    taken_due : taken_at p true true (x' w u r b t) ≡ false
    taken_due = by cut
      where
        by : (k : Bool) → (matches (cut_takes k x) (x' w u r b t) && not (k && true)) ≡ false
        by true = and-false (matches (Elements x) (x' w u r b t))
        by false = refl

    not_taken : (cut ≡ true → (element_named n r && not (eqb r.serial (first_below u))) ≡ false) → requantified.takes u r ≡ false
    not_taken h = by cut refl
      where
        by : (k : Bool) → cut ≡ k → (k && (element_named owner u && (element_named n r && not (eqb r.serial (first_below u))))) ≡ false
        by true e = ap (λ (z : Bool). element_named owner u && z) (h e) ∙ and-false (element_named owner u)
        by false e = refl

    step_outside : element_named owner u ≡ false → Step w u r b t false false false
    step_outside other =
        inr (
          stays false false false (ap (λ (z : Bool). cut && (z && (element_named n r && not (eqb r.serial (first_below u))))) other ∙ and-false cut) refl (λ d. refl),
          enter u r b i inside,
          (outside refl refl refl other, beside),
        )

    -- none of ns stands: the filling comes before the first later row
    step_bereft : element_named owner u ≡ true → (cut || gain) ≡ true → NoneAt ns (r ∷ heads t) → Step w u r b t true true gain
    step_bereft named f none =
        inr (
          stays true true gain (not_taken (λ k. ap (λ (z : Bool). z && not (eqb r.serial (first_below u))) (alone k r ∙ here))) taken_due
              (λ d.
              ap (λ (z : Bool). owed z (fill d)) (filled f ∙ ap (λ (z : Bool). late && not z) here ∙ and-true late)
              ∙ ap (owed late) (fills d u.name)
              ∙ owed_twice late gain (preorder d (indexed s.form u.name rows))),
          enter u r b i inside,
          (next late refl, beside),
        )
      where
        late : Bool
        late = is_late (before_place c) r

        here : element_among ns r ≡ false
        here = none r (Memᴰ.head refl)

        next : (d : Bool) → late ≡ d → Phase true (not (is_later marks Unmarked (x' w u r b t))) (gain && not late) u t
        next true e =
            over refl (ap not (later f ∙ e)) (ap (λ (z : Bool). gain && not z) e ∙ and-false gain) named
            (λ k y j h z. false≢true (sym (none y (Memᴰ.tail j)) ∙ sym (alone k y) ∙ h))
        next false e = bereft refl (ap not (later f ∙ e)) (ap (λ (z : Bool). gain && not z) e ∙ and-true gain) named f (λ y j. none y (Memᴰ.tail j))

    -- the first later row is the first of ns: it is spared, and kept
    step_waiting : element_named owner u ≡ true → (cut || gain) ≡ true → FirstAt (before_place c) ns (r ∷ heads t)
        → (cut ≡ true → first_below u ≡ serial_at 0 (map row_serial (keep (element_named n) (r ∷ heads t)))) → Distinct (map row_serial (r ∷ heads t))
        → Step w u r b t true true false
    step_waiting named f (inl (late, here)) serial (new, distinct) =
        inr (
          stays true true false (not_taken (λ k. ap (λ (z : Bool). element_named n r && not z) (eq-eqb r.serial (first_below u) (sym (this k))) ∙ and-false (element_named n r))) taken_due
              (λ d. ap (λ (z : Bool). owed z (fill d)) (filled f ∙ ap₂ (λ (a e : Bool). a && not e) late here)),
          enter u r b i inside,
          (over refl (ap not (later f ∙ late)) refl named (λ k y j h z. new (subst (λ (m : ℕ). Memᴰ m (map row_serial (heads t))) (z ∙ this k) (Memᴰ.map row_serial j))), beside),
        )
      where
        this : cut ≡ true → first_below u ≡ r.serial
        this k = serial k ∙ ap (λ (z : List Row). serial_at 0 (map row_serial z)) (keep_yes (element_named n) r (heads t) (alone k r ∙ here))
    step_waiting named f (inr (early, other, first)) serial (new, distinct) =
        inr (
          stays true true false (not_taken (λ k. ap (λ (z : Bool). z && not (eqb r.serial (first_below u))) (alone k r ∙ other))) taken_due
              (λ d. ap (λ (z : Bool). owed z (fill d)) (filled f ∙ ap (λ (z : Bool). z && not (element_among ns r)) early)),
          enter u r b i inside,
          (
            waiting refl (ap not (later f ∙ early)) refl named f first
                (λ k. serial k ∙ ap (λ (z : List Row). serial_at 0 (map row_serial z)) (keep_no (element_named n) r (heads t) (alone k r ∙ other))) distinct,
            beside,
          ),
        )

    -- after it a cut takes those of the name n
    step_over : element_named owner u ≡ true → (cut ≡ true → (y : Row) → Memᴰ y (r ∷ heads t) → element_named n y ≡ true → y.serial ≡ first_below u → ⊥) → Step w u r b t true false false
    step_over named other = by (requantified.takes u r) refl
      where
        differs : (h : Bool) → element_named n r ≡ h → cut ≡ true → (h && not (eqb r.serial (first_below u))) ≡ h
        differs true q e = ap not (ne_eqb r.serial (first_below u) (other e r (Memᴰ.head refl) q))
        differs false q e = refl

        on : (k : Bool) → cut ≡ k → (matches (cut_takes k x) (x' w u r b t) && not (k && false)) ≡ (k && (element_named owner u && (element_named n r && not (eqb r.serial (first_below u)))))
        on true e =
            and-true (matches (Elements x) (x' w u r b t))
            ∙ takes e u.name r
            ∙ sym (ap (λ (z : Bool). z && (element_named n r && not (eqb r.serial (first_below u)))) named ∙ differs (element_named n r) refl e)
        on false e = refl

        same : taken_at p true false (x' w u r b t) ≡ requantified.takes u r
        same = on cut refl

        rest : State true false false w u t
        rest = (over refl refl refl named (λ k y j. other k y (Memᴰ.tail j)), beside)

        by : (d : Bool) → requantified.takes u r ≡ d → Step w u r b t true false false
        by true e = inl (record { taken = e; takes = same ∙ e }, rest)
        by false e = inr (stays true false false e (same ∙ e) (λ d. refl), enter u r b i inside, rest)

  -- ---- the documents
  ends : (sel due owes : Bool) (w u : Row) → State sel due owes w u bare → (d : ℕ) → owed due (fill d) ≡ planted s.form s.form requantified p v fill owes u.name d
  ends sel due owes w u (outside a e f other, i) d = ap (λ (z : Bool). owed z (fill d)) e ∙ sym (ap (λ (z : Bool). planted s.form s.form requantified p v fill z u.name d) f)
  ends sel due owes w u (bereft a e f named k none, i) d =
      ap (λ (z : Bool). owed z (fill d)) e ∙ fills d u.name ∙ sym (ap (λ (z : Bool). planted s.form s.form requantified p v fill z u.name d) f)
  ends sel due owes w u (waiting a e f named k first serial distinct, i) d = absurd first
  ends sel due owes w u (over a e f named other, i) d = ap (λ (z : Bool). owed z (fill d)) e ∙ sym (ap (λ (z : Bool). planted s.form s.form requantified p v fill z u.name d) f)

  steps : (sel due owes : Bool) (w u r : Row) (b t : Forest Row) → State sel due owes w u (tree r b t) → Step w u r b t sel due owes
  steps sel due owes w u r b t (phase, i) = by phase
    where
      this : Standing s.docs r b
      this = i r b (inl (refl, refl))

      inside : (y : Row) (d : Forest Row) → Standing b y d → Standing s.docs y d
      inside y d j = i y d (inr (inl j))

      beside : (y : Row) (d : Forest Row) → Standing t y d → Standing s.docs y d
      beside y d j = i y d (inr (inr j))

      by : Phase sel due owes u (tree r b t) → Step w u r b t sel due owes
      by (outside a e f other) = step_as w u r b t sel due owes false false false a e f (step_outside w u r b t this inside beside other)
      by (bereft a e f named k none) = step_as w u r b t sel due owes true true gain a e f (step_bereft w u r b t this inside beside named k none)
      by (waiting a e f named k first serial distinct) = step_as w u r b t sel due owes true true false a e f (step_waiting w u r b t this inside beside named k first serial distinct)
      by (over a e f named other) = step_as w u r b t sel due owes true false false a e f (step_over w u r b t this inside beside named other)

  pub requantify_does : documents_walk p v fill (indexed s.form [] s.docs) ≡ preorder 0 (indexed s.form [] (changed requantified s.docs))
  requantify_does =
      documents_simulate s.form s.form requantified p v fill State record { ends = ends; steps = steps } s.docs (outside refl refl (and-false gain) refl, λ r b j. j)
