-- Changes 3 to 8 on the rows right below an instance of the owner: the
-- attribute rows stay, the element rows are edited as `child_rows` says.
use Prim.Native.Nat.{ℕ}
use mathlib.Core.Path.{◌≡◌, refl, sym, ap, ap₂, ◌∙◌}
use mathlib.Core.Bool.{Bool, true, false, ◌&&◌, not, false≢true}
use mathlib.Core.Option.{some}
use mathlib.Core.List.{List, [], ◌∷◌, ◌++◌, map, Memᴰ, map-append}
use lib.Dec.{eqb}
use lib.ListN.{length}
use Rattle.rules.specs.declared.Quantifier.{Quantifier}
use Rattle.rules.specs.declared.GroupKind.{GroupKind}
use Rattle.rules.specs.Bytes.{Bytes, same, bytes, is_none}
use Rattle.rules.specs.Model.{Members, done, el, group, Distinct, names, skips, member}
use Rattle.rules.specs.Quantifiers.{gains, cuts}
use Rattle.rules.specs.Place.{Context, spine, before_place}
use Rattle.rules.specs.Edit.{Edit, insert, remove, quantify, convert, flatten}
use Rattle.rules.specs.Store.{Form, RowSort, element, attribute, Row}
use Rattle.rules.specs.Conforming.{name_of, Sorted, is_element}
use Rattle.rules.specs.Filling.{element_row}
use Rattle.rules.specs.Lines.{Line, element_named, element_among, children_of, serial_at}
use Rattle.rules.specs.Change.{Plan, keeping, later_than, insert_plan, remove_plan, group_filling, quantify_plan}
use Rattle.rules.proofs.Words.{and_off, and_held}
use Rattle.rules.proofs.Apart.{differs}
use Rattle.rules.proofs.Letters.{member_in}
use Rattle.rules.proofs.Children.{any_of}
use Rattle.rules.proofs.ChildRows.{place_rows, first_rows, refit_rows, refit_group_rows, child_rows}
use Rattle.rules.proofs.Height.{deep}
use Rattle.rules.proofs.TestLaws.{all_test}
use Rattle.rules.proofs.FillingLaws.{filling_heads, each_heads}
use Rattle.rules.proofs.Correct.{distinct_right}
use Rattle.change_laws.proofs.RowEdits.{row_serial, keep, children_after}
use Rattle.change_laws.proofs.InstanceRows.{keep_all, keep_none, keep_beside, named_is, keep_erase, keep_first_lem, named_none, among_none, when_due, after_split, untouched}

-- the plan of an edit of the owner's model, at the place c before the members t
abbrev pub edit_plan : ℕ → Form → List Line → Bytes → Bytes → Edit Bytes → Context Bytes → Members Bytes → Plan
edit_plan version form ls owner txt (insert q n) c t = insert_plan version form owner txt q n (some (record { context = c; picked = t }))
edit_plan version form ls owner txt remove c t = remove_plan owner t
edit_plan version form ls owner txt (quantify r) c t = quantify_plan version form ls owner txt r c t
edit_plan version form ls owner txt (convert j n) c t = keeping
edit_plan version form ls owner txt flatten c t = keeping

-- the names that it fills
abbrev pub filled : Edit Bytes → Members Bytes → List Bytes
filled (insert q n) t = n ∷ []
filled remove t = []
filled (quantify r) done = []
filled (quantify r) (el q x t) = x ∷ []
filled (quantify r) (group q k ms t) = group_filling r k ms
filled (convert j n) t = []
filled flatten t = []

-- the rows right below u have serials, each its own, and the lines tell them
pub record Below (ls : List Line) (u : Row) (rows : List Row) : Type 0 where
  pub given : (x : Row) → Memᴰ x rows → x.serial ≡ 0 → ⊥
  pub once : Distinct (map row_serial rows)
  pub seen : (test : Row → Bool) → children_of test u.serial ls ≡ map row_serial (keep test rows)

-- ---- tests
not_element : (s : RowSort) (b : Bool) → s ≡ attribute → (is_element s && b) ≡ false
not_element s b e = ap (λ (z : RowSort). is_element z && b) e

is_element_lem : (s : RowSort) (b : Bool) → s ≡ element → (is_element s && b) ≡ b
is_element_lem s b e = ap (λ (z : RowSort). is_element z && b) e

due_same : (due due' : Bool) (ns : List Bytes) (f f' rs rs' : List Row) → due ≡ due' → f ≡ f' → rs ≡ rs' → when_due due ns f rs ≡ when_due due' ns f' rs'
due_same due due' ns f f' rs rs' p q e = ap (λ (z : Bool). when_due z ns f rs) p ∙ ap₂ (λ (a b : List Row). when_due due' ns a b) q e

-- ---- an element's quantifier
first_none : (x : Bytes) (rs : List Row) → (Memᴰ x (map name_of rs) → ⊥) → first_rows bytes name_of x rs ≡ rs
unfolding first_rows
first_none x [] f = refl
first_none x (r ∷ rs) f = rw (differs bytes r.name x (λ e. f (Memᴰ.head (sym e))), first_rows) (ap (λ (z : List Row). r ∷ z) (first_none x rs (λ m. f (Memᴰ.tail m))))

-- sp: on the spine; me: is there a child of the name; `first`, `rs`: the rows after a cut, and the rows
refit_cases : (sp cu ga me : Bool) (ns : List Bytes) (f first rs : List Row) → (me ≡ false → first ≡ rs)
    → when_due ((sp && ga) && not me) ns f (elim (sp && cu) as (λ z. List Row) [ true ↦ first | false ↦ rs ])
    ≡ elim sp as (λ z. List Row) [
      | true ↦ elim me as (λ z. List Row) [
        | true ↦ elim cu as (λ z. List Row) [ true ↦ first | false ↦ rs ]
        | false ↦ elim ga as (λ z. List Row) [ true ↦ place_rows bytes name_of ns f rs | false ↦ rs ]
      ]
      | false ↦ rs
    ]
refit_cases false cu ga me ns f first rs h = refl
refit_cases true cu true true ns f first rs h = refl
refit_cases true cu false true ns f first rs h = refl
refit_cases true true true false ns f first rs h = ap (place_rows bytes name_of ns f) (h refl)
refit_cases true true false false ns f first rs h = h refl
refit_cases true false true false ns f first rs h = refl
refit_cases true false false false ns f first rs h = refl

group_cases : (sp ga me : Bool) (ns : List Bytes) (f rs : List Row)
    → when_due ((sp && ga) && not me) ns f rs
    ≡ elim sp as (λ z. List Row) [ true ↦ elim ga as (λ z. List Row) [ true ↦ elim me as (λ z. List Row) [ true ↦ rs | false ↦ place_rows bytes name_of ns f rs ] | false ↦ rs ] | false ↦ rs ]
group_cases false ga me ns f rs = refl
group_cases true false me ns f rs = refl
group_cases true true true ns f rs = refl
group_cases true true false ns f rs = refl

module _ (version : ℕ) (form : Form) (ls : List Line) (owner txt : Bytes) (u : Row) (front back : List Row) (named : element_named owner u ≡ true) (below : Below ls u (front ++ back))
    (attributes : Sorted attribute front) (elements : Sorted element back) where
  -- the children that pass a test are behind the attribute rows
  seen_back : (test : Row → Bool) → ((x : Row) → Memᴰ x front → test x ≡ false) → children_of test u.serial ls ≡ map row_serial (keep test back)
  seen_back test f = below.seen test ∙ ap (map row_serial) (keep_beside test front back ∙ ap (λ (z : List Row). z ++ keep test back) (keep_none test front f))

  once_back : Distinct (map row_serial back)
  once_back = distinct_right (map row_serial front) (map row_serial back) (rw (map-append row_serial front back) at below.once)

  front_later : (ns : List Bytes) (v x : Row) → Memᴰ x front → later_than ns v x ≡ false
  front_later ns v x m = not_element x.sort (not (member bytes x.name ns)) (attributes x m)

  back_later : (ns : List Bytes) (v x : Row) → Memᴰ x back → later_than ns v x ≡ not (member bytes x.name ns)
  back_later ns v x m = is_element_lem x.sort (not (member bytes x.name ns)) (elements x m)

  front_other : (x : Bytes) (y : Row) → Memᴰ y front → element_named x y ≡ false
  front_other x y m = not_element y.sort (same x y.name) (attributes y m)

  keeping_rows : children_after keeping u (front ++ back) ≡ front ++ back
  keeping_rows =
      after_split keeping u [] front back refl below.given (λ x m. refl) (λ e. absurd (false≢true e))
      ∙ ap (λ (z : List Row). front ++ z) (keep_all (λ r. true) back (λ x m. refl))

  module _ (c : Context Bytes) where
    insert_rows : (q : Quantifier) (n : Bytes) (t : Members Bytes) → deep (length form) form n ≡ true
        → children_after (edit_plan version form ls owner txt (insert q n) c t) u (front ++ back) ≡ front ++ child_rows bytes name_of (map element_row) (insert q n) c t back
    unfolding child_rows
    insert_rows q n t d =
        after_split (edit_plan version form ls owner txt (insert q n) c t) u (before_place c) front back refl below.given (λ x m. refl)
        (λ e. (front_later (before_place c) u, back_later (before_place c) u))
        ∙ ap (λ (z : List Row). front ++ z) (due_same _ (not (skips q) && spine c) (before_place c) _ (element_row n ∷ []) _ back
        (and_held (not (skips q) && spine c) (element_named owner u) named) (filling_heads version (length form) form txt n d) (keep_all (λ r. true) back (λ x m. refl)))

    remove_rows : (q : Quantifier) (x : Bytes) (t : Members Bytes)
        → children_after (edit_plan version form ls owner txt remove c (el q x t)) u (front ++ back) ≡ front ++ child_rows bytes name_of (map element_row) remove c (el q x t) back
    unfolding child_rows
    remove_rows q x t =
        after_split (edit_plan version form ls owner txt remove c (el q x t)) u [] front back refl below.given (λ y m. ap₂ (λ (a b : Bool). a && b) named (front_other x y m))
        (λ e. absurd (false≢true e))
        ∙ ap (λ (z : List Row). front ++ z) (keep_erase (λ r. not (element_named owner u && element_named x r)) x back (λ y m. ap₂ (λ (a b : Bool). not (a && b)) named (named_is x y (elements y m))))

    quantify_rows : (q r : Quantifier) (x : Bytes) (t : Members Bytes) → deep (length form) form x ≡ true
        → children_after (edit_plan version form ls owner txt (quantify r) c (el q x t)) u (front ++ back) ≡ front ++ child_rows bytes name_of (map element_row) (quantify r) c (el q x t) back
    unfolding child_rows refit_rows
    quantify_rows q r x t d =
        after_split (edit_plan version form ls owner txt (quantify r) c (el q x t)) u (before_place c) front back refl below.given
        (λ y m. and_off (spine c && cuts q r) _ (and_off (element_named owner u) (element_named x y && not (eqb y.serial k)) (ap (λ (z : Bool). z && not (eqb y.serial k)) (front_other x y m))))
        (λ e. (front_later (before_place c) u, back_later (before_place c) u))
        ∙ ap (λ (z : List Row). front ++ z) (
        due_same _ ((spine c && gains q r) && not me) (before_place c) _ (element_row x ∷ []) _ (elim (spine c && cuts q r) as (λ z. List Row) [ true ↦ first_rows bytes name_of x back | false ↦ back ])
        (ap₂ (λ (a b : Bool). (spine c && gains q r) && (a && b)) named (ap is_none (seen_back (element_named x) (front_other x)) ∙ named_none x back elements))
        (filling_heads version (length form) form txt x d) (cut (spine c && cuts q r))
        ∙ refit_cases (spine c) (cuts q r) (gains q r) me (before_place c) (element_row x ∷ []) (first_rows bytes name_of x back) back
        (λ e. first_none x back (λ m. false≢true (sym e ∙ member_in bytes x (map name_of back) m))))
      where
        k : ℕ
        k = serial_at 0 (children_of (element_named x) u.serial ls)

        me : Bool
        me = member bytes x (map name_of back)

        cut : (b : Bool)
            → keep (λ y. not (b && (element_named owner u && (element_named x y && not (eqb y.serial k))))) back
            ≡ elim b as (λ z. List Row) [ true ↦ first_rows bytes name_of x back | false ↦ back ]
        cut true =
            ap (λ (b : Bool). keep (λ y. not (b && (element_named x y && not (eqb y.serial k)))) back) named
            ∙ keep_first_lem x k back elements once_back (ap (serial_at 0) (seen_back (element_named x) (front_other x)))
        cut false = keep_all (λ y. true) back (λ y m. refl)

    group_rows : (q r : Quantifier) (j : GroupKind) (ms t : Members Bytes) → ((m : Bytes) → Memᴰ m (group_filling r j ms) → deep (length form) form m ≡ true)
        → children_after (edit_plan version form ls owner txt (quantify r) c (group q j ms t)) u (front ++ back) ≡ front ++ child_rows bytes name_of (map element_row) (quantify r) c (group q j ms t) back
    unfolding child_rows refit_group_rows
    group_rows q r j ms t d =
        after_split (edit_plan version form ls owner txt (quantify r) c (group q j ms t)) u (before_place c) front back refl below.given (λ y m. refl)
        (λ e. (front_later (before_place c) u, back_later (before_place c) u))
        ∙ ap (λ (z : List Row). front ++ z) (
        due_same _ ((spine c && gains q r) && not me) (before_place c) _ (map element_row (group_filling r j ms)) _ back
        (ap₂ (λ (a b : Bool). (spine c && gains q r) && (a && b)) named
        (ap is_none (seen_back (element_among (names ms)) (λ y m. not_element y.sort (member bytes y.name (names ms)) (attributes y m)))
        ∙ among_none (names ms) back elements))
        (each_heads version (length form) form txt (group_filling r j ms) ((all_test (λ m. deep (length form) form m) (group_filling r j ms)).1 d)) (keep_all (λ r. true) back (λ x m. refl))
        ∙ group_cases (spine c) (gains q r) me (before_place c) (map element_row (group_filling r j ms)) back)
      where
        me : Bool
        me = any_of bytes (names ms) (map name_of back)

    -- THE ROWS OF AN INSTANCE: the rows made for a name are one element
    pub edit_rows : (e : Edit Bytes) (t : Members Bytes) → ((m : Bytes) → Memᴰ m (filled e t) → deep (length form) form m ≡ true)
        → children_after (edit_plan version form ls owner txt e c t) u (front ++ back) ≡ front ++ child_rows bytes name_of (map element_row) e c t back
    unfolding child_rows
    edit_rows (insert q n) t d = insert_rows q n t (d n (Memᴰ.head refl))
    edit_rows remove done d = keeping_rows
    edit_rows remove (el q x t) d = remove_rows q x t
    edit_rows remove (group q k ms t) d = keeping_rows
    edit_rows (quantify r) done d = keeping_rows
    edit_rows (quantify r) (el q x t) d = quantify_rows q r x t (d x (Memᴰ.head refl))
    edit_rows (quantify r) (group q k ms t) d = group_rows q r k ms t d
    edit_rows (convert j n) t d = keeping_rows
    edit_rows flatten t d = keeping_rows

-- ---- other rows
no_and : (a b c : Bool) → b ≡ false → (a && (b && c)) ≡ false
no_and a b c e = and_off a (b && c) (ap (λ (z : Bool). z && c) e)

module _ (version : ℕ) (form : Form) (ls : List Line) (owner txt : Bytes) (u : Row) (rows : List Row) (other : element_named owner u ≡ false)
    (given : (x : Row) → Memᴰ x rows → x.serial ≡ 0 → ⊥) (c : Context Bytes) where
  -- what is no instance keeps the rows below it
  pub edit_others : (e : Edit Bytes) (t : Members Bytes) → children_after (edit_plan version form ls owner txt e c t) u rows ≡ rows
  edit_others (insert q n) t = untouched (edit_plan version form ls owner txt (insert q n) c t) u rows refl given (λ x m. refl) (and_off (not (skips q) && spine c) (element_named owner u) other)
  edit_others remove done = untouched keeping u rows refl given (λ x m. refl) refl
  edit_others remove (el q x t) = untouched (edit_plan version form ls owner txt remove c (el q x t)) u rows refl given (λ y m. ap (λ (z : Bool). z && element_named x y) other) refl
  edit_others remove (group q k ms t) = untouched keeping u rows refl given (λ x m. refl) refl
  edit_others (quantify r) done = untouched keeping u rows refl given (λ x m. refl) refl
  edit_others (quantify r) (el q x t) =
      untouched (edit_plan version form ls owner txt (quantify r) c (el q x t)) u rows refl given
      (λ y m. no_and (spine c && cuts q r) (element_named owner u) (element_named x y && not (eqb y.serial (serial_at 0 (children_of (element_named x) u.serial ls)))) other)
      (no_and (spine c && gains q r) (element_named owner u) (is_none (children_of (element_named x) u.serial ls)) other)
  edit_others (quantify r) (group q k ms t) =
      untouched (edit_plan version form ls owner txt (quantify r) c (group q k ms t)) u rows refl given (λ y m. refl)
      (no_and (spine c && gains q r) (element_named owner u) (is_none (children_of (element_among (names ms)) u.serial ls)) other)
  edit_others (convert j n) t = untouched keeping u rows refl given (λ x m. refl) refl
  edit_others flatten t = untouched keeping u rows refl given (λ x m. refl) refl
