-- AN ACCEPTED CALL CHANGES THE BOOK BY THE RULES: what it takes, gives and makes.
use Prim.Native.Nat.{ℕ, ◌+◌, ◌*◌, ◌≤◌, ◌<◌}
use native.Mathlib.Nat.{le_refl}
use mathlib.Core.Path.{◌≡◌, refl, sym, ap, ◌∙◌, subst}
use mathlib.Core.Logic.{inl, inr, ⊎_elim, ◌↔◌}
use mathlib.Core.Bool.{Bool, true, false, false≢true}
use mathlib.Core.Option.{Option, none, some}
use mathlib.Core.List.Memᴰ
use mathlib.Core.List.{List, [], ◌∷◌, Memᴰ}
use lib.Dec.{eqb}
use lib.ListN.{length}
use Rattle.rules.specs.declared.Quantifier.{Quantifier}
use Rattle.rules.specs.Bytes.{Bytes, any, eqb_eq}
use Rattle.rules.specs.Model.{Distinct, Members, done, el, group}
use Rattle.rules.specs.Place.{Context, Found}
use Rattle.rules.specs.Edit.{insert, remove, quantify}
use Rattle.rules.specs.Store.{Form, Row, Store}
use Rattle.rules.specs.Layout.{value_width}
use Rattle.rules.specs.Decode.{quantifier_of}
use Rattle.rules.specs.Conforming.{is_element}
use Rattle.rules.specs.Passing.{good, Good}
use Rattle.rules.specs.Lines.{Line, lines, ground, element_named, attribute_named, element_with, children_of}
use Rattle.rules.specs.Change.{Call, create_definition, destroy_definition, insert_element, remove_element, change_quantifier, convert_to_group, flatten_group}
use Rattle.rules.specs.Change.{change_group_quantifier, add_attribute, destroy_attribute, add_document, add_element, destroy_element, set_attribute}
use Rattle.rules.specs.Change.{destroy_attribute_row, set_text, name_at_index, Owned, attribute_at, Plan, plan, insert_plan, remove_plan, quantify_plan, picked_plan}
use Rattle.rules.specs.Change.{set_at, set_plan, drop_plan, revalue, new_rows}
use Rattle.rules.specs.Refusal.{conditions, refusal, no_element}
use Rattle.rules.specs.Book.{Entry, Book, untaken, expand, spot_count, marks, note}
use Rattle.rules.specs.MadeTakenGiven.{HasLine, found_in, OfElement, AtElement, IsCut, NamedBy, IsTaken, itself, beneath, value_if, value_after, MakesBelow, rows_made, lines_made}
use Rattle.rules.proofs.Words.{or_cases, and_split}
use Rattle.rules.proofs.PassingLaws.{good_is}
use Rattle.rules.proofs.PlanLaws.{Known, named, ruled, set_by, set_after, Filled, makes, filled, filling_made}
use Rattle.history.specs.History.{serial_of, ever_made, taken_serials, entries_from, entries_below, Makes, ByTheRules, entry_serials}
use Rattle.change_laws.proofs.Conditions.{unmet}
use Rattle.history.proofs.Taking.{Apart}
use Rattle.history.proofs.Making.{standing}
use Rattle.history.proofs.Numbering.{blank_plan}
use Rattle.history.proofs.Stable.{left, olds_marks, line_serials, marks_serials, untaken_in, Once}
use Rattle.history.proofs.Agreement.{on_line, untaken_revalue, Agree, good_apart}
use Rattle.history.proofs.TakenLines.{marked, taken_marked, expand_old, mark_old, valued, revalue_old, line_serial, distinct_untaken, same_serial}
use Rattle.history.proofs.Pruned.{has_above}
use Rattle.change_laws.proofs.RowsBelow.{one_of_attribute, one_of_text, instance_spared}
use Rattle.history.proofs.TakenByRule.{taken_as, taken_then_under, under_then_taken, taken_or_left}
use Rattle.history.proofs.MadeLines.{spots_in, spots_length, expand_new, expand_others, spots_filled, spots_once, made_as, count_as}
use borrow.Author.Tests.{not-false}

-- ---- what acceptance says
some_there : (test : Row → Bool) (k : ℕ) → ((r : Row) → test r ≡ true → r.serial ≡ k) → (ls : List Line) → any (λ (l : Line). test l.row) ls ≡ true → HasLine test ls k
some_there test k f [] e = absurd (false≢true e)
some_there test k f (l ∷ ls) e =
    ⊎_elim (λ h. (l, Memᴰ.head refl, f l.row h, h)) (λ h. let (m, i, q, t) = some_there test k f ls h in (m, Memᴰ.tail i, q, t))
    (or_cases (test l.row) (any (λ (m : Line). test m.row) ls) e)

element_there : (k : ℕ) (s : Store) → no_element k s ≡ false → HasLine (element_with k) (lines 0 s.docs) k
element_there k s e =
    some_there (element_with k) k (λ r h. eqb_eq r.serial k (and_split (is_element r.sort) (eqb r.serial k) h).1) (lines 0 s.docs)
    (not-false (any (λ (l : Line). element_with k l.row) (lines 0 s.docs)) e)

known : (room : ℕ) (c : Call) (s : Store) → refusal room c s ≡ 0 → Known c s.form (lines 0 s.docs)
unfolding conditions
known room (create_definition n k) s a = tt
known room (destroy_definition i) s a = tt
known room (insert_element o p i q t) s a = tt
known room (remove_element o p) s a = tt
known room (change_quantifier o p q t) s a = let (text, (code, (past, (there, more)))) = unmet room (change_quantifier o p q t) s a in there
known room (convert_to_group o p n k) s a = tt
known room (flatten_group o p) s a = tt
known room (change_group_quantifier o p q t) s a = let (text, (code, (past, (there, more)))) = unmet room (change_group_quantifier o p q t) s a in there
known room (add_attribute o n k v) s a = tt
known room (destroy_attribute x) s a = tt
known room (add_document i t) s a = tt
known room (add_element k j i t) s a = let (text, (past, (there, more))) = unmet room (add_element k j i t) s a in element_there k s there
known room (destroy_element k) s a = tt
known room (set_attribute k x v) s a = let (text, (other, (there, more))) = unmet room (set_attribute k x v) s a in element_there k s there
known room (destroy_attribute_row k x) s a = tt
known room (set_text k t) s a = tt

-- ---- which rows are filled does not depend on values
module _ (k : ℕ) (v : Bytes) (r : Row) where
  insert_alike : (version : ℕ) (form : Form) (o t n : Bytes) (q : Quantifier) (f : Option (Found Bytes))
      → (insert_plan version form o t q n f).fills (revalue k v r) ≡ (insert_plan version form o t q n f).fills r
  insert_alike version form o t n q none = refl
  insert_alike version form o t n q (some f) = refl

  remove_alike : (o : Bytes) (f : Option (Found Bytes)) → (picked_plan (λ c t. remove_plan o t) f).fills (revalue k v r) ≡ (picked_plan (λ c t. remove_plan o t) f).fills r
  remove_alike o none = refl
  remove_alike o (some f) = by f.picked
    where
      by : (t : Members Bytes) → (remove_plan o t).fills (revalue k v r) ≡ (remove_plan o t).fills r
      by done = refl
      by (el q x rest) = refl
      by (group q j ms rest) = refl

  quantify_alike : (version : ℕ) (form : Form) (ls : List Line) (o t : Bytes) (q : Quantifier) (f : Option (Found Bytes))
      → (picked_plan (quantify_plan version form ls o t q) f).fills (revalue k v r) ≡ (picked_plan (quantify_plan version form ls o t q) f).fills r
  quantify_alike version form ls o t q none = refl
  quantify_alike version form ls o t q (some f) = by f.context f.picked
    where
      by : (c : Context Bytes) (x : Members Bytes) → (quantify_plan version form ls o t q c x).fills (revalue k v r) ≡ (quantify_plan version form ls o t q c x).fills r
      by c done = refl
      by c (el q x rest) = refl
      by c (group q j ms rest) = refl

  drop_alike : (above : Owned → Row → Bool) (o : Option Owned) → (drop_plan above o).fills (revalue k v r) ≡ (drop_plan above o).fills r
  drop_alike above none = refl
  drop_alike above (some o) = refl

  set_alike : (ls : List Line) (e : ℕ) (x : Bytes) (o : Option Owned) → (set_plan ls e x o).fills (revalue k v r) ≡ (set_plan ls e x o).fills r
  set_alike ls e x none = refl
  set_alike ls e x (some o) = by (children_of (attribute_named o.attribute.name) e ls)
    where
      by : (ss : List ℕ) → (set_at e o x ss).fills (revalue k v r) ≡ (set_at e o x ss).fills r
      by [] = refl
      by (s ∷ ss) = refl

  fills_alike : (c : Call) (version : ℕ) (form : Form) (ls : List Line) → (plan c version form ls).fills (revalue k v r) ≡ (plan c version form ls).fills r
  unfolding plan
  fills_alike (create_definition n j) version form ls = refl
  fills_alike (destroy_definition i) version form ls = refl
  fills_alike (insert_element o p i q t) version form ls =
      insert_alike version form (name_at_index o form) t (name_at_index i form) (quantifier_of q) (found_in (insert (quantifier_of q) (name_at_index i form)) o p form)
  fills_alike (remove_element o p) version form ls = remove_alike (name_at_index o form) (found_in remove o p form)
  fills_alike (change_quantifier o p q t) version form ls = quantify_alike version form ls (name_at_index o form) t (quantifier_of q) (found_in (quantify (quantifier_of q)) o p form)
  fills_alike (convert_to_group o p n j) version form ls = refl
  fills_alike (flatten_group o p) version form ls = refl
  fills_alike (change_group_quantifier o p q t) version form ls = quantify_alike version form ls (name_at_index o form) t (quantifier_of q) (found_in (quantify (quantifier_of q)) o p form)
  fills_alike (add_attribute o n j x) version form ls = refl
  fills_alike (destroy_attribute a) version form ls = drop_alike (λ o u. element_named o.owner.name u) (attribute_at a form)
  fills_alike (add_document i t) version form ls = refl
  fills_alike (add_element e j i t) version form ls = refl
  fills_alike (destroy_element e) version form ls = refl
  fills_alike (set_attribute e a x) version form ls = set_alike ls e x (attribute_at a form)
  fills_alike (destroy_attribute_row e a) version form ls = drop_alike (λ o u. element_with e u) (attribute_at a form)
  fills_alike (set_text e t) version form ls = refl

-- ---- a row that is filled is not taken
none_taken : {N : Line → Type 0} {ls : List Line} → ((x : Line) → N x → ⊥) → {l : Line} → IsTaken N ls l → ⊥
none_taken f (itself l n) = f l n
none_taken f (beneath u l i e t) = none_taken f t

valued_value : (k : ℕ) (v : Bytes) (l : Line) → (valued k v l).row.value ≡ value_if (eqb (serial_of l) k) v l
valued_value k v l = by (eqb (serial_of l) k)
  where
    by : (c : Bool) → ◌≡◌ {A = Bytes} (elim c [ true ↦ v | false ↦ l.row.value ]) (value_if c v l)
    by true = refl
    by false = refl

-- ---- an accepted call
module _ (room : ℕ) (c : Call) (s : Store) (g : good s ≡ true) (accepted : refusal room c s ≡ 0) (b : Book) (agree : Agree s b) (once : Once b) where
  abbrev ls : List Line
  ls = lines 0 s.docs

  abbrev p : Plan
  p = plan c s.version s.form ls

  whole : Good s
  whole = (good_is s).0 g

  h : untaken b.entries ≡ ls
  h = agree.rows

  apart : Apart (ground ∷ []) s.docs
  apart = good_apart s whole.serials

  from_one : (n : ℕ) → Memᴰ n (entry_serials b.entries) → 1 ≤ n
  from_one n i = (once.below n i).0

  said : Known c s.form ls
  said = known room c s accepted

  distinct_lines : Distinct (line_serials ls)
  distinct_lines = subst (λ (z : List Line). Distinct (line_serials z)) h (distinct_untaken b.entries once.once)

  one_line : (l m : Line) → Memᴰ l ls → Memᴰ m ls → l.row.serial ≡ m.row.serial → l ≡ m
  one_line l m i j e = same_serial ls distinct_lines l m i j e

  in_book : (l : Line) → Memᴰ l ls → Memᴰ (serial_of l) (entry_serials b.entries)
  in_book l i = untaken_in (serial_of l) b.entries (line_serial l (untaken b.entries) (subst (λ (z : List Line). Memᴰ l z) (sym h) i))

  serial_from_one : (l : Line) → Memᴰ l ls → 1 ≤ l.row.serial
  serial_from_one l i = from_one (serial_of l) (in_book l i)

  -- the lines that the plan leaves were there
  left_in : (l : Line) → Memᴰ l (untaken (marked p b.entries)) → Memᴰ l ls
  left_in l i = subst (λ (z : List Line). Memᴰ l z) h (mark_old p.takes (ground ∷ []) b.entries l i)

  -- ---- taken
  taken_named : (l : Line) → Memᴰ l ls → Memᴰ (serial_of l) (taken_serials (marked p b.entries)) ↔ IsTaken (λ x. NamedBy c s.form ls x) ls l
  taken_named l i = (
    λ t. taken_as ls (λ x j r. named ls x c s.version s.form said r) i (taken_then_under p.takes s.docs b.entries h apart once.once from_one l i t),
    λ u. under_then_taken p.takes s.docs b.entries h apart once.once from_one l i (taken_as ls (λ x j n. ruled ls x c s.version s.form (has_above ground s.docs x j) n) i u),
  )

  -- ---- given
  given_after : (l m : Line) → Memᴰ l ls → Memᴰ m (untaken (expand p.filling b.next (marks p b.entries))) → serial_of m ≡ serial_of l → m.row.value ≡ value_after c s.form l
  given_after l m i j e =
      ap (λ (z : Line). z.row.value) was.2 ∙ valued_value p.set p.value was.0
      ∙ ap (λ (z : Line). set_by p z) same
      ∙ set_after ls serial_from_one one_line (λ n. one_of_attribute (value_width s.version) s.form whole.form s.next s.docs whole.serials whole.docs n)
      (one_of_text (value_width s.version) s.form whole.form s.next s.docs whole.serials whole.docs) l i c s.version s.form
    where
      small : serial_of m < b.next
      small = subst (λ (n : ℕ). n < b.next) (sym e) (once.below (serial_of l) (in_book l i)).1

      stood : Memᴰ m (untaken (left p b.entries))
      stood =
          subst (λ (z : List Entry). Memᴰ m (untaken z)) (olds_marks p b.entries) (expand_old p.filling (blank_plan c s.version s.form ls) b.next (marks p b.entries) m small j)

      was : (x : Line) × Memᴰ x (untaken (marked p b.entries)) × (m ≡ valued p.set p.value x)
      was = revalue_old p.set p.value (marked p b.entries) m stood

      same : was.0 ≡ l
      same = one_line was.0 l (left_in was.0 was.1) i (ap (λ (z : Line). serial_of z) (sym was.2) ∙ e)

  -- ---- made
  -- an instance that gets a filling is not cut off with a child of an instance
  cut_spares : (o p' : _) (q : ℕ) (l : Line) → Memᴰ l ls → HasLine (element_named (name_at_index o s.form)) ls (serial_of l)
      → IsTaken (λ x. AtElement (IsCut (name_at_index o s.form) (quantifier_of q) ls x) (found_in (quantify (quantifier_of q)) o p' s.form)) ls l → ⊥
  cut_spares o p' q l i (m, j, e, t) = by (found_in (quantify (quantifier_of q)) o p' s.form)
    where
      owned : element_named (name_at_index o s.form) l.row ≡ true
      owned = ap (λ (z : Line). element_named (name_at_index o s.form) z.row) (one_line l m i j (sym e)) ∙ t

      at : (d : Context Bytes) (x : Members Bytes) → IsTaken (λ y. OfElement (IsCut (name_at_index o s.form) (quantifier_of q) ls y d) x) ls l → ⊥
      at d done n = none_taken (λ y z. z) n
      at d (el old x rest) n =
          instance_spared (value_width s.version) s.form whole.form s.next s.docs whole.serials whole.docs (name_at_index o s.form) x
          (λ y. IsCut (name_at_index o s.form) (quantifier_of q) ls y d old x) (λ y z. z.2) l i owned n
      at d (group r j ms rest) n = none_taken (λ y z. z) n

      by : (f : Option (Found Bytes)) → IsTaken (λ x. AtElement (IsCut (name_at_index o s.form) (quantifier_of q) ls x) f) ls l → ⊥
      by none n = none_taken (λ y z. z) n
      by (some f) n = at f.context f.picked n

  filled_stays : (d : Call) (l : Line) → Memᴰ l ls → MakesBelow d s.version s.form ls (serial_of l) → IsTaken (λ x. NamedBy d s.form ls x) ls l → ⊥
  unfolding NamedBy MakesBelow
  filled_stays (create_definition n e) l i m t = m
  filled_stays (destroy_definition e) l i m t = m
  filled_stays (insert_element o a e q v) l i m t = none_taken (λ y z. z) t
  filled_stays (remove_element o a) l i m t = m
  filled_stays (change_quantifier o a q v) l i m t = cut_spares o a q l i m.1 t
  filled_stays (convert_to_group o a n e) l i m t = m
  filled_stays (flatten_group o a) l i m t = m
  filled_stays (change_group_quantifier o a q v) l i m t = none_taken (λ y z. z) t
  filled_stays (add_attribute o n e v) l i m t = none_taken (λ y z. z) t
  filled_stays (destroy_attribute a) l i m t = m
  filled_stays (add_document e v) l i m t = none_taken (λ y z. z) t
  filled_stays (add_element e j n v) l i m t = none_taken (λ y z. z) t
  filled_stays (destroy_element e) l i m t = m
  filled_stays (set_attribute e a v) l i m t = none_taken (λ y z. z) t
  filled_stays (destroy_attribute_row e a) l i m t = m
  filled_stays (set_text e v) l i m t = m

  -- the rows that are filled are the same before the plan takes and sets, and after
  filled_before : (u : ℕ) → Filled p.fills (untaken (left p b.entries)) u → Filled p.fills ls u
  filled_before u (inl z) = inl z
  filled_before u (inr (m, i, e, t)) =
      let was = revalue_old p.set p.value (marked p b.entries) m i in
      inr (
        was.0,
        left_in was.0 was.1,
        ap (λ (z : Line). serial_of z) (sym was.2) ∙ e,
        sym (fills_alike p.set p.value was.0.row c s.version s.form ls) ∙ ap (λ (z : Line). p.fills z.row) (sym was.2) ∙ t,
      )

  still : (l : Line) → Memᴰ l ls → p.fills l.row ≡ true → Memᴰ l (untaken (marked p b.entries))
  still l i t =
      ⊎_elim (λ x. absurd (filled_stays c l i (makes ls (serial_of l) c s.version s.form said (inr (l, i, refl, t))) ((taken_named l i).0 x))) (λ j. j)
      (taken_or_left p.takes s.docs b.entries h apart once.once from_one l i)

  filled_after : (u : ℕ) → Filled p.fills ls u → Filled p.fills (untaken (left p b.entries)) u
  filled_after u (inl z) = inl z
  filled_after u (inr (l, i, e, t)) =
      inr (
        valued p.set p.value l,
        subst (λ (z : List Line). Memᴰ (valued p.set p.value l) z) (sym (untaken_revalue p.set p.value (marked p b.entries)))
            (Memᴰ.map (on_line (revalue p.set p.value)) (still l i t)),
        e,
        fills_alike p.set p.value l.row c s.version s.form ls ∙ t,
      )

  parents : List ℕ
  parents = spots_in (marks p b.entries)

  each_parent : (u : ℕ) → Memᴰ u (spots_in (marks p b.entries)) ↔ MakesBelow c s.version s.form ls u
  each_parent u = (
    λ i. makes ls u c s.version s.form said (filled_before u ((spots_filled p b.entries u).0 i)),
    λ m. (spots_filled p b.entries u).1 (filled_after u (filled ls u c s.version s.form said m)),
  )

  entries_left : entry_serials (left p b.entries) ≡ entry_serials b.entries
  entries_left = ap entry_serials (sym (olds_marks p b.entries)) ∙ marks_serials p b.entries

  one_parent : Distinct (spots_in (marks p b.entries))
  one_parent =
      spots_once p b.entries (distinct_untaken (left p b.entries) (subst (λ (z : List ℕ). Distinct z) (sym entries_left) once.once))
      (λ n i. from_one n (subst (λ (z : List ℕ). Memᴰ n z) entries_left (untaken_in n (left p b.entries) i)))

  made_rows : (u : ℕ) → Memᴰ u (spots_in (marks p b.entries)) → p.filling ≡ rows_made c s.version s.form
  made_rows u i = filling_made ls u c s.version s.form ((each_parent u).0 i)

  made_lines : entries_from b.next (expand p.filling b.next (marks p b.entries)) ≡ standing (lines_made (rows_made c s.version s.form) b.next (spots_in (marks p b.entries)))
  made_lines =
      expand_new b.next p.filling (blank_plan c s.version s.form ls) b.next (le_refl b.next) (marks p b.entries)
      (λ n i. (once.below n (subst (λ (z : List ℕ). Memᴰ n z) (marks_serials p b.entries) i)).1)
      ∙ ap (λ (z : List Line). standing z) (made_as p.filling (rows_made c s.version s.form) (spots_in (marks p b.entries)) made_rows b.next)

  made_next : b.next + new_rows p.filling * spot_count (marks p b.entries) ≡ b.next + new_rows (rows_made c s.version s.form) * length (spots_in (marks p b.entries))
  made_next =
      ap (λ (n : ℕ). b.next + n)
      (ap (λ (n : ℕ). new_rows p.filling * n) (spots_length (marks p b.entries)) ∙ count_as p.filling (rows_made c s.version s.form) (spots_in (marks p b.entries)) made_rows)

  other_lines : entry_serials (entries_below b.next (expand p.filling b.next (marks p b.entries))) ≡ ever_made b
  other_lines =
      ap entry_serials
      (expand_others b.next p.filling (blank_plan c s.version s.form ls) b.next (le_refl b.next) (marks p b.entries)
      (λ n i. (once.below n (subst (λ (z : List ℕ). Memᴰ n z) (marks_serials p b.entries) i)).1))
      ∙ marks_serials p b.entries

  taken_after : (l : Line) → Memᴰ l ls → Memᴰ (serial_of l) (taken_serials (expand p.filling b.next (marks p b.entries))) ↔ IsTaken (λ x. NamedBy c s.form ls x) ls l
  taken_after l i = subst (λ (z : List ℕ). Memᴰ (serial_of l) z ↔ IsTaken (λ x. NamedBy c s.form ls x) ls l) (sym (taken_marked p b.next b.entries)) (taken_named l i)

  -- BY THE RULES
  made_by_rules : Makes c b (note c b)
  unfolding note
  made_by_rules =
      record {
        parents = spots_in (marks p b.entries);
        each = rw (agree.version, agree.form, h) each_parent;
        one = one_parent;
        lines = rw (agree.version, agree.form, h) made_lines;
        next = rw (agree.version, agree.form, h) made_next;
        others = rw (agree.version, agree.form, h) other_lines;
      }

  pub by_the_rules : ByTheRules c b (note c b)
  unfolding note
  by_the_rules = record { form = refl; takes = rw (agree.version, agree.form, h) taken_after; gives = rw (agree.version, agree.form, h) given_after; makes = made_by_rules }
