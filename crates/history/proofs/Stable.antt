-- The book over time: its lines keep their order, serial, sort, name and parent, and stay taken; no serial is given
-- twice, taken lines counted; the rows common to two moments are in the same order at both.
use Prim.Native.Nat.{ℕ, suc, ◌+◌, ◌*◌, ◌≤◌, ◌<◌}
use native.Mathlib.Omega.{arith}
use native.Mathlib.Nat.{mul-suc, mul-zero}
use mathlib.Core.Path.{◌≡◌, refl, sym, ap, ◌∙◌, subst}
use mathlib.Core.Logic.{⊎_elim}
use mathlib.Core.Bool.{Bool, true, false, ◌&&◌, not}
use mathlib.Core.List.Memᴰ
use mathlib.Core.List.{List, [], ◌∷◌, ◌++◌, map, map-append, Memᴰ}
use lib.Dec.{eqb, lit≤}
use Rattle.rules.specs.Bytes.{Bytes, numbers, any}
use Rattle.rules.specs.Model.{Distinct, member}
use Rattle.rules.specs.Store.{Row, Forest}
use Rattle.rules.specs.Lines.{Line, lines, ground}
use Rattle.rules.specs.Change.{Call, Plan, plan, revalue, new_rows, number}
use Rattle.rules.specs.Book.{Entry, stands, taken, Book, fresh_book, untaken, falls, mark, revalue_entry, Mark, old, spot, put_spot as place, placed, spots, expand, spot_count, marks, note}
use Rattle.rules.proofs.Letters.{member_in, member_out}
use Rattle.history.specs.History.{serial_of, line_of, entry_serials, ever_made, SameLine, Keeps, none_left, made, kept, took, gone}
use Rattle.history.proofs.NumberTests.{eqb_other, times, times_append, range, range_append}
use Rattle.history.proofs.Making.{standing}
use Rattle.history.proofs.Numbering.{Blank, blank_plan, number_serials, lines_serials, Spent, spent, spent_distinct, spent_below, spent_more}

-- ---- from one moment to a later one
same_line : (a : Line) → SameLine a a
same_line a = record { parent = refl; serial = refl; sort = refl; name = refl }

same_then : {a b c : Line} → SameLine a b → SameLine b c → SameLine a c
same_then x y = record { parent = x.parent ∙ y.parent; serial = x.serial ∙ y.serial; sort = x.sort ∙ y.sort; name = x.name ∙ y.name }

pub keeps_refl : (es : List Entry) → Keeps es es
keeps_refl [] = none_left
keeps_refl (stands l ∷ es) = kept l l (same_line l) (keeps_refl es)
keeps_refl (taken l ∷ es) = gone l (keeps_refl es)

pub keeps_trans : {es fs gs : List Entry} → Keeps es fs → Keeps fs gs → Keeps es gs
keeps_trans x none_left = x
keeps_trans x (made e y) = made e (keeps_trans x y)
keeps_trans (made e x) (kept a b q y) = made (stands b) (keeps_trans x y)
keeps_trans (kept a' b' p x) (kept a b q y) = kept a' b (same_then p q) (keeps_trans x y)
keeps_trans (made e x) (took a b q y) = made (taken b) (keeps_trans x y)
keeps_trans (kept a' b' p x) (took a b q y) = took a' b (same_then p q) (keeps_trans x y)
keeps_trans (made e x) (gone l y) = made (taken l) (keeps_trans x y)
keeps_trans (took a' b' p x) (gone l y) = took a' l p (keeps_trans x y)
keeps_trans (gone l' x) (gone l y) = gone l (keeps_trans x y)

-- ---- what an accepted call does to the entries
keeps_mark : (takes : Row → Row → Bool) (above : List Row) (es : List Entry) → Keeps es (mark takes above es)
unfolding mark
keeps_mark takes above [] = none_left
keeps_mark takes above (taken l ∷ es) = gone l (keeps_mark takes above es)
keeps_mark takes above (stands l ∷ es) = by (falls takes above l) refl (keeps_mark takes above es) (keeps_mark takes (l.row ∷ above) es)
  where
    by : (c : Bool) → falls takes above l ≡ c → Keeps es (mark takes above es) → Keeps es (mark takes (l.row ∷ above) es) → Keeps (stands l ∷ es) (mark takes above (stands l ∷ es))
    by true q x y = rw (q, mark) (took l l (same_line l) x)
    by false q x y = rw (q, mark) (kept l l (same_line l) y)

keeps_revalue : (k : ℕ) (v : Bytes) (es : List Entry) → Keeps es (map (revalue_entry k v) es)
keeps_revalue k v [] = none_left
keeps_revalue k v (taken l ∷ es) = gone l (keeps_revalue k v es)
keeps_revalue k v (stands l ∷ es) = kept l (record { parent = l.parent; row = revalue k v l.row }) (record { parent = refl; serial = refl; sort = refl; name = refl }) (keeps_revalue k v es)

-- the entries among the marks
unfoldable pub olds : List Mark → List Entry
olds [] = []
olds (old e ∷ ms) = e ∷ olds ms
olds (spot u ∷ ms) = olds ms

olds_place : (later : Row → Bool) (u : ℕ) (below : List ℕ) (ms : List Mark) → olds (place later u below ms) ≡ olds ms
unfolding olds place
olds_place later u below [] = refl
olds_place later u below (spot v ∷ ms) = olds_place later u below ms
olds_place later u below (old (taken l) ∷ ms) = ap (λ (z : List Entry). taken l ∷ z) (olds_place later u below ms)
olds_place later u below (old (stands l) ∷ ms) = by (any (eqb l.parent) below && not (eqb l.parent u && later l.row)) refl (olds_place later u (l.row.serial ∷ below) ms)
  where
    by : (c : Bool) → (any (eqb l.parent) below && not (eqb l.parent u && later l.row)) ≡ c → olds (place later u (l.row.serial ∷ below) ms) ≡ olds ms
        → olds (place later u below (old (stands l) ∷ ms)) ≡ stands l ∷ olds ms
    by true q x = rw (q, place) (ap (λ (z : List Entry). stands l ∷ z) x)
    by false q x = rw (q, place)

olds_placed : (p : Plan) (r : Row) (ms : List Mark) → olds (placed p r ms) ≡ olds ms
olds_placed p r ms = by (p.fills r) refl
  where
    by : (c : Bool) → p.fills r ≡ c → olds (placed p r ms) ≡ olds ms
    by true q = rw (q, placed) (olds_place (p.later r) r.serial (r.serial ∷ []) ms)
    by false q = rw (q, placed)

olds_spots : (p : Plan) (es : List Entry) → olds (spots p es) ≡ es
unfolding olds spots
olds_spots p [] = refl
olds_spots p (taken l ∷ es) = ap (λ (z : List Entry). taken l ∷ z) (olds_spots p es)
olds_spots p (stands l ∷ es) = ap (λ (z : List Entry). stands l ∷ z) (olds_placed p l.row (spots p es) ∙ olds_spots p es)

-- the entries before new lines are written in
abbrev pub left : Plan → List Entry → List Entry
left p es = map (revalue_entry p.set p.value) (mark p.takes (ground ∷ []) es)

pub olds_marks : (p : Plan) (es : List Entry) → olds (marks p es) ≡ left p es
olds_marks p es = olds_placed p ground (spots p (left p es)) ∙ olds_spots p (left p es)

keeps_made : (ls : List Line) {es fs : List Entry} → Keeps es fs → Keeps es (standing ls ++ fs)
keeps_made [] x = x
keeps_made (l ∷ ls) x = made (stands l) (keeps_made ls x)

keeps_expand : (w : Forest Row) (n : ℕ) (ms : List Mark) → Keeps (olds ms) (expand w n ms)
unfolding olds expand
keeps_expand w n [] = none_left
keeps_expand w n (old (stands l) ∷ ms) = kept l l (same_line l) (keeps_expand w n ms)
keeps_expand w n (old (taken l) ∷ ms) = gone l (keeps_expand w n ms)
keeps_expand w n (spot u ∷ ms) = keeps_made (lines u (number n w)) (keeps_expand w (n + new_rows w) ms)

-- ORDER: every accepted call keeps the lines
pub keeps_note : (c : Call) (b : Book) → Keeps b.entries (note c b).entries
unfolding note
keeps_note c b =
    keeps_trans (keeps_mark p.takes (ground ∷ []) b.entries)
    (keeps_trans (keeps_revalue p.set p.value (mark p.takes (ground ∷ []) b.entries))
    (subst (λ (z : List Entry). Keeps z (expand p.filling b.next (marks p b.entries))) (olds_marks p b.entries) (keeps_expand p.filling b.next (marks p b.entries))))
  where
    p : Plan
    p = plan c b.version b.form (untaken b.entries)

-- ---- no serial twice, taken lines counted
abbrev pub line_serials : List Line → List ℕ
line_serials ls = map (λ (l : Line). serial_of l) ls

pub standing_serials : (ls : List Line) → entry_serials (standing ls) ≡ line_serials ls
standing_serials [] = refl
standing_serials (l ∷ ls) = ap (λ (ks : List ℕ). serial_of l ∷ ks) (standing_serials ls)

pub mark_serials : (takes : Row → Row → Bool) (above : List Row) (es : List Entry) → entry_serials (mark takes above es) ≡ entry_serials es
unfolding mark
mark_serials takes above [] = refl
mark_serials takes above (taken l ∷ es) = ap (λ (ks : List ℕ). serial_of l ∷ ks) (mark_serials takes above es)
mark_serials takes above (stands l ∷ es) = by (falls takes above l) refl (mark_serials takes above es) (mark_serials takes (l.row ∷ above) es)
  where
    by : (c : Bool) → falls takes above l ≡ c → entry_serials (mark takes above es) ≡ entry_serials es → entry_serials (mark takes (l.row ∷ above) es) ≡ entry_serials es
        → entry_serials (mark takes above (stands l ∷ es)) ≡ entry_serials (stands l ∷ es)
    by true q x y = rw (q, mark) (ap (λ (ks : List ℕ). serial_of l ∷ ks) x)
    by false q x y = rw (q, mark) (ap (λ (ks : List ℕ). serial_of l ∷ ks) y)

revalue_serials : (k : ℕ) (v : Bytes) (es : List Entry) → entry_serials (map (revalue_entry k v) es) ≡ entry_serials es
revalue_serials k v [] = refl
revalue_serials k v (taken l ∷ es) = ap (λ (ks : List ℕ). serial_of l ∷ ks) (revalue_serials k v es)
revalue_serials k v (stands l ∷ es) = ap (λ (ks : List ℕ). serial_of l ∷ ks) (revalue_serials k v es)

pub marks_serials : (p : Plan) (es : List Entry) → entry_serials (olds (marks p es)) ≡ entry_serials es
marks_serials p es = ap entry_serials (olds_marks p es) ∙ revalue_serials p.set p.value (mark p.takes (ground ∷ []) es) ∙ mark_serials p.takes (ground ∷ []) es

-- the serials before, and the next ones
module _ (w : Forest Row) (blank : Blank w) (k : ℕ) where
  made_times : (n u : ℕ) (es : List Entry) → times k (entry_serials (standing (lines u (number n w)) ++ es)) ≡ times k (range n (new_rows w)) + times k (entry_serials es)
  made_times n u es =
      ap (times k) (map-append (λ (e : Entry). serial_of (line_of e)) (standing (lines u (number n w))) es)
      ∙ times_append k (entry_serials (standing (lines u (number n w)))) (entry_serials es)
      ∙ ap (λ (ks : List ℕ). times k ks + times k (entry_serials es)) (standing_serials (lines u (number n w)) ∙ lines_serials u (number n w) ∙ number_serials n w blank)

  range_times : (n a b : ℕ) → times k (range n (a * suc b)) ≡ times k (range n a) + times k (range (n + a) (a * b))
  range_times n a b =
      let e : a * suc b ≡ a + a * b = omega (arith, mul-suc a b) in
      rw e (ap (times k) (range_append n a (a * b)) ∙ times_append k (range n a) (range (n + a) (a * b)))

  expand_times : (n : ℕ) (ms : List Mark) → times k (entry_serials (expand w n ms)) ≡ times k (entry_serials (olds ms)) + times k (range n (new_rows w * spot_count ms))
  unfolding olds expand times range spot_count
  expand_times n [] = rw (mul-zero (new_rows w)) (omega arith)
  expand_times n (old e ∷ ms) = omega (arith, expand_times n ms)
  expand_times n (spot u ∷ ms) =
      omega (arith, made_times n u (expand w (n + new_rows w) ms), range_times n (new_rows w) (spot_count ms), expand_times (n + new_rows w) ms)

-- SERIALS: those of all rows ever made are distinct, from 1, below the next
pub record Once (b : Book) : Type 0 where
  pub least : 1 ≤ b.next
  pub once : Distinct (ever_made b)
  pub below : (k : ℕ) → Memᴰ k (ever_made b) → (1 ≤ k) × (k < b.next)

pub once_spent : (b : Book) → Once b → Spent b.next (ever_made b)
once_spent b o = spent o.least o.once o.below

pub spent_once : (b : Book) → Spent b.next (ever_made b) → Once b
spent_once b s = record { least = s.least; once = spent_distinct s; below = spent_below s }

pub once_note : (c : Call) (b : Book) → Once b → Once (note c b)
unfolding note
once_note c b o =
    spent_once (note c b)
    (spent_more (new_rows p.filling * spot_count (marks p b.entries)) (once_spent b o)
    (λ k. expand_times p.filling (blank_plan c b.version b.form (untaken b.entries)) k b.next (marks p b.entries)
    ∙ ap (λ (ks : List ℕ). times k ks + times k (range b.next (new_rows p.filling * spot_count (marks p b.entries)))) (marks_serials p b.entries)))
  where
    p : Plan
    p = plan c b.version b.form (untaken b.entries)

pub next_rises : (c : Call) (b : Book) → b.next ≤ (note c b).next
unfolding note
next_rises c b = omega arith

pub fresh_once : Once fresh_book
fresh_once = record { least = lit≤ tt; once = tt; below = λ k m. absurd (Memᴰ.not-nil m) }

-- ---- order at two moments
-- the entries of ls that ks has too, in the order of ls
unfoldable pub shared : List ℕ → List ℕ → List ℕ
shared ks [] = []
shared ks (l ∷ ls) = elim (member numbers l ks) [ true ↦ l ∷ shared ks ls | false ↦ shared ks ls ]

module _ (n : ℕ) where
  pub shared_take : (ks ls : List ℕ) → Memᴰ n ks → shared ks (n ∷ ls) ≡ n ∷ shared ks ls
  unfolding shared
  shared_take ks ls m = rw (member_in numbers n ks m, shared)

  shared_pass : (ks ls : List ℕ) → (Memᴰ n ks → ⊥) → shared ks (n ∷ ls) ≡ shared ks ls
  unfolding shared
  shared_pass ks ls f = rw (member_out numbers n ks f, shared)

  member_other : (j : ℕ) (ks : List ℕ) → (j ≡ n → ⊥) → member numbers j (n ∷ ks) ≡ member numbers j ks
  unfolding member
  member_other j ks f = rw (eqb_other j n f, member)

  -- an entry of ks that is not in ls
  shared_less : (ks ls : List ℕ) → (Memᴰ n ls → ⊥) → shared (n ∷ ks) ls ≡ shared ks ls
  unfolding shared
  shared_less ks [] f = refl
  shared_less ks (j ∷ ls) f =
      by (member numbers j (n ∷ ks)) refl (member_other j ks (λ e. f (Memᴰ.head (sym e)))) (shared_less ks ls (λ m. f (Memᴰ.tail m)))
    where
      by : (c : Bool) → member numbers j (n ∷ ks) ≡ c → member numbers j (n ∷ ks) ≡ member numbers j ks → shared (n ∷ ks) ls ≡ shared ks ls → shared (n ∷ ks) (j ∷ ls) ≡ shared ks (j ∷ ls)
      by true q e x = rw (← e, q, shared) (ap (λ (z : List ℕ). j ∷ z) x)
      by false q e x = rw (← e, q, shared) x

  shared_both : (ks ls : List ℕ) → (Memᴰ n ls → ⊥) → shared (n ∷ ks) (n ∷ ls) ≡ n ∷ shared ks ls
  shared_both ks ls f = shared_take (n ∷ ks) ls (Memᴰ.head refl) ∙ ap (λ (z : List ℕ). n ∷ z) (shared_less ks ls f)

-- a line of the earlier book is in the later one
pub keeps_in : {es fs : List Entry} (k : ℕ) → Keeps es fs → Memᴰ k (entry_serials es) → Memᴰ k (entry_serials fs)
keeps_in k none_left m = m
keeps_in k (made e x) m = Memᴰ.tail (keeps_in k x m)
keeps_in k (kept a b q x) m = ⊎_elim (λ e. Memᴰ.head (e ∙ q.serial)) (λ i. Memᴰ.tail (keeps_in k x i)) (Memᴰ.cases_cons m)
keeps_in k (took a b q x) m = ⊎_elim (λ e. Memᴰ.head (e ∙ q.serial)) (λ i. Memᴰ.tail (keeps_in k x i)) (Memᴰ.cases_cons m)
keeps_in k (gone l x) m = ⊎_elim (λ e. Memᴰ.head e) (λ i. Memᴰ.tail (keeps_in k x i)) (Memᴰ.cases_cons m)

pub untaken_in : (k : ℕ) (es : List Entry) → Memᴰ k (line_serials (untaken es)) → Memᴰ k (entry_serials es)
unfolding untaken
untaken_in k [] m = m
untaken_in k (taken l ∷ es) m = Memᴰ.tail (untaken_in k es m)
untaken_in k (stands l ∷ es) m = ⊎_elim (λ e. Memᴰ.head e) (λ i. Memᴰ.tail (untaken_in k es i)) (Memᴰ.cases_cons m)

-- a serial that the later book does not have stands at neither moment
module _ {es fs : List Entry} (x : Keeps es fs) (k : ℕ) (f : Memᴰ k (entry_serials fs) → ⊥) where
  not_before : Memᴰ k (line_serials (untaken es)) → ⊥
  not_before m = f (keeps_in k x (untaken_in k es m))

  not_after : Memᴰ k (line_serials (untaken fs)) → ⊥
  not_after m = f (untaken_in k fs m)

-- ORDER: the rows that are there at both moments are in the same order at both
pub same_order : {es fs : List Entry} → Keeps es fs → Distinct (entry_serials fs)
    → shared (line_serials (untaken fs)) (line_serials (untaken es)) ≡ shared (line_serials (untaken es)) (line_serials (untaken fs))
unfolding untaken
same_order none_left d = refl
same_order (made (taken l) x) (new, d) = same_order x d
same_order (made {es} {fs} (stands l) x) (new, d) =
    shared_less (serial_of l) (line_serials (untaken fs)) (line_serials (untaken es)) (not_before x (serial_of l) new)
    ∙ same_order x d
    ∙ sym (shared_pass (serial_of l) (line_serials (untaken es)) (line_serials (untaken fs)) (not_before x (serial_of l) new))
same_order (kept {es} {fs} a b q x) (new, d) =
    rw q.serial
    (shared_both (serial_of b) (line_serials (untaken fs)) (line_serials (untaken es)) (not_before x (serial_of b) new)
    ∙ ap (λ (z : List ℕ). serial_of b ∷ z) (same_order x d)
    ∙ sym (shared_both (serial_of b) (line_serials (untaken es)) (line_serials (untaken fs)) (not_after x (serial_of b) new)))
same_order (took {es} {fs} a b q x) (new, d) =
    rw q.serial
    (shared_pass (serial_of b) (line_serials (untaken fs)) (line_serials (untaken es)) (not_after x (serial_of b) new)
    ∙ same_order x d
    ∙ sym (shared_less (serial_of b) (line_serials (untaken es)) (line_serials (untaken fs)) (not_after x (serial_of b) new)))
same_order (gone l x) (new, d) = same_order x d
