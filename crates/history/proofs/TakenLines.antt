-- What an accepted call does to the lines: which of them stood before it, and which it takes.
use Prim.Native.Nat.{ℕ, ◌+◌, ◌<◌}
use native.Mathlib.Omega.{arith}
use mathlib.Core.Path.{◌≡◌, refl, sym, ap, ◌∙◌, subst}
use mathlib.Core.Logic.{⊎_elim, ◌⊎◌, inl, inr}
use mathlib.Core.Bool.{Bool, true, false}
use mathlib.Core.List.{List, [], ◌∷◌, ◌++◌, map, Memᴰ}
use Rattle.rules.specs.Bytes.{Bytes}
use Rattle.rules.specs.Model.{Distinct}
use Rattle.rules.specs.Store.{Row, Forest}
use Rattle.rules.specs.Lines.{Line, lines, ground}
use Rattle.rules.specs.Change.{Plan, revalue, new_rows, number}
use Rattle.rules.specs.Book.{Entry, stands, taken, untaken, falls, mark, revalue_entry, Mark, old, spot, expand, marks}
use Rattle.history.specs.History.{serial_of, taken_serials, entry_serials}
use Rattle.history.proofs.NumberTests.{times_in, range, range_below}
use Rattle.history.proofs.Making.{standing}
use Rattle.history.proofs.Numbering.{Blank, number_serials, lines_serials}
use Rattle.history.proofs.Stable.{olds, olds_marks, line_serials, untaken_in}

abbrev pub marked : Plan → List Entry → List Entry
marked p es = mark p.takes (ground ∷ []) es

-- ---- taken lines: new ones are not, and values do not matter
standing_taken : (ls : List Line) (es : List Entry) → taken_serials (standing ls ++ es) ≡ taken_serials es
standing_taken [] es = refl
standing_taken (l ∷ ls) es = standing_taken ls es

expand_taken : (w : Forest Row) (n : ℕ) (ms : List Mark) → taken_serials (expand w n ms) ≡ taken_serials (olds ms)
unfolding olds expand
expand_taken w n [] = refl
expand_taken w n (old (stands l) ∷ ms) = expand_taken w n ms
expand_taken w n (old (taken l) ∷ ms) = ap (λ (z : List ℕ). serial_of l ∷ z) (expand_taken w n ms)
expand_taken w n (spot u ∷ ms) = standing_taken (lines u (number n w)) (expand w (n + new_rows w) ms) ∙ expand_taken w (n + new_rows w) ms

revalue_taken : (k : ℕ) (v : Bytes) (es : List Entry) → taken_serials (map (revalue_entry k v) es) ≡ taken_serials es
revalue_taken k v [] = refl
revalue_taken k v (stands l ∷ es) = revalue_taken k v es
revalue_taken k v (taken l ∷ es) = ap (λ (z : List ℕ). serial_of l ∷ z) (revalue_taken k v es)

pub taken_marked : (p : Plan) (n : ℕ) (es : List Entry) → taken_serials (expand p.filling n (marks p es)) ≡ taken_serials (marked p es)
taken_marked p n es = expand_taken p.filling n (marks p es) ∙ ap taken_serials (olds_marks p es) ∙ revalue_taken p.set p.value (marked p es)

-- ---- standing lines: new ones have serials from n on, the others are old ones with a value
new_untaken : (m : Line) (ls : List Line) (es : List Entry) → Memᴰ m (untaken (standing ls ++ es)) → Memᴰ (serial_of m) (line_serials ls) ⊎ Memᴰ m (untaken es)
unfolding untaken
new_untaken m [] es i = inr i
new_untaken m (l ∷ ls) es i =
    ⊎_elim (λ e. inl (mathlib.Core.List.Memᴰ.head (ap (λ (z : Line). serial_of z) e))) (λ j. ⊎_elim (λ a. inl (mathlib.Core.List.Memᴰ.tail a)) (λ b. inr b) (new_untaken m ls es j)) (mathlib.Core.List.Memᴰ.cases_cons i)

fresh_serial : (w : Forest Row) → Blank w → (n u k : ℕ) → k < n → Memᴰ k (line_serials (lines u (number n w))) → ⊥
fresh_serial w blank n u k h i =
    let j : Memᴰ k (range n (new_rows w)) = subst (λ (z : List ℕ). Memᴰ k z) (lines_serials u (number n w) ∙ number_serials n w blank) i in
    omega (arith, times_in k (range n (new_rows w)) j, range_below k n (new_rows w) h)

pub expand_old : (w : Forest Row) → Blank w → (n : ℕ) (ms : List Mark) (m : Line) → serial_of m < n → Memᴰ m (untaken (expand w n ms)) → Memᴰ m (untaken (olds ms))
unfolding olds expand untaken
expand_old w blank n [] m h i = i
expand_old w blank n (old (stands l) ∷ ms) m h i = ⊎_elim (λ e. mathlib.Core.List.Memᴰ.head e) (λ j. mathlib.Core.List.Memᴰ.tail (expand_old w blank n ms m h j)) (mathlib.Core.List.Memᴰ.cases_cons i)
expand_old w blank n (old (taken l) ∷ ms) m h i = expand_old w blank n ms m h i
expand_old w blank n (spot u ∷ ms) m h i =
    ⊎_elim (λ a. absurd (fresh_serial w blank n u (serial_of m) h a)) (λ j. expand_old w blank (n + new_rows w) ms m (omega (arith, h)) j)
    (new_untaken m (lines u (number n w)) (expand w (n + new_rows w) ms) i)

-- a standing line was one before
pub mark_old : (takes : Row → Row → Bool) (above : List Row) (es : List Entry) (m : Line) → Memᴰ m (untaken (mark takes above es)) → Memᴰ m (untaken es)
unfolding mark untaken
mark_old takes above [] m i = i
mark_old takes above (taken l ∷ es) m i = mark_old takes above es m i
mark_old takes above (stands l ∷ es) m i = by (falls takes above l) refl (mark_old takes above es m) (mark_old takes (l.row ∷ above) es m)
  where
    by : (c : Bool) → falls takes above l ≡ c → (Memᴰ m (untaken (mark takes above es)) → Memᴰ m (untaken es))
        → (Memᴰ m (untaken (mark takes (l.row ∷ above) es)) → Memᴰ m (untaken es)) → Memᴰ m (l ∷ untaken es)
    by true q x y = let j : Memᴰ m (untaken (mark takes above es)) = rw (q, mark) at i in mathlib.Core.List.Memᴰ.tail (x j)
    by false q x y =
        let j : Memᴰ m (l ∷ untaken (mark takes (l.row ∷ above) es)) = rw (q, mark) at i in
        ⊎_elim (λ e. mathlib.Core.List.Memᴰ.head e) (λ a. mathlib.Core.List.Memᴰ.tail (y a)) (mathlib.Core.List.Memᴰ.cases_cons j)

abbrev pub valued : ℕ → Bytes → Line → Line
valued k v l = record { parent = l.parent; row = revalue k v l.row }

pub revalue_old : (k : ℕ) (v : Bytes) (es : List Entry) (m : Line) → Memᴰ m (untaken (map (revalue_entry k v) es)) → (l : Line) × Memᴰ l (untaken es) × (m ≡ valued k v l)
unfolding untaken
revalue_old k v [] m i = absurd (mathlib.Core.List.Memᴰ.not-nil i)
revalue_old k v (taken l ∷ es) m i = revalue_old k v es m i
revalue_old k v (stands l ∷ es) m i =
    ⊎_elim (λ e. (l, mathlib.Core.List.Memᴰ.head refl, e)) (λ j. let r = revalue_old k v es m j in (r.0, mathlib.Core.List.Memᴰ.tail r.1, r.2)) (mathlib.Core.List.Memᴰ.cases_cons i)

-- ---- serials
pub taken_in : (k : ℕ) (es : List Entry) → Memᴰ k (taken_serials es) → Memᴰ k (entry_serials es)
taken_in k [] i = elim i [ ]
taken_in k (stands l ∷ es) i = mathlib.Core.List.Memᴰ.tail (taken_in k es i)
taken_in k (taken l ∷ es) (mathlib.Core.List.Memᴰ.head e) = mathlib.Core.List.Memᴰ.head e
taken_in k (taken l ∷ es) (mathlib.Core.List.Memᴰ.tail i) = mathlib.Core.List.Memᴰ.tail (taken_in k es i)

pub line_serial : (l : Line) (ls : List Line) → Memᴰ l ls → Memᴰ (serial_of l) (line_serials ls)
line_serial l [] x' = elim x' [ ]
line_serial l (m ∷ ls) (mathlib.Core.List.Memᴰ.head e) = mathlib.Core.List.Memᴰ.head (ap (λ (z : Line). serial_of z) e)
line_serial l (m ∷ ls) (mathlib.Core.List.Memᴰ.tail i) = mathlib.Core.List.Memᴰ.tail (line_serial l ls i)

pub serial_line : (k : ℕ) (ls : List Line) → Memᴰ k (line_serials ls) → (l : Line) × Memᴰ l ls × (k ≡ serial_of l)
serial_line k [] x' = elim x' [ ]
serial_line k (m ∷ ls) (mathlib.Core.List.Memᴰ.head e) = (m, mathlib.Core.List.Memᴰ.head refl, e)
serial_line k (m ∷ ls) (mathlib.Core.List.Memᴰ.tail i) = let r = serial_line k ls i in (r.0, mathlib.Core.List.Memᴰ.tail r.1, r.2)

-- each serial is taken or stands, and not both
pub either : (k : ℕ) (es : List Entry) → Memᴰ k (entry_serials es) → Memᴰ k (taken_serials es) ⊎ Memᴰ k (line_serials (untaken es))
unfolding untaken
either k [] i = absurd (mathlib.Core.List.Memᴰ.not-nil i)
either k (stands l ∷ es) i = ⊎_elim (λ e. inr (mathlib.Core.List.Memᴰ.head e)) (λ j. ⊎_elim (λ a. inl a) (λ b. inr (mathlib.Core.List.Memᴰ.tail b)) (either k es j)) (mathlib.Core.List.Memᴰ.cases_cons i)
either k (taken l ∷ es) i = ⊎_elim (λ e. inl (mathlib.Core.List.Memᴰ.head e)) (λ j. ⊎_elim (λ a. inl (mathlib.Core.List.Memᴰ.tail a)) (λ b. inr b) (either k es j)) (mathlib.Core.List.Memᴰ.cases_cons i)

pub not_both : (k : ℕ) (es : List Entry) → Distinct (entry_serials es) → Memᴰ k (line_serials (untaken es)) → Memᴰ k (taken_serials es) → ⊥
unfolding untaken
not_both k [] d i j = elim i [ ]
not_both k (stands l ∷ es) d (mathlib.Core.List.Memᴰ.head e) j = d.0 (subst (λ (z : ℕ). Memᴰ z (entry_serials es)) e (taken_in k es j))
not_both k (stands l ∷ es) d (mathlib.Core.List.Memᴰ.tail i) j = not_both k es d.1 i j
not_both k (taken l ∷ es) d i (mathlib.Core.List.Memᴰ.head e) = d.0 (subst (λ (z : ℕ). Memᴰ z (entry_serials es)) e (untaken_in k es i))
not_both k (taken l ∷ es) d i (mathlib.Core.List.Memᴰ.tail j) = not_both k es d.1 i j

pub distinct_untaken : (es : List Entry) → Distinct (entry_serials es) → Distinct (line_serials (untaken es))
unfolding untaken
distinct_untaken [] d = tt
distinct_untaken (stands l ∷ es) d = (λ i. d.0 (untaken_in (serial_of l) es i), distinct_untaken es d.1)
distinct_untaken (taken l ∷ es) d = distinct_untaken es d.1

-- lines with the same serial are the same
pub same_serial : (ls : List Line) → Distinct (line_serials ls) → (l m : Line) → Memᴰ l ls → Memᴰ m ls → serial_of l ≡ serial_of m → l ≡ m
same_serial [] d l m x4 _ q = elim x4 [ ]
same_serial (x ∷ ls) d l m (mathlib.Core.List.Memᴰ.head e) (mathlib.Core.List.Memᴰ.head f) q = e ∙ sym f
same_serial (x ∷ ls) d l m (mathlib.Core.List.Memᴰ.head e) (mathlib.Core.List.Memᴰ.tail j) q = absurd (d.0 (subst (λ (z : ℕ). Memᴰ z (line_serials ls)) (sym q ∙ ap (λ (z : Line). serial_of z) e) (line_serial m ls j)))
same_serial (x ∷ ls) d l m (mathlib.Core.List.Memᴰ.tail i) (mathlib.Core.List.Memᴰ.head f) q = absurd (d.0 (subst (λ (z : ℕ). Memᴰ z (line_serials ls)) (q ∙ ap (λ (z : Line). serial_of z) f) (line_serial l ls i)))
same_serial (x ∷ ls) d l m (mathlib.Core.List.Memᴰ.tail i) (mathlib.Core.List.Memᴰ.tail j) q = same_serial ls d.1 l m i j q
