-- The taking rule in the book, for any rule `takes`: a line is marked taken exactly when it or a line above it is taken
-- by the rule.
use Prim.Native.Nat.{ℕ, ◌≤◌}
use mathlib.Core.Path.{◌≡◌, refl, sym, subst}
use mathlib.Core.Logic.{⊎_elim, ◌⊎◌, inl, inr}
use mathlib.Core.Bool.{Bool}
use mathlib.Core.List.{List, [], ◌∷◌, Memᴰ}
use Rattle.rules.specs.Model.{Distinct}
use Rattle.rules.specs.Store.{Row, Forest}
use Rattle.rules.specs.Lines.{Line, lines, ground}
use Rattle.rules.specs.Change.{prune}
use Rattle.rules.specs.Book.{Entry, untaken, mark}
use Rattle.rules.specs.MadeTakenGiven.{IsTaken, itself, beneath}
use Rattle.rules.proofs.PlanLaws.{Ruled}
use Rattle.history.specs.History.{serial_of, taken_serials, entry_serials}
use Rattle.history.proofs.Taking.{Apart, taking}
use Rattle.history.proofs.Stable.{line_serials, mark_serials, untaken_in}
use Rattle.history.proofs.TakenLines.{line_serial, serial_line, either, not_both, distinct_untaken, same_serial, mark_old}
use Rattle.history.proofs.Pruned.{left_or_taken, not_left}

-- the same of another naming
pub taken_as : {N M : Line → Type 0} (ls : List Line) → ((x : Line) → Memᴰ x ls → N x → M x) → {l : Line} → Memᴰ l ls → IsTaken N ls l → IsTaken M ls l
taken_as ls f i (itself l n) = itself l (f l i n)
taken_as ls f i (beneath u l j e n) = beneath u l j e (taken_as ls f j n)

-- ---- a rule, on a book whose untaken lines are the lines of documents
module _ (takes : Row → Row → Bool) (docs : Forest Row) (es : List Entry) (h : untaken es ≡ lines 0 docs) (apart : Apart (ground ∷ []) docs) (d : Distinct (entry_serials es))
    (big : (k : ℕ) → Memᴰ k (entry_serials es) → 1 ≤ k) where
  pub distinct_lines : Distinct (line_serials (lines 0 docs))
  distinct_lines = subst (λ (z : List Line). Distinct (line_serials z)) h (distinct_untaken es d)

  pub in_book : (l : Line) → Memᴰ l (lines 0 docs) → Memᴰ (serial_of l) (entry_serials es)
  in_book l i = untaken_in (serial_of l) es (line_serial l (untaken es) (subst (λ (z : List Line). Memᴰ l z) (sym h) i))

  pub big_lines : (l : Line) → Memᴰ l (lines 0 docs) → 1 ≤ serial_of l
  big_lines l i = big (serial_of l) (in_book l i)

  left_lines : untaken (mark takes (ground ∷ []) es) ≡ lines 0 (prune takes ground docs)
  left_lines = taking takes docs es h apart

  pub distinct_marked : Distinct (entry_serials (mark takes (ground ∷ []) es))
  distinct_marked = subst (λ (z : List ℕ). Distinct z) (sym (mark_serials takes (ground ∷ []) es)) d

  pub taken_then_under : (l : Line) → Memᴰ l (lines 0 docs) → Memᴰ (serial_of l) (taken_serials (mark takes (ground ∷ []) es)) → IsTaken (λ x. Ruled takes (lines 0 docs) x) (lines 0 docs) l
  taken_then_under l i t =
      ⊎_elim (λ j. absurd (not_both (serial_of l) (mark takes (ground ∷ []) es) distinct_marked (stood j) t)) (λ u. u)
      (left_or_taken takes (lines 0 docs) ground docs (inl refl) (λ x k. k) l i)
    where
      stood : Memᴰ l (lines 0 (prune takes ground docs)) → Memᴰ (serial_of l) (line_serials (untaken (mark takes (ground ∷ []) es)))
      stood j = line_serial l (untaken (mark takes (ground ∷ []) es)) (subst (λ (z : List Line). Memᴰ l z) (sym left_lines) j)

  -- a line is marked taken or stands
  pub taken_or_left : (l : Line) → Memᴰ l (lines 0 docs) → Memᴰ (serial_of l) (taken_serials (mark takes (ground ∷ []) es)) ⊎ Memᴰ l (untaken (mark takes (ground ∷ []) es))
  taken_or_left l i =
      ⊎_elim (λ t. inl t) (λ j. inr (stood j))
      (either (serial_of l) (mark takes (ground ∷ []) es) (subst (λ (z : List ℕ). Memᴰ (serial_of l) z) (sym (mark_serials takes (ground ∷ []) es)) (in_book l i)))
    where
      stood : Memᴰ (serial_of l) (line_serials (untaken (mark takes (ground ∷ []) es))) → Memᴰ l (untaken (mark takes (ground ∷ []) es))
      stood j =
          let f = serial_line (serial_of l) (untaken (mark takes (ground ∷ []) es)) j in
          let was : Memᴰ f.0 (lines 0 docs) = subst (λ (z : List Line). Memᴰ f.0 z) h (mark_old takes (ground ∷ []) es f.0 f.1) in
          subst (λ (z : Line). Memᴰ z (untaken (mark takes (ground ∷ []) es))) (sym (same_serial (lines 0 docs) distinct_lines l f.0 i was f.2)) f.1

  pub under_then_taken : (l : Line) → Memᴰ l (lines 0 docs) → IsTaken (λ x. Ruled takes (lines 0 docs) x) (lines 0 docs) l → Memᴰ (serial_of l) (taken_serials (mark takes (ground ∷ []) es))
  under_then_taken l i u =
      ⊎_elim (λ t. t) (λ j. absurd (not_left takes docs distinct_lines big_lines u (subst (λ (z : List Line). Memᴰ l z) left_lines j))) (taken_or_left l i)
