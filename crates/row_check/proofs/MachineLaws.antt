-- The one pass judges as the trees do.
use Prim.Native.Nat.{ℕ, suc, ◌≤◌, ◌<◌}
use native.Mathlib.Omega.{arith}
use mathlib.Core.Path.{◌≡◌, refl, ap, ◌∙◌, sym, subst}
use mathlib.Core.Logic.{◌↔◌}
use mathlib.Core.Bool.{true, ◌&&◌}
use mathlib.Core.List.{List, [], ◌∷◌}
use lib.Dec.{ltb, leb}
use lib.ListN.{length, get_or, set, length-set}
use lib.Seq.{get_or-set_same, get_or-set_other}
use borrow.Author.Tests.{lt-ltb, le-leb, ltb-true, leb-true}
use Rattle.rules.specs.Store.{Forest, heads}
use Rattle.rules.specs.Preorder.{Deep, preorder, build}
use Rattle.rules.proofs.Words.{and_both, and_split}
use Rattle.rules.proofs.PreorderLaws.{rising, build_preorder, preorder_build, build_less, build_more, preorder_rises, build_same}
use Rattle.next_row.specs.Automaton.{Automaton}
use Rattle.row_check.specs.Machine.{rows_run, Fine, levels_end, opened, machine}
use Rattle.form_table.proofs.Numbers.{Side, below, at, above, side, every→, every←}

-- all rows stand at depths below b
abbrev pub Within : {A : Type 0} → ℕ → List (Deep A) → Type 0
Within b [] = Unit {0}
Within b (x ∷ xs) = (x.depth < b) × Within b xs

module _ {A S : Type 0} (m : Automaton A S) (none : S) where
  closed→ : (l : List S) (n a : ℕ) → levels_end m none l n a ≡ true → (k : ℕ) → a ≤ k → k < n → m.ends (get_or l k none) ≡ true
  unfolding levels_end
  closed→ l n a h = every→ (λ k. m.ends (get_or l k none)) n a h

  closed← : (l : List S) (n a : ℕ) → ((k : ℕ) → a ≤ k → k < n → m.ends (get_or l k none) ≡ true) → levels_end m none l n a ≡ true
  unfolding levels_end
  closed← l n a h = every← (λ k. m.ends (get_or l k none)) n a h

  -- what level k is owed by the rows from here on
  record Owed (l : List S) (k : ℕ) (xs : List (Deep A)) : Type 0 where
    row : rows_run m (get_or l k none) (heads (build xs k)) ≡ true
    fine : Fine m (build xs k)

  module _ (b : ℕ) where
    module _ (x : Deep A) (l : List S) (h : length l ≡ suc b) (p : x.depth < b) where
      pub at_below : (k : ℕ) → k < x.depth → get_or (opened m none l x.depth x.row) k none ≡ get_or l k none
      at_below k q =
          get_or-set_other (set l x.depth (m.next (get_or l x.depth none) x.row)) (suc x.depth) k (m.enter x.row) none (λ e. omega arith)
          ∙ get_or-set_other l x.depth k (m.next (get_or l x.depth none) x.row) none (λ e. omega arith)

      pub at_row : get_or (opened m none l x.depth x.row) x.depth none ≡ m.next (get_or l x.depth none) x.row
      at_row =
          get_or-set_other (set l x.depth (m.next (get_or l x.depth none) x.row)) (suc x.depth) x.depth (m.enter x.row) none (λ e. omega arith)
          ∙ get_or-set_same l x.depth (m.next (get_or l x.depth none) x.row) none (omega arith)

      pub at_inside : get_or (opened m none l x.depth x.row) (suc x.depth) none ≡ m.enter x.row
      at_inside =
          get_or-set_same (set l x.depth (m.next (get_or l x.depth none) x.row)) (suc x.depth) (m.enter x.row) none
          (omega (arith, length-set l x.depth (m.next (get_or l x.depth none) x.row)))

      pub still : length (opened m none l x.depth x.row) ≡ suc b
      still =
          length-set (set l x.depth (m.next (get_or l x.depth none) x.row)) (suc x.depth) (m.enter x.row)
          ∙ length-set l x.depth (m.next (get_or l x.depth none) x.row)
          ∙ h

      module _ (xs : List (Deep A)) where
        owed→ : (k n : ℕ) → k < n → ((j : ℕ) → suc x.depth ≤ j → j < n → m.ends (get_or l j none) ≡ true) → m.may (get_or l x.depth none) x.row ≡ true
            → ((j : ℕ) → j < suc (suc x.depth) → Owed (opened m none l x.depth x.row) j xs) → Owed l k (x ∷ xs)
        unfolding rows_run Fine
        owed→ k n q c u o = by (side k x.depth)
          where
            by : Side k x.depth → Owed l k (x ∷ xs)
            by (below s) =
                let w = o k (omega arith) in
                record {
                  row = rw (build_less x xs k s, ← at_below k s) w.row;
                  fine = rw (build_less x xs k s) w.fine;
                }
            by (at s) =
                let v = o x.depth (omega arith) in
                let w = o (suc x.depth) (omega arith) in
                record {
                  row = rw (s, build_same x xs x.depth refl) (and_both u (rw at_row at v.row));
                  fine = rw (s, build_same x xs x.depth refl) (rw at_inside at w.row, w.fine, v.fine);
                }
            by (above s) =
                record {
                  row = rw (build_more x xs k s) (c k s q);
                  fine = rw (build_more x xs k s) tt;
                }

        -- what the row leaves of what its level is owed
        module _ (o : Owed l x.depth (x ∷ xs)) where
          of_row : (m.may (get_or l x.depth none) x.row && rows_run m (m.next (get_or l x.depth none) x.row) (heads (build xs x.depth))) ≡ true
          unfolding rows_run
          of_row = rw (build_same x xs x.depth refl) at o.row

          of_fine : (rows_run m (m.enter x.row) (heads (build xs (suc x.depth))) ≡ true) × Fine m (build xs (suc x.depth)) × Fine m (build xs x.depth)
          unfolding Fine
          of_fine = rw (build_same x xs x.depth refl) at o.fine

          of_may : m.may (get_or l x.depth none) x.row ≡ true
          of_may = (and_split (m.may (get_or l x.depth none) x.row) (rows_run m (m.next (get_or l x.depth none) x.row) (heads (build xs x.depth))) of_row).0

          of_rest : rows_run m (m.next (get_or l x.depth none) x.row) (heads (build xs x.depth)) ≡ true
          of_rest = (and_split (m.may (get_or l x.depth none) x.row) (rows_run m (m.next (get_or l x.depth none) x.row) (heads (build xs x.depth))) of_row).1

        owed← : (n : ℕ) → x.depth < n → ((j : ℕ) → j < n → Owed l j (x ∷ xs)) → (k : ℕ) → k < suc (suc x.depth) → Owed (opened m none l x.depth x.row) k xs
        owed← n q o k r = by (side k x.depth)
          where
            by : Side k x.depth → Owed (opened m none l x.depth x.row) k xs
            by (below s) =
                let w = o k (omega arith) in
                record {
                  row = rw (at_below k s) (rw (build_less x xs k s) at w.row);
                  fine = rw (build_less x xs k s) at w.fine;
                }
            by (at s) =
                let w = o x.depth q in
                record {
                  row = rw (s, at_row) (of_rest w);
                  fine = rw s (of_fine w).2;
                }
            by (above s) =
                let w = o x.depth q in
                let e : k ≡ suc x.depth = omega arith in
                record {
                  row = rw (e, at_inside) (of_fine w).0;
                  fine = rw e (of_fine w).1;
                }

        ended← : (n : ℕ) → ((j : ℕ) → j < n → Owed l j (x ∷ xs)) → (k : ℕ) → suc x.depth ≤ k → k < n → m.ends (get_or l k none) ≡ true
        unfolding rows_run
        ended← n o k r q = rw (build_more x xs k r) at (o k q).row

    -- with d + 1 levels open
    machine→ : (xs : List (Deep A)) (l : List S) (d : ℕ) → length l ≡ suc b → Within b xs → machine m none l (suc d) xs ≡ true → (rising d xs ≡ true) × ((k : ℕ) → k < suc d → Owed l k xs)
    unfolding machine rows_run Fine
    machine→ [] l d h w e = (refl, λ k q. record { row = closed→ l (suc d) 0 e k (omega arith) q; fine = tt })
    machine→ (x ∷ xs) l d h (p, w) e =
        let (e1, f1) =
        and_split (ltb x.depth (suc d))
        (levels_end m none l (suc d) (suc x.depth)
        && (m.may (get_or l x.depth none) x.row && machine m none (opened m none l x.depth x.row) (suc (suc x.depth)) xs))
        e in
        let (e2, f2) =
        and_split (levels_end m none l (suc d) (suc x.depth))
        (m.may (get_or l x.depth none) x.row && machine m none (opened m none l x.depth x.row) (suc (suc x.depth)) xs) f1 in
        let (e3, f3) = and_split (m.may (get_or l x.depth none) x.row) (machine m none (opened m none l x.depth x.row) (suc (suc x.depth)) xs) f2 in
        let (r, o) = machine→ xs (opened m none l x.depth x.row) (suc x.depth) (still x l h p) w f3 in
        let s : x.depth < suc d = ltb-true x.depth (suc d) e1 in
        (and_both (le-leb x.depth d (omega arith)) r, λ k q. owed→ x l h p xs k (suc d) q (closed→ l (suc d) (suc x.depth) e2) e3 o)

    machine← : (xs : List (Deep A)) (l : List S) (d : ℕ) → length l ≡ suc b → Within b xs → rising d xs ≡ true → ((k : ℕ) → k < suc d → Owed l k xs) → machine m none l (suc d) xs ≡ true
    unfolding machine rows_run
    machine← [] l d h w r o = closed← l (suc d) 0 (λ k p q. (o k q).row)
    machine← (x ∷ xs) l d h (p, w) e o =
        let (e1, r) = and_split (leb x.depth d) (rising (suc x.depth) xs) e in
        let t : x.depth ≤ d = leb-true x.depth d e1 in
        let s : x.depth < suc d = omega arith in
        and_both (lt-ltb x.depth (suc d) s)
        (and_both (closed← l (suc d) (suc x.depth) (ended← x l h p xs (suc d) o))
        (and_both (of_may x l h p xs (o x.depth s))
        (machine← xs (opened m none l x.depth x.row) (suc x.depth) (still x l h p) w r (owed← x l h p xs (suc d) s o))))

    -- THE PASS: it accepts exactly the rows of a forest whose first rows may
    -- stand beside one another and in which every row is fine
    pub accepted : (xs : List (Deep A)) (l : List S) → length l ≡ suc b → Within b xs
        → (machine m none l 1 xs ≡ true) ↔ ((f : Forest A) × (preorder 0 f ≡ xs) × (rows_run m (get_or l 0 none) (heads f) ≡ true) × Fine m f)
    accepted xs l h w = (
      λ e.
          let (r, o) = machine→ xs l 0 h w e in
          (build xs 0, preorder_build xs r, (o 0 (omega arith)).row, (o 0 (omega arith)).fine),
      λ g.
          machine← xs l 0 h w (subst (λ (u : List (Deep A)). rising 0 u ≡ true) g.1 (preorder_rises g.0))
          (λ k q.
          let z : k ≡ 0 = omega arith in
          let e : build xs 0 ≡ g.0 = ap (λ (u : List (Deep A)). build u 0) (sym g.1) ∙ build_preorder g.0 in
          record { row = rw (z, e) g.2; fine = rw (z, e) g.3 }),
    )
