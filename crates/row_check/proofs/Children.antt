-- The automaton judges the rows after the attributes as the definition does.
use Prim.Native.Nat.{ℕ, zero, suc}
use native.Mathlib.Omega.{arith}
use mathlib.Core.Path.{◌≡◌, refl, ap, sym, ◌∙◌}
use mathlib.Core.Logic.{⊎_elim}
use mathlib.Core.Bool.{Bool, true, false, not, ◌&&◌, false≢true}
use mathlib.Core.List.Memᴰ
use mathlib.Core.List.{List, [], ◌∷◌, map}
use lib.Dec.{eqb}
use borrow.Author.Tests.{eq-eqb, ne_eqb, eqb-true}
use Rattle.rules.specs.Bytes.{numbers}
use Rattle.rules.specs.Model.{Members, Distinct, names}
use Rattle.model.specs.Steps.{steps, runs}
use Rattle.rules.specs.Layout.{FlatRow}
use Rattle.rules.proofs.Words.{and_both, and_split}
use Rattle.rules.proofs.Correct.{accepts_conforms}
use Rattle.model.proofs.FactsLaws.{runs_accepts}
use Rattle.form_index.specs.Indices.{index_of_row, Sort, ContentOf}
use Rattle.next_row.specs.Judge.{child_may, children_end}

-- ---- rows of one sort
pub sort_none : {s : ℕ} → Sort s []
sort_none r m = absurd (Memᴰ.not-nil m)

pub sort_more : {s : ℕ} {r : FlatRow} {rs : List FlatRow} → r.sort ≡ s → Sort s rs → Sort s (r ∷ rs)
sort_more {s} {r} {rs} e h x m = ⊎_elim (λ d. ap (λ (z : FlatRow). z.sort) d ∙ e) (h x) (Memᴰ.cases_cons m)

pub sort_first : {s : ℕ} {r : FlatRow} {rs : List FlatRow} → Sort s (r ∷ rs) → r.sort ≡ s
sort_first {s} {r} {rs} h = h r (Memᴰ.head refl)

pub sort_rest : {s : ℕ} {r : FlatRow} {rs : List FlatRow} → Sort s (r ∷ rs) → Sort s rs
sort_rest h x m = h x (Memᴰ.tail m)

-- no attribute row is a child
pub child_not : (k : ℕ) (ms : Members ℕ) (last sort index : ℕ) → sort ≡ 2 → child_may k ms last sort index ≡ false
child_not zero ms last sort index e = refl
child_not (suc zero) ms last sort index e = rw (ne_eqb sort 3 (λ z. omega arith))
child_not (suc (suc k)) ms last sort index e = rw (ne_eqb sort 1 (λ z. omega arith))

-- all rows after `last`, by the kind k of the definition
unfoldable pub walks : ℕ → Members ℕ → ℕ → List FlatRow → Bool
walks k ms last [] = children_end k ms last
walks k ms last (r ∷ rs) = child_may k ms last r.sort r.index && walks k ms (suc r.index) rs

module _ (ms : Members ℕ) where
  module _ (k : ℕ) where
    word→ : (last : ℕ) (rs : List FlatRow) → walks (suc (suc k)) ms last rs ≡ true → Sort 1 rs × (runs ms last (map index_of_row rs) ≡ true)
    unfolding walks runs
    word→ last [] e = (sort_none, e)
    word→ last (r ∷ rs) e =
        let (u, v) = and_split (eqb r.sort 1 && steps ms last r.index) (walks (suc (suc k)) ms (suc r.index) rs) e in
        let (s, t) = and_split (eqb r.sort 1) (steps ms last r.index) u in
        let (p, q) = word→ (suc r.index) rs v in
        (sort_more (eqb-true r.sort 1 s) p, and_both t q)

    word← : (last : ℕ) (rs : List FlatRow) → Sort 1 rs → runs ms last (map index_of_row rs) ≡ true → walks (suc (suc k)) ms last rs ≡ true
    unfolding walks runs
    word← last [] p e = e
    word← last (r ∷ rs) p e =
        let (t, q) = and_split (steps ms last r.index) (runs ms (suc r.index) (map index_of_row rs)) e in
        and_both (and_both (eq-eqb r.sort 1 (sort_first p)) t) (word← (suc r.index) rs (sort_rest p) q)

  module _ (d : Distinct (names ms)) where
    pub content→ : (k : ℕ) (rs : List FlatRow) → walks k ms 0 rs ≡ true → ContentOf k ms rs
    unfolding walks
    content→ zero [] e = refl
    content→ zero (r ∷ rs) e = absurd (false≢true e)
    content→ (suc zero) [] e = absurd (false≢true e)
    content→ (suc zero) (r ∷ []) e =
        let (u, v) = and_split (eqb r.sort 3 && true) (not (eqb (suc r.index) 0)) e in
        let (s, t) = and_split (eqb r.sort 3) true u in
        (r, refl, eqb-true r.sort 3 s)
    content→ (suc zero) (r ∷ x ∷ rs) e =
        let (u, v) = and_split (eqb r.sort 3 && true) (walks 1 ms (suc r.index) (x ∷ rs)) e in
        let (p, q) = and_split (eqb x.sort 3 && eqb (suc r.index) 0) (walks 1 ms (suc x.index) rs) v in
        let (s, t) = and_split (eqb x.sort 3) (eqb (suc r.index) 0) p in
        let z = eqb-true (suc r.index) 0 t in
        absurd (omega arith)
    content→ (suc (suc k)) rs e = let (p, q) = word→ k 0 rs e in (p, (accepts_conforms numbers ms d (map index_of_row rs)).0 (sym (runs_accepts ms (map index_of_row rs)) ∙ q))

    pub content← : (k : ℕ) (rs : List FlatRow) → ContentOf k ms rs → walks k ms 0 rs ≡ true
    unfolding walks
    content← zero rs e = rw e
    content← (suc zero) rs (r, e, s) = rw e (and_both (and_both (eq-eqb r.sort 3 s) refl) (rw (ne_eqb (suc r.index) 0 (λ z. omega arith))))
    content← (suc (suc k)) rs (p, q) = word← k 0 rs p (runs_accepts ms (map index_of_row rs) ∙ (accepts_conforms numbers ms d (map index_of_row rs)).1 q)
