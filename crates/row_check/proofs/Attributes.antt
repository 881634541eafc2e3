-- The automaton judges attribute rows as the definition does.
use Prim.Native.Nat.{ℕ, suc, ◌≤◌, ◌<◌}
use native.Mathlib.Omega.{arith}
use mathlib.Core.Path.{◌≡◌, refl, sym, ◌∙◌}
use mathlib.Core.Logic.{⊎_elim}
use mathlib.Core.Bool.{Bool, true, false, not, ◌&&◌, false≢true}
use mathlib.Core.List.Memᴰ
use mathlib.Core.List.{List, [], ◌∷◌, map, Memᴰ}
use lib.Dec.{ltb, leb, eqb}
use borrow.Author.Tests.{lt-ltb, ltb-true, le-leb, leb-true, eq-eqb, eqb-true}
use Rattle.rules.specs.Layout.{FlatRow}
use Rattle.rules.proofs.Words.{and_both, and_split}
use Rattle.form_index.specs.Indices.{IndexForm, index_of_row, AttributeRowsOf, Whole}
use Rattle.form_table.specs.Every.{every}
use Rattle.next_row.specs.Judge.{spare, attribute_may}
use Rattle.form_table.proofs.Numbers.{Side, below, at, above, side, every→, every←}

module _ (f : IndexForm) (i : ℕ) where
  -- the attribute rows from a on, as the automaton takes them
  unfoldable pub Taken : ℕ → List FlatRow → Type 0
  Taken a [] = every (spare f i) f.attributes a ≡ true
  Taken a (r ∷ rs) = (r.sort ≡ 2) × (attribute_may f i (suc a) r ≡ true) × Taken (suc r.index) rs

  -- those from a on that must be present are
  abbrev WholeFrom : ℕ → List FlatRow → Type 0
  WholeFrom a rs = (j : ℕ) → a ≤ j → j < f.attributes → f.owner j ≡ i → f.needed j ≡ true → Memᴰ j (map index_of_row rs)

  spare_not : (j : ℕ) → spare f i j ≡ true → f.owner j ≡ i → f.needed j ≡ true → ⊥
  spare_not j h o n = false≢true (sym (rw (eq-eqb (f.owner j) i o, n)) ∙ h)

  not_spare : (j : ℕ) → (f.owner j ≡ i → f.needed j ≡ true → ⊥) → spare f i j ≡ true
  not_spare j h = by (eqb (f.owner j) i) refl (f.needed j) refl
    where
      by : (x : Bool) → eqb (f.owner j) i ≡ x → (y : Bool) → f.needed j ≡ y → not (eqb (f.owner j) i && f.needed j) ≡ true
      by true e true n = absurd (h (eqb-true (f.owner j) i e) n)
      by true e false n = rw (e, n)
      by false e y n = rw e

  record May (a : ℕ) (r : FlatRow) : Type 0 where
    from : a ≤ r.index
    known : r.index < f.attributes
    own : f.owner r.index ≡ i
    fits : f.allows r.index r.value ≡ true
    skips : every (spare f i) r.index a ≡ true

  split : (a : ℕ) (r : FlatRow) → attribute_may f i (suc a) r ≡ true → May a r
  split a r h =
      let (p, h1) = and_split (leb a r.index) (ltb r.index f.attributes && (eqb (f.owner r.index) i && (f.allows r.index r.value && every (spare f i) r.index a))) h in
      let (q, h2) = and_split (ltb r.index f.attributes) (eqb (f.owner r.index) i && (f.allows r.index r.value && every (spare f i) r.index a)) h1 in
      let (o, h3) = and_split (eqb (f.owner r.index) i) (f.allows r.index r.value && every (spare f i) r.index a) h2 in
      let (v, s) = and_split (f.allows r.index r.value) (every (spare f i) r.index a) h3 in
      record { from = leb-true a r.index p; known = ltb-true r.index f.attributes q; own = eqb-true (f.owner r.index) i o; fits = v; skips = s }

  from→ : (a : ℕ) (rs : List FlatRow) → Taken a rs → AttributeRowsOf f i a rs × WholeFrom a rs
  unfolding Taken
  from→ a [] h = (tt, λ j l k o n. absurd (spare_not j (every→ (spare f i) f.attributes a h j l k) o n))
  from→ a (r ∷ rs) (s, m, h) =
      let p = split a r m in
      let (u, v) = from→ (suc r.index) rs h in
      ((s, p.from, p.known, p.own, p.fits, u), λ j l k o n. by j l k o n p v (side j r.index))
    where
      by : (j : ℕ) → a ≤ j → j < f.attributes → f.owner j ≡ i → f.needed j ≡ true → May a r → WholeFrom (suc r.index) rs → Side j r.index → Memᴰ j (r.index ∷ map index_of_row rs)
      by j l k o n p v (below x) = absurd (spare_not j (every→ (spare f i) r.index a p.skips j l x) o n)
      by j l k o n p v (at x) = Memᴰ.head x
      by j l k o n p v (above x) = Memᴰ.tail (v j x k o n)

  -- rising rows hold no index below the first
  owned_above : (a : ℕ) (rs : List FlatRow) → AttributeRowsOf f i a rs → (j : ℕ) → j < a → Memᴰ j (map index_of_row rs) → ⊥
  owned_above a [] h j l m = Memᴰ.not-nil m
  owned_above a (r ∷ rs) (s, q, k, o, v, h) j l m =
      ⊎_elim (λ e. omega arith) (λ n. owned_above (suc r.index) rs h j (omega arith) n) (Memᴰ.cases_cons m)

  from← : (a : ℕ) (rs : List FlatRow) → AttributeRowsOf f i a rs → WholeFrom a rs → Taken a rs
  unfolding Taken
  from← a [] h n = every← (spare f i) f.attributes a (λ k l q. not_spare k (λ o d. Memᴰ.not-nil (n k l q o d)))
  from← a (r ∷ rs) (s, p, k, o, v, h) n = (
    s,
    and_both (le-leb a r.index p) (and_both (lt-ltb r.index f.attributes k) (and_both (eq-eqb (f.owner r.index) i o) (and_both v
        (every← (spare f i) r.index a (λ j l q. not_spare j (λ o d. no j q (n j l (omega arith) o d))))))),
    from← (suc r.index) rs h (λ j l q o d. later j l (n j (omega arith) q o d)),
  )
    where
      no : (j : ℕ) → j < r.index → Memᴰ j (r.index ∷ map index_of_row rs) → ⊥
      no j l m = ⊎_elim (λ e. omega arith) (λ u. owned_above (suc r.index) rs h j (omega arith) u) (Memᴰ.cases_cons m)

      later : (j : ℕ) → suc r.index ≤ j → Memᴰ j (r.index ∷ map index_of_row rs) → Memᴰ j (map index_of_row rs)
      later j l m = ⊎_elim (λ e. absurd (omega arith)) (λ u. u) (Memᴰ.cases_cons m)

  pub taken→ : (rs : List FlatRow) → Taken 0 rs → AttributeRowsOf f i 0 rs × Whole f i rs
  taken→ rs h = let (o, n) = from→ 0 rs h in (o, λ j k u v. n j (omega arith) k u v)

  pub taken← : (rs : List FlatRow) → AttributeRowsOf f i 0 rs → Whole f i rs → Taken 0 rs
  taken← rs o n = from← 0 rs o (λ j l k u v. n j k u v)
