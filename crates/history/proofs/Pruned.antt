-- The taking rule on documents, for any rule `takes`: a line is pruned away exactly when it or a line above it is taken
-- by the rule.
use Prim.Native.Nat.{ℕ, ◌≤◌}
use native.Mathlib.Omega.{arith}
use mathlib.Core.Path.{◌≡◌, refl, sym, ap, ◌∙◌, subst}
use mathlib.Core.Logic.{⊎_elim, ◌⊎◌, inl, inr}
use mathlib.Core.Bool.{Bool, true, false, false≢true}
use mathlib.Core.List.{List, [], ◌∷◌, ◌++◌, Memᴰ}
use Rattle.rules.specs.Model.{Distinct}
use Rattle.rules.specs.Store.{Row, Forest, bare, tree}
use Rattle.rules.specs.Lines.{Line, lines, ground}
use Rattle.rules.specs.Change.{prune}
use Rattle.history.specs.History.{serial_of}
use Rattle.history.proofs.Stable.{line_serials}
use Rattle.rules.specs.MadeTakenGiven.{IsTaken, itself, beneath}
use Rattle.rules.proofs.PlanLaws.{Above, Ruled}
use Rattle.history.proofs.TakenLines.{same_serial}

-- ---- lists
pub in_append : {A : Type 0} (x : A) (xs ys : List A) → Memᴰ x (xs ++ ys) → Memᴰ x xs ⊎ Memᴰ x ys
in_append x [] ys i = inr i
in_append x (z ∷ xs) ys i = ⊎_elim (λ e. inl (mathlib.Core.List.Memᴰ.head e)) (λ j. ⊎_elim (λ a. inl (mathlib.Core.List.Memᴰ.tail a)) (λ b. inr b) (in_append x xs ys j)) (mathlib.Core.List.Memᴰ.cases_cons i)

pub in_left : {A : Type 0} (x : A) (xs ys : List A) → Memᴰ x xs → Memᴰ x (xs ++ ys)
in_left {A = A} x [] ys x'' = elim x'' [ ]
in_left x (z ∷ xs) ys (mathlib.Core.List.Memᴰ.head e) = mathlib.Core.List.Memᴰ.head e
in_left x (z ∷ xs) ys (mathlib.Core.List.Memᴰ.tail i) = mathlib.Core.List.Memᴰ.tail (in_left x xs ys i)

pub in_right : {A : Type 0} (x : A) (xs ys : List A) → Memᴰ x ys → Memᴰ x (xs ++ ys)
in_right x [] ys i = i
in_right x (z ∷ xs) ys i = mathlib.Core.List.Memᴰ.tail (in_right x xs ys i)

abbrev line_at : ℕ → Row → Line
line_at p r = record { parent = p; row = r }

-- a line of a tree is its first row's, or stands below it, or beside it
data Where (l : Line) (p : ℕ) (r : Row) (b t : Forest Row) : Type 0 where
  first : l ≡ line_at p r → Where l p r b t
  inside : Memᴰ l (lines r.serial b) → Where l p r b t
  beside : Memᴰ l (lines p t) → Where l p r b t

find_line : (l : Line) (p : ℕ) (r : Row) (b t : Forest Row) → Memᴰ l (lines p (tree r b t)) → Where l p r b t
find_line l p r b t i = ⊎_elim (λ e. first e) (λ j. ⊎_elim (λ x. inside x) (λ y. beside y) (in_append l (lines r.serial b) (lines p t) j)) (mathlib.Core.List.Memᴰ.cases_cons i)

-- every line has a row above it
pub has_above : (u : Row) (f : Forest Row) (l : Line) → Memᴰ l (lines u.serial f)
    → (w : Row) × ((w ≡ u) ⊎ ((v : Line) × Memᴰ v (lines u.serial f) × (v.row ≡ w))) × (w.serial ≡ l.parent)
has_above u bare l i = absurd (mathlib.Core.List.Memᴰ.not-nil i)
has_above u (tree r b t) l i = by (find_line l u.serial r b t i) (has_above r b l) (has_above u t l)
  where
    Found : List Line → Row → Type 0
    Found ls x = (w : Row) × ((w ≡ x) ⊎ ((v : Line) × Memᴰ v ls × (v.row ≡ w))) × (w.serial ≡ l.parent)

    by : Where l u.serial r b t → (Memᴰ l (lines r.serial b) → Found (lines r.serial b) r) → (Memᴰ l (lines u.serial t) → Found (lines u.serial t) u)
        → Found (lines u.serial (tree r b t)) u
    by (first e) x y = (u, inl refl, ap (λ (z : Line). z.parent) (sym e))
    by (inside j) x y =
        let f = x j in (
          f.0,
          inr (⊎_elim (λ e. (line_at u.serial r, mathlib.Core.List.Memᴰ.head refl, sym e)) (λ v. (v.0, mathlib.Core.List.Memᴰ.tail (in_left v.0 (lines r.serial b) (lines u.serial t) v.1), v.2)) f.1),
          f.2,
        )
    by (beside j) x y =
        let f = y j in (
          f.0,
          ⊎_elim (λ e. inl e) (λ v. inr (v.0, mathlib.Core.List.Memᴰ.tail (in_right v.0 (lines r.serial b) (lines u.serial t) v.1), v.2)) f.1,
          f.2,
        )

module _ (takes : Row → Row → Bool) where
  -- what is left was there
  pub pruned_in : (u : Row) (f : Forest Row) (l : Line) → Memᴰ l (lines u.serial (prune takes u f)) → Memᴰ l (lines u.serial f)
  unfolding prune
  pruned_in u bare l i = i
  pruned_in u (tree r b t) l i = by (takes u r) refl (pruned_in r b l) (pruned_in u t l)
    where
      by : (c : Bool) → takes u r ≡ c → (Memᴰ l (lines r.serial (prune takes r b)) → Memᴰ l (lines r.serial b))
          → (Memᴰ l (lines u.serial (prune takes u t)) → Memᴰ l (lines u.serial t)) → Memᴰ l (lines u.serial (tree r b t))
      by true q x y = let j : Memᴰ l (lines u.serial (prune takes u t)) = rw (q, prune) at i in mathlib.Core.List.Memᴰ.tail (in_right l (lines r.serial b) (lines u.serial t) (y j))
      by false q x y = let j : Memᴰ l (lines u.serial (tree r (prune takes r b) (prune takes u t))) = rw (q, prune) at i in at (find_line l u.serial r (prune takes r b) (prune takes u t) j)
        where
          at : Where l u.serial r (prune takes r b) (prune takes u t) → Memᴰ l (lines u.serial (tree r b t))
          at (first e) = mathlib.Core.List.Memᴰ.head e
          at (inside k) = mathlib.Core.List.Memᴰ.tail (in_left l (lines r.serial b) (lines u.serial t) (x k))
          at (beside k) = mathlib.Core.List.Memᴰ.tail (in_right l (lines r.serial b) (lines u.serial t) (y k))

  -- a line that is left is not taken by the rule, and the row above it is left
  abbrev Spared : Row → List Line → Line → Type 0
  Spared u ls l = (w : Row) × ((w ≡ u) ⊎ ((v : Line) × Memᴰ v ls × (v.row ≡ w))) × (w.serial ≡ l.parent) × (takes w l.row ≡ false)

  pub spared : (u : Row) (f : Forest Row) (l : Line) → Memᴰ l (lines u.serial (prune takes u f)) → Spared u (lines u.serial (prune takes u f)) l
  unfolding prune
  spared u bare l i = absurd (mathlib.Core.List.Memᴰ.not-nil i)
  spared u (tree r b t) l i = by (takes u r) refl (spared r b l) (spared u t l)
    where
      by : (c : Bool) → takes u r ≡ c → (Memᴰ l (lines r.serial (prune takes r b)) → Spared r (lines r.serial (prune takes r b)) l)
          → (Memᴰ l (lines u.serial (prune takes u t)) → Spared u (lines u.serial (prune takes u t)) l) → Spared u (lines u.serial (prune takes u (tree r b t))) l
      by true q x y = let j : Memᴰ l (lines u.serial (prune takes u t)) = rw (q, prune) at i in rw (q, prune) (y j)
      by false q x y =
          let j : Memᴰ l (lines u.serial (tree r (prune takes r b) (prune takes u t))) = rw (q, prune) at i in
          rw (q, prune) (at (find_line l u.serial r (prune takes r b) (prune takes u t) j))
        where
          at : Where l u.serial r (prune takes r b) (prune takes u t) → Spared u (lines u.serial (tree r (prune takes r b) (prune takes u t))) l
          at (first e) = (u, inl refl, ap (λ (z : Line). z.parent) (sym e), ap (λ (z : Line). takes u z.row) e ∙ q)
          at (inside k) =
              let f = x k in (
                f.0,
                inr (
                    ⊎_elim (λ e. (line_at u.serial r, mathlib.Core.List.Memᴰ.head refl, sym e))
                    (λ v. (v.0, mathlib.Core.List.Memᴰ.tail (in_left v.0 (lines r.serial (prune takes r b)) (lines u.serial (prune takes u t)) v.1), v.2)) f.1
                    ),
                f.2,
                f.3,
              )
          at (beside k) =
              let f = y k in (
                f.0,
                ⊎_elim (λ e. inl e) (λ v. inr (v.0, mathlib.Core.List.Memᴰ.tail (in_right v.0 (lines r.serial (prune takes r b)) (lines u.serial (prune takes u t)) v.1), v.2)) f.1,
                f.2,
                f.3,
              )

  module _ (ls : List Line) where
    -- all below a line
    all_taken : (r : Row) (b : Forest Row) (p : ℕ) → Memᴰ (line_at p r) ls → IsTaken (λ x. Ruled takes ls x) ls (line_at p r) → ((x : Line) → Memᴰ x (lines r.serial b) → Memᴰ x ls)
        → (l : Line) → Memᴰ l (lines r.serial b) → IsTaken (λ x. Ruled takes ls x) ls l
    all_taken r bare p h n s l i = absurd (mathlib.Core.List.Memᴰ.not-nil i)
    all_taken r (tree c b t) p h n s l i =
        at (find_line l r.serial c b t i)
        (all_taken c b r.serial (s (line_at r.serial c) (mathlib.Core.List.Memᴰ.head refl)) here (λ x k. s x (mathlib.Core.List.Memᴰ.tail (in_left x (lines c.serial b) (lines r.serial t) k))) l)
        (all_taken r t p h n (λ x k. s x (mathlib.Core.List.Memᴰ.tail (in_right x (lines c.serial b) (lines r.serial t) k))) l)
      where
        here : IsTaken (λ x. Ruled takes ls x) ls (line_at r.serial c)
        here = beneath (line_at p r) (line_at r.serial c) h refl n

        at : Where l r.serial c b t → (Memᴰ l (lines c.serial b) → IsTaken (λ x. Ruled takes ls x) ls l) → (Memᴰ l (lines r.serial t) → IsTaken (λ x. Ruled takes ls x) ls l)
            → IsTaken (λ x. Ruled takes ls x) ls l
        at (first e) x y = subst (λ (z : Line). IsTaken (λ x. Ruled takes ls x) ls z) (sym e) here
        at (inside k) x y = x k
        at (beside k) x y = y k

    -- a line is left, or it or one above it is taken by the rule
    pub left_or_taken : (u : Row) (f : Forest Row) → Above ls u → ((x : Line) → Memᴰ x (lines u.serial f) → Memᴰ x ls)
        → (l : Line) → Memᴰ l (lines u.serial f) → Memᴰ l (lines u.serial (prune takes u f)) ⊎ IsTaken (λ x. Ruled takes ls x) ls l
    unfolding prune
    left_or_taken u bare a s l i = inl i
    left_or_taken u (tree r b t) a s l i =
        by (takes u r) refl (find_line l u.serial r b t i) (left_or_taken r b (inr (line_at u.serial r, mine, refl)) below l)
        (left_or_taken u t a (λ x k. s x (mathlib.Core.List.Memᴰ.tail (in_right x (lines r.serial b) (lines u.serial t) k))) l)
      where
        mine : Memᴰ (line_at u.serial r) ls
        mine = s (line_at u.serial r) (mathlib.Core.List.Memᴰ.head refl)

        below : (x : Line) → Memᴰ x (lines r.serial b) → Memᴰ x ls
        below x k = s x (mathlib.Core.List.Memᴰ.tail (in_left x (lines r.serial b) (lines u.serial t) k))

        U : Line → Type 0
        U z = IsTaken (λ x. Ruled takes ls x) ls z

        by : (c : Bool) → takes u r ≡ c → Where l u.serial r b t → (Memᴰ l (lines r.serial b) → Memᴰ l (lines r.serial (prune takes r b)) ⊎ U l)
            → (Memᴰ l (lines u.serial t) → Memᴰ l (lines u.serial (prune takes u t)) ⊎ U l) → Memᴰ l (lines u.serial (prune takes u (tree r b t))) ⊎ U l
        by true q (first e) x y = inr (subst (λ (z : Line). U z) (sym e) (itself (line_at u.serial r) (u, a, refl, q)))
        by true q (inside k) x y = inr (all_taken r b u.serial mine (itself (line_at u.serial r) (u, a, refl, q)) below l k)
        by true q (beside k) x y = ⊎_elim (λ j. inl (rw (q, prune) j)) (λ n. inr n) (y k)
        by false q (first e) x y = inl (rw (q, prune) (mathlib.Core.List.Memᴰ.head e))
        by false q (inside k) x y = ⊎_elim (λ j. inl (rw (q, prune) (mathlib.Core.List.Memᴰ.tail (in_left l (lines r.serial (prune takes r b)) (lines u.serial (prune takes u t)) j)))) (λ n. inr n) (x k)
        by false q (beside k) x y = ⊎_elim (λ j. inl (rw (q, prune) (mathlib.Core.List.Memᴰ.tail (in_right l (lines r.serial (prune takes r b)) (lines u.serial (prune takes u t)) j)))) (λ n. inr n) (y k)

  -- ---- and not both, where serials are distinct and from 1
  module _ (docs : Forest Row) (d : Distinct (line_serials (lines 0 docs))) (big : (l : Line) → Memᴰ l (lines 0 docs) → 1 ≤ serial_of l) where
    -- two rows above with one serial are the same
    same_above : (u w : Row) → Above (lines 0 docs) u → Above (lines 0 docs) w → u.serial ≡ w.serial → u ≡ w
    same_above u w (inl e) (inl f) q = e ∙ sym f
    same_above u w (inl e) (inr (v, i, f)) q = absurd (let z : v.row.serial ≡ 0 = ap (λ (x : Row). x.serial) f ∙ sym q ∙ ap (λ (x : Row). x.serial) e in omega (arith, big v i))
    same_above u w (inr (v, i, f)) (inl e) q = absurd (let z : v.row.serial ≡ 0 = ap (λ (x : Row). x.serial) f ∙ q ∙ ap (λ (x : Row). x.serial) e in omega (arith, big v i))
    same_above u w (inr (v, i, f)) (inr (v', i', f')) q =
        sym f ∙ ap (λ (x : Line). x.row) (same_serial (lines 0 docs) d v v' i i' (ap (λ (x : Row). x.serial) f ∙ q ∙ sym (ap (λ (x : Row). x.serial) f'))) ∙ f'

    kept_above : (w : Row) → (w ≡ ground) ⊎ ((v : Line) × Memᴰ v (lines 0 (prune takes ground docs)) × (v.row ≡ w)) → Above (lines 0 docs) w
    kept_above w (inl e) = inl e
    kept_above w (inr (v, i, f)) = inr (v, pruned_in ground docs v i, f)

    pub not_left : {l : Line} → IsTaken (λ x. Ruled takes (lines 0 docs) x) (lines 0 docs) l → Memᴰ l (lines 0 (prune takes ground docs)) → ⊥
    not_left (itself l (u, a, e, q)) i =
        let s = spared ground docs l i in
        false≢true (sym s.3 ∙ ap (λ (z : Row). takes z l.row) (same_above s.0 u (kept_above s.0 s.1) a (s.2 ∙ sym e)) ∙ q)
    not_left (beneath v l j e n) i = at (spared ground docs l i) (not_left n)
      where
        at : Spared ground (lines 0 (prune takes ground docs)) l → (Memᴰ v (lines 0 (prune takes ground docs)) → ⊥) → ⊥
        at (w, inl f, q, h) not-v = let z : v.row.serial ≡ 0 = e ∙ sym q ∙ ap (λ (x : Row). x.serial) f in omega (arith, big v j)
        at (w, inr (v', i', f), q, h) not-v =
            not-v
            (subst (λ (z : Line). Memᴰ z (lines 0 (prune takes ground docs))) (same_serial (lines 0 docs) d v' v (pruned_in ground docs v' i') j (ap (λ (x : Row). x.serial) f ∙ q ∙ sym e)) i')
