-- `build` undoes `flatten`, and `flatten` undoes `build` on rows whose depths rise by one at most, as those of a forest
-- do.
use Prim.Native.Nat.{ℕ, zero, suc, ◌+◌, ◌-◌, ◌≤◌, ◌<◌}
use native.Mathlib.Omega.{arith}
use mathlib.Core.Path.{◌≡◌, refl, ap, ap₂, ◌∙◌, sym, subst}
use mathlib.Core.Bool.{Bool, true, ◌&&◌}
use mathlib.Core.List.{List, [], ◌∷◌, ◌++◌, append_assoc, append-nil}
use lib.Dec.{leb}
use borrow.Author.Tests.{lt-ltb, le-ltb, eq-eqb, ne_eqb, le-leb, leb-true}
use Rattle.rules.specs.Bytes.{and_left, and_right, and_both}
use Rattle.rules.specs.Store.{Forest, bare, tree, ◌⧺◌}
use Rattle.rules.specs.Preorder.{Deep, preorder, build}

module _ {A : Type 0} where
  pub ⧺_bare : (f : Forest A) → f ⧺ bare ≡ f
  ⧺_bare bare = refl
  ⧺_bare (tree r b t) = ap (λ (x : Forest A). tree r b x) (⧺_bare t)

  -- a row of depth k, a deeper one, one less deep
  pub build_same : (x : Deep A) (xs : List (Deep A)) (k : ℕ) → x.depth ≡ k → build (x ∷ xs) k ≡ tree x.row (build xs (suc k)) (build xs k)
  build_same x xs k e = rw (le-ltb k x.depth (omega arith), build) (rw (eq-eqb k x.depth (sym e)))

  pub build_less : (x : Deep A) (xs : List (Deep A)) (k : ℕ) → k < x.depth → build (x ∷ xs) k ≡ build xs k
  build_less x xs k h = rw (lt-ltb k x.depth h, build)

  pub build_more : (x : Deep A) (xs : List (Deep A)) (k : ℕ) → x.depth < k → build (x ∷ xs) k ≡ bare
  build_more x xs k h = rw (le-ltb k x.depth (omega arith), build) (rw (ne_eqb k x.depth (λ e. omega arith)))

  -- no row of depth d or more comes first
  abbrev pub Ends : ℕ → List (Deep A) → Type 0
  Ends d [] = Unit {0}
  Ends d (x ∷ xs) = x.depth < d

  pub ends_after : (d : ℕ) (t : Forest A) (rest : List (Deep A)) → Ends d rest → Ends (suc d) (preorder d t ++ rest)
  ends_after d bare [] e = tt
  ends_after d bare (x ∷ rest) e = omega arith
  ends_after d (tree r b t) rest e = omega arith

  -- no row comes next, or one of depth d at most
  Shallow : ℕ → List (Deep A) → Type 0
  Shallow d rest = (k : ℕ) → d < k → build rest k ≡ bare

  shallow_preorder : (d : ℕ) (t : Forest A) (rest : List (Deep A)) → Shallow d rest → Shallow d (preorder d t ++ rest)
  unfolding Shallow
  shallow_preorder d bare rest h k l = h k l
  shallow_preorder d (tree r b t) rest h k l = build_more (record { depth = d; row = r }) (preorder (suc d) b ++ preorder d t ++ rest) k l

  build_above : (d k : ℕ) (f : Forest A) (rest : List (Deep A)) → k < d → build (preorder d f ++ rest) k ≡ build rest k
  build_above d k bare rest h = refl
  build_above d k (tree r b t) rest h =
      build_less (record { depth = d; row = r }) (preorder (suc d) b ++ preorder d t ++ rest) k h
      ∙ rw append_assoc (build_above (suc d) k b (preorder d t ++ rest) (omega arith) ∙ build_above d k t rest h)

  build_at : (d : ℕ) (f : Forest A) (rest : List (Deep A)) → Shallow d rest → build (preorder d f ++ rest) d ≡ f ⧺ build rest d
  unfolding Shallow
  build_at d bare rest h = refl
  build_at d (tree r b t) rest h =
      build_same (record { depth = d; row = r }) (preorder (suc d) b ++ preorder d t ++ rest) d refl
      ∙ ap₂ (λ (x y : Forest A). tree r x y)
      (rw append_assoc
      (build_at (suc d) b (preorder d t ++ rest) (λ k l. shallow_preorder d t rest h k (omega arith))
      ∙ ap (λ (x : Forest A). b ⧺ x) (shallow_preorder d t rest h (suc d) (omega arith)) ∙ ⧺_bare b))
      (rw append_assoc (build_above (suc d) d b (preorder d t ++ rest) (omega arith) ∙ build_at d t rest h))

  pub build_preorder : (f : Forest A) → build (preorder 0 f) 0 ≡ f
  unfolding Shallow
  build_preorder f =
      ap (λ (l : List (Deep A)). build l 0) (sym (append-nil (preorder 0 f))) ∙ build_at 0 f [] (λ k l. refl) ∙ ⧺_bare f

  -- the depths start at d at most, and each is at most one more than the one before
  abbrev pub rising : ℕ → List (Deep A) → Bool
  rising d [] = true
  rising d (x ∷ xs) = leb x.depth d && rising (suc x.depth) xs

  -- the rows of a forest rise, after a row of any depth at least theirs
  Low : ℕ → List (Deep A) → Type 0
  Low d rest = (n : ℕ) → d ≤ n → rising n rest ≡ true

  rising_preorder : (d : ℕ) (f : Forest A) (rest : List (Deep A)) → Low d rest → Low d (preorder d f ++ rest)
  unfolding Low
  rising_preorder d bare rest h n l = h n l
  rising_preorder d (tree r b t) rest h n l =
      and_both (le-leb d n l)
      (subst (λ (u : List (Deep A)). rising (suc d) u ≡ true) (sym (append_assoc (preorder (suc d) b) (preorder d t) rest))
      (rising_preorder (suc d) b (preorder d t ++ rest) (λ k j. rising_preorder d t rest h k (omega arith)) (suc d) (omega arith)))

  pub preorder_rises : (f : Forest A) → rising 0 (preorder 0 f) ≡ true
  unfolding Low
  preorder_rises f =
      subst (λ (u : List (Deep A)). rising 0 u ≡ true) (append-nil (preorder 0 f)) (rising_preorder 0 f [] (λ n l. refl) 0 (omega arith))

  -- the forests at every depth below d, the deepest first
  under : ℕ → List (Deep A) → List (Deep A)
  under zero xs = []
  under (suc d) xs = preorder d (build xs d) ++ under d xs

  under_nil : (d : ℕ) → under d [] ≡ []
  unfolding under
  under_nil zero = refl
  under_nil (suc d) = under_nil d

  under_less : (d : ℕ) (x : Deep A) (xs : List (Deep A)) → d ≤ x.depth → under d (x ∷ xs) ≡ under d xs
  unfolding under
  under_less zero x xs h = refl
  under_less (suc d) x xs h = ap₂ (λ (f : Forest A) (l : List (Deep A)). preorder d f ++ l) (build_less x xs d h) (under_less d x xs (omega arith))

  under_more : (k : ℕ) (x : Deep A) (xs : List (Deep A)) (d : ℕ) → d ≡ k + x.depth → under (suc d) (x ∷ xs) ≡ under (suc x.depth) (x ∷ xs)
  unfolding under
  under_more zero x xs d e = ap (λ (n : ℕ). under (suc n) (x ∷ xs)) (omega arith)
  under_more (suc k) x xs d e =
      ap (λ (f : Forest A). preorder d f ++ under d (x ∷ xs)) (build_more x xs d (omega arith))
      ∙ ap (λ (n : ℕ). under n (x ∷ xs)) (let q : d ≡ suc (k + x.depth) = omega arith in q)
      ∙ under_more k x xs (k + x.depth) refl

  under_all : (d : ℕ) (xs : List (Deep A)) → rising d xs ≡ true → under (suc d) xs ≡ xs
  unfolding under
  under_all d [] h = under_nil (suc d)
  under_all d (x ∷ xs) h =
      let g : x.depth ≤ d = leb-true x.depth d (and_left (leb x.depth d) (rising (suc x.depth) xs) h) in
      under_more (d - x.depth) x xs d (omega arith)
      ∙ ap₂ (λ (f : Forest A) (l : List (Deep A)). preorder x.depth f ++ l) (build_same x xs x.depth refl) (under_less x.depth x xs (omega arith))
      ∙ ap (λ (l : List (Deep A)). x ∷ l)
      (append_assoc (preorder (suc x.depth) (build xs (suc x.depth))) (preorder x.depth (build xs x.depth)) (under x.depth xs)
      ∙ under_all (suc x.depth) xs (and_right (leb x.depth d) (rising (suc x.depth) xs) h))

  pub preorder_build : (xs : List (Deep A)) → rising 0 xs ≡ true → preorder 0 (build xs 0) ≡ xs
  unfolding under
  preorder_build xs h = sym (append-nil (preorder 0 (build xs 0))) ∙ under_all 0 xs h
