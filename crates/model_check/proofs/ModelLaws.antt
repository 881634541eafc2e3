-- The model that particles are the preorder of, particle by particle.
use Prim.Native.Nat.{ℕ, zero, suc, ◌+◌, ◌-◌, ◌≤◌, ◌<◌}
use native.Mathlib.Omega.{arith}
use native.Mathlib.Numerals.{add-one}
use mathlib.Core.Path.{◌≡◌, refl, sym, ap, ap₂, ◌∙◌}
use mathlib.Core.Bool.{Bool, true, false, ◌&&◌, ◌||◌, not, and-true, and-false}
use mathlib.Core.List.{List, [], ◌∷◌}
use lib.Dec.{eqb, leb, ltb}
use lib.ListN.{length}
use borrow.Author.Tests.{eq-eqb, ne_eqb, le-leb, lt-leb, leb-true, not-true, not-false}
use Rattle.rules.specs.Bytes.{numbers, all, any, and_left, and_right}
use Rattle.rules.specs.Model.{member, distinct}
use Rattle.rules.specs.Store.{Forest, heads}
use Rattle.rules.specs.Preorder.{Deep, build}
use Rattle.rules.specs.Layout.{FlatParticle}
use Rattle.rules.proofs.PreorderLaws.{rising, build_same, build_less, build_more}
use Rattle.rules.proofs.BooleanLaws.{none_long}
use Rattle.model_check.specs.ModelTests.{particle_fits, shaped, elements_in, model_fits}
use Rattle.model_check.specs.Particles.{apart, same_element, count_fits, count_beside, particle_stands, walks}

-- ---- the scan that counts members
module _ (k : ℕ) {l rest : List (Deep FlatParticle)} {p : Deep FlatParticle} (e : l ≡ p ∷ rest) where
  pub members_less : p.depth < k → count_beside k l ≡ 0
  unfolding count_beside
  members_less h = rw e (ap (λ (f : Forest FlatParticle). length (heads f)) (build_more p rest k h))

  pub members_same : p.depth ≡ k → count_beside k l ≡ suc (count_beside k rest)
  unfolding count_beside
  members_same h = rw e (ap (λ (f : Forest FlatParticle). length (heads f)) (build_same p rest k h))

  pub members_deeper : k < p.depth → count_beside k l ≡ count_beside k rest
  unfolding count_beside
  members_deeper h = rw e (ap (λ (f : Forest FlatParticle). length (heads f)) (build_less p rest k h))

pub members_end : (k : ℕ) {l : List (Deep FlatParticle)} → l ≡ [] → count_beside k l ≡ 0
unfolding count_beside
members_end k e = rw e

-- ---- one particle's fields, as the code reads them
module _ (n : ℕ) (p : FlatParticle) (below : ℕ) {s q x : ℕ} (hs : s ≡ p.sort) (hq : q ≡ p.quantifier) (hx : x ≡ p.index) where
  pub count_element : s ≡ 0 → (leb q 3 && (ltb x n && eqb below 0)) ≡ count_fits n p below
  unfolding count_fits
  count_element h = rw (hq, hx, count_fits, eq-eqb p.sort 0 (sym hs ∙ h))

  pub count_group : (s ≡ 0 → ⊥) → (leb q 3 && (leb s 2 && (eqb x below && not (eqb below 0)))) ≡ count_fits n p below
  unfolding count_fits
  count_group h = rw (hq, hx, count_fits, ne_eqb p.sort 0 (λ e. h (hs ∙ e)), hs)

module _ (n d : ℕ) (p : Deep FlatParticle) (after : List (Deep FlatParticle)) {k : ℕ} (hk : k ≡ p.depth) where
  pub stands_low : 4 < k → particle_stands n d p after ≡ false
  unfolding particle_stands
  stands_low h = rw (particle_stands, ← hk, lt-leb k 4 h)

  pub stands_far : k ≤ 4 → d < k → particle_stands n d p after ≡ false
  unfolding particle_stands
  stands_far h g = rw (particle_stands, ← hk, le-leb k 4 h, lt-leb k d g)

  pub stands_by : {m : ℕ} {f again : Bool} → k ≤ 4 → k ≤ d → m ≡ count_beside (k + 1) after → f ≡ count_fits n p.row m → again ≡ any (same_element p) after
      → (f && not again) ≡ particle_stands n d p after
  unfolding particle_stands
  stands_by h g hm hf ha = rw (hf, hm, ha, particle_stands, ← hk, le-leb k 4 h, le-leb k d g, add-one)

pub stands_depth : (n d : ℕ) (p : Deep FlatParticle) (after : List (Deep FlatParticle)) {b : Bool} → b ≡ particle_stands n d p after → not b ≡ false → p.depth ≤ 4
unfolding particle_stands
stands_depth n d p after {b} e h =
    leb-true p.depth 4
    (and_left (leb p.depth 4) (leb p.depth d && (count_fits n p.row (count_beside (suc p.depth) after) && not (any (same_element p) after))) (sym e ∙ not-false b h))

-- ---- the walk
module _ (n d : ℕ) {l rest : List (Deep FlatParticle)} {p : Deep FlatParticle} {b : Bool} (e : l ≡ p ∷ rest) (g : b ≡ particle_stands n d p rest) where
  pub walks_off : not b ≡ true → walks n d l ≡ false
  unfolding walks
  walks_off h = rw (e, walks, ← g, not-true b h)

  pub walks_on : {k : ℕ} → not b ≡ false → k ≡ p.depth → walks n (k + 1) rest ≡ walks n d l
  unfolding walks
  walks_on h f = rw (e, f, walks, ← g, not-false b h, add-one)

pub walks_end : (n d : ℕ) {l : List (Deep FlatParticle)} → l ≡ [] → walks n d l ≡ true
unfolding walks
walks_end n d e = rw e

-- ---- every particle of rising depths is in the tree
fits_count : (n : ℕ) (p : FlatParticle) (below : List FlatParticle) → particle_fits n p below ≡ count_fits n p (length below)
unfolding count_fits
fits_count n p below =
    ap
    (λ (b : Bool).
    leb p.quantifier 3
    && elim (eqb p.sort 0) [ true ↦ ltb p.index n && b | false ↦ leb p.sort 2 && (eqb p.index (length below) && not b) ])
    (sym (none_long below))

-- every particle with its members
each : ℕ → List (Deep FlatParticle) → Bool
each n [] = true
each n (p ∷ ps) = count_fits n p.row (count_beside (suc p.depth) ps) && each n ps

-- the forests at every depth below d, the deepest first
levels : ℕ → ℕ → List (Deep FlatParticle) → Bool
levels n zero ps = true
levels n (suc d) ps = shaped n (build ps d) && levels n d ps

and_assoc : (a b c r : Bool) → ((a && (b && c)) && r) ≡ (a && (b && (c && r)))
and_assoc false b c r = refl
and_assoc true false c r = refl
and_assoc true true c r = refl

levels_none : (n d : ℕ) → levels n d [] ≡ true
unfolding levels shaped
levels_none n zero = refl
levels_none n (suc d) = levels_none n d

levels_deeper : (n d : ℕ) (x : Deep FlatParticle) (xs : List (Deep FlatParticle)) → d ≤ x.depth → levels n d (x ∷ xs) ≡ levels n d xs
unfolding levels
levels_deeper n zero x xs h = refl
levels_deeper n (suc d) x xs h = ap₂ (λ (f : Forest FlatParticle) (b : Bool). shaped n f && b) (build_less x xs d h) (levels_deeper n d x xs (omega arith))

levels_less : (n k : ℕ) (x : Deep FlatParticle) (xs : List (Deep FlatParticle)) (d : ℕ) → d ≡ k + x.depth → levels n (suc d) (x ∷ xs) ≡ levels n (suc x.depth) (x ∷ xs)
unfolding levels shaped
levels_less n zero x xs d e = let q : d ≡ x.depth = omega arith in ap (λ (z : ℕ). levels n (suc z) (x ∷ xs)) q
levels_less n (suc k) x xs d e =
    let q : d ≡ suc (k + x.depth) = omega arith in
    ap (λ (f : Forest FlatParticle). shaped n f && levels n d (x ∷ xs)) (build_more x xs d (omega arith))
    ∙ ap (λ (z : ℕ). levels n z (x ∷ xs)) q
    ∙ levels_less n k x xs (k + x.depth) refl

-- a particle, its members' forests and the others
level_here : (n : ℕ) (x : Deep FlatParticle) (xs : List (Deep FlatParticle))
    → levels n (suc x.depth) (x ∷ xs) ≡ (count_fits n x.row (count_beside (suc x.depth) xs) && levels n (suc (suc x.depth)) xs)
unfolding levels shaped count_beside
level_here n x xs =
    let d = x.depth in
    ap₂ (λ (f : Forest FlatParticle) (b : Bool). shaped n f && b) (build_same x xs d refl) (levels_deeper n d x xs (omega arith))
    ∙ and_assoc (particle_fits n x.row (heads (build xs (suc d)))) (shaped n (build xs (suc d))) (shaped n (build xs d)) (levels n d xs)
    ∙ ap (λ (b : Bool). b && (shaped n (build xs (suc d)) && (shaped n (build xs d) && levels n d xs))) (fits_count n x.row (heads (build xs (suc d))))

levels_all : (n d : ℕ) (xs : List (Deep FlatParticle)) → rising d xs ≡ true → levels n (suc d) xs ≡ each n xs
unfolding each
levels_all n d [] h = levels_none n (suc d)
levels_all n d (x ∷ xs) h =
    let g : x.depth ≤ d = leb-true x.depth d (and_left (leb x.depth d) (rising (suc x.depth) xs) h) in
    levels_less n (d - x.depth) x xs d (omega arith)
    ∙ level_here n x xs
    ∙ ap (λ (b : Bool). count_fits n x.row (count_beside (suc x.depth) xs) && b)
    (levels_all n (suc x.depth) xs (and_right (leb x.depth d) (rising (suc x.depth) xs) h))

each_shaped : (n : ℕ) (ps : List (Deep FlatParticle)) → rising 0 ps ≡ true → each n ps ≡ shaped n (build ps 0)
unfolding levels
each_shaped n ps h = sym (levels_all n 0 ps h) ∙ and-true (shaped n (build ps 0))

-- ---- no element twice
elements : (x : ℕ) (ps : List (Deep FlatParticle)) → any (λ (q : Deep FlatParticle). eqb q.row.sort 0 && eqb x q.row.index) ps ≡ member numbers x (elements_in ps)
unfolding member elements_in
elements x [] = refl
elements x (q ∷ ps) = by (eqb q.row.sort 0) q.row.index (elements x ps)
  where
    others : Bool
    others = any (λ (q : Deep FlatParticle). eqb q.row.sort 0 && eqb x q.row.index) ps

    here : (c : Bool) → others ≡ member numbers x (elements_in ps) → (c || others) ≡ elim c [ true ↦ true | false ↦ member numbers x (elements_in ps) ]
    here true h = refl
    here false h = h

    by : (b : Bool) (y : ℕ) → others ≡ member numbers x (elements_in ps) → ((b && eqb x y) || others) ≡ member numbers x (elim b [ true ↦ y ∷ elements_in ps | false ↦ elements_in ps ])
    by true y h = here (eqb x y) h
    by false y h = h

never : {A : Type 0} (l : List A) → any (λ (x : A). false) l ≡ false
never [] = refl
never (x ∷ l) = never l

elements_apart : (ps : List (Deep FlatParticle)) → apart same_element ps ≡ distinct numbers (elements_in ps)
unfolding apart distinct elements_in
elements_apart [] = refl
elements_apart (p ∷ ps) = by (eqb p.row.sort 0) p.row.index (elements_apart ps)
  where
    by : (b : Bool) (x : ℕ) → apart same_element ps ≡ distinct numbers (elements_in ps)
        → (not (any (λ (q : Deep FlatParticle). b && (eqb q.row.sort 0 && eqb x q.row.index)) ps) && apart same_element ps)
        ≡ distinct numbers (elim b [ true ↦ x ∷ elements_in ps | false ↦ elements_in ps ])
    by true x h = ap₂ (λ (a c : Bool). not a && c) (elements x ps) h
    by false x h = ap (λ (a : Bool). not a && apart same_element ps) (never ps) ∙ h

-- ---- the walk decides the model
regroup : (a b c e u v w z : Bool) → ((a && (b && (c && e))) && (u && (v && (w && z)))) ≡ ((a && u) && ((b && v) && ((c && w) && (e && z))))
regroup false b c e u v w z = refl
regroup true false c e u v w z = sym (and-false u)
regroup true true false e u v w z = sym (ap (λ (t : Bool). u && t) (and-false v) ∙ and-false u)
regroup true true true false u v w z = sym (ap (λ (t : Bool). u && (v && t)) (and-false w) ∙ ap (λ (t : Bool). u && t) (and-false v) ∙ and-false u)
regroup true true true true u v w z = refl

abbrev low : Deep FlatParticle → Bool
low p = leb p.depth 4

walks_parts : (n d : ℕ) (ps : List (Deep FlatParticle)) → walks n d ps ≡ (all low ps && (rising d ps && (each n ps && apart same_element ps)))
unfolding walks particle_stands each apart
walks_parts n d [] = refl
walks_parts n d (p ∷ ps) =
    ap (λ (b : Bool). particle_stands n d p ps && b) (walks_parts n (suc p.depth) ps)
    ∙ regroup (low p) (leb p.depth d) (count_fits n p.row (count_beside (suc p.depth) ps)) (not (any (same_element p) ps)) (all low ps)
    (rising (suc p.depth) ps) (each n ps) (apart same_element ps)

pub walks_model : (n : ℕ) (ps : List (Deep FlatParticle)) → walks n 0 ps ≡ model_fits n ps
unfolding model_fits
walks_model n ps = walks_parts n 0 ps ∙ ap (λ (b : Bool). all low ps && b) (by (rising 0 ps) refl)
  where
    by : (b : Bool) → rising 0 ps ≡ b → (b && (each n ps && apart same_element ps)) ≡ (b && (shaped n (build ps 0) && distinct numbers (elements_in ps)))
    by true h = ap₂ (λ (a c : Bool). a && c) (each_shaped n ps h) (elements_apart ps)
    by false h = refl
