-- The particles from a place on, after an edit there.
use Prim.Native.Nat.{ℕ, zero, suc, ◌+◌, ◌<◌, ◌≤◌}
use native.Mathlib.Omega.{arith}
use mathlib.Core.Path.{◌≡◌, refl, sym, ap, ap₂, ◌∙◌}
use mathlib.Core.Bool.{true, false≢true}
use mathlib.Core.List.{[], ◌∷◌, ◌++◌, append_assoc}
use borrow.Author.Tests.{lt-ltb, le-ltb}
use Rattle.rules.specs.declared.Quantifier.TheVariants.{None}
use Rattle.rules.specs.Model.{Members, done, el, group}
use Rattle.rules.specs.Preorder.{Deep}
use Rattle.rules.specs.Layout.{FlatParticle, how_many}
use Rattle.rules.specs.Edit.{Edit, insert, remove, quantify, convert, flatten, first_members, later_members, has_members, edited, ◌⊕◌}
use Rattle.model.specs.Places.{Particles}
use Rattle.model.specs.Positions.{element_particle, group_particle, spread}
use Rattle.model_writer.specs.PartAfter.{suits, redeep, lower, moved, tail_after}

-- no particle deeper than d comes first
abbrev pub Stops : ℕ → Particles → Type 0
Stops d [] = Unit {0}
Stops d (x ∷ xs) = x.depth ≤ d

pub stops_spread : (d e : ℕ) (t : Members ℕ) → d ≤ e → Stops e (spread d t)
stops_spread d e done l = tt
stops_spread d e (el q i t) l = l
stops_spread d e (group q k ms t) l = l

pub stops_append : (e : ℕ) (xs zs : Particles) → Stops e xs → Stops e zs → Stops e (xs ++ zs)
stops_append e [] zs g h = h
stops_append e (x ∷ xs) zs g h = g

stops_here : (d : ℕ) (t : Members ℕ) (zs : Particles) → Stops d zs → Stops d (spread d t ++ zs)
stops_here d t zs h = stops_append d (spread d t) zs (stops_spread d d t (omega arith)) h

moved_stops : (g : ℕ → ℕ) (d : ℕ) (zs : Particles) → Stops d zs → moved g d 0 zs ≡ zs
unfolding moved
moved_stops g d [] h = refl
moved_stops g d (x ∷ xs) h = rw (le-ltb d x.depth h, moved)

moved_deeper : (g : ℕ → ℕ) (d n : ℕ) (x : Deep FlatParticle) (xs : Particles) → d < x.depth → moved g d n (x ∷ xs) ≡ redeep g x ∷ moved g d n xs
unfolding moved
moved_deeper g d zero x xs h = rw (lt-ltb d x.depth h, moved)
moved_deeper g d (suc n) x xs h = rw (lt-ltb d x.depth h, moved)

moved_here : (g : ℕ → ℕ) (d n : ℕ) (x : Deep FlatParticle) (xs : Particles) → x.depth ≤ d → moved g d (suc n) (x ∷ xs) ≡ redeep g x ∷ moved g d n xs
unfolding moved
moved_here g d n x xs h = rw (le-ltb d x.depth h, moved)

-- members that stand at depth a, deeper than d, go to depth b
moved_below : (g : ℕ → ℕ) (d n a b : ℕ) → ((k : ℕ) → g (k + a) ≡ k + b) → d < a → (ms : Members ℕ) (zs : Particles) → moved g d n (spread a ms ++ zs) ≡ spread b ms ++ moved g d n zs
moved_below g d n a b to l done zs = refl
moved_below g d n a b to l (el q i rest) zs =
    let z : 0 + a ≡ a = omega arith in
    let y : 0 + b ≡ b = omega arith in
    moved_deeper g d n (element_particle a q i) (spread a rest ++ zs) l
    ∙ ap₂ (λ (k : ℕ) (t : Particles). element_particle k q i ∷ t) (ap g (sym z) ∙ to 0 ∙ y) (moved_below g d n a b to l rest zs)
moved_below g d n a b to l (group q k ms rest) zs =
    let z : 0 + a ≡ a = omega arith in
    let y : 0 + b ≡ b = omega arith in
    let next : (j : ℕ) → g (j + suc a) ≡ j + suc b =
    λ j. let u : j + suc a ≡ suc j + a = omega arith in
    let v : suc j + b ≡ j + suc b = omega arith in
    ap g u ∙ to (suc j) ∙ v in
    moved_deeper g d n (group_particle a q k (how_many ms)) ((spread (suc a) ms ++ spread a rest) ++ zs) l
    ∙ ap₂ (λ (j : ℕ) (t : Particles). group_particle j q k (how_many ms) ∷ t) (ap g (sym z) ∙ to 0 ∙ y)
    (ap (λ (t : Particles). moved g d n t) (append_assoc (spread (suc a) ms) (spread a rest) zs)
    ∙ moved_below g d n (suc a) (suc b) next (omega arith) ms (spread a rest ++ zs)
    ∙ ap (λ (t : Particles). spread (suc b) ms ++ t) (moved_below g d n a b to l rest zs)
    ∙ sym (append_assoc (spread (suc b) ms) (spread b rest) (moved g d n zs)))

deeper_by_one : (d j : ℕ) → suc (j + d) ≡ j + suc d
deeper_by_one d j = omega arith

-- ---- n members into a group
pub has_many : (n : ℕ) (t : Members ℕ) → has_members n t ≡ true → n ≤ how_many t
has_many zero t h = omega arith
has_many (suc n) done h = absurd (false≢true h)
has_many (suc zero) (el q x t) h = omega arith
has_many (suc (suc n)) (el q x t) h = omega (arith, has_many (suc n) t h)
has_many (suc zero) (group q k ms t) h = omega arith
has_many (suc (suc n)) (group q k ms t) h = omega (arith, has_many (suc n) t h)

first_many : (n : ℕ) (t : Members ℕ) → n ≤ how_many t → how_many (first_members n t) ≡ n
first_many zero t h = refl
first_many (suc n) done h = absurd (omega arith)
first_many (suc n) (el q x t) h = ap suc (first_many n t (omega arith))
first_many (suc n) (group q k ms t) h = ap suc (first_many n t (omega arith))

moved_first : (d n : ℕ) (t : Members ℕ) (zs : Particles) → n ≤ how_many t → Stops d zs
    → moved (λ k. suc k) d n (spread d t ++ zs) ≡ spread (suc d) (first_members n t) ++ (spread d (later_members n t) ++ zs)
moved_first d zero t zs l h = moved_stops (λ k. suc k) d (spread d t ++ zs) (stops_here d t zs h)
moved_first d (suc n) done zs l h = absurd (omega arith)
moved_first d (suc n) (el q i t) zs l h =
    moved_here (λ k. suc k) d n (element_particle d q i) (spread d t ++ zs) (omega arith) ∙ ap (λ (r : Particles). element_particle (suc d) q i ∷ r) (moved_first d n t zs (omega arith) h)
moved_first d (suc n) (group q k ms t) zs l h =
    let f : Members ℕ = first_members n t in
    let r : Particles = spread d (later_members n t) ++ zs in
    moved_here (λ k. suc k) d n (group_particle d q k (how_many ms)) ((spread (suc d) ms ++ spread d t) ++ zs) (omega arith)
    ∙ ap (λ (y : Particles). group_particle (suc d) q k (how_many ms) ∷ y)
    (ap (λ (y : Particles). moved (λ k. suc k) d n y) (append_assoc (spread (suc d) ms) (spread d t) zs)
    ∙ moved_below (λ k. suc k) d n (suc d) (suc (suc d)) (deeper_by_one (suc d)) (omega arith) ms (spread d t ++ zs)
    ∙ ap (λ (y : Particles). spread (suc (suc d)) ms ++ y) (moved_first d n t zs (omega arith) h)
    ∙ sym (append_assoc (spread (suc (suc d)) ms) (spread (suc d) f) r))

-- ---- a group into its list
spread_beside : (d : ℕ) (s t : Members ℕ) → spread d (s ⊕ t) ≡ spread d s ++ spread d t
unfolding ◌⊕◌
spread_beside d done t = refl
spread_beside d (el q i s) t = ap (λ (r : Particles). element_particle d q i ∷ r) (spread_beside d s t)
spread_beside d (group q k ms s) t =
    ap (λ (r : Particles). group_particle d q k (how_many ms) ∷ r)
    (ap (λ (r : Particles). spread (suc d) ms ++ r) (spread_beside d s t) ∙ sym (append_assoc (spread (suc d) ms) (spread d s) (spread d t)))

-- FROM THE PLACE ON
pub tail_after_lem : (e : Edit ℕ) (d : ℕ) (t : Members ℕ) (zs : Particles) → suits e t ≡ true → Stops d zs → spread d (edited e t) ++ zs ≡ tail_after e d (spread d t ++ zs)
unfolding edited tail_after
tail_after_lem (insert q i) d t zs s h = refl
tail_after_lem remove d done zs s h = absurd (false≢true s)
tail_after_lem remove d (el q i t) zs s h = refl
tail_after_lem remove d (group q k ms t) zs s h = absurd (false≢true s)
tail_after_lem (quantify r) d done zs s h = absurd (false≢true s)
tail_after_lem (quantify r) d (el q i t) zs s h = refl
tail_after_lem (quantify r) d (group q k ms t) zs s h = refl
tail_after_lem (convert j n) d t zs s h =
    let l : n ≤ how_many t = has_many n t s in
    ap₂ (λ (m : ℕ) (r : Particles). group_particle d None j m ∷ r) (first_many n t l)
    (append_assoc (spread (suc d) (first_members n t)) (spread d (later_members n t)) zs ∙ sym (moved_first d n t zs l h))
tail_after_lem flatten d done zs s h = absurd (false≢true s)
tail_after_lem flatten d (el q i t) zs s h = absurd (false≢true s)
tail_after_lem flatten d (group q k ms t) zs s h =
    let up : (j : ℕ) → lower (j + suc d) ≡ j + d = λ j. omega arith in
    ap (λ (r : Particles). r ++ zs) (spread_beside d ms t)
    ∙ append_assoc (spread d ms) (spread d t) zs
    ∙ ap (λ (r : Particles). spread d ms ++ r) (sym (moved_stops lower d (spread d t ++ zs) (stops_here d t zs h)))
    ∙ sym (moved_below lower d 0 (suc d) d up (omega arith) ms (spread d t ++ zs))
    ∙ ap (λ (r : Particles). moved lower d 0 r) (sym (append_assoc (spread (suc d) ms) (spread d t) zs))
