-- The particles before a place, after an edit there: the group around the place gets another member count.
use Prim.Native.Nat.{ℕ, zero, suc, ◌+◌, ◌≤◌}
use native.Mathlib.Omega.{arith}
use mathlib.Core.Path.{◌≡◌, refl, sym, ap, ap₂, ◌∙◌}
use mathlib.Core.Bool.{true, ◌&&◌, false≢true}
use mathlib.Core.List.{[], ◌∷◌, ◌++◌}
use lib.ListN.{length}
use Rattle.rules.specs.Model.{Members, done, el, group}
use Rattle.rules.specs.Preorder.{Deep}
use Rattle.rules.specs.Layout.{FlatParticle, how_many}
use Rattle.rules.specs.Place.{Context, here, past, over, into, plug, plain}
use Rattle.rules.specs.Edit.{Edit, insert, remove, quantify, convert, flatten, later_members, edited, ◌⊕◌}
use Rattle.model.specs.declared.place.Holder.{Holder}
use Rattle.model.specs.Places.{Particles, top}
use Rattle.model.specs.Positions.{element_particle, group_particle, spread, count, offset, holder, leading, level}
use Rattle.model.proofs.PositionLaws.{length_spread}
use Rattle.model_writer.specs.PartAfter.{suits, count_after, recounted}
use Rattle.model_writer.proofs.TailAfter.{has_many}

-- ---- the group around a place
-- how many particles there are up to it; 0: the place stands in the list around the context
abbrev further : ℕ → ℕ → ℕ
further k zero = 0
further k (suc m) = k + suc m

abbrev opened : Context ℕ → ℕ
opened here = 0
opened (past q i c) = further 1 (opened c)
opened (over q k ms c) = further (suc (count ms)) (opened c)
opened (into q k c rest) = suc (opened c)

abbrev start_at : ℕ → ℕ → ℕ → ℕ
start_at s p zero = s
start_at s p (suc m) = s + (p + suc m)

start_further : (s p k m : ℕ) → start_at s (k + p) m ≡ start_at s p (further k m)
start_further s p k zero = refl
start_further s p k (suc m) =
    let z : suc (k + m) ≡ k + suc m = omega arith in
    let y : s + (k + p + suc m) ≡ s + (p + suc (k + m)) = omega arith in
    y ∙ ap (λ (j : ℕ). start_at s p j) z

start_holder : (h : Holder) (p : ℕ) (c : Context ℕ) → (holder h p c).start ≡ start_at h.start p (opened c)
start_holder h p here = refl
start_holder h p (past q i c) =
    let z : suc p ≡ 1 + p = omega arith in
    ap (λ (j : ℕ). (holder h j c).start) z ∙ start_holder h (1 + p) c ∙ start_further h.start p 1 (opened c)
start_holder h p (over q k ms c) =
    let z : suc (count ms + p) ≡ suc (count ms) + p = omega arith in
    ap (λ (j : ℕ). (holder h j c).start) z ∙ start_holder h (suc (count ms) + p) c ∙ start_further h.start p (suc (count ms)) (opened c)
start_holder h p (into q k c rest) = start_holder (record { start = h.start + (p + 1); depth = h.depth + 1; kind = k; spine = h.spine && plain q k }) 0 c ∙ inner (opened c)
  where
    inner : (m : ℕ) → start_at (h.start + (p + 1)) 0 m ≡ h.start + (p + suc m)
    inner zero = omega arith
    inner (suc m) = omega arith

pub start_top : (c : Context ℕ) → (holder top 0 c).start ≡ opened c
start_top c = start_holder top 0 c ∙ none (opened c)
  where
    none : (m : ℕ) → start_at 0 0 m ≡ m
    none zero = refl
    none (suc m) = omega arith

further_most : (k m : ℕ) → further k m ≤ k + m
further_most k zero = omega arith
further_most k (suc m) = omega arith

opened_before : (c : Context ℕ) → opened c ≤ offset c
opened_before here = omega arith
opened_before (past q i c) = omega (arith, further_most 1 (opened c), opened_before c)
opened_before (over q k ms c) = omega (arith, further_most (suc (count ms)) (opened c), opened_before c)
opened_before (into q k c rest) = omega (arith, opened_before c)

-- the list that holds a place starts before it
pub start_before : (c : Context ℕ) → (holder top 0 c).start ≤ offset c
start_before c = omega (arith, start_top c, opened_before c)

pub depth_holder : (h : Holder) (p : ℕ) (c : Context ℕ) → (holder h p c).depth ≡ level h.depth c
depth_holder h p here = refl
depth_holder h p (past q i c) = depth_holder h (suc p) c
depth_holder h p (over q k ms c) = depth_holder h (suc (count ms + p)) c
depth_holder h p (into q k c rest) =
    let z : h.depth + 1 ≡ suc h.depth = omega arith in
    depth_holder (record { start = h.start + (p + 1); depth = h.depth + 1; kind = k; spine = h.spine && plain q k }) 0 c ∙ ap (λ (d : ℕ). level d c) z

further_none : (k m : ℕ) → further k m ≡ 0 → m ≡ 0
further_none k zero e = refl
further_none k (suc m) e = absurd (omega arith)

further_some : (k m : ℕ) → (further k m ≡ 0 → ⊥) → m ≡ 0 → ⊥
further_some k zero f e = f refl
further_some k (suc m) f e = absurd (omega arith)

further_on : (k m : ℕ) → further 1 (further k m) ≡ further (suc k) m
further_on k zero = refl
further_on k (suc m) =
    let z : k + suc m ≡ suc (k + m) = omega arith in
    let y : 1 + suc (k + m) ≡ suc k + suc m = omega arith in
    ap (λ (j : ℕ). further 1 j) z ∙ y

-- ---- other members there
module _ (g : ℕ → ℕ) where
  one_more : (a b m : ℕ) → g (suc m + a) ≡ suc m + b → g (m + suc a) ≡ m + suc b
  one_more a b m e =
      let z : m + suc a ≡ suc m + a = omega arith in
      let y : suc m + b ≡ m + suc b = omega arith in
      ap g z ∙ e ∙ y

  none_more : (a b : ℕ) → g (0 + a) ≡ 0 + b → g a ≡ b
  none_more a b e =
      let z : a ≡ 0 + a = omega arith in
      let y : 0 + b ≡ b = omega arith in
      ap g z ∙ e ∙ y

  pub recounted_none : (xs : Particles) → recounted g 0 xs ≡ xs
  unfolding recounted
  recounted_none [] = refl
  recounted_none (x ∷ xs) = refl

  recounted_on : (x : Deep FlatParticle) (m : ℕ) (xs : Particles) → x ∷ recounted g m xs ≡ recounted g (further 1 m) (x ∷ xs)
  unfolding recounted
  recounted_on x zero xs = ap (λ (l : Particles). x ∷ l) (recounted_none xs)
  recounted_on x (suc m) xs = let z : suc (suc m) ≡ 1 + suc m = omega arith in ap (λ (j : ℕ). recounted g j (x ∷ xs)) z

  recounted_past : (ys : Particles) (m : ℕ) (xs : Particles) → ys ++ recounted g m xs ≡ recounted g (further (length ys) m) (ys ++ xs)
  recounted_past [] zero xs = refl
  recounted_past [] (suc m) xs = let z : suc m ≡ 0 + suc m = omega arith in ap (λ (j : ℕ). recounted g j xs) z
  recounted_past (a ∷ ys) m xs =
      ap (λ (l : Particles). a ∷ l) (recounted_past ys m xs) ∙ recounted_on a (further (length ys) m) (ys ++ xs) ∙ ap (λ (j : ℕ). recounted g j (a ∷ (ys ++ xs))) (further_on (length ys) m)

  module _ (t u : Members ℕ) (counts : (m : ℕ) → g (m + how_many t) ≡ m + how_many u) where
    -- the place stands in the list around the context: its members are more or fewer; else they are as many
    many_open : (c : Context ℕ) → opened c ≡ 0 → (m : ℕ) → g (m + how_many (plug c t)) ≡ m + how_many (plug c u)
    unfolding plug
    many_open here e m = counts m
    many_open (past q i c) e m = one_more (how_many (plug c t)) (how_many (plug c u)) m (many_open c (further_none 1 (opened c) e) (suc m))
    many_open (over q k ms c) e m = one_more (how_many (plug c t)) (how_many (plug c u)) m (many_open c (further_none (suc (count ms)) (opened c) e) (suc m))
    many_open (into q k c rest) e m = absurd (omega arith)

    many_shut : (c : Context ℕ) → (opened c ≡ 0 → ⊥) → how_many (plug c t) ≡ how_many (plug c u)
    unfolding plug
    many_shut here f = absurd (f refl)
    many_shut (past q i c) f = ap suc (many_shut c (further_some 1 (opened c) f))
    many_shut (over q k ms c) f = ap suc (many_shut c (further_some (suc (count ms)) (opened c) f))
    many_shut (into q k c rest) f = refl

    -- BEFORE THE PLACE
    pub head_after_lem : (d : ℕ) (c : Context ℕ) → leading d c u ≡ recounted g (opened c) (leading d c t)
    unfolding recounted
    head_after_lem d here = refl
    head_after_lem d (past q i c) = ap (λ (l : Particles). element_particle d q i ∷ l) (head_after_lem d c) ∙ recounted_on (element_particle d q i) (opened c) (leading d c t)
    head_after_lem d (over q k ms c) =
        let x : Deep FlatParticle = group_particle d q k (how_many ms) in
        ap (λ (l : Particles). (x ∷ spread (suc d) ms) ++ l) (head_after_lem d c)
        ∙ recounted_past (x ∷ spread (suc d) ms) (opened c) (leading d c t)
        ∙ ap (λ (j : ℕ). recounted g (further (suc j) (opened c)) (x ∷ (spread (suc d) ms ++ leading d c t))) (length_spread (suc d) ms)
    head_after_lem d (into q k c rest) = by (opened c) refl (head_after_lem (suc d) c)
      where
        by : (m : ℕ) → opened c ≡ m → leading (suc d) c u ≡ recounted g m (leading (suc d) c t)
            → group_particle d q k (how_many (plug c u)) ∷ leading (suc d) c u ≡ recounted g (suc m) (group_particle d q k (how_many (plug c t)) ∷ leading (suc d) c t)
        by zero e ih =
            ap₂ (λ (n : ℕ) (l : Particles). group_particle d q k n ∷ l) (sym (none_more (how_many (plug c t)) (how_many (plug c u)) (many_open c e 0)))
            (ih ∙ recounted_none (leading (suc d) c t))
        by (suc m) e ih = ap₂ (λ (n : ℕ) (l : Particles). group_particle d q k n ∷ l) (sym (many_shut c (λ z. absurd (omega (arith, e, z))))) ih

-- ---- how many members the list has then
later_many : (n : ℕ) (t : Members ℕ) → n ≤ how_many t → n + how_many (later_members n t) ≡ how_many t
later_many zero t h = omega arith
later_many (suc n) done h = absurd (omega arith)
later_many (suc n) (el q x t) h = omega (arith, later_many n t (omega arith))
later_many (suc n) (group q k ms t) h = omega (arith, later_many n t (omega arith))

beside_many : (s t : Members ℕ) → how_many (s ⊕ t) ≡ how_many s + how_many t
unfolding ◌⊕◌
beside_many done t = omega arith
beside_many (el q x s) t = omega (arith, beside_many s t)
beside_many (group q k ms s) t = omega (arith, beside_many s t)

pub count_after_lem : (e : Edit ℕ) (d : ℕ) (t : Members ℕ) (zs : Particles) → suits e t ≡ true → (m : ℕ) → count_after e (spread d t ++ zs) (m + how_many t) ≡ m + how_many (edited e t)
unfolding edited
count_after_lem (insert q i) d t zs s m = omega arith
count_after_lem remove d done zs s m = absurd (false≢true s)
count_after_lem remove d (el q i t) zs s m = omega arith
count_after_lem remove d (group q k ms t) zs s m = absurd (false≢true s)
count_after_lem (quantify r) d done zs s m = absurd (false≢true s)
count_after_lem (quantify r) d (el q i t) zs s m = refl
count_after_lem (quantify r) d (group q k ms t) zs s m = refl
count_after_lem (convert j n) d t zs s m = omega (arith, later_many n t (has_many n t s))
count_after_lem flatten d done zs s m = absurd (false≢true s)
count_after_lem flatten d (el q i t) zs s m = absurd (false≢true s)
count_after_lem flatten d (group q k ms t) zs s m = omega (arith, beside_many ms t)
