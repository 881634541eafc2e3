-- The list that holds a place: the top list, or an inner group; and its members before the place.
use Prim.Native.Nat.{ℕ, suc, ◌+◌, ◌<◌}
use native.Mathlib.Omega.{arith}
use mathlib.Core.Path.{◌≡◌, refl, sym, ap, ap₂, ◌∙◌}
use mathlib.Core.Bool.{Bool, true, false, ◌&&◌, ◌||◌, and-true, and-false}
use mathlib.Core.List.{[], ◌∷◌, ◌++◌, append_assoc}
use lib.ListN.{length, length-append}
use Rattle.rules.specs.declared.Quantifier.{Quantifier}
use Rattle.rules.specs.declared.GroupKind.{GroupKind}
use Rattle.rules.specs.Model.{Members, done, el, group, skips, nothing, is_done}
use Rattle.rules.specs.Layout.{how_many}
use Rattle.rules.specs.Place.{Context, here, past, over, into, plug, plain}
use Rattle.rules.specs.Edit.{◌⊕◌}
use Rattle.rules.proofs.AroundLaws.{opens, leaves, unless_list}
use Rattle.model.specs.declared.place.Holder.{Holder}
use Rattle.model.specs.Places.{Particles}
use Rattle.model.specs.Positions.{element_particle, group_particle, spread, count, holder, leading, level}
use Rattle.model.proofs.PositionLaws.{length_spread}

-- the place stands in the list around the context, after the members f
pub record Outer (c : Context ℕ) (f : Members ℕ) : Type 0 where
  pub opens : (b : Bool) → opens b c ≡ (b && is_done f)
  pub leaves : (b : Bool) (k : GroupKind) (t : Members ℕ) → leaves b k c t ≡ unless_list k b
  pub plug : (t : Members ℕ) → plug c t ≡ f ⊕ t
  pub leading : (d : ℕ) (t : Members ℕ) → leading d c t ≡ spread d f
  pub holder : (h : Holder) (p : ℕ) → holder h p c ≡ h
  pub level : (d : ℕ) → level d c ≡ d

-- the particles before it, where it stands in a group of kind k with quantifier q, n particles before that group
pub record Lead (c : Context ℕ) (q : Quantifier) (k : GroupKind) (f : Members ℕ) (n d : ℕ) (t : Members ℕ) : Type 0 where
  pub front : Particles
  pub depth : ℕ
  pub many : ℕ
  pub long : length front ≡ n
  pub is : leading d c t ≡ front ++ (group_particle depth q k many ∷ spread (level d c) f)

pub record Inner (c : Context ℕ) (q : Quantifier) (k : GroupKind) (f : Members ℕ) (n : ℕ) : Type 0 where
  pub opens : (b : Bool) → opens b c ≡ is_done f
  pub leaves : (b : Bool) (j : GroupKind) (t : Members ℕ) → leaves b j c t ≡ unless_list k (skips q || nothing k (f ⊕ t))
  pub lead : (d : ℕ) (t : Members ℕ) → Lead c q k f n d t
  pub start : (h : Holder) (p : ℕ) → (holder h p c).start ≡ h.start + p + suc n
  pub kind : (h : Holder) (p : ℕ) → (holder h p c).kind ≡ k
  pub deeper : (d : ℕ) → d < level d c

pub data View (c : Context ℕ) : Type 0 where
  outer : (f : Members ℕ) → Outer c f → View c
  inner : (q : Quantifier) (k : GroupKind) (f : Members ℕ) (n : ℕ) → Inner c q k f n → View c

pub view : (c : Context ℕ) → View c
unfolding opens leaves plug ◌⊕◌
view here = outer done (record { opens = λ b. sym (and-true b); leaves = λ b k t. refl; plug = λ t. refl; leading = λ d t. refl; holder = λ h p. refl; level = λ d. refl })
view (past q i c) = by (view c)
  where
    by : View c → View (past q i c)
    by (outer f v) =
        outer (el q i f)
        (record {
          opens = λ b. v.opens false ∙ sym (and-false b);
          leaves = λ b k t. v.leaves b k t;
          plug = λ t. ap (el q i) (v.plug t);
          leading = λ d t. ap (λ (l : Particles). element_particle d q i ∷ l) (v.leading d t);
          holder = λ h p. v.holder h (suc p);
          level = λ d. v.level d;
        })
    by (inner r k f n v) =
        inner r k f (suc n)
        (record {
          opens = λ b. v.opens false;
          leaves = λ b j t. v.leaves b j t;
          lead = λ d t.
              let w : Lead c r k f n d t = v.lead d t in
              record { front = element_particle d q i ∷ w.front; depth = w.depth; many = w.many; long = ap suc w.long; is = ap (λ (l : Particles). element_particle d q i ∷ l) w.is };
          start = λ h p. omega (arith, v.start h (suc p));
          kind = λ h p. v.kind h (suc p);
          deeper = λ d. v.deeper d;
        })
view (over q j ms c) = by (view c)
  where
    by : View c → View (over q j ms c)
    by (outer f v) =
        outer (group q j ms f)
        (record {
          opens = λ b. v.opens false ∙ sym (and-false b);
          leaves = λ b k t. v.leaves b k t;
          plug = λ t. ap (group q j ms) (v.plug t);
          leading = λ d t. ap (λ (l : Particles). group_particle d q j (how_many ms) ∷ (spread (suc d) ms ++ l)) (v.leading d t);
          holder = λ h p. v.holder h (suc (count ms + p));
          level = λ d. v.level d;
        })
    by (inner r k f n v) =
        inner r k f (suc (count ms + n))
        (record {
          opens = λ b. v.opens false;
          leaves = λ b i t. v.leaves b i t;
          lead = λ d t.
              let w : Lead c r k f n d t = v.lead d t in
              record {
                front = group_particle d q j (how_many ms) ∷ (spread (suc d) ms ++ w.front);
                depth = w.depth;
                many = w.many;
                long = ap suc (length-append (spread (suc d) ms) w.front ∙ ap₂ (λ (x y : ℕ). x + y) (length_spread (suc d) ms) w.long);
                is = ap (λ (l : Particles). group_particle d q j (how_many ms) ∷ l)
                    (ap (λ (l : Particles). spread (suc d) ms ++ l) w.is ∙ sym (append_assoc (spread (suc d) ms) w.front (group_particle w.depth r k w.many ∷ spread (level d c) f)));
              };
          start = λ h p. omega (arith, v.start h (suc (count ms + p)));
          kind = λ h p. v.kind h (suc (count ms + p));
          deeper = λ d. v.deeper d;
        })
view (into q j c rest) = by (view c)
  where
    list : Holder → ℕ → Holder
    list h p = record { start = h.start + (p + 1); depth = h.depth + 1; kind = j; spine = h.spine && plain q j }

    by : View c → View (into q j c rest)
    by (outer f v) =
        inner q j f 0
        (record {
          opens = λ b. v.opens true;
          leaves = λ b i t. v.leaves (skips q || nothing j (plug c t)) j t ∙ ap (λ (ms : Members ℕ). unless_list j (skips q || nothing j ms)) (v.plug t);
          lead = λ d t.
              record {
                front = [];
                depth = d;
                many = how_many (plug c t);
                long = refl;
                is = ap (λ (l : Particles). group_particle d q j (how_many (plug c t)) ∷ l) (v.leading (suc d) t ∙ ap (λ (z : ℕ). spread z f) (sym (v.level (suc d))));
              };
          start = λ h p. ap (λ (g : Holder). g.start) (v.holder (list h p) 0) ∙ (omega arith);
          kind = λ h p. ap (λ (g : Holder). g.kind) (v.holder (list h p) 0);
          deeper = λ d. omega (arith, v.level (suc d));
        })
    by (inner r k f n v) =
        inner r k f (suc n)
        (record {
          opens = λ b. v.opens true;
          leaves = λ b i t. v.leaves (skips q || nothing j (plug c t)) j t;
          lead = λ d t.
              let w : Lead c r k f n (suc d) t = v.lead (suc d) t in
              record {
                front = group_particle d q j (how_many (plug c t)) ∷ w.front;
                depth = w.depth;
                many = w.many;
                long = ap suc w.long;
                is = ap (λ (l : Particles). group_particle d q j (how_many (plug c t)) ∷ l) w.is;
              };
          start = λ h p. v.start (list h p) 0 ∙ (omega arith);
          kind = λ h p. v.kind (list h p) 0;
          deeper = λ d. omega (arith, v.deeper (suc d));
        })
