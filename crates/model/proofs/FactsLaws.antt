-- The facts of a part of the particle body, one particle on; and what the automaton's steps come to.
use mathlib.Core.Path.{◌≡◌, refl, sym, ap, ap₂, ◌∙◌}
use mathlib.Core.Bool.{Bool, true, false, ◌&&◌, ◌||◌, and-true, and-false, or-false, and_assoc, or_assoc}
use mathlib.Core.List.{List, [], ◌∷◌}
use Prim.Native.Nat.{ℕ, zero, suc, ◌+◌, ◌-◌, ◌<◌, ◌≤◌}
use native.Mathlib.Omega.{arith}
use native.Mathlib.Numerals.{add-one}
use lib.ListN.{length, take, drop}
use Rattle.rules.specs.declared.Facts.{Facts}
use Rattle.rules.specs.declared.Quantifier.{Quantifier}
use Rattle.rules.specs.declared.Quantifier.TheVariants.{None, Qmark, Star, Plus}
use Rattle.rules.specs.declared.GroupKind.{GroupKind}
use Rattle.rules.specs.declared.GroupKind.TheVariants.{Sequence, Choice}
use Rattle.rules.specs.Bytes.{Bytes, numbers}
use Rattle.rules.specs.Model.{Members, done, el, group, Equality, skips, both, nothing}
use Rattle.rules.specs.Decode.{read_particle}
use Rattle.rules.specs.Automaton.{single, empty, join, quantify_facts, facts, continues, accepts}
use Rattle.rules.specs.Preorder.{Deep}
use Rattle.rules.specs.Layout.{particle_size, FlatParticle}
use Rattle.codec.proofs.Writers.{tail_seen}
use Rattle.model.specs.declared.What.TheVariants.{Element, Group}
use Rattle.model.specs.declared.Particle.{Particle}
use Rattle.model.specs.Particle.{what_of, particle_of, kind_in, particle_facts, first_facts}
use Rattle.model.specs.Members.{index_member, members_from}
use Rattle.model.specs.Steps.{steps, finishes, runs}
use Rattle.model.proofs.ChunkLaws.{Front}
use Rattle.model.proofs.MembersLaws.{members_few, members_deeper, members_stop, members_here}

-- ---- parts side by side: nothing beside a part, and three parts
pub or_never : (a b : Bool) → (a || (b && false)) ≡ a
or_never true b = refl
or_never false b = and-false b

first_assoc : (na nb a b c : Bool) → ((a || (na && b)) || ((na && nb) && c)) ≡ (a || (na && (b || (nb && c))))
first_assoc na nb true b c = refl
first_assoc true nb false b c = refl
first_assoc false nb false b c = refl

last_assoc : (nb nc a b c : Bool) → (c || (nc && (b || (nb && a)))) ≡ ((c || (nc && b)) || ((nb && nc) && a))
last_assoc nb nc a b true = refl
last_assoc true true a b false = refl
last_assoc false true a b false = refl
last_assoc true false a b false = refl
last_assoc false false a b false = refl

follow_assoc : (fa fb fc la lb nb b c : Bool)
    → ((((fa || fb) || (la && b)) || fc) || ((lb || (nb && la)) && c)) ≡ ((fa || ((fb || fc) || (lb && c))) || (la && (b || (nb && c))))
follow_assoc true fb fc la lb nb b c = refl
follow_assoc false true fc la lb nb b c = refl
follow_assoc false false true false lb nb b c = refl
follow_assoc false false true true lb nb true c = refl
follow_assoc false false true true lb nb false c = refl
follow_assoc false false false false true nb b c = sym (or-false c)
follow_assoc false false false false false true b c = refl
follow_assoc false false false false false false b c = refl
follow_assoc false false false true true nb true true = refl
follow_assoc false false false true true nb true false = refl
follow_assoc false false false true false nb true c = refl
follow_assoc false false false true true nb false true = refl
follow_assoc false false false true true nb false false = sym (and-false nb)
follow_assoc false false false true false nb false c = ap (λ (b : Bool). b && c) (and-true nb)

pub join_left : (k : GroupKind) (f : Facts) → join k (empty k) f ≡ f
join_left Sequence f = λ i. record { nothing = f.nothing; first = f.first; last = or_never f.last f.nothing i; follow = or-false f.follow i }
join_left Choice f = refl

pub join_right : (k : GroupKind) (f : Facts) → join k f (empty k) ≡ f
join_right Sequence f =
    λ i. record {
      nothing = and-true f.nothing i;
      first = or_never f.first f.nothing i;
      last = f.last;
      follow = (or_never (f.follow || false) f.last ∙ or-false f.follow) i;
    }
join_right Choice f = λ i. record { nothing = or-false f.nothing i; first = or-false f.first i; last = or-false f.last i; follow = or-false f.follow i }

pub join_assoc : (k : GroupKind) (f g h : Facts) → join k (join k f g) h ≡ join k f (join k g h)
join_assoc Sequence f g h =
    λ i. record {
      nothing = and_assoc f.nothing g.nothing h.nothing i;
      first = first_assoc f.nothing g.nothing f.first g.first h.first i;
      last = last_assoc g.nothing h.nothing f.last g.last h.last i;
      follow = follow_assoc f.follow g.follow h.follow f.last g.last g.nothing g.first h.first i;
    }
join_assoc Choice f g h =
    λ i. record {
      nothing = or_assoc f.nothing g.nothing h.nothing i;
      first = or_assoc f.first g.first h.first i;
      last = or_assoc f.last g.last h.last i;
      follow = or_assoc f.follow g.follow h.follow i;
    }

-- ---- one particle
module _ (d x y : ℕ) (s : Bytes) (p : Particle) (ep : p ≡ particle_of (read_particle s)) where
  pub first_element : (i : ℕ) (r : Facts) → p.what ≡ Element i → r ≡ quantify_facts p.quantifier (single numbers i x y) → r ≡ first_facts d s x y
  unfolding first_facts
  first_element i r w e = rw (← ep, w) e

  pub first_group : (j : GroupKind) (n : ℕ) (below r : Facts) → p.what ≡ Group j n → below ≡ facts numbers j (members_from (d + 1) (take (length s - particle_size) (drop particle_size s))) x y
      → r ≡ quantify_facts p.quantifier below → r ≡ first_facts d s x y
  unfolding first_facts
  first_group j n below r w eb e =
      let u : below ≡ facts numbers j (members_from (suc d) (drop particle_size s)) x y = eb ∙ rw (tail_seen s particle_size, add-one d) in
      rw (← ep, w, ← u) e

module _ (d : ℕ) (k : GroupKind) (x y : ℕ) (s : Bytes) where
  pub facts_few : length s < particle_size → facts numbers k (members_from d s) x y ≡ empty k
  unfolding facts
  facts_few h = rw (members_few d s h)

  module _ (h : particle_size ≤ length s) where
    pub facts_stop : (read_particle s).depth < d → facts numbers k (members_from d s) x y ≡ empty k
    unfolding facts
    facts_stop l = rw (members_stop d s h l)

    pub facts_here : (read_particle s).depth ≡ d → facts numbers k (members_from d s) x y ≡ join k (first_facts d s x y) (facts numbers k (members_from d (drop particle_size s)) x y)
    unfolding first_facts particle_of facts
    facts_here e = rw (members_here d s h e) (by (read_particle s).row.sort)
      where
        below : ℕ → Facts
        below sort = facts numbers (kind_in (what_of sort (read_particle s).row.index)) (members_from (suc d) (drop particle_size s)) x y

        by : (sort : ℕ)
            → facts numbers k (index_member (read_particle s).row sort (members_from (suc d) (drop particle_size s)) (members_from d (drop particle_size s))) x y
            ≡ join k (particle_facts (record { what = what_of sort (read_particle s).row.index; quantifier = (particle_of (read_particle s)).quantifier }) (below sort) x y)
            (facts numbers k (members_from d (drop particle_size s)) x y)
        by zero = refl
        by (suc n) = refl

-- ---- the loop over members beside one another: f are the facts of those
-- before t, so that with those from t on they are the whole's
pub record Joining (k : GroupKind) (d x y : ℕ) (s t : Bytes) (f : Facts) : Type 0 where
  pub is : join k f (facts numbers k (members_from d t) x y) ≡ facts numbers k (members_from d s) x y

module _ (k : GroupKind) (d x y : ℕ) (s : Bytes) where
  pub joining_starts : (f : Facts) → f ≡ empty k → Joining k d x y s s f
  joining_starts f e = record { is = rw e (join_left k (facts numbers k (members_from d s) x y)) }

  module _ (t : Bytes) (f : Facts) (j : Joining k d x y s t f) where
    pub joining_few : length t < particle_size → f ≡ facts numbers k (members_from d s) x y
    joining_few h = sym (join_right k f) ∙ sym (ap (join k f) (facts_few d k x y t h)) ∙ j.is

    -- p is the first particle of t, and rest is what follows it
    module _ {p rest : Bytes} (w : Front t p rest) (e : ℕ) (g : e ≡ (read_particle p).depth) where
      deep : e ≡ (read_particle t).depth
      deep = g ∙ ap (λ (q : Deep FlatParticle). q.depth) w.reads

      pub joining_stop : e < d → f ≡ facts numbers k (members_from d s) x y
      joining_stop l = sym (join_right k f) ∙ sym (ap (join k f) (facts_stop d k x y t w.long (omega (arith, deep)))) ∙ j.is

      pub joining_deeper : d < e → Joining k d x y s rest f
      joining_deeper l = record { is = rw (w.rest, ← members_deeper d t w.long (omega (arith, deep))) j.is }

      pub joining_on : e ≡ d → (here r : Facts) → here ≡ first_facts d t x y → r ≡ join k f here → Joining k d x y s rest r
      joining_on m here r eh er =
          record {
            is =
                rw (w.rest, er, eh) (join_assoc k f (first_facts d t x y) (facts numbers k (members_from d (drop particle_size t)) x y))
                ∙ sym (ap (join k f) (facts_here d k x y t w.long (omega (arith, deep)))) ∙ j.is;
          }

-- ---- the automaton's steps
pub facts_nothing : {A : Type 0} (E : Equality A) (k : GroupKind) (ms : Members A) (x y : A) → (facts E k ms x y).nothing ≡ nothing k ms
unfolding facts nothing
facts_nothing E Sequence done x y = refl
facts_nothing E Choice done x y = refl
facts_nothing E k (el q n rest) x y = by k q (facts_nothing E k rest x y)
  where
    by : (k : GroupKind) (q : Quantifier) → (facts E k rest x y).nothing ≡ nothing k rest → (join k (quantify_facts q (single E n x y)) (facts E k rest x y)).nothing ≡ both k (skips q) (nothing k rest)
    by Sequence None e = refl
    by Sequence Qmark e = e
    by Sequence Star e = e
    by Sequence Plus e = refl
    by Choice None e = e
    by Choice Qmark e = refl
    by Choice Star e = refl
    by Choice Plus e = e
facts_nothing E k (group q j ms rest) x y = by k q (facts_nothing E j ms x y) (facts_nothing E k rest x y)
  where
    by : (k : GroupKind) (q : Quantifier) → (facts E j ms x y).nothing ≡ nothing j ms → (facts E k rest x y).nothing ≡ nothing k rest
        → (join k (quantify_facts q (facts E j ms x y)) (facts E k rest x y)).nothing ≡ both k (skips q || nothing j ms) (nothing k rest)
    by Sequence None f e = ap₂ (λ (i j : Bool). i && j) f e
    by Sequence Qmark f e = e
    by Sequence Star f e = e
    by Sequence Plus f e = ap₂ (λ (i j : Bool). i && j) f e
    by Choice None f e = ap₂ (λ (i j : Bool). i || j) f e
    by Choice Qmark f e = refl
    by Choice Star f e = refl
    by Choice Plus f e = ap₂ (λ (i j : Bool). i || j) f e

-- after x, the steps decide as the rules do
runs_after : (ms : Members ℕ) (x : ℕ) (w : List ℕ) → runs ms (suc x) w ≡ continues numbers ms x w
unfolding runs steps finishes continues
runs_after ms x [] = refl
runs_after ms x (y ∷ w) = ap (λ (b : Bool). (facts numbers Sequence ms x y).follow && b) (runs_after ms y w)

-- RUNNING THE STEPS over the children's indices decides whether the model accepts them
pub runs_accepts : (ms : Members ℕ) (w : List ℕ) → runs ms 0 w ≡ accepts numbers ms w
unfolding runs steps finishes accepts
runs_accepts ms [] = refl
runs_accepts ms (y ∷ w) = ap (λ (b : Bool). (facts numbers Sequence ms y y).first && b) (runs_after ms y w)

-- what the code hands back
module _ (ms : Members ℕ) (f : Facts) where
  pub step_first : (last y : ℕ) → last ≡ 0 → f ≡ facts numbers Sequence ms y y → f.first ≡ steps ms last y
  unfolding steps
  step_first last y z e = rw (z, steps, e)

  pub step_follow : (last y : ℕ) → (last ≡ 0 → ⊥) → f ≡ facts numbers Sequence ms (last - 1) y → f.follow ≡ steps ms last y
  unfolding steps
  step_follow zero y z e = absurd (z refl)
  step_follow (suc x) y z e = let n : suc x - 1 ≡ x = omega arith in ap (λ (u : Facts). u.follow) (e ∙ ap (λ (i : ℕ). facts numbers Sequence ms i y) n)

  pub finish_none : (last x y : ℕ) → last ≡ 0 → f ≡ facts numbers Sequence ms x y → f.nothing ≡ finishes ms last
  unfolding finishes
  finish_none last x y z e = rw (z, finishes, e) (facts_nothing numbers Sequence ms x y)

  pub finish_last : (last : ℕ) → (last ≡ 0 → ⊥) → f ≡ facts numbers Sequence ms (last - 1) (last - 1) → f.last ≡ finishes ms last
  unfolding finishes
  finish_last zero z e = absurd (z refl)
  finish_last (suc x) z e = let n : suc x - 1 ≡ x = omega arith in ap (λ (u : Facts). u.last) (e ∙ ap (λ (i : ℕ). facts numbers Sequence ms i i) n)
