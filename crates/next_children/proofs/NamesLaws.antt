-- An element that no particle names has no place in a word of the model.
use mathlib.Core.Path.{◌≡◌, refl, sym, ap, subst, ◌∙◌}
use mathlib.Core.Bool.{Bool, true, false, false≢true, and-false}
use mathlib.Core.List.{◌++◌}
use Prim.Native.Nat.{ℕ, zero, suc, ◌<◌, ◌≤◌}
use native.Mathlib.Omega.{arith}
use borrow.Author.Tests.{ltb-true, ltb-false, eqb-true, eqb-false, ne_eqb, eq-eqb}
use lib.Dec.{eqb, ltb}
use lib.ListN.{length, drop}
use Rattle.rules.specs.declared.Facts.{Facts}
use Rattle.rules.specs.declared.Quantifier.{Quantifier}
use Rattle.rules.specs.declared.Quantifier.TheVariants.{None, Qmark, Star, Plus}
use Rattle.rules.specs.declared.GroupKind.{GroupKind}
use Rattle.rules.specs.declared.GroupKind.TheVariants.{Sequence, Choice}
use Rattle.rules.specs.Bytes.{Bytes, numbers}
use Rattle.rules.specs.Decode.{read_particle}
use Rattle.rules.specs.Automaton.{single, empty, join, quantify_facts, facts}
use Rattle.rules.specs.Preorder.{Deep}
use Rattle.rules.specs.Layout.{particle_size, FlatParticle}
use Rattle.sets.specs.Sets.{has, bit, union}
use Rattle.sets.proofs.Laws.{has_none, has_bit, has_union}
use Rattle.model.specs.declared.What.TheVariants.{Element, Group}
use Rattle.model.specs.declared.Particle.{Particle}
use Rattle.model.specs.Particle.{what_of, particle_of, kind_in, particle_facts, first_facts}
use Rattle.model.specs.Members.{members_from, all_members}
use Rattle.model.specs.Steps.{steps, finishes}
use Rattle.model.proofs.ChunkLaws.{Front, front}
use Rattle.model.proofs.FactsLaws.{facts_few, facts_stop, facts_here}
use Rattle.model.proofs.MembersLaws.{members_deeper}
use Rattle.automaton.specs.declared.Nexts.{Nexts}
use Rattle.next_children.specs.Nexts.{Told}
use Rattle.next_children.specs.Names.{Never, Absent, FirstName, NamesIn, After}
use Rattle.rules.proofs.Words.{or_split}

-- ---- as the rules build facts
never_empty : (k : GroupKind) → Never (empty k)
never_empty Sequence = record { last_not = refl; follow_not = refl }
never_empty Choice = record { last_not = refl; follow_not = refl }

never_join : (k : GroupKind) (f g : Facts) → Never f → Never g → Never (join k f g)
never_join Sequence f g t u = record { last_not = rw (t.last_not, u.last_not) (and-false g.nothing); follow_not = rw (t.follow_not, u.follow_not, t.last_not) }
never_join Choice f g t u = record { last_not = rw (t.last_not, u.last_not); follow_not = rw (t.follow_not, u.follow_not) }

never_quantify : (q : Quantifier) (f : Facts) → Never f → Never (quantify_facts q f)
never_quantify None f t = t
never_quantify Qmark f t = record { last_not = t.last_not; follow_not = t.follow_not }
never_quantify Star f t = record { last_not = t.last_not; follow_not = rw (t.follow_not, t.last_not) }
never_quantify Plus f t = record { last_not = t.last_not; follow_not = rw (t.follow_not, t.last_not) }

never_as : (f g : Facts) → f ≡ g → Never g → Never f
never_as f g e t = record { last_not = ap (λ (z : Facts). z.last) e ∙ t.last_not; follow_not = ap (λ (z : Facts). z.follow) e ∙ t.follow_not }

-- ---- particle by particle
pub absent_few : (x : ℕ) (s : Bytes) → length s < particle_size → Absent x s
absent_few x s h k d y = never_as _ _ (facts_few d k x y s h) (never_empty k)

-- the first particle
never_first : (x : ℕ) (s : Bytes) → ((read_particle s).row.sort ≡ 0 → (read_particle s).row.index ≡ x → ⊥) → Absent x (drop particle_size s) → (d y : ℕ) → Never (first_facts d s x y)
unfolding first_facts particle_of
never_first x s differs rest d y = by (read_particle s).row.sort refl
  where
    below : ℕ → Facts
    below sort = facts numbers (kind_in (what_of sort (read_particle s).row.index)) (members_from (suc d) (drop particle_size s)) x y

    by : (sort : ℕ) → (read_particle s).row.sort ≡ sort
        → Never (particle_facts (record { what = what_of sort (read_particle s).row.index; quantifier = (particle_of (read_particle s)).quantifier }) (below sort) x y)
    by zero e = never_quantify (particle_of (read_particle s)).quantifier (single numbers (read_particle s).row.index x y)
        (record { last_not = ne_eqb x (read_particle s).row.index (λ q. differs e (sym q)); follow_not = refl })
    by (suc n) e = never_quantify (particle_of (read_particle s)).quantifier (below (suc n)) (rest (kind_in (what_of (suc n) (read_particle s).row.index)) (suc d) y)

pub absent_on : (x : ℕ) (s : Bytes) → particle_size ≤ length s → ((read_particle s).row.sort ≡ 0 → (read_particle s).row.index ≡ x → ⊥) → Absent x (drop particle_size s) → Absent x s
absent_on x s h differs rest k d y = by (ltb d (read_particle s).depth) refl (eqb d (read_particle s).depth) refl
  where
    by : (b : Bool) → ltb d (read_particle s).depth ≡ b → (c : Bool) → eqb d (read_particle s).depth ≡ c → Never (facts numbers k (members_from d s) x y)
    by true e c q = rw (members_deeper d s h (ltb-true d (read_particle s).depth e)) (rest k d y)
    by false e true q =
        never_as _ _ (facts_here d k x y s h (sym (eqb-true d (read_particle s).depth q)))
        (never_join k (first_facts d s x y) (facts numbers k (members_from d (drop particle_size s)) x y) (never_first x s differs rest d y) (rest k d y))
    by false e false q =
        let z : d ≡ (read_particle s).depth → ⊥ = eqb-false d (read_particle s).depth q in
        never_as _ _ (facts_stop d k x y s h (omega (arith, ltb-false d (read_particle s).depth e, z))) (never_empty k)

-- ---- the set of the first particle
module _ (s : Bytes) (p : Particle) (r : ℕ) (ep : p ≡ particle_of (read_particle s)) where
  -- of sort 0
  here : (read_particle s).row.sort ≡ 0 → p.what ≡ Element (read_particle s).row.index
  unfolding particle_of
  here z = ap (λ (q : Particle). q.what) ep ∙ ap (λ (n : ℕ). what_of n (read_particle s).row.index) z

  pub first_some : (i : ℕ) → p.what ≡ Element i → r ≡ bit i → FirstName s r
  first_some i w er =
      record {
        other =
            λ x h f z q. let e : Element (read_particle s).row.index ≡ Element i = sym (here z) ∙ w in
            let same : (read_particle s).row.index ≡ i = cc in
            false≢true (sym f ∙ ap (λ (n : ℕ). has n x) er ∙ has_bit i x h ∙ eq-eqb x i (sym q ∙ same));
      }

  pub first_other : (k : GroupKind) (n : ℕ) → p.what ≡ Group k n → FirstName s r
  first_other k n w = record { other = λ x h f z q. let e : Element (read_particle s).row.index ≡ Group k n = sym (here z) ∙ w in cc }

-- ---- the loop over the particles: an index that is absent from what is left, and not in the set, is absent from all
pub record Naming (s t : Bytes) (r : ℕ) : Type 0 where
  pub absent : (x : ℕ) → x < 64 → has r x ≡ false → Absent x t → Absent x s

pub naming_starts : (s : Bytes) → Naming s s 0
naming_starts s = record { absent = λ x h f a. a }

pub naming_on : (s t : Bytes) (r : ℕ) → Naming s t r → (x rest : Bytes) → t ≡ x ++ rest → length x ≡ particle_size → (first r' : ℕ) → FirstName x first → r' ≡ union r first → Naming s rest r'
naming_on s t r n x rest is long first r' f e =
    let w : Front t x rest = front t x rest is long in
    let there : FirstName t first =
    record { other = λ y k out z q. f.other y k out (ap (λ (p : Deep FlatParticle). p.row.sort) w.reads ∙ z) (ap (λ (p : Deep FlatParticle). p.row.index) w.reads ∙ q) } in
    record {
      absent =
          λ y k out a. let o : (has r y ≡ false) × (has first y ≡ false) = or_split (has r y) (has first y) (sym (has_union r first y) ∙ ap (λ (i : ℕ). has i y) (sym e) ∙ out) in
          n.absent y k o.0 (absent_on y t w.long (there.other y k o.1) (subst (λ (z : Bytes). Absent y z) w.rest a));
    }

pub naming_ends : (s t : Bytes) (r : ℕ) → Naming s t r → length t < particle_size → NamesIn s r
naming_ends s t r n h = record { absent = λ x k out. n.absent x k out (absent_few x t h) }

-- ---- what follows a child
pub after_named : (ms : Bytes) (x : ℕ) (r : Nexts ℕ) → Told r (λ y. facts numbers Sequence (all_members ms) x y) → After (all_members ms) x r
unfolding steps finishes
after_named ms x r t = record { last_is = t.last_is x; follow_is = λ y h. t.follow_is y h }

pub after_other : (ms : Bytes) (names x : ℕ) (b : Bool) (r : Nexts ℕ) → NamesIn ms names → x < 64 → b ≡ has names x → b ≡ false → r.last ≡ false → r.follow ≡ 0 → After (all_members ms) x r
unfolding steps finishes
after_other ms names x b r n h e f el ef =
    let a : Absent x ms = n.absent x h (sym e ∙ f) in
    record {
      last_is = el ∙ sym (a Sequence 0 x).last_not;
      follow_is = λ y k. ap (λ (z : ℕ). has z y) ef ∙ has_none y ∙ sym (a Sequence 0 y).follow_not;
    }
