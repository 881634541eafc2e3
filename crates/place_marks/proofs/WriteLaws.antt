-- The loop that marks the elements among particles.
use Prim.Native.Nat.{ℕ, zero, suc, ◌*◌, ◌≤◌, ◌<◌}
use native.Mathlib.Omega.{arith}
use borrow.Author.Tests.{ne_eqb}
use mathlib.Core.Path.{◌≡◌, refl, sym, ap, ap₂, ◌∙◌}
use mathlib.Core.Bool.{Bool, true, false}
use mathlib.Core.List.{List, ◌∷◌, ◌++◌}
use lib.Dec.{eqb}
use lib.ListN.{length, set, drop, replicate}
use Rattle.rules.specs.Bytes.{Bytes}
use Rattle.rules.specs.Preorder.{Deep}
use Rattle.rules.specs.Layout.{particle_size, FlatParticle}
use Rattle.rules.specs.Decode.{read_particle}
use Rattle.layout.specs.Bodies.{window_of}
use Rattle.model.specs.declared.What.{What}
use Rattle.model.specs.declared.What.TheVariants.{Element, Group}
use Rattle.model.specs.declared.Particle.{Particle}
use Rattle.model.specs.Particle.{what_of, particle_of}
use Rattle.model.proofs.ChunkLaws.{Front, front}
use Rattle.circle_check.specs.Members.{elements_of}
use Rattle.circle_check.proofs.MemberLaws.{elements_more, elements_few}
use Rattle.plans.specs.CallPlans.{unmarked}
use Rattle.place_marks.specs.Marking.{marked, marked_first, marks_at}

-- ---- the first particle
module _ (v : ℕ) (t m : Bytes) {p : Particle} (ep : p ≡ particle_of (read_particle t)) where
  -- marked as what was read says
  abbrev by_what : What → Bytes
  by_what (Element i) = set m i v
  by_what (Group k n) = m

  by_sort : (sort index : ℕ) → by_what (what_of sort index) ≡ elim (eqb sort 0) [ true ↦ set m index v | false ↦ m ]
  by_sort zero index = refl
  by_sort (suc n) index = sym (ap (λ (b : Bool). elim b [ true ↦ set m index v | false ↦ m ]) (ne_eqb (suc n) 0 (λ q. omega arith)))

  pub first_marks : {w : What} → p.what ≡ w → by_what w ≡ marked_first v t m
  unfolding particle_of
  first_marks {w} e = ap by_what (sym e ∙ ap (λ (q : Particle). q.what) ep) ∙ by_sort (read_particle t).row.sort (read_particle t).row.index

-- ---- the rest
marked_more : (v : ℕ) (t m : Bytes) → particle_size ≤ length t → marked v (elements_of t) m ≡ marked v (elements_of (drop particle_size t)) (marked_first v t m)
marked_more v t m h = ap (λ (l : List ℕ). marked v l m) (elements_more t h) ∙ by (eqb (read_particle t).row.sort 0)
  where
    by : (b : Bool) → marked v (elim b [ true ↦ (read_particle t).row.index ∷ elements_of (drop particle_size t) | false ↦ elements_of (drop particle_size t) ]) m
        ≡ marked v (elements_of (drop particle_size t)) (elim b [ true ↦ set m (read_particle t).row.index v | false ↦ m ])
    by true = refl
    by false = refl

-- as `marked_first`, of the particle that was read
abbrev first_marked : ℕ → Bytes → Deep FlatParticle → Bytes
first_marked v m p = elim (eqb p.row.sort 0) [ true ↦ set m p.row.index v | false ↦ m ]

-- t is left, and m written so far
pub record Marking (v : ℕ) (particles marks t m : Bytes) : Type 0 where
  pub left : marked v (elements_of t) m ≡ marked v (elements_of particles) marks
  pub size : length m ≡ length marks

pub marking_starts : {v : ℕ} {particles marks : Bytes} → Marking v particles marks particles marks
marking_starts = record { left = refl; size = refl }

pub marking_on : {v : ℕ} {particles marks t m out : Bytes} (x s : Bytes) → Marking v particles marks t m → t ≡ x ++ s → length x ≡ particle_size
    → out ≡ marked_first v x m → length out ≡ length m → Marking v particles marks s out
marking_on {v} {particles} {marks} {t} {m} {out} x s k is long e l =
    let w : Front t x s = front t x s is long in
    let first : out ≡ marked_first v t m = e ∙ ap (first_marked v m) w.reads in
    record { left = ap₂ (λ (a b : Bytes). marked v (elements_of a) b) w.rest first ∙ sym (marked_more v t m w.long) ∙ k.left; size = l ∙ k.size }

pub marking_ends : {v : ℕ} {particles marks t m : Bytes} → Marking v particles marks t m → length t < particle_size → m ≡ marked v (elements_of particles) marks
marking_ends {v} {particles} {marks} {t} {m} x h = sym (ap (λ (l : List ℕ). marked v l m) (elements_few t h)) ∙ x.left

-- ---- the whole
pub marks_laid : (n p : ℕ) (part : Bytes) {s t m out : Bytes} → s ≡ window_of 0 (particle_size * p) part → m ≡ marked 1 (elements_of s) (replicate 64 0)
    → t ≡ window_of (particle_size * p) (particle_size * n) part → out ≡ marked 2 (elements_of t) m → out ≡ marks_at n p part
unfolding marks_at unmarked
marks_laid n p part e f g h = h ∙ ap₂ (λ (t m : Bytes). marked 2 (elements_of t) m) g (f ∙ ap (λ (s : Bytes). marked 1 (elements_of s) (replicate 64 0)) e)
