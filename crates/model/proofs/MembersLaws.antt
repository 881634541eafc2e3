-- The members that a part of the particle body holds, one particle on; and under names.
use mathlib.Core.Path.{◌≡◌, refl, sym, ap, ◌∙◌}
use mathlib.Core.Bool.{Bool, true, false}
use mathlib.Core.List.{List, [], ◌∷◌}
use Prim.Native.Nat.{ℕ, zero, suc, ◌+◌, ◌*◌, ◌/◌, ◌<◌, ◌≤◌}
use native.Mathlib.Omega.{arith}
use borrow.Author.Tests.{lt-ltb, le-ltb, eq-eqb, ne_eqb, leb-false}
use lib.Dec.{ltb, eqb, leb, leb→le}
use lib.ListN.{length, drop, length-drop}
use lib.Seq.{drop-drop}
use Rattle.rules.specs.Bytes.{Bytes, to_T}
use Rattle.rules.specs.Model.{done, rename}
use Rattle.rules.specs.Store.{Forest, bare, tree}
use Rattle.rules.specs.Preorder.{Deep, build}
use Rattle.rules.specs.Layout.{FlatParticle, particle_size}
use Rattle.rules.specs.Decode.{name_at, member_of, read_members, read_particle, read_many}
use Rattle.model.specs.Members.{index_member, index_members, particles_of, members_from}

-- ---- names and indices
-- the members that a form has are those of the bytes, each index as the name that it stands for
pub members_named : (ns : List Bytes) (t : Forest FlatParticle) → read_members ns t ≡ rename (λ i. name_at i ns) (index_members t)
unfolding rename
members_named ns bare = refl
members_named ns (tree p b t) = by p.sort (members_named ns b) (members_named ns t)
  where
    by : (sort : ℕ) → read_members ns b ≡ rename (λ i. name_at i ns) (index_members b) → read_members ns t ≡ rename (λ i. name_at i ns) (index_members t)
        → member_of ns p sort (read_members ns b) (read_members ns t) ≡ rename (λ i. name_at i ns) (index_member p sort (index_members b) (index_members t))
    by zero f g = rw g
    by (suc k) f g = rw (f, g)

-- ---- one particle on
pub particles_few : (s : Bytes) → length s < particle_size → particles_of s ≡ []
unfolding particles_of
particles_few s h = let e : length s / particle_size ≡ 0 = omega arith in rw e

pub particles_more : (s : Bytes) → particle_size ≤ length s → particles_of s ≡ read_particle s ∷ particles_of (drop particle_size s)
unfolding particles_of
particles_more [] h = absurd (omega arith)
particles_more (a ∷ []) h = absurd (omega arith)
particles_more (a ∷ b ∷ []) h = absurd (omega arith)
particles_more (a ∷ b ∷ c ∷ []) h = absurd (omega arith)
particles_more (a ∷ b ∷ c ∷ e ∷ s) h =
    let n : length (a ∷ b ∷ c ∷ e ∷ s) / particle_size ≡ suc (length s / particle_size) = omega arith in
    ap (λ (k : ℕ). read_many read_particle particle_size k (a ∷ b ∷ c ∷ e ∷ s)) n

-- .. and n particles on
pub particles_rest : (s : Bytes) → particles_of (drop particle_size s) ≡ drop 1 (particles_of s)
particles_rest s = by (leb particle_size (length s)) refl
  where
    by : (b : Bool) → leb particle_size (length s) ≡ b → particles_of (drop particle_size s) ≡ drop 1 (particles_of s)
    by true e = sym (ap (drop 1) (particles_more s (leb→le particle_size (length s) (to_T e))))
    by false e =
        let l : length s < particle_size = leb-false particle_size (length s) e in
        particles_few (drop particle_size s) (omega (arith, length-drop particle_size s)) ∙ sym (ap (drop 1) (particles_few s l))

pub particles_past : (n : ℕ) (s : Bytes) → particles_of (drop (particle_size * n) s) ≡ drop n (particles_of s)
particles_past zero s = refl
particles_past (suc n) s =
    let z : particle_size * suc n ≡ particle_size + particle_size * n = omega arith in
    let y : 1 + n ≡ suc n = omega arith in
    ap (λ (k : ℕ). particles_of (drop k s)) z
    ∙ ap particles_of (sym (drop-drop (particle_size * n) particle_size s))
    ∙ particles_past n (drop particle_size s)
    ∙ ap (drop n) (particles_rest s)
    ∙ drop-drop n 1 (particles_of s)
    ∙ ap (λ (k : ℕ). drop k (particles_of s)) y

-- the four cases: too short, the first too deep, not deep enough, at d
module _ (d : ℕ) (s : Bytes) where
  pub members_few : length s < particle_size → members_from d s ≡ done
  unfolding members_from
  members_few h = rw (particles_few s h)

  module _ (h : particle_size ≤ length s) where
    members_more : members_from d s
        ≡ elim (ltb d (read_particle s).depth) [
          | true ↦ members_from d (drop particle_size s)
          | false ↦ elim (eqb d (read_particle s).depth) [
            | true ↦ index_member (read_particle s).row (read_particle s).row.sort (members_from (suc d) (drop particle_size s))
                (members_from d (drop particle_size s))
            | false ↦ done
          ]
        ]
    unfolding members_from
    members_more = ap (λ (l : List (Deep FlatParticle)). index_members (build l d)) (particles_more s h) ∙ by (ltb d (read_particle s).depth) (eqb d (read_particle s).depth)
      where
        by : (deeper same : Bool)
            → index_members (elim deeper [
              | true ↦ build (particles_of (drop particle_size s)) d
              | false ↦ elim same [
                | true ↦ tree (read_particle s).row (build (particles_of (drop particle_size s)) (suc d)) (build (particles_of (drop particle_size s)) d)
                | false ↦ bare
              ]
            ])
            ≡ elim deeper [
              | true ↦ index_members (build (particles_of (drop particle_size s)) d)
              | false ↦ elim same [
                | true ↦ index_member (read_particle s).row (read_particle s).row.sort (index_members (build (particles_of (drop particle_size s)) (suc d)))
                    (index_members (build (particles_of (drop particle_size s)) d))
                | false ↦ done
              ]
            ]
        by true b = refl
        by false true = refl
        by false false = refl

    pub members_deeper : d < (read_particle s).depth → members_from d s ≡ members_from d (drop particle_size s)
    members_deeper l = rw (lt-ltb d (read_particle s).depth l) at members_more

    pub members_stop : (read_particle s).depth < d → members_from d s ≡ done
    members_stop l =
        let n : d ≡ (read_particle s).depth → ⊥ = λ q. omega arith in
        rw (le-ltb d (read_particle s).depth (omega arith), ne_eqb d (read_particle s).depth n) at members_more

    pub members_here : (read_particle s).depth ≡ d
        → members_from d s
        ≡ index_member (read_particle s).row (read_particle s).row.sort (members_from (suc d) (drop particle_size s)) (members_from d (drop particle_size s))
    members_here e = rw (le-ltb d (read_particle s).depth (omega arith), eq-eqb d (read_particle s).depth (omega arith)) at members_more
