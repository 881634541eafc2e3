-- Where no element must be there, groups fill with nothing; and the scan for one that must.
use Prim.Native.Nat.{ℕ, zero, suc, ◌<◌, ◌≤◌}
use native.Mathlib.Omega.{arith}
use borrow.Author.Tests.{lt-ltb, le-ltb, ne_eqb, ltb-true}
use mathlib.Core.Path.{◌≡◌, refl, sym, ap, ap₂, ◌∙◌}
use mathlib.Core.Bool.{Bool, true, false, not, ◌||◌, false≢true}
use mathlib.Core.List.{List, [], ◌∷◌}
use lib.Dec.{ltb, eqb}
use lib.ListN.{length, drop, get_or}
use Rattle.rules.specs.declared.GroupKind.{GroupKind}
use Rattle.rules.specs.declared.GroupKind.TheVariants.{Sequence, Choice}
use Rattle.rules.specs.Bytes.{Bytes}
use Rattle.rules.specs.Model.{Members, skips, nothing, unless, beside, filling}
use Rattle.rules.specs.Store.{bare, tree}
use Rattle.rules.specs.Preorder.{Deep, build}
use Rattle.rules.specs.Layout.{particle_size, FlatParticle}
use Rattle.rules.specs.Decode.{quantifier_of, group_of}
use Rattle.layout.specs.Fields.{particle_depth_at, particle_quantifier_at, particle_sort_at}
use Rattle.model.specs.Members.{index_member, index_members, particles_of, members_from}
use Rattle.model.proofs.MembersLaws.{particles_few, particles_more}
use Rattle.filling.specs.Parts.{element_needed, none_needed, no_element_needed}

-- ---- a filling
-- nothing beside nothing
beside_none : (k : GroupKind) (u v : List ℕ) → u ≡ [] → v ≡ [] → beside k u v ≡ []
beside_none Sequence u v e f = rw (e, f)
beside_none Choice u v e f = e

pub unless_none : (b : Bool) (u : List ℕ) → u ≡ [] → unless b u ≡ []
unless_none true u e = refl
unless_none false u e = e

-- a member of a group of kind k that is no element that must be there
member_none : (k : GroupKind) (p : FlatParticle) (sort : ℕ) (below rest : Members ℕ) → element_needed sort (quantifier_of p.quantifier) ≡ false
    → ((j : GroupKind) → filling j below ≡ []) → filling k rest ≡ [] → filling k (index_member p sort below rest) ≡ []
unfolding filling
member_none k p zero below rest z f g =
    let b : Bool = skips (quantifier_of p.quantifier) in
    beside_none k (unless b (p.index ∷ [])) (filling k rest) (by b z) g
  where
    by : (b : Bool) → not b ≡ false → unless b (p.index ∷ []) ≡ []
    by true y = refl
    by false y = absurd (false≢true (sym y))
member_none k p (suc n) below rest z f g =
    let j : GroupKind = group_of (suc n) in
    let b : Bool = skips (quantifier_of p.quantifier) || nothing j below in
    beside_none k (unless b (filling j below)) (filling k rest) (unless_none b (filling j below) (f j)) g

-- of the first particle and the others, where none must be there: the first ends the members of depth d, or it is no
-- such, and of the others none is
data First (d : ℕ) (p : Deep FlatParticle) (ps : List (Deep FlatParticle)) : Type 0 where
  over : p.depth < d → First d p ps
  within : element_needed p.row.sort (quantifier_of p.row.quantifier) ≡ false → none_needed d ps ≡ true → First d p ps

none_first : (d : ℕ) (p : Deep FlatParticle) (ps : List (Deep FlatParticle)) → none_needed d (p ∷ ps) ≡ true → First d p ps
unfolding none_needed
none_first d p ps e = by (ltb p.depth d) (element_needed p.row.sort (quantifier_of p.row.quantifier)) refl refl e
  where
    by : (c b : Bool) → ltb p.depth d ≡ c → element_needed p.row.sort (quantifier_of p.row.quantifier) ≡ b
        → elim c as (λ z. Bool) [ true ↦ true | false ↦ elim b as (λ z. Bool) [ true ↦ false | false ↦ none_needed d ps ] ] ≡ true → First d p ps
    by true b l z e = over (ltb-true p.depth d l)
    by false true l z e = absurd (false≢true e)
    by false false l z e = within z e

-- the members of depth n that begin with the particle p, which ends them, or is no element that must be there
module _ (k : GroupKind) (n : ℕ) (p : Deep FlatParticle) (ps : List (Deep FlatParticle)) where
  -- p is deeper than they, or is one of them
  abbrev members_by : Bool → Bool → Members ℕ
  members_by deeper same = index_members (elim deeper [ true ↦ build ps n | false ↦ elim same [ true ↦ tree p.row (build ps (suc n)) (build ps n) | false ↦ bare ] ])

  over_filled : p.depth < n → filling k (index_members (build (p ∷ ps) n)) ≡ []
  unfolding filling
  over_filled l = ap₂ (λ (x y : Bool). filling k (members_by x y)) (le-ltb n p.depth (omega arith)) (ne_eqb n p.depth (λ q. omega (arith, q)))

  within_filled : element_needed p.row.sort (quantifier_of p.row.quantifier) ≡ false
      → ((j : GroupKind) (m : ℕ) → n ≤ m → filling j (index_members (build ps m)) ≡ []) → filling k (index_members (build (p ∷ ps) n)) ≡ []
  unfolding filling
  within_filled z f = by (ltb n p.depth) (eqb n p.depth)
    where
      by : (deeper same : Bool) → filling k (members_by deeper same) ≡ []
      by true same = f k n (omega arith)
      by false true =
          member_none k p.row p.row.sort (index_members (build ps (suc n))) (index_members (build ps n)) z (λ j. f j (suc n) (omega arith)) (f k n (omega arith))
      by false false = refl

-- the members of depth d, in a group of any kind, stand among the particles up to the first of a depth less than d, and
-- so does all that stands in them, whose depth n is no less
none_filled : (d : ℕ) (ps : List (Deep FlatParticle)) → none_needed d ps ≡ true → (k : GroupKind) (n : ℕ) → d ≤ n → filling k (index_members (build ps n)) ≡ []
unfolding filling
none_filled d [] e k n l = refl
none_filled d (p ∷ ps) e k n l = by (none_first d p ps e) (λ x j m h. none_filled d ps x j m h)
  where
    by : First d p ps → (none_needed d ps ≡ true → (j : GroupKind) (m : ℕ) → d ≤ m → filling j (index_members (build ps m)) ≡ [])
        → filling k (index_members (build (p ∷ ps) n)) ≡ []
    by (over x) f = over_filled k n p ps (omega arith)
    by (within z x) f = within_filled k n p ps z (λ j m h. f x j m (omega arith))

pub no_element_filled : (k : GroupKind) (d : ℕ) (s : Bytes) → no_element_needed d s ≡ true → filling k (members_from d s) ≡ []
unfolding no_element_needed members_from
no_element_filled k d s e = none_filled d (particles_of s) e k d (omega arith)

-- ---- the scan, one particle on; own: the depth of the first, b: whether it is an element that must be there
module _ (d : ℕ) (s : Bytes) where
  pub no_element_few : length s < particle_size → no_element_needed d s ≡ true
  unfolding no_element_needed none_needed
  no_element_few h = rw (particles_few s h)

  module _ (h : particle_size ≤ length s) (own : ℕ) (g : own ≡ get_or s particle_depth_at 0) where
    no_element_more : no_element_needed d s
        ≡ elim (ltb own d) as (λ z. Bool) [
          | true ↦ true
          | false ↦ elim (element_needed (get_or s particle_sort_at 0) (quantifier_of (get_or s particle_quantifier_at 0))) as (λ z. Bool) [
            | true ↦ false
            | false ↦ no_element_needed d (drop particle_size s)
          ]
        ]
    unfolding no_element_needed none_needed
    no_element_more = rw (particles_more s h, g)

    pub no_element_over : own < d → no_element_needed d s ≡ true
    no_element_over l = rw (lt-ltb own d l) at no_element_more

    module _ (l : d ≤ own) {b : Bool} (e : b ≡ element_needed (get_or s particle_sort_at 0) (quantifier_of (get_or s particle_quantifier_at 0))) where
      within_more : no_element_needed d s ≡ elim b as (λ z. Bool) [ true ↦ false | false ↦ no_element_needed d (drop particle_size s) ]
      within_more = rw e (rw (le-ltb own d l) at no_element_more)

      pub no_element_stop : b ≡ true → no_element_needed d s ≡ false
      no_element_stop y = rw y at within_more

      pub no_element_on : b ≡ false → {t : Bytes} → t ≡ drop particle_size s → no_element_needed d s ≡ no_element_needed d t
      no_element_on y e = (rw y at within_more) ∙ ap (no_element_needed d) (sym e)
