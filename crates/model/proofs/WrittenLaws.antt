-- A model as the layout writes it, read back: its particles, its members, and where a place stands.
use mathlib.Core.Path.{◌≡◌, refl, sym, ap, ap₂, ◌∙◌}
use mathlib.Core.Bool.{Bool, true, false}
use mathlib.Core.List.{List, [], ◌∷◌, ◌++◌}
use Prim.Native.Nat.{ℕ, suc}
use native.Mathlib.Omega.{arith}
use lib.Dec.{leb}
use lib.ListN.{length}
use Rattle.rules.specs.declared.Quantifier.{Quantifier}
use Rattle.rules.specs.declared.GroupKind.{GroupKind}
use Rattle.rules.specs.declared.GroupKind.TheVariants.{Sequence, Choice}
use Rattle.rules.specs.Model.{Members, done, el, group}
use Rattle.rules.specs.Store.{Forest, bare, tree}
use Rattle.rules.specs.Preorder.{preorder, build}
use Rattle.rules.specs.Layout.{FlatParticle, particle_bytes, each, group_code, how_many}
use Rattle.rules.specs.Place.{find}
use Rattle.rules.proofs.PreorderLaws.{build_preorder}
use Rattle.model.specs.declared.place.Found.{Found}
use Rattle.std.specs.Prelude.{Option as Maybe, None}
use Rattle.model.specs.Members.{index_member, index_members, particles_of, members_from, all_members}
use Rattle.model.specs.Places.{Particles, spot_of, top, place_in, last_by}
use Rattle.model.specs.Positions.{element_particle, group_particle, spread, spot_in}
use Rattle.model.proofs.MembersLaws.{particles_few, particles_more}
use Rattle.model.proofs.PositionLaws.{place_spot}
use Rattle.rules.proofs.DecodeLaws.{quantifier_code_lem}

pub particles_written : (xs : Particles) → particles_of (each particle_bytes xs) ≡ xs
particles_written [] = particles_few [] (omega arith)
particles_written (x ∷ xs) = particles_more (each particle_bytes (x ∷ xs)) (omega arith) ∙ ap (λ (l : Particles). x ∷ l) (particles_written xs)

forest : Members ℕ → Forest FlatParticle
forest done = bare
forest (el q i rest) = tree (element_particle 0 q i).row bare (forest rest)
forest (group q k ms rest) = tree (group_particle 0 q k (how_many ms)).row (forest ms) (forest rest)

preorder_forest : (d : ℕ) (ms : Members ℕ) → preorder d (forest ms) ≡ spread d ms
unfolding forest
preorder_forest d done = refl
preorder_forest d (el q i rest) = ap (λ (l : Particles). element_particle d q i ∷ l) (preorder_forest d rest)
preorder_forest d (group q k ms rest) =
    ap (λ (l : Particles). group_particle d q k (how_many ms) ∷ l) (ap₂ (λ (u v : Particles). u ++ v) (preorder_forest (suc d) ms) (preorder_forest d rest))

index_forest : (ms : Members ℕ) → index_members (forest ms) ≡ ms
unfolding forest
index_forest done = refl
index_forest (el q i rest) = ap₂ (λ (r : Quantifier) (t : Members ℕ). el r i t) (quantifier_code_lem q) (index_forest rest)
index_forest (group q k ms rest) = by k (index_forest ms) (index_forest rest)
  where
    by : (k : GroupKind) → index_members (forest ms) ≡ ms → index_members (forest rest) ≡ rest
        → index_member (group_particle 0 q k (how_many ms)).row (group_code k) (index_members (forest ms)) (index_members (forest rest)) ≡ group q k ms rest
    by Sequence f g = rw (f, g, quantifier_code_lem q)
    by Choice f g = rw (f, g, quantifier_code_lem q)

pub members_written : (ms : Members ℕ) → all_members (each particle_bytes (spread 0 ms)) ≡ ms
unfolding members_from
members_written ms =
    ap (λ (l : Particles). index_members (build l 0)) (particles_written (spread 0 ms) ∙ sym (preorder_forest 0 ms)) ∙ ap index_members (build_preorder (forest ms)) ∙ index_forest ms

-- WHERE THE CODE FINDS A PLACE in a model that the layout wrote
pub place_written : (insert : Bool) (place : List ℕ) (ms : Members ℕ)
    → place_in insert place (each particle_bytes (spread 0 ms)) ≡ elim (leb (length place) 5) [ true ↦ spot_in top (find (last_by insert) place ms) | false ↦ None ]
unfolding place_in
place_written insert place ms = by (leb (length place) 5)
  where
    by : (b : Bool)
        → ◌≡◌ {A = Maybe Found}
        (elim b [ true ↦ spot_of insert place top (particles_of (each particle_bytes (spread 0 ms))) | false ↦ None ])
        (elim b [ true ↦ spot_in top (find (last_by insert) place ms) | false ↦ None ])
    by true = ap (λ (l : Particles). spot_of insert place top l) (particles_written (spread 0 ms)) ∙ place_spot insert place top ms
    by false = refl
