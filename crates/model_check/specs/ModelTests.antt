-- When particles are the preorder of a model.
use Rattle.std.specs.Prelude.{ℕ, Bool, true, false, ◌&&◌, not, List, [], ◌∷◌, eqb, leb, ltb, length}
use Rattle.rules.specs.Bytes.{numbers, all, is_none}
use Rattle.rules.specs.Model.{distinct}
use Rattle.rules.specs.Store.{Forest, bare, tree, heads}
use Rattle.rules.specs.Preorder.{Deep, build}
use Rattle.rules.specs.Layout.{FlatParticle}
use Rattle.rules.proofs.PreorderLaws.{rising}

-- a particle with what is below it, in a form of n definitions: an element
-- has nothing below it, a group as many members as it says
abbrev pub particle_fits : ℕ → FlatParticle → List FlatParticle → Bool
particle_fits n p below =
    leb p.quantifier 3
    && elim (eqb p.sort 0) [ true ↦ ltb p.index n && is_none below | false ↦ leb p.sort 2 && (eqb p.index (length below) && not (is_none below)) ]

unfoldable pub shaped : ℕ → Forest FlatParticle → Bool
shaped n bare = true
shaped n (tree p b t) = particle_fits n p (heads b) && (shaped n b && shaped n t)

-- the definition indices that a model names
unfoldable pub elements_in : List (Deep FlatParticle) → List ℕ
elements_in [] = []
elements_in (p ∷ ps) = elim (eqb p.row.sort 0) [ true ↦ p.row.index ∷ elements_in ps | false ↦ elements_in ps ]

-- depths at most 4, rising by one at most; the shape; no name twice
unfoldable pub model_fits : ℕ → List (Deep FlatParticle) → Bool
model_fits n ps = all (λ (p : Deep FlatParticle). leb p.depth 4) ps && (rising 0 ps && (shaped n (build ps 0) && distinct numbers (elements_in ps)))
