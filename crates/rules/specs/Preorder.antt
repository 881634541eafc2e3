-- Preorder with depths, and back: models and documents are stored so.
use Rattle.std.specs.Prelude.{ℕ, suc, true, false, List, [], ◌∷◌, ◌++◌, ltb, eqb}
use Rattle.rules.specs.Store.{Forest, bare, tree}

pub record Deep (A : Type 0) : Type 0 where
  pub depth : ℕ
  pub row : A

-- the rows from depth d on, each before what stands below it
abbrev pub preorder : {A : Type 0} → ℕ → Forest A → List (Deep A)
preorder d bare = []
preorder d (tree r b t) = record { depth = d; row = r } ∷ (preorder (suc d) b ++ preorder d t)

-- Of rows with depths: those of depth k that stand beside one another
-- from here on, each with the deeper ones that follow it.
abbrev pub build : {A : Type 0} → List (Deep A) → ℕ → Forest A
build [] k = bare
build (x ∷ xs) k =
    elim (ltb k x.depth) [
      | true ↦ build xs k
      | false ↦ elim (eqb k x.depth) [ true ↦ tree x.row (build xs (suc k)) (build xs k) | false ↦ bare ]
    ]
