-- The automaton of a model, step by step over a row's children. The state is 0 before the first child, and after a
-- child its definition index and 1.
use Rattle.std.specs.Prelude.{ℕ, zero, suc, Bool, ◌&&◌, List, [], ◌∷◌}
use Rattle.rules.specs.declared.GroupKind.TheVariants.{Sequence}
use Rattle.rules.specs.Bytes.{numbers}
use Rattle.rules.specs.Model.{Members, nothing}
use Rattle.rules.specs.Automaton.{facts}

-- the child y may come next
unfoldable pub steps : Members ℕ → ℕ → ℕ → Bool
steps ms zero y = (facts numbers Sequence ms y y).first
steps ms (suc x) y = (facts numbers Sequence ms x y).follow

-- no child more is owed
unfoldable pub finishes : Members ℕ → ℕ → Bool
finishes ms zero = nothing Sequence ms
finishes ms (suc x) = (facts numbers Sequence ms x x).last

unfoldable pub runs : Members ℕ → ℕ → List ℕ → Bool
runs ms last [] = finishes ms last
runs ms last (y ∷ w) = steps ms last y && runs ms (suc y) w
