-- Which of the refusals applies that changes 14 and 15 share.
use Rattle.std.specs.Prelude.{ℕ, ◌≡◌, [], ◌∷◌}
use Rattle.rules.specs.Store.{Store}
use Rattle.rules.specs.Refusal.{◌if◌, first, no_element, unknown_attribute}

-- n is the number of the first condition that holds of an attribute of
-- element k, of those on which both may be named; 0 if none does
pub record AttributeRefused (k a : ℕ) (s : Store) (n : ℕ) : Type 0 where
  pub is : n ≡ first ((6 if unknown_attribute k a s) ∷ (7 if no_element k s) ∷ [])
