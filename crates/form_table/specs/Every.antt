-- A test of all numbers from a on below b.
use Rattle.std.specs.Prelude.{ℕ, zero, suc, Bool, true, false, ◌&&◌, leb}

-- of the numbers below b those from a on pass
unfoldable pub every : (ℕ → Bool) → ℕ → ℕ → Bool
every p zero a = true
every p (suc b) a = elim (leb a b) [ true ↦ p b && every p b a | false ↦ true ]
