-- A result that is a length gives the number 0.
use Rattle.std.specs.Prelude.{Result, Ok, Err}
use Rattle.std.specs.Result.{is_ok}
use mathlib.Core.Bool.{true, false≢true}
use mathlib.Core.Path.{◌≡◌, refl}
use Rattle.rules.specs.declared.Refusal.{Refusal}
use Rattle.rules.specs.Given.{number_given}

pub given_ok : {A : Type 0} (r : Result A Refusal) → is_ok r ≡ true → number_given r ≡ 0
given_ok (Ok a) e = refl
given_ok (Err r) e = absurd (false≢true e)
