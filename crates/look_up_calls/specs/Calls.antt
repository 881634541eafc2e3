-- What the check answers.
use Rattle.std.specs.Prelude.{ℕ, Bool, true, false}

-- 0: the store passes; 1: it does not
abbrev pub check_answer : Bool → ℕ
check_answer true = 0
check_answer false = 1
