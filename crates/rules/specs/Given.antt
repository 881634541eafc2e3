-- The refusals of the code by the numbers of the table, and what a result of the code gives: a number, a length.
use Rattle.std.specs.Prelude.{ℕ, Result, Ok, Err}
use Rattle.rules.specs.Bytes.{Bytes}
use Rattle.rules.specs.Outcome.{Outcome, Answers}
use Rattle.rules.specs.declared.Refusal.{Refusal}
use Rattle.rules.specs.declared.Refusal.TheVariants.{BadStore, BadName, BadValue, BadCode, Taken, Unknown, NoRow, NoPlace, WrongKind, InUse, Round}
use Rattle.rules.specs.declared.Refusal.TheVariants.{Default, OffSpine, Grouping, NoMatch, Ceiling, Serials, Buffer, BadText}

-- the number of a refusal in the table
abbrev pub refusal_number : Refusal → ℕ
refusal_number BadStore = 1
refusal_number BadName = 2
refusal_number BadValue = 3
refusal_number BadCode = 4
refusal_number Taken = 5
refusal_number Unknown = 6
refusal_number NoRow = 7
refusal_number NoPlace = 8
refusal_number WrongKind = 9
refusal_number InUse = 10
refusal_number Round = 11
refusal_number Default = 12
refusal_number OffSpine = 13
refusal_number Grouping = 14
refusal_number NoMatch = 15
refusal_number Ceiling = 16
refusal_number Serials = 17
refusal_number Buffer = 18
refusal_number BadText = 19

-- the number that a result gives, 0 where it is no refusal
abbrev pub number_given : {A : Type 0} → Result A Refusal → ℕ
number_given (Ok a) = 0
number_given (Err r) = refusal_number r

-- the length that a result gives, 0 where it is a refusal
abbrev pub length_given : Result ℕ Refusal → ℕ
length_given (Ok n) = n
length_given (Err r) = 0

-- what a call hands back as a result, and leaves in the buffer that held `out`
abbrev pub AnswersBy : Outcome → Bytes → Result ℕ Refusal → Bytes → Type 0
AnswersBy o out r left = Answers o out (number_given r) (length_given r) left
