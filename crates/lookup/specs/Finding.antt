-- The look-up on a byte string, whether it passes or not.
use Rattle.std.specs.Prelude.{ℕ, ◌≡◌, [], Result, Ok, Err}
use Rattle.std.specs.Borrow.{Bor}
use Rattle.std.proofs.Math.Option.{some}
use Rattle.rules.specs.Bytes.{Bytes}
use Rattle.rules.specs.Decode.{read_row}
use Rattle.layout.specs.Bodies.{width_of}
use Rattle.rules.specs.LookUp.{ValueFound, row_with, found_row, part_found}
use Rattle.rules.specs.declared.Refusal.{Refusal}
use Rattle.rules.specs.Given.{number_given}
use Rattle.lookup.specs.declared.Part.{Part}
use Rattle.lookup.specs.Bodies.{bodies_of, row_part}

unfoldable pub found_on : Bytes → ℕ → ValueFound
found_on bs k = found_row (width_of bs) (bodies_of bs) (row_with k 0 (bodies_of bs).rows)

-- what is found when row number i is the one
unfoldable pub found_row_at : Bytes → ℕ → ValueFound
found_row_at bs i = found_row (width_of bs) (bodies_of bs) (some (record { at = i; row = (read_row (row_part bs i)).row }))

-- an answer in the code's numbers
pub record Looks (f : ValueFound) (number start length : ℕ) : Type 0 where
  pub number_is : number ≡ f.number
  pub start_is : start ≡ f.start
  pub length_is : length ≡ f.size

-- what a result of the code gives: where the part begins, its length and its bytes; 0, 0 and none where it is a refusal
abbrev pub start_given : Result Part Refusal → ℕ
start_given (Ok part) = part.start
start_given (Err r) = 0

abbrev pub size_given : Result Part Refusal → ℕ
size_given (Ok part) = part.length
size_given (Err r) = 0

abbrev pub part_given : Result (Bor Bytes) Refusal → Bytes
part_given (Ok part) = part.now
part_given (Err r) = []

-- an answer as a result
abbrev pub LooksBy : ValueFound → Result Part Refusal → Type 0
LooksBy f r = Looks f (number_given r) (start_given r) (size_given r)

-- what is handed back: the part of the store, and the number
pub record Hands (f : ValueFound) (bs part : Bytes) (number : ℕ) : Type 0 where
  pub part_is : part ≡ part_found bs f
  pub number_is : number ≡ f.number
