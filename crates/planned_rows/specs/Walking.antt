-- The walk over a store's rows: which plans it takes, and from where it writes.
use Rattle.std.specs.Prelude.{ℕ}
use Rattle.rules.specs.Bytes.{Bytes}
use Rattle.rules.specs.Decode.{number_at}
use Rattle.layout.specs.Fields.{next_at}
use Rattle.row_writer.specs.declared.Cursor.{Cursor}
use Rattle.filling.specs.Parts.{Indexed}
use Rattle.row_walk.specs.declared.Plan.{Plan}
use Rattle.row_walk.specs.Step.{Planned}

-- a walk writes from `at` on at most one row more than the ceiling, new rows with the serials of the store
abbrev pub walk_from : ℕ → Bytes → Cursor
walk_from at bs = record { at = at; left = 4097; serial = number_at next_at 4 bs }

-- the numbers of a plan are small enough for the walk; a clause, and no ghost field of Plan: the functions that make
-- plans take every index
pub record Sized (p : Plan) : Type 0 where
  pub moves : Planned p
  pub filling : Indexed p.filling
