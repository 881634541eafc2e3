-- `place_lookup::find` meets its contract: a place of more than five numbers leads nowhere (`place_long` of
-- EnteringLaws), and any other where `find_in` finds it from the top list on (`place_short`).
use native.Mathlib.Omega.{arith}
use Rattle.model.proofs.EnteringLaws.{place_long, place_short}
use Rattle.place_lookup.proofs.find.Goals as goal

pub returns-then-place-gt5 : goal.returns-then-place-gt5
returns-then-place-gt5 c =
    place_long _ c.args.place.now _ (omega arith)

pub returns : goal.returns
returns c =
    place_short _ c.args.place.now _ _ (omega arith) c.find_in.ensures
