-- `records::given_name` meets its contract: what `stored_name` and `is_reserved` answer are the two tests of
-- `given_name`.
use mathlib.Core.Path.{ap₂}
use mathlib.Core.Bool.{Bool, ◌&&◌, not}
use Rattle.records.proofs.given_name.Goals as goal

pub returns : goal.returns
returns c = ap₂ (λ (x y : Bool). x && not y) c.stored_name.ensures c.is_reserved-reserved.ensures
