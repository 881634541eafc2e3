-- `records::stored_name` meets its contract: no bytes are no name (`name_none` of CodeLaws); else the three tests are
-- those of `stored_name` (`name_of_lem`).
use mathlib.Core.Path.{sym}
use Rattle.records.proofs.CodeLaws.{name_none, name_of_lem}
use Rattle.records.proofs.stored_name.Goals as goal

pub returns-then-s-eq0 : goal.returns-then-s-eq0
returns-then-s-eq0 c =
    sym (name_none c.args.s.now c.if-s-eq0.true)

pub returns : goal.returns
returns c =
    name_of_lem c.args.s.now _ c.if-s-eq0.false c.starts_name.ensures c.after.ensures c.all_in_name.ensures
