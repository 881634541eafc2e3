-- `records::name_fits` meets its contract: past the end there is no name (`name_past` of CodeLaws); else the bytes read
-- are those used after the length, so the two tests are `name_fits` (`name_fits_of`).
use mathlib.Core.Path.{sym, ◌∙◌}
use Rattle.records.proofs.CodeLaws.{name_past, name_fits_of}
use Rattle.records.proofs.name_fits.Goals as goal

pub returns-then-rec-at : goal.returns-then-rec-at
returns-then-rec-at c =
    sym (name_past c.args.rec.now c.args.at c.if-rec-at.true)

pub returns : goal.returns
returns c =
    let a = c.args in
    name_fits_of a.rec.now a.at _ _ _ (c.wide-used.ensures ∙ c.byte.ensures) c.after.ensures c.first.ensures
    c.stored_name.ensures c.filled.ensures
