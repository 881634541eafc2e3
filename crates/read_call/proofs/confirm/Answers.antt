-- `read_call::confirm` meets its contract: a form that does not pass is not confirmed (`confirm_bad` of CallLaws), one
-- that passes is if it is the front of the text (`confirm_front`).
use mathlib.Core.Bool.{not}
use mathlib.Core.Path.{sym, ◌∙◌, ap}
use Rattle.read_call.proofs.CallLaws.{confirm_bad, confirm_front}
use Rattle.read_call.proofs.confirm.Goals as goal

pub returns-then-not-passes_bare : goal.returns-then-not-passes_bare
returns-then-not-passes_bare c =
    confirm_bad c.args.form.now c.args.text.now (ap not c.if-not-passes_bare.true) c.passes_bare.ensures

pub front_of-requires : goal.front_of-requires
front_of-requires c = sym c.passes_bare.ensures ∙ c.if-not-passes_bare.false

pub returns : goal.returns
returns c =
    confirm_front c.args.form.now c.args.text.now (ap not c.if-not-passes_bare.false) c.passes_bare.ensures c.front_of.ensures
