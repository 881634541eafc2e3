-- `declaration_reading::Declarations::next` meets its contract: a line that is a declaration is cut off with its line
-- feed (`cut`, `rest_is` of LineLaws), and at the first other line no declaration is left (`cut_none`).
use mathlib.Core.Path.{ap}
use native.Mathlib.Omega.{arith}
use lib.ListN.{length}
use Rattle.rules.specs.Bytes.{Bytes}
use Rattle.declaration_reading.proofs.LineLaws.{cut, cut_none, rest_is}
use Rattle.declaration_reading.proofs.DeclarationsIterator.next.Goals as goal

pub returns-then-not-is_declaration-clause-steps : goal.returns-then-not-is_declaration-clause-steps
returns-then-not-is_declaration-clause-steps c =
    cut_none c.args.self.now.0.now c.is_declaration.ensures c.if-not-is_declaration.true

pub returns-clause-steps : goal.returns-clause-steps
returns-clause-steps c =
    let line = c.line_here-line in
    cut c.args.self.now.0.now _ _ c.is_declaration.ensures c.if-not-is_declaration.false line.ensures
    (rest_is _ _ (ap (λ (b : Bytes). length b) line.ensures) c.after-self.ensures)

pub returns-clause-goes : goal.returns-clause-goes
returns-clause-goes c =
    let line = c.line_here-line in
    let piece =
    cut c.args.self.now.0.now _ _ c.is_declaration.ensures c.if-not-is_declaration.false line.ensures
    (rest_is _ _ (ap (λ (b : Bytes). length b) line.ensures) c.after-self.ensures) in
    record { on = λ _. (tt, tt, omega (arith, piece.some, piece.shorter)); keeps = tt; rests = λ _. tt }
