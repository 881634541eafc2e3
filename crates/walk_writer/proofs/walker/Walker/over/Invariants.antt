use Rattle.rules.specs.Layout.{row_size}
use Rattle.rules.specs.Decode.{read_row, read_many}
use Rattle.row_walk.specs.Walk.{walked, at_first}
use Rattle.walk_writer.specs.Step.{WalkOn}
use Rattle.walk_writer.specs.Going.{fill_by}
use Rattle.walk_writer.proofs.walker.Walker.over.Given as goal

-- once what comes of the rows that are left is written, all is
abbrev pub invariant-loop-m : goal.invariant-loop-m
invariant-loop-m l =
    let w = l.self.form.now.width in
    let plan = l.self.plan.now in
    let text = l.self.text.now in
    let fill = fill_by l.self in
    WalkOn w plan text fill (walked plan text fill (at_first plan) (read_many read_row (row_size w) l.count l.rows)) l.initial.c l.initial.out l.t l.m l.c l.o l.out

abbrev pub decreases-loop-m : goal.decreases-loop-m
decreases-loop-m l = l.m
