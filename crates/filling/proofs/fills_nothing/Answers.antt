-- `filling::fills_nothing` meets its contract: a sequence fills as its members do, so that no test is needed
-- (`filled_list` of FillingLaws), and a choice fills with nothing where it accepts nothing (`filled_choice`).
use mathlib.Core.Path.{ap, sym, ◌∙◌}
use mathlib.Core.Bool.{Bool}
use Rattle.rules.specs.Model.{unless, filling}
use Rattle.model.specs.Members.{members_from}
use Rattle.filling.proofs.FillingLaws.{filled_list, filled_choice, kind_choice, kind_list}
use Rattle.filling.proofs.fills_nothing.Goals as goal

pub returns-then-eq : goal.returns-then-eq
returns-then-eq c =
    let a = c.args in
    filled_choice a.kind (members_from a.d a.s.now) (kind_choice a.kind c.if-eq.ensures) c.accepts_nothing.ensures

pub returns-else-eq : goal.returns-else-eq
returns-else-eq c =
    let a = c.args in
    filled_list a.kind (members_from a.d a.s.now) (kind_list a.kind c.if-eq.ensures) ∙ ap (λ (b : Bool). unless b (filling a.kind (members_from a.d a.s.now))) (sym c.if-eq.false)
