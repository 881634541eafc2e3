-- `form_check::definitions_apart` meets its contract: no two numbers clash if and only if no two definitions do.
use Rattle.std.proofs.Common.{rules, ℕ, ◌∙◌}
use native.Mathlib.Omega.{arith}
use Rattle.form_check.specs.Bodies.{definition_record_at, definitions_of, same_name}
use Rattle.model_check.proofs.ByNumber.{apart_from}
use Rattle.form_check.proofs.Reading.{definitions_from_lem, definitions_length}
use Rattle.form_check.proofs.Laws.{definitions_apart_lem}
use Rattle.form_check.proofs.definitions_apart.Goals as goal

pub returns : goal.returns
returns c =
    let form = c.args.form.now in
    let n = form.definition_count in
    let s = form.definitions.now in
    let definition = λ (i : ℕ). definition_record_at i s in
    c.none_clash.ensures (λ i j. same_name (definition i) (definition j)) (λ i j r h. search (rules, h))
    ∙ apart_from (definitions_of form) definition (λ i h. definitions_from_lem i n s (omega (arith, h, definitions_length n s))) same_name n 0
    (omega (arith, definitions_length n s))
    ∙ definitions_apart_lem (definitions_of form)
