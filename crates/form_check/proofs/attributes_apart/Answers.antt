-- `form_check::attributes_apart` meets its contract: no two numbers clash if and only if no two attributes do.
use Rattle.std.proofs.Common.{rules, ℕ, ◌∙◌}
use native.Mathlib.Omega.{arith}
use Rattle.form_check.specs.FormTests.{clashes}
use Rattle.form_check.specs.Bodies.{attribute_record_at, attributes_of}
use Rattle.model_check.proofs.ByNumber.{apart_from}
use Rattle.form_check.proofs.Reading.{attributes_from_lem, attributes_length}
use Rattle.form_check.proofs.Laws.{attributes_apart_lem}
use Rattle.form_check.proofs.attributes_apart.Goals as goal

pub returns : goal.returns
returns c =
    let form = c.args.form.now in
    let w = form.width in
    let n = form.attribute_count in
    let s = form.attributes.now in
    let attribute = λ (i : ℕ). attribute_record_at w i s in
    c.none_clash.ensures (λ i j. clashes (attribute i) (attribute j)) (λ i j r h. search (rules, h))
    ∙ apart_from (attributes_of form) attribute (λ i h. attributes_from_lem w i n s (omega (arith, h, attributes_length w n s))) clashes n 0
    (omega (arith, attributes_length w n s))
    ∙ attributes_apart_lem (attributes_of form)
