-- `declaration_printing::put_default` meets its contract: in each case of the sort its default is written
-- (`default_implied`, `default_required`, `default_fixed` of LineLaws), and the places are in range since a fixed value
-- has at most 255 bytes (`default_short` of LineLaws) and escaped at most six times as many (`escape_length` of
-- escaping's Laws).
use mathlib.Core.Path.{ap, ◌∙◌}
use native.Mathlib.Omega.{arith}
use Rattle.rules.specs.Decode.{sort_of}
use Rattle.declaration_printing.proofs.LineLaws.{default_implied, default_required, default_fixed, default_short}
use Rattle.escaping.proofs.Laws.{escape_length}
use Rattle.declaration_printing.proofs.put_default.Goals as goal

pub put_escaped-valued-requires : goal.put_escaped-valued-requires
put_escaped-valued-requires c =
    let a = c.args in
    omega (
      arith,
      default_short a.store.now a.i _ c.attribute-bytes.ensures _ (c.from.ensures ∙ ap sort_of c.attribute_sort.ensures) _ c.attribute_value-value.ensures,
      c.put-quoted.ensures.next,
      c.requires.1,
    )

pub put_u8-requires : goal.put_u8-requires
put_u8-requires c =
    let a = c.args in
    omega (
      arith,
      default_short a.store.now a.i _ c.attribute-bytes.ensures _ (c.from.ensures ∙ ap sort_of c.attribute_sort.ensures) _ c.attribute_value-value.ensures,
      escape_length c.attribute_value-value.result.now,
      c.put_escaped-valued.ensures.next,
      c.put-quoted.ensures.next,
      c.requires.1,
    )

pub returns-in-Implied : goal.returns-in-Implied
returns-in-Implied c =
    let a = c.args in
    default_implied a.store.now a.i _ c.attribute-bytes.ensures _ (c.from.ensures ∙ ap sort_of c.attribute_sort.ensures) c.in-Implied.is c.put.ensures

pub returns-in-Required : goal.returns-in-Required
returns-in-Required c =
    let a = c.args in
    default_required a.store.now a.i _ c.attribute-bytes.ensures _ (c.from.ensures ∙ ap sort_of c.attribute_sort.ensures) c.in-Required.is c.put-in-Required.ensures

pub returns-in-Fixed : goal.returns-in-Fixed
returns-in-Fixed c =
    let a = c.args in
    default_fixed a.store.now a.i _ c.attribute-bytes.ensures _ (c.from.ensures ∙ ap sort_of c.attribute_sort.ensures) _ c.in-Fixed.is
    c.attribute_value-value.ensures c.put-quoted.ensures c.put_escaped-valued.ensures c.put_u8.ensures
