-- `declaration_printing::put_attribute_line` meets its contract: what the seven writers lay one after the other is the
-- line of the attribute, in at most 3000 bytes (`attribute_line_lem` of LineLaws).
use native.Mathlib.Omega.{arith}
use Rattle.declaration_printing.proofs.LineLaws.{attribute_line_lem}
use Rattle.declaration_printing.proofs.put_attribute_line.Goals as goal

pub put_default-valued-requires : goal.put_default-valued-requires
put_default-valued-requires c = (
  omega (arith, c.requires.0, c.requires.3),
  omega (
    arith,
    c.requires.0,
    c.requires.1,
    c.requires.2,
    c.attribute_name_of.ensures.short,
    c.put-signed.ensures.next,
    c.put-owned.ensures.next,
    c.put_u8-spaced.ensures.next,
    c.put-named.ensures.next,
    c.put-typed.ensures.next,
  ),
)

pub put-requires : goal.put-requires
put-requires c =
    omega (
      arith,
      c.requires.0,
      c.requires.1,
      c.requires.2,
      c.attribute_name_of.ensures.short,
      c.put-signed.ensures.next,
      c.put-owned.ensures.next,
      c.put_u8-spaced.ensures.next,
      c.put-named.ensures.next,
      c.put-typed.ensures.next,
      c.put_default-valued.ensures.small,
    )

pub returns : goal.returns
returns c =
    let a = c.args in
    attribute_line_lem a.store.now a.i a.owner.now _ c.requires.0 c.requires.2 c.attribute_name_of.ensures
    c.put-signed.ensures c.put-owned.ensures c.put_u8-spaced.ensures c.put-named.ensures c.put-typed.ensures
    c.put_default-valued.ensures c.put.ensures
