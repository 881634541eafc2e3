-- `document_printing::put_attribute` meets its contract: the five texts that are laid one after the other are
-- `attribute_text` (`laid_then` of Writers), and an escaped value is at most six times as long (`escape_length` of
-- escaping's Laws), so that the last byte's place is in range.
use native.Mathlib.Omega.{arith}
use Rattle.codec.proofs.Writers.{laid_none, laid_then}
use Rattle.escaping.proofs.Laws.{escape_length}
use Rattle.document_printing.proofs.put_attribute.Goals as goal

pub put_escaped-valued-requires : goal.put_escaped-valued-requires
put_escaped-valued-requires c =
    omega (arith, c.put-quoted.ensures.next, c.put-named.ensures.next, c.put_u8-spaced.ensures.next, c.requires.0, c.requires.1, c.requires.2)

pub put_u8-requires : goal.put_u8-requires
put_u8-requires c =
    omega (
      arith,
      escape_length c.args.value.now,
      c.put_escaped-valued.ensures.next,
      c.put-quoted.ensures.next,
      c.put-named.ensures.next,
      c.put_u8-spaced.ensures.next,
      c.requires.0,
      c.requires.1,
      c.requires.2,
    )

pub returns : goal.returns
returns c =
    laid_then c.put_u8-spaced.ensures
    (laid_then c.put-named.ensures
    (laid_then c.put-quoted.ensures (laid_then c.put_escaped-valued.ensures (laid_then c.put_u8.ensures laid_none))))
