-- `model_form::placed::PlacedEdit::put_edited` meets its contract: the definitions with the owner's new count, the particles and the
-- attributes, laid one after the other, are the form after the edit (`form_laid` of FormWriting); numbers and places
-- are in range by `owner_low`, `own_short`, `table_short`, `counted_short`, `particles_short` and `attrs_short`.
use native.Mathlib.Omega.{arith}
use Rattle.model_form.proofs.FormWriting.{owner_low, own_short, table_short, particles_short, counted_short, attrs_short, form_laid}
use Rattle.model_form.proofs.placed.PlacedEdit.put_edited.Goals as goal

pub own_after-count-requires : goal.own_after-count-requires
own_after-count-requires c =
    owner_low c.args.self.now.fits

pub overflow_cast-count : goal.overflow_cast-count
overflow_cast-count c =
    omega (arith, c.own_after-count.ensures, own_short c.args.self.now.fits c.requires)

pub put_counted-next-requires : goal.put_counted-next-requires
put_counted-next-requires c =
    (omega (arith, owner_low c.args.self.now.fits), omega (arith, table_short c.args.self.now.fits c.definitions_of-table.ensures))

pub put_own-end-requires : goal.put_own-end-requires
put_own-end-requires c = (
  c.requires,
  omega (arith, c.put_counted-next.ensures.next, counted_short c.args.self.now.fits c.own_after-count.ensures c.definitions_of-table.ensures),
)

pub put-requires : goal.put-requires
put-requires c =
    omega (
      arith,
      c.put_counted-next.ensures.next,
      c.put_own-end.ensures.next,
      counted_short c.args.self.now.fits c.own_after-count.ensures c.definitions_of-table.ensures,
      particles_short c.args.self.now.fits c.requires,
      attrs_short c.args.self.now.fits c.attributes_of.ensures,
    )

pub returns : goal.returns
returns c =
    form_laid c.args.self.now.fits c.own_after-count.ensures c.definitions_of-table.ensures c.attributes_of.ensures
    c.put_counted-next.ensures c.put_own-end.ensures c.put.ensures
