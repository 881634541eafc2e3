-- `declaration_printing::put_attributes` meets its contract: the invariant holds at first (`listing_start` of
-- LineLaws), after the line of an attribute of definition o (`listing_this`) and after any other (`listing_other`);
-- past the last all are written (`listing_done`). The places are in range, as each of at most 64 adds at most 3000.
use mathlib.Core.Path.{◌≡◌, sym, ap, ◌∙◌}
use mathlib.Core.List.{List}
use Prim.Native.Nat.{ℕ}
use native.Mathlib.Omega.{arith}
use Rattle.rules.specs.Decode.{read_attribute}
use Rattle.printing_parts.specs.Parts.{attribute_part}
use Rattle.declaration_printing.proofs.LineLaws.{listing_start, listing_this, listing_other, listing_done}
use Rattle.declaration_printing.proofs.put_attributes.Goals as goal

pub loop-i-init : goal.loop-i-init
loop-i-init c = listing_start _ _ _ _ _ _ c.attribute_count-count.ensures.value

pub attribute-requires : goal.attribute-requires
attribute-requires c =
    omega (arith, c.requires.0, c.requires.1, c.requires.2, c.loop-i.invariant.counts, c.loop-i.invariant.small, c.loop-i.invariant.upto)

pub put_attribute_line-at-requires : goal.put_attribute_line-at-requires
put_attribute_line-at-requires c = (
  omega (arith, c.requires.0, c.requires.1, c.requires.2, c.loop-i.invariant.counts, c.loop-i.invariant.small, c.loop-i.invariant.upto),
  omega (arith, c.requires.0, c.requires.1, c.requires.2, c.loop-i.invariant.counts, c.loop-i.invariant.small, c.loop-i.invariant.upto),
  c.requires.2,
  c.requires.0,
)

pub loop-i-preserved : goal.loop-i-preserved
loop-i-preserved c =
    let a = c.args in
    let d : c.attribute_owner.result ≡ (read_attribute (attribute_part a.store.now c.loop-i.i)).owner =
    c.attribute_owner.ensures ∙ ap (λ (b : List ℕ). (read_attribute b).owner) c.attribute.ensures in
    listing_this a.store.now a.owner.now a.o _ c.loop-i.invariant (omega arith) (sym d ∙ c.if-attribute_owner-o.false) c.put_attribute_line-at.ensures

pub loop-i-preserved-then-attribute_owner-o : goal.loop-i-preserved-then-attribute_owner-o
loop-i-preserved-then-attribute_owner-o c =
    let a = c.args in
    let d : c.attribute_owner.result ≡ (read_attribute (attribute_part a.store.now c.loop-i.i)).owner =
    c.attribute_owner.ensures ∙ ap (λ (b : List ℕ). (read_attribute b).owner) c.attribute.ensures in
    listing_other a.store.now a.owner.now a.o _ c.loop-i.invariant (omega arith) (λ e. c.if-attribute_owner-o.true (d ∙ e))

pub returns : goal.returns
returns c =
    let a = c.args in
    listing_done a.store.now a.owner.now a.o _ c.loop-i.invariant (omega arith)
    (omega (arith, c.requires.0, c.requires.1, c.requires.2, c.loop-i.invariant.counts, c.loop-i.invariant.small, c.loop-i.invariant.upto))
