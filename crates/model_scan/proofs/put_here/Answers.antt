-- `model_scan::put_here` meets its contract: where no particle begins nothing is written (`starting_none` of PutLaws),
-- else a group or an element (`starting_group`, `starting_element`). The one that begins is not too deep, so that its
-- depth fits a byte (`starting_low`).
use Rattle.declaration_scan.specs.Names.{written_names}
use Rattle.model_scan.proofs.PutLaws.{starting_none, starting_low, starting_group, starting_element}
use native.Mathlib.Omega.{arith}
use Rattle.model_scan.proofs.put_here.Goals as goal

pub returns-then-not-starts_here : goal.returns-then-not-starts_here
returns-then-not-starts_here c =
    let a = c.args in
    starting_none (written_names a.n a.defs.now) a.depth a.inside a.text.now _ c.byte-x.ensures _ c.starts_here.ensures
    c.if-not-starts_here.true

pub overflow_cast-depth : goal.overflow_cast-depth
overflow_cast-depth c =
    let a = c.args in
    let low =
    starting_low (written_names a.n a.defs.now) a.depth a.inside a.text.now _ c.byte-x.ensures _ c.starts_here.ensures
    c.if-not-starts_here.false c.requires.3 in
    omega (arith, low)

pub returns-then-x-eq40 : goal.returns-then-x-eq40
returns-then-x-eq40 c =
    let a = c.args in
    starting_group (written_names a.n a.defs.now) a.depth a.inside a.text.now _ c.byte-x.ensures _ c.starts_here.ensures
    c.if-not-starts_here.false c.if-x-eq40.true c.after.ensures c.put_group.ensures

pub overflow_cast-depth-2 : goal.overflow_cast-depth-2
overflow_cast-depth-2 c =
    let a = c.args in
    let low =
    starting_low (written_names a.n a.defs.now) a.depth a.inside a.text.now _ c.byte-x.ensures _ c.starts_here.ensures
    c.if-not-starts_here.false c.requires.3 in
    omega (arith, low)

pub returns : goal.returns
returns c =
    let a = c.args in
    starting_element (written_names a.n a.defs.now) a.depth a.inside a.text.now _ c.byte-x.ensures _ c.starts_here.ensures
    c.if-not-starts_here.false c.if-x-eq40.false c.requires.2 c.put_element.ensures
