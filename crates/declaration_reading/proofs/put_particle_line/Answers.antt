-- `declaration_reading::put_particle_line` meets its contract: the line of a definition says the particles of its
-- content (`particles_laid` of BodyLaws), which are not too deep and have room (`particles_low`, `particles_small`);
-- any other line says none (`particles_none`).
use Rattle.declaration_scan.specs.Names.{written_names}
use Rattle.declaration_reading.proofs.BodyLaws.{particles_none, particles_low, particles_small, particles_laid}
use Rattle.declaration_reading.proofs.put_particle_line.Goals as goal

pub returns-then-not-starts_with : goal.returns-then-not-starts_with
returns-then-not-starts_with c =
    let a = c.args in
    particles_none a.line.now _ c.starts_with.ensures (written_names a.n a.defs.now) c.if-not-starts_with.true

pub put_content-requires : goal.put_content-requires
put_content-requires c =
    let a = c.args in
    let names = written_names a.n a.defs.now in
    let is = c.if-not-starts_with.false in (
      c.requires.0,
      c.requires.1,
      particles_low a.line.now _ c.starts_with.ensures is _ c.after_declared.ensures names c.requires.2,
      particles_small a.line.now _ c.starts_with.ensures is _ c.after_declared.ensures names _ c.requires.3,
    )

pub returns : goal.returns
returns c =
    let a = c.args in
    particles_laid a.line.now _ c.starts_with.ensures c.if-not-starts_with.false _ c.after_declared.ensures
    (written_names a.n a.defs.now) c.put_content.ensures
