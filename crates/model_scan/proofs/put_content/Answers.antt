-- `model_scan::put_content` meets its contract: of content with a model its particles are written (`content_laid` of
-- ContentLaws), of any other none (`content_empty`). What is asked of the particles of the content is what `put_model`
-- asks of those of the model (`content_low`, `content_small`).
use Rattle.declaration_scan.specs.Names.{written_names}
use Rattle.model_scan.proofs.ContentLaws.{is_model, no_model, content_low, content_small, content_laid, content_empty}
use Rattle.model_scan.proofs.put_content.Goals as goal

pub put_model-requires : goal.put_model-requires
put_model-requires c =
    let a = c.args in
    let names = written_names a.n a.defs.now in
    let kind = c.declared_kind.ensures in (
      c.requires.0,
      c.requires.1,
      content_low a.content.now _ kind names _ (is_model _ c.eq.ensures c.if-eq.true) c.after.ensures c.requires.2,
      content_small a.content.now _ kind names _ _ _ (is_model _ c.eq.ensures c.if-eq.true) c.after.ensures c.requires.3,
    )

pub returns-then-eq : goal.returns-then-eq
returns-then-eq c =
    let a = c.args in
    content_laid a.content.now _ c.declared_kind.ensures (written_names a.n a.defs.now) (is_model _ c.eq.ensures c.if-eq.true) c.after.ensures
    c.put_model.ensures

pub returns : goal.returns
returns c =
    let a = c.args in
    content_empty a.content.now _ c.declared_kind.ensures (written_names a.n a.defs.now) (no_model _ c.eq.ensures c.if-eq.false)
