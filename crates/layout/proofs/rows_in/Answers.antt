use Rattle.std.proofs.Common.{ap, ◌∙◌}
use Rattle.layout.specs.Bodies.{shape_of, row_body}
use Rattle.layout.proofs.rows_in.Goals as goal

pub returns : goal.returns
unfolding shape_of
returns c =
    let is = c.shape_of-s.ensures.is in
    record {
      width = ap (λ s. s.width) is;
      bytes = c.row_body.ensures ∙ ap (λ s. row_body s c.args.store.now) is;
      count = ap (λ s. s.rows) is;
    }
