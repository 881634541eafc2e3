-- `document_tokens::is_attribute` meets its contract: the two tests are those of the owner and the name that are read.
use mathlib.Core.Path.{ap, ap₂, ◌∙◌}
use mathlib.Core.Bool.{Bool, ◌&&◌}
use lib.Dec.{eqb}
use Rattle.rules.specs.Bytes.{same}
use Rattle.document_tokens.proofs.is_attribute.Goals as goal

pub returns : goal.returns
returns c =
    ap₂ (λ (x y : Bool). x && y) (ap (eqb c.args.o) c.attribute_owner.ensures)
    (c.equal.ensures ∙ ap (same c.args.name.now) c.attribute_name.ensures)
