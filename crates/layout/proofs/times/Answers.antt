-- `layout::times` meets its contract: a size below 2^16 and a number below 2^32 have a product below 2^48, so that it
-- is in range (`product` of LayoutLaws).
use native.Mathlib.Omega.{arith}
use Rattle.layout.proofs.LayoutLaws.{product}
use Rattle.layout.proofs.times.Goals as goal

pub overflow_mul-result : goal.overflow_mul-result
overflow_mul-result c = let p = product c.args.size c.args.n c.requires.0 c.requires.1 in record { fits = omega (arith, p.small) }

pub returns : goal.returns
returns c = product c.args.size c.args.n c.requires.0 c.requires.1
