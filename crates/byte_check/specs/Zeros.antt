-- Bytes that are all 0.
use Rattle.std.specs.Prelude.{Bool, eqb}
use Rattle.rules.specs.Bytes.{Bytes, all}

abbrev pub zeros : Bytes → Bool
zeros bs = all (λ x. eqb x 0) bs
