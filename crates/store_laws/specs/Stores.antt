-- The store that a byte string is read as.
use Rattle.rules.specs.Bytes.{Bytes}
use Rattle.rules.specs.Store.{Store}
use Rattle.rules.specs.Decode.{unflat}
use Rattle.lookup.specs.Bodies.{bodies_of}

-- the store that a byte string is read as, whether it passes or not
unfoldable pub store_in : Bytes → Store
store_in bs = unflat (bodies_of bs)
