-- What holds of a byte string that passes.
use mathlib.Core.Path.{◌≡◌, refl, sym, ap, ◌∙◌}
use mathlib.Core.Bool.{true, false≢true}
use mathlib.Core.Option.{Option, none, some}
use Rattle.rules.specs.Bytes.{Bytes}
use Rattle.rules.specs.Store.{Store}
use Rattle.rules.specs.Layout.{value_width, flat, encode}
use Rattle.rules.specs.Decode.{unflat}
use Rattle.rules.specs.WellFormed.{is_there}
use Rattle.rules.specs.Passing.{good, read_store, passes}
use Rattle.rules.proofs.DecodeLaws.{read_good, unflat_flat, good_known, good_found}
use Rattle.layout.specs.Bodies.{width_of}
use Rattle.lookup.specs.Bodies.{bodies_of}
use Rattle.lookup.proofs.Laws.{bodies_flat}
use Rattle.store_laws.specs.Stores.{store_in}

-- the width of what is read off a byte string
pub width_of_bodies : (bs : Bytes) → value_width (bodies_of bs).version ≡ width_of bs
unfolding bodies_of width_of
width_of_bodies bs = refl

-- the store that a passing byte string holds
pub record Holds (bs : Bytes) : Type 0 where
  pub read : read_store bs ≡ some (store_in bs)
  pub good : good (store_in bs) ≡ true
  pub written : encode (store_in bs) ≡ bs
  pub bodies : bodies_of bs ≡ flat (store_in bs)

module _ (bs : Bytes) where
  pub holds : passes bs ≡ true → Holds bs
  unfolding store_in
  holds h = from (read_store bs) refl h
    where
      from : (o : Option Store) → read_store bs ≡ o → is_there o ≡ true → Holds bs
      from none q h = absurd (false≢true h)
      from (some s) q h =
          let (e, g) = read_good bs s q in
          let flat-is : bodies_of bs ≡ flat s = bodies_flat bs s q in
          let same-is : store_in bs ≡ s = ap unflat flat-is ∙ unflat_flat s (good_known s g) (good_found s g) in
          record { read = q ∙ ap some (sym same-is); good = ap good same-is ∙ g; written = ap encode same-is ∙ e; bodies = flat-is ∙ ap flat (sym same-is) }
