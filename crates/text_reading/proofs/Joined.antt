-- Rows joined to the form of a store that passes: by `checks_read` of `store_check` the form's tests stay, and what is
-- left are the tests of the rows.
use Prim.Native.Nat.{◌+◌, ◌≤◌}
use mathlib.Core.Path.{◌≡◌, refl, sym, ap, ◌∙◌, subst}
use mathlib.Core.Bool.{true}
use mathlib.Core.List.{List}
use lib.ListN.{length}
use borrow.Author.Tests.{le-leb}
use Rattle.rules.specs.Bytes.{Bytes}
use Rattle.rules.specs.Preorder.{Deep}
use Rattle.rules.specs.Layout.{value_width, FlatRow, FlatStore, flat}
use Rattle.rules.specs.Decode.{unflat}
use Rattle.rules.specs.Passing.{good, passes}
use Rattle.rules.proofs.BooleanLaws.{Every}
use Rattle.form_check.specs.FormTests.{bodies_fit}
use Rattle.form_check.proofs.Laws.{bodies_only}
use Rattle.form_index.specs.Indices.{Documents}
use Rattle.lookup.specs.Bodies.{bodies_of}
use Rattle.layout.specs.Bodies.{width_of}
use Rattle.store_laws.specs.Stores.{store_in}
use Rattle.store_laws.proofs.StoreLaws.{Holds}
use Rattle.store_laws.proofs.FormBytesLaws.{ceilings_rows}
use Rattle.form_index.specs.Reading.{by_index}
use Rattle.store_check.specs.Reading.{FieldsFit, Agrees, RowFits, serials_of_rows, serials_fit, FlatPasses}
use Rattle.store_check.proofs.FormGood.{good_bodies, good_fields}
use Rattle.store_check.proofs.StoreReads.{checks_read, flat_passes}
use Rattle.store_check.proofs.StoreFacts.{whole}
use Rattle.text_reading.specs.Stages.{with_documents}

-- rows that a form by index takes, each by itself and all together, with serials below the next
pub record RowsJoin (bs : Bytes) (xs : List (Deep FlatRow)) : Type 0 where
  pub fields : Every (λ x. RowFits (width_of bs) x.row) xs
  pub documents : Documents (by_index bs) xs
  pub serials : serials_fit (1 + length xs) (serials_of_rows xs) ≡ true
  pub few : length xs ≤ 4096

module _ (bs : Bytes) (q : passes bs ≡ true) where
  read : Holds bs
  read = (whole bs q).holds

  fields : FieldsFit (value_width (store_in bs).version) (bodies_of bs)
  fields = subst (λ (f : FlatStore). FieldsFit (value_width (store_in bs).version) f) (sym read.bodies) (good_fields (store_in bs) read.good)

  bodies : bodies_fit (bodies_of bs) ≡ true
  bodies = ap bodies_fit read.bodies ∙ good_bodies (store_in bs) read.good

  tests : FlatPasses (bodies_of bs)
  tests = (flat_passes (bodies_of bs)).0 (store_in bs, sym read.bodies, read.good)

  module _ (xs : List (Deep FlatRow)) where
    abbrev pub joined : FlatStore
    joined = with_documents (bodies_of bs) xs

    fields_stay : FieldsFit (value_width joined.version) joined
    unfolding store_in
    fields_stay = record { definitions = fields.definitions; attributes = fields.attributes }

    bodies_stay : bodies_fit joined ≡ true
    bodies_stay = bodies_only joined (bodies_of bs) refl refl refl ∙ bodies

    agrees_stay : Agrees joined.version (by_index bs) (unflat joined).form
    unfolding store_in
    agrees_stay = (whole bs q).agrees

    -- the joined store is read as one that passes and is written as it
    pub joined_good : RowsJoin bs xs → (good (unflat joined) ≡ true) × (flat (unflat joined) ≡ joined)
    unfolding store_in width_of bodies_of
    joined_good j =
        (checks_read joined fields_stay bodies_stay (by_index bs) agrees_stay).1
        (record {
          version = tests.checks.version;
          ceilings = ceilings_rows (bodies_of bs) (bodies_of bs) (1 + length xs) xs tests.checks.ceilings ∙ le-leb (length xs) 4096 j.few;
          circle = tests.checks.circle;
          rows = j.fields;
          documents = j.documents;
          serials = j.serials;
        })

    -- and the rows of one that passes join
    pub good_joined : good (unflat joined) ≡ true → flat (unflat joined) ≡ joined → Documents (by_index bs) xs
    good_joined g e = ((checks_read joined fields_stay bodies_stay (by_index bs) agrees_stay).0 (g, e)).documents
