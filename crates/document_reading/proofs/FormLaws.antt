-- What a form that passes has within the ceilings.
use native.Mathlib.Omega.{arith}
use mathlib.Core.Path.{◌≡◌, ap}
use mathlib.Core.Bool.{true}
use lib.ListN.{length}
use Rattle.rules.specs.Bytes.{Bytes}
use Rattle.rules.specs.Passing.{passes}
use Rattle.rules.proofs.LayoutLaws.{length_flat_bytes}
use Rattle.layout.specs.Bodies.{width_of}
use Rattle.lookup.specs.Bodies.{bodies_of}
use Rattle.row_check.specs.Walking.{FewIn}
use Rattle.store_laws.proofs.FormBytesLaws.{whole}
use Rattle.store_laws.proofs.FormLaws.{counted_definitions}
use Rattle.store_check.proofs.StoreFacts as facts
use Rattle.document_tokens.specs.Telling.{FormRoom}

module _ (bs : Bytes) (q : passes bs ≡ true) where
  -- what the reader of documents asks of it
  pub form_room : FormRoom bs
  form_room =
      record {
        definitions_few = (facts.whole bs q).few_definitions;
        attributes_few = (facts.whole bs q).few_attributes;
        definitions_there = omega (arith, counted_definitions bs, ap length (whole (facts.whole bs q).holds), length_flat_bytes (width_of bs) (bodies_of bs));
      }

  -- what the walk asks
  pub form_few : FewIn bs
  form_few = record { definitions = (facts.whole bs q).few_definitions; attributes = (facts.whole bs q).few_attributes }
