-- The rows right below one element fit its definition when the model
-- accepts more, and when an attribute is added or taken out.
use Prim.Native.Nat.{ℕ}
use mathlib.Core.Path.{◌≡◌, refl, ap, ◌∙◌}
use mathlib.Core.Bool.{true, false, not, false≢true}
use mathlib.Core.Option.{Option, none, some}
use mathlib.Core.List.{List, [], ◌∷◌, ◌++◌, map, Memᴰ}
use Rattle.rules.specs.Bytes.{Bytes, all}
use Rattle.rules.specs.Model.{Distinct}
use Rattle.rules.specs.Store.{Attribute, Definition, Row, heads}
use Rattle.rules.specs.WellFormed.{attribute_name}
use Rattle.rules.specs.Conforming.{must_be_present, strip, fits, fits_stripped, fits_definition}
use Rattle.rules.specs.Filling.{attribute_row}
use Rattle.rules.specs.Lines.{attribute_named}
use Rattle.rules.specs.Change.{with_attributes, lacking, Plan}
use Rattle.rules.proofs.ConformingLaws.{begins_this, strip_take}
use Rattle.rules.proofs.FillingLaws.{created_allows}
use Rattle.change_laws.proofs.RowEdits.{keep, plant_rows}
use Rattle.change_laws.proofs.AttributeEdits.{no_attribute, content_plain, strip_more, strip_added, strip_planted, strip_lacking}

-- what a definition that fits leaves behind its attribute rows
pub record Stripped (version : ℕ) (d : Definition) (rows : List Row) : Type 0 where
  pub rest : List Row
  pub off : strip version d.attributes rows ≡ some rest
  pub content : fits d.content rest ≡ true

pub stripped : (version : ℕ) (d : Definition) (rows : List Row) → fits_definition version (some d) rows ≡ true → Stripped version d rows
stripped version d rows e = by (strip version d.attributes rows) refl e
  where
    by : (o : Option (List Row)) → strip version d.attributes rows ≡ o → fits_stripped d.content o ≡ true → Stripped version d rows
    by none q h = absurd (false≢true h)
    by (some rest) q h = record { rest = rest; off = q; content = h }

-- an attribute added at the end of the table
module _ (version : ℕ) (a : Attribute) (d : Definition) (new : Memᴰ a.name (map attribute_name d.attributes) → ⊥) (rows : List Row) (fit : fits_definition version (some d) rows ≡ true) where
  was : Stripped version d rows
  was = stripped version d rows fit

  plain : all no_attribute was.rest ≡ true
  plain = content_plain d.content was.rest was.content

  pub added_absent : must_be_present version a.sort ≡ false → fits_definition version (some (with_attributes (λ table. table ++ a ∷ []) d)) rows ≡ true
  added_absent m = ap (fits_stripped d.content) (strip_added version a d.attributes rows was.rest m plain was.off) ∙ was.content

  pub added_present : (p : Plan) (u : Row) → ((r : Row) → p.later u r ≡ no_attribute r) → heads p.filling ≡ attribute_row a ∷ []
      → fits_definition version (some (with_attributes (λ table. table ++ a ∷ []) d)) (plant_rows p u true rows) ≡ true
  unfolding strip
  added_present p u later one =
      ap (fits_stripped d.content)
      (strip_more version d.attributes (a ∷ []) (plant_rows p u true rows) (attribute_row a ∷ was.rest)
      (strip_planted version p u later (attribute_row a) one d.attributes rows was.rest new refl plain was.off)
      ∙ strip_take version a [] (attribute_row a) was.rest (begins_this a.name (attribute_row a) was.rest refl refl) (created_allows a.sort a.value))
      ∙ was.content

-- an attribute taken out of the table, and its rows with it
pub definition_lacking : (version : ℕ) (n : Bytes) (d : Definition) → Distinct (map attribute_name d.attributes) → (rows : List Row) → fits_definition version (some d) rows ≡ true
    → fits_definition version (some (with_attributes (lacking n) d)) (keep (λ r. not (attribute_named n r)) rows) ≡ true
definition_lacking version n d once rows e =
    let x : Stripped version d rows = stripped version d rows e in
    ap (fits_stripped d.content) (strip_lacking version n d.attributes rows x.rest once (content_plain d.content x.rest x.content) x.off) ∙ x.content
