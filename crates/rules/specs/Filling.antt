-- 'Filling': the rows that a change makes for a definition, without serials.
use Rattle.std.specs.Prelude.{ℕ, zero, suc, true, false, List, [], ◌∷◌, length}
use Rattle.std.proofs.Math.Option.{none, some}
use Rattle.rules.specs.declared.GroupKind.TheVariants.{Sequence}
use Rattle.rules.specs.declared.AttributeSort.{AttributeSort}
use Rattle.rules.specs.Bytes.{Bytes}
use Rattle.rules.specs.Model.{filling}
use Rattle.rules.specs.Store.{Content, empty, pcdata, complex, Attribute, Form, element, attribute, text, Row, Forest, bare, tree, ◌⧺◌}
use Rattle.rules.specs.WellFormed.{lookup}
use Rattle.rules.specs.Conforming.{must_be_present}

-- the value of a created row, of an attribute of this sort with this fill
abbrev pub created_value : AttributeSort → Bytes → Bytes
created_value sort fill = fill

abbrev pub attribute_row : Attribute → Row
attribute_row a = record { serial = 0; sort = attribute; name = a.name; value = created_value a.sort a.value }

-- 'its REQUIRED attributes with their fills'
unfoldable pub fill_attributes : ℕ → List Attribute → Forest Row → Forest Row
fill_attributes version [] content = content
fill_attributes version (a ∷ table) content =
    elim (must_be_present version a.sort) [
      | true ↦ tree (attribute_row a) bare (fill_attributes version table content)
      | false ↦ fill_attributes version table content
    ]

-- fillings one after the other; `fill` is that of a definition
unfoldable pub fill_each : (Bytes → Forest Row) → List Bytes → Forest Row
fill_each fill [] = bare
fill_each fill (n ∷ ns) = fill n ⧺ fill_each fill ns

-- 'then (PCDATA) a text row with the call's text, or (COMPLEX) the filling of the top list'
unfoldable pub fill_content : (Bytes → Forest Row) → Bytes → Content → Forest Row
fill_content fill txt empty = bare
fill_content fill txt pcdata = tree (record { serial = 0; sort = text; name = []; value = txt }) bare bare
fill_content fill txt (complex ms) = fill_each fill (filling Sequence ms)

abbrev pub element_row : Bytes → Row
element_row n = record { serial = 0; sort = element; name = n; value = [] }

-- the filling of a definition of at most this height, in a store of this version
unfoldable pub fill_within : ℕ → ℕ → Form → Bytes → Bytes → Forest Row
fill_within version zero form txt n = bare
fill_within version (suc h) form txt n =
    elim (lookup n form) [
      | none ↦ bare
      | some d ↦ tree (element_row n) (fill_attributes version d.attributes (fill_content (λ m. fill_within version h form txt m) txt d.content)) bare
    ]

-- no definition is higher than the form has definitions
abbrev pub fill_definition : ℕ → Form → Bytes → Bytes → Forest Row
fill_definition version form txt n = fill_within version (length form) form txt n
