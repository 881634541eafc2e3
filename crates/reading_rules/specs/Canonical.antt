-- W2: of all stores with one printed text, the one that reading builds. What a text does not show is given by rule.
use Rattle.std.specs.Prelude.{◌+◌, true, false, [], map}
use Rattle.rules.specs.declared.GroupKind.{GroupKind}
use Rattle.rules.specs.declared.GroupKind.TheVariants.{Sequence}
use Rattle.rules.specs.declared.AttributeSort.{AttributeSort}
use Rattle.rules.specs.declared.AttributeSort.TheVariants.{Implied, Required, Fixed}
use Rattle.rules.specs.Bytes.{Bytes, ascii}
use Rattle.rules.specs.Model.{Members, done, el, group}
use Rattle.rules.specs.Edit.{lone}
use Rattle.rules.specs.Store.{Content, empty, pcdata, complex, Attribute, Definition, Row, Forest, Store}
use Rattle.rules.specs.Change.{each_row, new_rows, number}

-- 'a one-member group read as LIST'
abbrev pub canonical_kind : GroupKind → Members Bytes → GroupKind
canonical_kind k ms = elim (lone ms) [ true ↦ Sequence | false ↦ k ]

unfoldable pub canonical_members : Members Bytes → Members Bytes
canonical_members done = done
canonical_members (el q n rest) = el q n (canonical_members rest)
canonical_members (group q k ms rest) = group q (canonical_kind k ms) (canonical_members ms) (canonical_members rest)

-- 'an empty COMPLEX read as EMPTY'
abbrev pub canonical_model : Members Bytes → Content
canonical_model done = empty
canonical_model (el q n rest) = complex (canonical_members (el q n rest))
canonical_model (group q k ms rest) = complex (canonical_members (group q k ms rest))

abbrev pub canonical_content : Content → Content
canonical_content empty = empty
canonical_content pcdata = pcdata
canonical_content (complex ms) = canonical_model ms

-- 'fill `-` for REQUIRED'
abbrev pub canonical_fill : AttributeSort → Bytes → Bytes
canonical_fill Implied v = []
canonical_fill Required v = ascii "-"
canonical_fill Fixed v = v

abbrev pub canonical_attribute : Attribute → Attribute
canonical_attribute a = record { name = a.name; sort = a.sort; value = canonical_fill a.sort a.value }

abbrev pub canonical_definition : Definition → Definition
canonical_definition d = record { name = d.name; content = canonical_content d.content; attributes = map canonical_attribute d.attributes }

-- rows without serials
abbrev pub unnumbered : Forest Row → Forest Row
unnumbered docs = each_row (λ (r : Row). record { serial = 0; sort = r.sort; name = r.name; value = r.value }) docs

-- 'serials from 1 in document order, the next serial one more than the number of rows'
unfoldable pub canonical : Store → Store
canonical s =
    record {
      version = s.version;
      next = 1 + new_rows (unnumbered s.docs);
      form = map canonical_definition s.form;
      docs = number 1 (unnumbered s.docs);
    }
