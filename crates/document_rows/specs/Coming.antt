-- The rows that an iterator over those right below one has yet to give.
use Rattle.std.specs.Prelude.{List}
use Rattle.rules.specs.Layout.{FlatRow}
use Rattle.lookup.specs.Bodies.{rows_from}
use Rattle.document_rows.specs.Finding.{children}
use Rattle.document_rows.specs.declared.tree.Children.{Children}

abbrev pub coming : Children → List FlatRow
coming c = children c.sort c.depth (rows_from c.rows.width c.rows.bytes.now c.rows.count c.at)
