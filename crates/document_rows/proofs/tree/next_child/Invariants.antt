use Rattle.std.proofs.Common.{◌≡◌}
use Rattle.lookup.specs.Bodies.{rows_from}
use Rattle.document_rows.specs.Finding.{children}
use Rattle.document_rows.proofs.tree.next_child.Given as goal

-- The loop's invariant: the rows from row i on are all those from row `start` on.
abbrev pub invariant-loop-i : goal.invariant-loop-i
invariant-loop-i l =
    children l.sort l.depth (rows_from l.rows.width l.rows.bytes.now l.rows.count l.i)
    ≡ children l.sort l.depth (rows_from l.rows.width l.rows.bytes.now l.rows.count l.start)
