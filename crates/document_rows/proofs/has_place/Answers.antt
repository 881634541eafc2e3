-- `document_rows::has_place` meets its contract: a row has at least 0 children (`place_none` of ReaderLaws), and it
-- has at least `child` of them where the serial of number `child - 1`, 0 for none, is not 0 (`place_some`).
use borrow.Author.Tests.{eq-eqb}
use mathlib.Core.Path.{ap, ◌∙◌}
use Rattle.std.specs.Prelude.{ℕ, ◌-◌, Option, map, unwrap_or}
use Rattle.document_rows.specs.Finding.{children_at, serial_in}
use Rattle.document_rows.proofs.ReaderLaws.{place_none, place_some}
use Rattle.document_rows.proofs.RowFacts.{serial_or_none}
use Rattle.document_rows.proofs.has_place.Goals as goal

pub returns-then-child-eq0 : goal.returns-then-child-eq0
returns-then-child-eq0 c = eq-eqb _ 0 c.if-child-eq0.true ∙ place_none _ _ _ c.if-child-eq0.true

pub returns-else-child-eq0 : goal.returns-else-child-eq0
returns-else-child-eq0 c =
    let a = c.args in
    place_some a.store.now a.i a.child c.if-child-eq0.false
    (c.unwrap_or.ensures ∙ ap (λ (o : Option ℕ). unwrap_or o 0) c.nth_at.ensures
    ∙ serial_or_none (a.child - 1) (map serial_in (children_at a.store.now 1 a.i)))
