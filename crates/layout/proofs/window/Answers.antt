-- `layout::window` meets its contract: the case split is on where s ends: before `at` (`window_past` of LayoutLaws),
-- less than n bytes after it (`window_short`), or later, so that all n bytes are there (`window_whole`).
use native.Mathlib.Omega.{arith}
use Rattle.layout.proofs.LayoutLaws.{window_past, window_short, window_whole}
use Rattle.layout.proofs.window.Goals as goal

pub returns-then-s-at : goal.returns-then-s-at
returns-then-s-at c =
    let a = c.args in
    window_past a.s.now a.at a.n (omega arith)

pub returns-then-s-at-2 : goal.returns-then-s-at-2
returns-then-s-at-2 c =
    let a = c.args in
    window_short a.s.now a.at a.n (omega arith)

pub returns : goal.returns
returns c =
    let a = c.args in
    window_whole a.s.now a.at a.n
