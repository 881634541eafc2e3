-- `place_marks::marks` meets its contract: the two windows are the first p particles and the next n, and the two calls
-- mark their elements with 1 and then with 2 in 64 zeros, as `marks_at` does (`marks_laid` of WriteLaws).
use Rattle.place_marks.proofs.WriteLaws.{marks_laid}
use Rattle.place_marks.proofs.marks.Goals as goal

pub returns : goal.returns
returns c =
    let a = c.args in
    marks_laid a.n a.p a.part.now c.window.ensures c.mark.ensures c.window-2.ensures c.mark-2.ensures
