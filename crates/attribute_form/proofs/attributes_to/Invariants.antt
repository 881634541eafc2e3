use Rattle.attribute_form.proofs.CountLaws.{Counting}
use Rattle.attribute_form.proofs.attributes_to.Given as goal

-- sum counts the first i attributes; with those left it makes the count of all
abbrev pub invariant-loop-i : goal.invariant-loop-i
invariant-loop-i l = Counting l.w l.owner l.attrs l.count l.sum l.i
