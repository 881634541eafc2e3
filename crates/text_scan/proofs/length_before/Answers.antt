-- `text_scan::length_before` meets its contract: the front is as long as the place of the first `stop` (`front_first`
-- of LoopLaws).
use Prim.Native.Nat.{ℕ}
use mathlib.Core.Bool.{true, false, not}
use mathlib.Core.Path.{◌≡◌, sym, ◌∙◌}
use borrow.Author.Tests.{tests}
use borrow.Author.Rules.{rules}
use lib.Dec.{eqb}
use Rattle.std.proofs.lemmas.Iterator.{YieldsList-from_slice, IsFirst-from_position}
use Rattle.text_scan.proofs.LoopLaws.{front_first}
use Rattle.text_scan.proofs.length_before.Goals as goal

pub returns : goal.returns
returns c =
    c.unwrap_or.ensures
    ∙ sym
    (front_first (λ (x : ℕ). not (eqb x c.args.stop)) c.args.text.now _
    (IsFirst-from_position _ _ _ (λ x. not (eqb x c.args.stop) ≡ false) (λ x. not (eqb x c.args.stop) ≡ true) c.position.ensures.ran
    (YieldsList-from_slice c.args.text.now (cc)) (λ x q k. search (rules, tests)) (λ x q k. search (rules, tests))))
