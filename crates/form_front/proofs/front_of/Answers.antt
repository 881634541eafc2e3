-- `form_front::front_of` meets its contract: where the text has no room the store is no front (`front_long` of
-- FrontLaws); else what `print_store` wrote is the text, and `starts_with` compares it (`front_tested`). A store that
-- passes has what `print_store` requires (`within_counts`).
use native.Mathlib.Omega.{arith}
use native.Mathlib.Numerals.{unary_clauses}
use Prim.Native.Nat.{ℕ}
use mathlib.Core.Logic.{inl, inr}
use lib.ListN.{length-replicate}
use Rattle.printing.proofs.FormLaws.{within_counts}
use Rattle.form_front.proofs.FrontLaws.{front_long, front_tested, front_room}
use Rattle.form_front.proofs.front_of.Goals as goal

pub print_store-length-requires : goal.print_store-length-requires
print_store-length-requires c =
    within_counts c.args.form.now c.requires

pub returns-in_err-front : goal.returns-in_err-front
returns-in_err-front c =
    let room = front_room c.args.form.now c.print_store-length.ensures (length-replicate {A = ℕ} 24576 0) in
    rw c.from_residual.ensures
    (elim c.in_err-front.ensures.lookup.0 [
      | inl h ↦ absurd (omega arith)
      | inr h ↦ front_long c.args.form.now c.args.text.now c.print_store-length.ensures (omega (arith, room))
    ])

pub returns : goal.returns
returns c =
    let room = front_room c.args.form.now c.print_store-length.ensures (length-replicate {A = ℕ} 24576 0) in
    let whole = c.in_ok-front.ensures.lookup.0 in
    front_tested c.args.form.now c.args.text.now c.print_store-length.ensures (omega (arith, whole.1, room)) (length-replicate {A = ℕ} 24576 0)
    (simp unary_clauses at whole.2) c.starts_with.ensures c.then_some.ensures
