-- `document_reading::judge_documents` meets its contract: a form that passes has no more than the table holds
-- (`form_few` of FormLaws).
use Prim.Native.Nat.{ℕ}
use native.Mathlib.Omega.{arith}
use lib.ListN.{length-replicate}
use Rattle.document_reading.proofs.FormLaws.{form_few}
use Rattle.document_reading.proofs.judge_documents.Goals as goal

pub lay_table-requires : goal.lay_table-requires
lay_table-requires c =
    (form_few c.args.form.now c.requires, omega (arith, length-replicate {A = ℕ} 4352 0))
