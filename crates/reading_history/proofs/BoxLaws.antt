-- DEMAND 3 OF A BOX WHOSE FIRST CALL WAS read_text. Where the call keeps its promise and hands back 0, it has written
-- the store of the start that the rules for the text give; from there the law of the calls goes on.
use Prim.Native.Nat.{ℕ, zero, suc}
use native.Mathlib.Omega.{arith}
use mathlib.Core.Path.{◌≡◌, refl, sym, ap, ap₂, ◌∙◌, subst}
use mathlib.Core.Logic.{inl, inr, ◌↔◌}
use mathlib.Core.List.{List}
use lib.ListN.{length, take, drop}
use lib.Seq.{take-append_seam}
use Rattle.rules.specs.Bytes.{Bytes}
use Rattle.rules.specs.Store.{Store}
use Rattle.rules.specs.Layout.{encode}
use Rattle.rules.specs.Outcome.{Outcome, refused, wrote, unless_refused, number_of, Answers}
use Rattle.rules.specs.Print.{too_long}
use Rattle.rules.specs.Run.{Asked, Moment}
use Rattle.history.specs.History.{moment_of}
use Rattle.history.specs.Calls.{Made, Promised, history_of}
use Rattle.history.proofs.CallLaws.{demand_3_of_the_box_from}
use Rattle.reading_rules.specs.Canonical.{canonical}
use Rattle.reading_rules.specs.Reading.{Prints, ReadsText, ReadPromise, read_outcome}
use Rattle.reading_rules.proofs.Theorem.{reads_is}
use Rattle.reading_history.specs.ReadStart.{ReadStart}
use Rattle.reading_history.specs.ReadBox.{MadeReading, ReadingPromised, store_read, OfTheReading}
use Rattle.reading_history.proofs.StartLaws.{start_of, read_start_good, demand_3_of_reading}

-- the promise, by the computed answer
pub promise_is : (version : ℕ) (txt out : Bytes) (number len : ℕ) (left : Bytes)
    → ReadPromise version txt out number len left ↔ Answers (read_outcome version txt (length out)) out number len left
promise_is version txt out number len left = (
  λ (o, x, a). subst (λ (z : Outcome). Answers z out number len left) ((reads_is version txt (length out) o).0 x) a,
  λ a. (read_outcome version txt (length out), (reads_is version txt (length out) (read_outcome version txt (length out))).1 refl, a),
)

-- number 0: the store that reading builds is written
written : (version : ℕ) (txt : Bytes) (room : ℕ) (o : Outcome) → ReadsText version txt room o → number_of o ≡ 0
    → (s : Store) × Prints version s txt × (o ≡ wrote (encode (canonical s)))
written version txt room o (inl (s, p, e)) z = (s, p, e ∙ by (too_long room w) (ap number_of (sym e) ∙ z))
  where
    w : Bytes
    w = encode (canonical s)

    by : (n : ℕ) → number_of (unless_refused n w) ≡ 0 → unless_refused n w ≡ wrote w
    by zero y = refl
    by (suc n) y = absurd (let f : ⊥ = omega arith in f)
written version txt room o (inr (n, e)) z = absurd (let y : 19 ≡ 0 = ap number_of (sym e) ∙ z in let f : ⊥ = omega arith in f)

store_written_lem : (w out : Bytes) (number len : ℕ) (left : Bytes) → Answers (wrote w) out number len left → take len left ≡ w
store_written_lem w out number len left a = ap₂ (λ (n : ℕ) (l : Bytes). take n l) a.length_is a.buffer_is ∙ take-append_seam w (drop (length w) out)

-- the reading starts a history, and the calls after it go on
pub demand_3_of_the_reading : (version : ℕ) (r : MadeReading) → ReadingPromised version r → r.number ≡ 0
    → (ms : List Made) → Promised ms (store_read r) → (later : List Asked) → OfTheReading version r ms later
demand_3_of_the_reading version r (o, x, a) z ms p later =
    let (s, q, e) = written version r.text (length r.out) o x (sym a.number_is ∙ z) in
    let from : Moment = moment_of (canonical s) in
    let begins : ReadStart version r.text from = start_of version r.text s q in
    let store : store_read r ≡ from.store =
    store_written_lem (encode (canonical s)) r.out r.number r.len r.left (subst (λ (o' : Outcome). Answers o' r.out r.number r.len r.left) e a) in
    record {
      from = from;
      store = store;
      box = demand_3_of_the_box_from from (read_start_good begins) ms (subst (Promised ms) store p) later;
      demand = demand_3_of_reading begins (history_of ms) later;
    }

-- another number starts none: the buffer is as it was
pub reading_refused : (version : ℕ) (r : MadeReading) → ReadingPromised version r → (r.number ≡ 0 → ⊥) → (r.len ≡ 0) × (r.left ≡ r.out)
reading_refused version r (o, x, a) z = by o a
  where
    by : (o : Outcome) → Answers o r.out r.number r.len r.left → (r.len ≡ 0) × (r.left ≡ r.out)
    by (refused n) a = (a.length_is, a.buffer_is)
    by (wrote w) a = absurd (z a.number_is)
