-- What the check and the look-up answer, by whether the store passes.
use Prim.Native.Nat.{ℕ}
use mathlib.Core.Path.{◌≡◌, refl, sym, ap, ◌∙◌}
use mathlib.Core.Bool.{Bool, true, false, not, false≢true}
use mathlib.Core.Option.{Option, none, some}
use mathlib.Core.List.{[]}
use Rattle.rules.specs.Bytes.{Bytes}
use Rattle.rules.specs.Store.{Store}
use Rattle.rules.specs.WellFormed.{is_there}
use Rattle.rules.specs.Passing.{read_store, passes}
use Rattle.rules.specs.LookUp.{not_found, look_up_in, look_up}
use Rattle.lookup.specs.Finding.{found_on, Looks, Hands}
use Rattle.lookup.proofs.Laws.{look_up_is}
use Rattle.look_up_calls.specs.Calls.{check_answer}
use borrow.Author.Tests.{not-true, not-false}

-- `r` is what the check said, and `taken` or `left` which way the code went
pub check_yes : (bs : Bytes) {r : Bool} → r ≡ true → r ≡ passes bs → 0 ≡ check_answer (passes bs)
check_yes bs taken e = ap check_answer (sym taken ∙ e)

pub check_no : (bs : Bytes) {r : Bool} → r ≡ false → r ≡ passes bs → 1 ≡ check_answer (passes bs)
check_no bs left e = ap check_answer (sym left ∙ e)

look_bad : (bs : Bytes) (k : ℕ) → passes bs ≡ false → look_up bs k ≡ not_found 1
unfolding look_up
look_bad bs k e = by (read_store bs) refl
  where
    by : (o : Option Store) → read_store bs ≡ o → look_up bs k ≡ not_found 1
    by none q = ap (look_up_in k) q
    by (some s) q = absurd (false≢true (sym e ∙ ap is_there q))

look_good : (bs : Bytes) (k : ℕ) → passes bs ≡ true → look_up bs k ≡ found_on bs k
look_good bs k e = by (read_store bs) refl
  where
    by : (o : Option Store) → read_store bs ≡ o → look_up bs k ≡ found_on bs k
    by none q = absurd (false≢true (sym (ap is_there q) ∙ e))
    by (some s) q = look_up_is bs s k q

-- ---- the look-up
pub hands_bad : (bs : Bytes) (k : ℕ) {r : Bool} → not r ≡ true → r ≡ passes bs → Hands (look_up bs k) bs [] 1
hands_bad bs k taken e = rw (look_bad bs k (sym e ∙ not-true _ taken)) (record { part_is = refl; number_is = refl })

pub hands_good : (bs : Bytes) (k : ℕ) {r : Bool} {part : Bytes} {number : ℕ} → not r ≡ false → r ≡ passes bs → Hands (found_on bs k) bs part number → Hands (look_up bs k) bs part number
hands_good bs k left e h = rw (look_good bs k (sym e ∙ not-false _ left)) h

pub looks_bad : (bs : Bytes) (k : ℕ) {r : Bool} → not r ≡ true → r ≡ passes bs → Looks (look_up bs k) 1 0 0
looks_bad bs k taken e = rw (look_bad bs k (sym e ∙ not-true _ taken)) (record { number_is = refl; start_is = refl; length_is = refl })

pub looks_good : (bs : Bytes) (k : ℕ) {r : Bool} {number start length : ℕ} → not r ≡ false → r ≡ passes bs → Looks (found_on bs k) number start length → Looks (look_up bs k) number start length
looks_good bs k left e h = rw (look_good bs k (sym e ∙ not-false _ left)) h
