-- What the print answers, by whether the store passes and how long its text is.
use Prim.Native.Nat.{ℕ, ◌<◌, ◌≤◌}
use mathlib.Core.Path.{◌≡◌, refl, sym, ap, ◌∙◌}
use mathlib.Core.Bool.{Bool, true, false, not, false≢true}
use mathlib.Core.Option.{Option, none, some}
use mathlib.Core.List.{◌++◌}
use native.Mathlib.Nat.{zero-add}
use native.Mathlib.Omega.{arith}
use lib.ListN.{length, drop}
use lib.Seq.{sets-eq}
use Rattle.rules.specs.Bytes.{Bytes}
use Rattle.rules.specs.Store.{Store}
use Rattle.rules.specs.WellFormed.{is_there}
use Rattle.rules.specs.Passing.{read_store, passes}
use Rattle.rules.specs.Outcome.{refused, wrote, unless_refused, on_store, Answers}
use Rattle.rules.specs.Print.{printed, too_long, print_outcome}
use Rattle.codec.specs.Laid.{Laid}
use Rattle.printing.specs.Texts.{Within, text_of}
use Rattle.printing.proofs.FormLaws.{text_is, within_counts}
use borrow.Author.Tests.{lt-ltb, le-ltb, not-true, not-false}

print_bad : (bs : Bytes) (room : ℕ) → passes bs ≡ false → print_outcome bs room ≡ refused 1
unfolding print_outcome
print_bad bs room e = by (read_store bs) refl
  where
    by : (o : Option Store) → read_store bs ≡ o → print_outcome bs room ≡ refused 1
    by none q = ap (on_store (λ s. unless_refused (too_long room (printed s)) (printed s))) q
    by (some s) q = absurd (false≢true (sym e ∙ ap is_there q))

print_good : (bs : Bytes) (room : ℕ) → passes bs ≡ true → print_outcome bs room ≡ unless_refused (too_long room (text_of bs)) (text_of bs)
unfolding print_outcome
print_good bs room e = by (read_store bs) refl
  where
    by : (o : Option Store) → read_store bs ≡ o → print_outcome bs room ≡ unless_refused (too_long room (text_of bs)) (text_of bs)
    by none q = absurd (false≢true (sym (ap is_there q) ∙ e))
    by (some s) q =
        ap (on_store (λ s. unless_refused (too_long room (printed s)) (printed s))) q
        ∙ ap (λ (w : Bytes). unless_refused (too_long room w) w) (sym (text_is bs s q))

pub within_passed : (bs : Bytes) {r : Bool} → not r ≡ false → r ≡ passes bs → Within bs
within_passed bs left e = within_counts bs (sym e ∙ not-false _ left)

pub prints_bad : (bs : Bytes) (out : Bytes) {r : Bool} → not r ≡ true → r ≡ passes bs → Answers (print_outcome bs (length out)) out 1 0 out
prints_bad bs out taken e = rw (print_bad bs (length out) (sym e ∙ not-true _ taken)) (record { number_is = refl; length_is = refl; buffer_is = refl })

print_short : (room : ℕ) (w : Bytes) → room < length w → unless_refused (too_long room w) w ≡ refused 18
print_short room w h = ap (λ (b : Bool). unless_refused (elim b [ true ↦ 18 | false ↦ 0 ]) w) (lt-ltb room (length w) h)

print_fits : (room : ℕ) (w : Bytes) → length w ≤ room → unless_refused (too_long room w) w ≡ wrote w
print_fits room w h = ap (λ (b : Bool). unless_refused (elim b [ true ↦ 18 | false ↦ 0 ]) w) (le-ltb room (length w) h)

pub prints_short : (bs out : Bytes) {r : Bool} {n : ℕ} {small small' : Bytes} → not r ≡ false → r ≡ passes bs → Laid (text_of bs) small 0 n small'
    → length out < n → Answers (print_outcome bs (length out)) out 18 0 out
prints_short bs out left e laid h =
    rw (print_good bs (length out) (sym e ∙ not-false _ left) ∙ print_short (length out) (text_of bs) (omega (arith, laid.next))) (record { number_is = refl; length_is = refl; buffer_is = refl })

pub prints_all : (bs out : Bytes) {r : Bool} {n m : ℕ} {small small' out' : Bytes} → not r ≡ false → r ≡ passes bs → Laid (text_of bs) small 0 n small' → n ≤ length out → Laid (text_of bs) out 0 m out'
    → Answers (print_outcome bs (length out)) out 0 n out'
prints_all bs out left e measured h laid =
    rw (print_good bs (length out) (sym e ∙ not-false _ left) ∙ print_fits (length out) (text_of bs) (omega (arith, measured.next)))
    (record {
      number_is = refl;
      length_is = measured.next ∙ zero-add (length (text_of bs));
      buffer_is =
          laid.stored ∙ sets-eq (text_of bs) out 0 (omega (arith, measured.next)) ∙ ap (λ (k : ℕ). text_of bs ++ drop k out) (zero-add (length (text_of bs)));
    })
