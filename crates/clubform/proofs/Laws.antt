-- What an accepted call answers.
use Prim.Native.Nat.{ℕ, ◌≤◌, ◌-◌}
use native.Mathlib.Omega.{arith}
use mathlib.Core.Path.{◌≡◌, refl, sym, ap, ap₂, ◌∙◌}
use mathlib.Core.Bool.{true}
use mathlib.Core.List.{[], ◌∷◌, ◌++◌}
use lib.Dec.{eqb}
use lib.ListN.{length, take, drop, length-append, length-drop}
use lib.Seq.{take-append_seam, take_all}
use borrow.Author.Tests.{eq-eqb, leb-true}
use Rattle.rules.specs.Bytes.{Bytes}
use Rattle.rules.specs.Decode.{next_serial}
use Rattle.rules.specs.Outcome.{Outcome, wrote, number_of, length_of, buffer_of, Answers}
use Rattle.rules.specs.Layout.{value_width}
use Rattle.rules.specs.Run.{run}
use Rattle.clubform.specs.History.{history, stage, Reads, BufferHolds}
use Rattle.clubform.proofs.Stages.{Gives, accepted}

-- a call that writes `w`
pub record Writes (w out : Bytes) (number len : ℕ) (left : Bytes) : Type 0 where
  pub number_is : number ≡ 0
  pub length_is : len ≡ length w
  pub buffer_is : left ≡ w ++ drop (length w) out

pub written : {o : Outcome} {w out left : Bytes} {number len : ℕ} → o ≡ wrote w → Answers o out number len left → Writes w out number len left
written {out = out} e a =
    record {
      number_is = a.number_is ∙ ap number_of e;
      length_is = a.length_is ∙ ap length_of e;
      buffer_is = a.buffer_is ∙ ap (λ (z : Outcome). buffer_of z out) e;
    }

length_kept : (w out : Bytes) → length w ≤ length out → length (w ++ drop (length w) out) ≡ length out
length_kept w out h = let e : length (drop (length w) out) ≡ length out - length w = length-drop (length w) out in length-append w (drop (length w) out) ∙ omega (arith, h, e)

-- the number is 0, and the buffer holds what is written, as long as is told of it
pub record Answered (w : Bytes) (number len : ℕ) (left : Bytes) : Type 0 where
  pub number_is : number ≡ 0
  pub holds : {n : ℕ} → n ≡ len → BufferHolds w n left

pub answered : {call : Bytes → ℕ → Outcome} {s w store out left : Bytes} {number len : ℕ} → Gives call s w → Reads s store out
    → Answers (call store (length out)) out number len left → Answered w number len left
answered {call} {s} {w} {store} {out} {left} {number} {len} g r a =
    let o : call store (length out) ≡ wrote w = ap₂ (λ (b : Bytes) (k : ℕ). call b k) r.store_is r.room ∙ g.writes in
    let x : Writes w out number len left = written o a in
    let f : length w ≤ 508 = leb-true _ 508 g.fits in
    record {
      number_is = x.number_is;
      holds = λ e. record {
        room = ap length x.buffer_is ∙ length_kept w out (omega (arith, f, r.room)) ∙ r.room;
        fits = omega (arith, e, x.length_is, f);
        length_is = e ∙ x.length_is;
        begins = ap₂ (λ (k : ℕ) (b : Bytes). take k b) (e ∙ x.length_is) x.buffer_is ∙ take-append_seam w (drop (length w) out);
      };
    }

-- the first call reads the 40 bytes of the fresh store
pub fresh : {out : Bytes} → length out ≡ 508
    → Reads (stage 0) (1 ∷ 0 ∷ 0 ∷ 0 ∷ 1 ∷ 0 ∷ 0 ∷ 0 ∷ 40 ∷ 0 ∷ 0 ∷ 0 ∷ 0 ∷ 0 ∷ 0 ∷ 0 ∷ 40 ∷ 0 ∷ 0 ∷ 0 ∷ 0 ∷ 0 ∷ 0 ∷ 0 ∷ 40 ∷ 0 ∷ 0 ∷ 0 ∷ 0 ∷ 0 ∷ 0 ∷ 0 ∷ 40 ∷ 0 ∷ 0 ∷ 0 ∷ 0 ∷ 0 ∷ 0 ∷ 0 ∷ []) out
unfolding value_width run history stage
fresh e = record { store_is = refl; room = e }

-- the next call reads what the one before it left
pub reads : {w buffer out : Bytes} {len : ℕ} → BufferHolds w len buffer → length out ≡ 508 → Reads w (take len buffer) out
reads h e = record { store_is = h.begins; room = e }

-- the part that is handed on
pub front : {w buffer : Bytes} {len : ℕ} → BufferHolds w len buffer → len ≡ length (take len buffer)
front h = h.length_is ∙ sym (ap length h.begins)

-- the last store fills its buffer
pub whole : {buffer : Bytes} {len : ℕ} → BufferHolds (stage 13) len buffer → buffer ≡ stage 13
whole {buffer} {len} h = sym (take_all len buffer (omega (arith, h.room, h.length_is, accepted.length_is))) ∙ h.begins

pub last_length : {buffer : Bytes} {len : ℕ} → BufferHolds (stage 13) len buffer → eqb len 508 ≡ true
last_length {len = len} h = eq-eqb len 508 (h.length_is ∙ accepted.length_is)

pub last_next : {buffer : Bytes} {len next : ℕ} → BufferHolds (stage 13) len buffer → next ≡ next_serial buffer → eqb next 9 ≡ true
last_next {next = next} h e = eq-eqb next 9 (e ∙ ap next_serial (whole h) ∙ accepted.next_is)
