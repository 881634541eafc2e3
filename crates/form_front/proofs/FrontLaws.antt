-- What a front is, by how long the store's text is and whether the other begins with it.
use Prim.Native.Nat.{ℕ, ◌<◌, ◌≤◌}
use native.Mathlib.Omega.{arith}
use native.Mathlib.Nat.{zero-add}
use mathlib.Core.Path.{◌≡◌, sym, ap, ◌∙◌}
use mathlib.Core.Bool.{Bool, true, false, ◌&&◌}
use Rattle.std.specs.Prelude.{Option, None}
use Rattle.std.specs.Bool.{then_some}
use lib.ListN.{length, take}
use lib.Seq.{length-sets, sets-eq, take_at}
use borrow.Author.Tests.{le-leb, lt-leb}
use Rattle.rules.specs.Bytes.{Bytes}
use Rattle.codec.specs.Laid.{Laid}
use Rattle.printing.specs.Texts.{text_of}
use Rattle.text_scan.specs.Scan.{starts_with}
use Rattle.form_front.specs.Front.{form_text_room, front_stands, FrontOf}

module _ (bs txt : Bytes) {small small' : Bytes} {n : ℕ} (laid : Laid (text_of bs) small 0 n small') where
  long : n ≡ length (text_of bs)
  long = laid.next ∙ zero-add (length (text_of bs))

  -- its text is too long
  pub front_long : form_text_room < n → FrontOf bs txt None
  unfolding front_stands
  front_long h =
      record {
        is = sym (ap (λ (b : Bool). b && starts_with (text_of bs) txt) (lt-leb (length (text_of bs)) form_text_room (omega (arith, long))));
        size = tt;
      }

  front_by : (b : Bool) → b ≡ front_stands bs txt → FrontOf bs txt (then_some b n)
  front_by true e = record { is = e; size = long }
  front_by false e = record { is = e; size = tt }

  -- it is compared
  pub front_tested : n ≤ form_text_room → length small ≡ form_text_room → {front : Bytes} → front ≡ take n small' → {b : Bool} → b ≡ starts_with front txt
      → {r : Option ℕ} → r ≡ then_some b n → FrontOf bs txt r
  unfolding front_stands
  front_tested h room f {b} q g =
      let printed : take n small' ≡ text_of bs =
      ap (take n) (laid.stored ∙ sets-eq (text_of bs) small 0 (omega (arith, long))) ∙ take_at (text_of bs) _ n (sym long) in
      rw g
      (front_by b
      (q ∙ ap (λ (t : Bytes). starts_with t txt) (f ∙ printed) ∙ sym (ap (λ (b : Bool). b && starts_with (text_of bs) txt) (le-leb (length (text_of bs)) form_text_room (omega (arith, long))))))

-- the buffer that is printed into keeps its length
pub front_room : (bs : Bytes) {small small' : Bytes} {n : ℕ} → Laid (text_of bs) small 0 n small' → length small ≡ form_text_room → length small' ≡ form_text_room
front_room bs {small} laid room = ap length laid.stored ∙ length-sets small 0 (text_of bs) ∙ room
