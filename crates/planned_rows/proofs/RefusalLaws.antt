-- The refusal of the store after a plan: from the most rows that may come, and from the rows counted.
use Prim.Native.Nat.{ℕ, ◌+◌, ◌-◌, ◌*◌, ◌<◌, ◌≤◌}
use native.Mathlib.Nat.{mul-le-mul_left}
use native.Mathlib.Omega.{arith}
use mathlib.Core.Path.{◌≡◌, refl, sym, ap, ap₂, ◌∙◌}
use mathlib.Core.Bool.{Bool, true, false}
use mathlib.Core.List.{List}
use lib.Dec.{leb}
use lib.ListN.{length}
use borrow.Author.Tests.{leb-true, leb-false}
use Rattle.rules.specs.Bytes.{Bytes}
use Rattle.rules.specs.Preorder.{Deep}
use Rattle.rules.specs.Layout.{FlatRow, row_size}
use Rattle.rules.specs.Decode.{number_at, row_count}
use Rattle.layout.specs.Bodies.{width_of, WidthIn, Number}
use Rattle.row_writer.specs.declared.Cursor.{Cursor}
use Rattle.row_writer.specs.Written.{new_in, Written}
use Rattle.row_bound.specs.Bound.{Adds}
use Rattle.planned_rows.specs.Walking.{walk_from}
use Rattle.store_limits.specs.Limits.{limit_of}
use Rattle.store_limits.proofs.WithinLaws.{Within, limit_ceiling, limit_none, limit_within}
use Rattle.layout.specs.Fields.{next_at}

-- w: the width of a store, and xs: the rows after a plan, as the code has them
module _ {bs : Bytes} {w : ℕ} (v : WidthIn bs w) (form room : ℕ) (xs : List (Deep FlatRow)) where
  -- the most rows that may come are not too much
  spared : {more : ℕ} → Adds xs (row_count bs) more → Within (width_of bs) form (row_count bs + more) (number_at next_at 4 bs + more) room
      → Within (width_of bs) form (length xs) (number_at next_at 4 bs + new_in xs) room
  spared {more} a y =
      let few : more ≤ 4096 = omega (arith, y.rows) in
      let long : row_size (width_of bs) * length xs ≤ row_size (width_of bs) * (row_count bs + more) = mul-le-mul_left (row_size (width_of bs)) (a.rows few) in
      record { rows = omega (arith, y.rows, a.rows few); serials = omega (arith, y.serials, a.new few); bytes = omega (arith, y.bytes, long) }

  pub refusal_spared : {count next more k : ℕ} → Number (row_count bs) count → Number (number_at next_at 4 bs) next → Adds xs (row_count bs) more
      → k ≡ limit_of w form (count + more) (next + more) room → k ≡ 0 → 0 ≡ limit_of (width_of bs) form (length xs) (number_at next_at 4 bs + new_in xs) room
  refusal_spared {more = more} c n a e z =
      let most : limit_of (width_of bs) form (row_count bs + more) (number_at next_at 4 bs + more) room ≡ 0 =
      sym (λ i. limit_of (v.value i) form (c.value i + more) (n.value i + more) room) ∙ sym e ∙ z in
      limit_none (width_of bs) form (length xs) (number_at next_at 4 bs + new_in xs) room
      (spared a (limit_within (width_of bs) form (row_count bs + more) (number_at next_at 4 bs + more) room most))

  -- past the ceiling a count says so, and nothing of the serials
  pub refusal_counted : {wide at : ℕ} {out : Bytes} {r : Cursor} {out' : Bytes} {k : ℕ} → Written wide xs (walk_from at bs) out r out'
      → k ≡ limit_of w form (4097 - r.left) r.serial room → k ≡ limit_of (width_of bs) form (length xs) (number_at next_at 4 bs + new_in xs) room
  refusal_counted {r = r} d e = e ∙ ap (λ (z : ℕ). limit_of z form (4097 - r.left) r.serial room) v.value ∙ by (leb (length xs) 4096) refl
    where
      by : (b : Bool) → leb (length xs) 4096 ≡ b → limit_of (width_of bs) form (4097 - r.left) r.serial room ≡ limit_of (width_of bs) form (length xs) (number_at next_at 4 bs + new_in xs) room
      by true q =
          let few : length xs ≤ 4096 = leb-true (length xs) 4096 q in
          let count : 4097 - r.left ≡ length xs = omega (arith, d.left) in
          ap₂ (λ (n next : ℕ). limit_of (width_of bs) form n next room) count (d.fitted (omega arith)).serial
      by false q =
          let many : 4096 < length xs = leb-false (length xs) 4096 q in
          sym (limit_ceiling (width_of bs) form (4097 - r.left) r.serial room (omega (arith, d.left)))
          ∙ limit_ceiling (width_of bs) form (length xs) (number_at next_at 4 bs + new_in xs) room many
