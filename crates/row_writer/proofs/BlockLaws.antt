-- Old rows written as one block.
use Prim.Native.Nat.{ℕ, zero, suc, ◌+◌, ◌-◌, ◌*◌, ◌<◌, ◌≤◌}
use native.Mathlib.Nat.{mul-zero, mul-suc, mul-add}
use native.Mathlib.Omega.{arith}
use mathlib.Core.Path.{◌≡◌, refl, sym, ap, ap₂, ◌∙◌}
use mathlib.Core.Bool.{Bool, true, false}
use mathlib.Core.List.{List, [], ◌∷◌, ◌++◌}
use borrow.Author.Tests.{ne_eqb}
use lib.Dec.{eqb}
use lib.ListN.{length, take, drop}
use lib.Seq.{length-sets, length-take-le, take-add}
use Rattle.rules.specs.Bytes.{Bytes}
use Rattle.rules.specs.Preorder.{Deep}
use Rattle.rules.specs.Layout.{FlatRow, row_size, row_bytes, each}
use Rattle.rules.specs.Decode.{read_row, read_many}
use Rattle.rules.proofs.BooleanLaws.{Every}
use Rattle.codec.specs.Laid.{Laid}
use Rattle.codec.proofs.Writers.{laid_as}
use Rattle.codec.proofs.Records.{length_many}
use Rattle.row_writer.specs.declared.Cursor.{Cursor}
use Rattle.row_writer.specs.Written.{is_new_row, new_in, numbered, rows_bytes, Room, Written, OldRows}

-- ---- products
pub size_split : (size k n : ℕ) → k ≤ n → size * n ≡ size * k + size * (n - k)
size_split size k n h =
    let e : n ≡ k + (n - k) = omega arith in
    ap (λ (i : ℕ). size * i) e ∙ mul-add size k (n - k)

-- ---- rows that have serials
abbrev pub Old : Deep FlatRow → Type 0
Old x = 1 ≤ x.row.serial

old_is : (x : Deep FlatRow) → Old x → eqb x.row.serial 0 ≡ false
old_is x h = ne_eqb x.row.serial 0 (λ e. omega arith)

numbered_old : (n : ℕ) (xs : List (Deep FlatRow)) → Every Old xs → numbered n xs ≡ xs
numbered_old n [] e = refl
numbered_old n (x ∷ xs) (a, e) =
    ap₂ (λ (s : ℕ) (l : List (Deep FlatRow)). record { depth = x.depth; row = record { sort = x.row.sort; index = x.row.index; serial = s; value = x.row.value } } ∷ l)
    (ap (λ (b : Bool). elim b as (λ z. ℕ) [ true ↦ n | false ↦ x.row.serial ]) (old_is x a))
    (numbered_old (n + is_new_row x) xs e)

pub bytes_old : (w n : ℕ) (xs : List (Deep FlatRow)) → Every Old xs → each (row_bytes w) xs ≡ rows_bytes w n xs
unfolding rows_bytes
bytes_old w n xs e = ap (each (row_bytes w)) (sym (numbered_old n xs e))

none_new : (xs : List (Deep FlatRow)) → Every Old xs → new_in xs ≡ 0
none_new [] e = refl
none_new (x ∷ xs) (a, e) =
    let z : is_new_row x ≡ 0 = ap (λ (b : Bool). elim b as (λ z. ℕ) [ true ↦ 1 | false ↦ 0 ]) (old_is x a) in
    omega (arith, z, none_new xs e)

-- ---- the block
module _ (w : ℕ) where
  pub each_old : (count : ℕ) (s : Bytes) → OldRows w count s → Every Old (read_many read_row (row_size w) count s)
  unfolding OldRows
  each_old zero s x = tt
  each_old (suc count) s x = (x.0.old, each_old count (drop (row_size w) s) x.1)

  -- the bytes that are read are those that are written
  bytes_read : (count : ℕ) (s : Bytes) → OldRows w count s → each (row_bytes w) (read_many read_row (row_size w) count s) ≡ take (row_size w * count) s
  unfolding OldRows
  bytes_read zero s x = sym (ap (λ (n : ℕ). take n s) (mul-zero (row_size w)))
  bytes_read (suc count) s x =
      let m : row_size w * suc count ≡ row_size w + row_size w * count = omega (arith, mul-suc (row_size w) count) in
      ap₂ (λ (a b : Bytes). a ++ b) x.0.written (bytes_read count (drop (row_size w) s) x.1)
      ∙ sym (ap (λ (n : ℕ). take n s) m ∙ take-add (row_size w) (row_size w * count) s)

  block_bytes : (n count : ℕ) (s : Bytes) → OldRows w count s → rows_bytes w n (read_many read_row (row_size w) count s) ≡ take (row_size w * count) s
  block_bytes n count s x = sym (bytes_old w n (read_many read_row (row_size w) count s) (each_old count s x)) ∙ bytes_read count s x

module _ {w : ℕ} where
  pub block_written : (s : Bytes) {c : Cursor} {count a : ℕ} {out out' : Bytes} → OldRows w count s → row_size w * count ≤ length s → count ≤ c.left
      → (k : ℕ) → k ≡ row_size w * count → Laid (take k s) out c.at a out'
      → Written w (read_many read_row (row_size w) count s) c out (record { at = a; left = c.left - count; serial = c.serial }) out'
  block_written s {c} {count} {a} {out} x h l k ek p =
      let xs = read_many read_row (row_size w) count s in
      let split = size_split (row_size w) count c.left l in
      record {
        left = omega (arith, length_many read_row (row_size w) count s);
        fitted = λ f.
            record {
              serial = omega (arith, none_new xs (each_old w count s x));
              laid = laid_as (block_bytes w c.serial count s x ∙ ap (λ (n : ℕ). take n s) (sym ek)) p;
            };
        room = λ m.
            record {
              places = omega (arith, p.next, ek, length-take-le k s (omega arith), m.places, split);
              serials = omega (arith, m.serials);
            };
        long = ap length p.stored ∙ length-sets out c.at (take k s);
      }

  -- its bytes are few enough
  pub block_small : {c : Cursor} {count : ℕ} → Room w c → count ≤ c.left → c.at + row_size w * count < 4611686018427387904
  block_small {c} {count} m l = omega (arith, m.places, size_split (row_size w) count c.left l)
