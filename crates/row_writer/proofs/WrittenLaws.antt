-- Writers of rows, one after the other; single rows.
use mathlib.Core.Path.{◌≡◌, refl, sym, ap, ◌∙◌}
use mathlib.Core.Bool.{Bool, true, false}
use mathlib.Core.List.{List, [], ◌∷◌, ◌++◌, append-nil}
use Prim.Native.Nat.{ℕ, suc, ◌+◌, ◌-◌, ◌<◌, ◌≤◌}
use native.Mathlib.Nat.{add-zero}
use native.Mathlib.Omega.{arith}
use borrow.Author.Tests.{ne_eqb}
use lib.Dec.{eqb}
use lib.ListN.{length, length-append}
use lib.Seq.{length-sets}
use Rattle.rules.specs.Bytes.{Bytes}
use Rattle.rules.specs.Preorder.{Deep}
use Rattle.rules.specs.Layout.{FlatRow, row_size, row_bytes, each}
use Rattle.rules.specs.Decode.{read_row}
use Rattle.codec.specs.Laid.{Laid}
use Rattle.codec.proofs.Writers.{laid_none, laid_then, laid_as}
use Rattle.layout.specs.RowBytes.{row_of, valued_row, RowLaid}
use Rattle.layout.proofs.RowLaws.{size_more}
use Rattle.row_writer.specs.declared.Cursor.{Cursor}
use Rattle.row_writer.specs.Written.{is_new_row, new_in, with_serial, numbered, rows_bytes, Room, Fitted, Written, new_row, OldRow}
use Rattle.rules.proofs.LayoutLaws.{each_append}

-- ---- serials
pub new_append : (xs ys : List (Deep FlatRow)) → new_in (xs ++ ys) ≡ new_in xs + new_in ys
new_append [] ys = omega arith
new_append (x ∷ xs) ys = omega (arith, new_append xs ys)

pub numbered_append : (n : ℕ) (xs ys : List (Deep FlatRow)) → numbered n (xs ++ ys) ≡ numbered n xs ++ numbered (n + new_in xs) ys
numbered_append n [] ys = rw add-zero
numbered_append n (x ∷ xs) ys =
    let e : n + is_new_row x + new_in xs ≡ n + (is_new_row x + new_in xs) = omega arith in
    ap (λ (l : List (Deep FlatRow)). with_serial n x ∷ l) (numbered_append (n + is_new_row x) xs ys ∙ ap (λ (k : ℕ). numbered (n + is_new_row x) xs ++ numbered k ys) e)

pub length_numbered : (n : ℕ) (xs : List (Deep FlatRow)) → length (numbered n xs) ≡ length xs
length_numbered n [] = refl
length_numbered n (x ∷ xs) = ap suc (length_numbered (n + is_new_row x) xs)

rows_append : (w n : ℕ) (xs ys : List (Deep FlatRow)) → rows_bytes w n (xs ++ ys) ≡ rows_bytes w n xs ++ rows_bytes w (n + new_in xs) ys
unfolding rows_bytes
rows_append w n xs ys = ap (each (row_bytes w)) (numbered_append n xs ys) ∙ each_append (row_bytes w) (numbered n xs) (numbered (n + new_in xs) ys)

-- ---- writers
module _ {w : ℕ} where
  fitted_none : {c : Cursor} {out : Bytes} → Fitted w [] c out c out
  unfolding rows_bytes
  fitted_none = record { serial = omega arith; laid = laid_none }

  pub written_none : {c : Cursor} {out : Bytes} → Written w [] c out c out
  written_none = record { left = omega arith; fitted = λ h. fitted_none; room = λ m. m; long = refl }

  -- more rows than may be written: a writer that has come so far may stop
  pub written_past : {xs : List (Deep FlatRow)} {c r : Cursor} {out out' : Bytes} → c.left < length xs → r.left ≡ 0 → (Room w c → Room w r) → length out' ≡ length out → Written w xs c out r out'
  written_past h e m l = record { left = omega arith; fitted = λ k. absurd (omega arith); room = m; long = l }

  -- nothing more may be written
  pub written_stop : {xs : List (Deep FlatRow)} {c : Cursor} {out : Bytes} → c.left ≡ 0 → Written w xs c out c out
  written_stop {xs} {c} {out} e = by xs
    where
      by : (ys : List (Deep FlatRow)) → Written w ys c out c out
      by [] = written_none
      by (y ∷ ys) = written_past (omega arith) e (λ m. m) refl

  fitted_then : {xs ys : List (Deep FlatRow)} {c r r' : Cursor} {out out' out'' : Bytes} → Fitted w xs c out r out' → Fitted w ys r out' r' out'' → Fitted w (xs ++ ys) c out r' out''
  fitted_then {xs} {ys} {c} p q =
      record {
        serial = omega (arith, p.serial, q.serial, new_append xs ys);
        laid = laid_as (rows_append w c.serial xs ys ∙ ap (λ (n : ℕ). rows_bytes w c.serial xs ++ rows_bytes w n ys) (sym p.serial)) (laid_then p.laid q.laid);
      }

  pub written_then : {xs ys : List (Deep FlatRow)} {c r r' : Cursor} {out out' out'' : Bytes} → Written w xs c out r out' → Written w ys r out' r' out'' → Written w (xs ++ ys) c out r' out''
  written_then {xs} {ys} p q =
      record {
        left = omega (arith, p.left, q.left, length-append xs ys);
        fitted = λ h. fitted_then (p.fitted (omega (arith, length-append xs ys))) (q.fitted (omega (arith, p.left, length-append xs ys)));
        room = λ m. q.room (p.room m);
        long = q.long ∙ p.long;
      }

  pub written_as : {xs ys : List (Deep FlatRow)} {c r : Cursor} {out out' : Bytes} → xs ≡ ys → Written w ys c out r out' → Written w xs c out r out'
  written_as e p = rw e p

  pub written_long : {xs : List (Deep FlatRow)} {c r : Cursor} {out out' : Bytes} → Written w xs c out r out' → length out' ≡ length out
  written_long p = p.long

  pub written_room : {xs : List (Deep FlatRow)} {c r : Cursor} {out out' : Bytes} → Written w xs c out r out' → Room w c → Room w r
  written_room p m = p.room m

  -- ---- how far it went
  -- all were known to fit
  pub written_fitting : {xs : List (Deep FlatRow)} {c r : Cursor} {out out' : Bytes} → Written w xs c out r out' → length xs ≤ c.left → Laid (rows_bytes w c.serial xs) out c.at r.at out'
  written_fitting p h = (p.fitted h).laid

-- ---- single rows
module _ {w : ℕ} {c : Cursor} {a : ℕ} {out out' : Bytes} (more : c.left ≡ 0 → ⊥) where
  written_row : {x : Deep FlatRow} {n : ℕ} → n ≡ c.serial + is_new_row x → n ≤ c.serial + 1 → RowLaid w (with_serial c.serial x) out c.at a out'
      → Written w (x ∷ []) c out (record { at = a; left = c.left - 1; serial = n }) out'
  unfolding rows_bytes
  written_row {x} {n} e l p =
      record {
        left = refl;
        fitted = λ h. record { serial = omega arith; laid = laid_as (append-nil (row_bytes w (with_serial c.serial x))) p.laid };
        room = λ m. record { places = omega (arith, p.next, m.places, size_more (row_size w) c.left more); serials = omega (arith, m.serials) };
        long = ap length p.laid.stored ∙ length-sets out c.at (row_bytes w (with_serial c.serial x));
      }

  pub new_written : {sort depth index : ℕ} {value : Bytes} → RowLaid w (row_of sort depth index c.serial value) out c.at a out'
      → Written w (new_row sort depth index value ∷ []) c out (record { at = a; left = c.left - 1; serial = c.serial + 1 }) out'
  new_written p = written_row refl (omega arith) p

  -- an old row keeps its serial
  pub old_written : {index : ℕ} {value row : Bytes} → OldRow w row → RowLaid w (valued_row index value row) out c.at a out'
      → Written w (valued_row index value row ∷ []) c out (record { at = a; left = c.left - 1; serial = c.serial }) out'
  old_written {index} {value} {row} o p =
      written_row (omega (arith, ap {B = ℕ} (λ (t : Bool). elim t [ true ↦ 1 | false ↦ 0 ]) kept)) (omega arith) (rw kept p)
    where
      kept : eqb (read_row row).row.serial 0 ≡ false
      kept = ne_eqb (read_row row).row.serial 0 (λ e. omega (arith, o.old))
