-- The verdict on rows, some of them at a time.
use mathlib.Core.Path.{◌≡◌, refl, sym, ap, ap₂, ◌∙◌}
use mathlib.Core.Bool.{Bool, true, false, ◌&&◌, false≢true, and-false}
use mathlib.Core.Option.{Option, none, some}
use mathlib.Core.List.{List, [], ◌∷◌, ◌++◌, append_assoc}
use Prim.Native.Nat.{ℕ, suc, ◌+◌, ◌*◌, ◌<◌, ◌≤◌}
use native.Mathlib.Omega.{arith}
use native.Mathlib.Nat.{zero-add}
use borrow.Author.Tests.{le-leb, lt-leb, ne_eqb}
use lib.Dec.{eqb, leb}
use lib.ListN.{length, take, drop, length-append}
use lib.Seq.{sets-eq, length-take-le, take-append_seam, take_at, drop_at}
use Rattle.rules.specs.Bytes.{Bytes, is_none}
use Rattle.rules.specs.Preorder.{Deep}
use Rattle.rules.specs.Layout.{FlatRow, row_size, row_bytes, each}
use Rattle.rules.specs.WellFormed.{is_there}
use Rattle.rules.proofs.LayoutLaws.{length_row, length_each, each_append}
use Rattle.codec.proofs.Writers.{laid_long}
use Rattle.open_levels.specs.Open.{end}
use Rattle.row_step.specs.Steps.{Before, row_step, walk, state_ends}
use Rattle.row_check.specs.Walking.{WalkMade}
use Rattle.row_check.proofs.WalkLaws.{walk_none}
use Rattle.document_tokens.specs.Tokens.{with_rows}
use Rattle.document_row_writer.specs.Putting.{rows_or, RowsPut}
use Rattle.document_reading.specs.Judging.{fit_from}

module _ (b : Before) where
  -- ---- the walk over rows, and then over those after them
  abbrev row_bytes_of : Deep FlatRow → Bytes
  row_bytes_of = row_bytes b.width

  abbrev step_of : Option Bytes → Bytes → Option Bytes
  step_of o row = elim o [ some s ↦ row_step b s row | none ↦ none ]

  walk_first : (x : Deep FlatRow) (count : ℕ) (rest : Bytes) (o : Option Bytes) → walk b (suc count) (row_bytes_of x ++ rest) o ≡ walk b count rest (step_of o (row_bytes_of x))
  unfolding walk
  walk_first x count rest o =
      let row : take (row_size b.width) (row_bytes_of x ++ rest) ≡ row_bytes_of x = take_at (row_bytes_of x) rest (row_size b.width) (length_row b.width x) in
      let left : drop (row_size b.width) (row_bytes_of x ++ rest) ≡ rest = drop_at (row_bytes_of x) rest (row_size b.width) (length_row b.width x) in
      ap₂ (λ (u v : Bytes). walk b count v (step_of o u)) row left

  walk_each : (xs : List (Deep FlatRow)) (n : ℕ) (rest : Bytes) (o : Option Bytes)
      → walk b (length xs + n) (each row_bytes_of xs ++ rest) o ≡ walk b n rest (walk b (length xs) (each row_bytes_of xs) o)
  unfolding walk
  walk_each [] n rest o = ap (λ (k : ℕ). walk b k rest o) (zero-add n)
  walk_each (x ∷ xs) n rest o =
      let more : suc (length xs) + n ≡ suc (length xs + n) = omega arith in
      (λ i. walk b (more i) (append_assoc (row_bytes_of x) (each row_bytes_of xs) rest i) o)
      ∙ walk_first x (length xs + n) (each row_bytes_of xs ++ rest) o
      ∙ walk_each xs n rest (step_of o (row_bytes_of x))
      ∙ ap (walk b n rest) (sym (walk_first x (length xs) (each row_bytes_of xs) o))

  -- ---- the verdict
  -- on rows and those after them, by the state after the first
  fit_more : (m : ℕ) (s : Bytes) (xs ys : List (Deep FlatRow))
      → fit_from b m s (with_rows xs (some ys))
      ≡ (leb (m + length xs + length ys) 4096 && state_ends b.form (walk b (length ys) (each row_bytes_of ys) (walk b (length xs) (each row_bytes_of xs) (some s))))
  fit_more m s xs ys =
      let many : m + length (xs ++ ys) ≡ m + length xs + length ys = omega (arith, length-append xs ys) in
      let walked : walk b (length (xs ++ ys)) (each row_bytes_of (xs ++ ys)) (some s) ≡ walk b (length ys) (each row_bytes_of ys) (walk b (length xs) (each row_bytes_of xs) (some s)) =
      (λ i. walk b (length-append xs ys i) (each_append row_bytes_of xs ys i) (some s)) ∙ walk_each xs (length ys) (each row_bytes_of ys) (some s) in
      λ i. leb (many i) 4096 && state_ends b.form (walked i)

  gone : (o : Option Bytes) → is_there o ≡ false → o ≡ none
  gone none e = refl
  gone (some s) e = absurd (false≢true (sym e))

  module _ {s s' : Bytes} (xs : List (Deep FlatRow)) {answer : Bool} (p : WalkMade b s (length xs) (each row_bytes_of xs) answer s') where
    -- the first may not all come
    pub fit_refused : (m : ℕ) (o : Option (List (Deep FlatRow))) → answer ≡ false → fit_from b m s (with_rows xs o) ≡ false
    fit_refused m none e = refl
    fit_refused m (some ys) e =
        let first = gone (walk b (length xs) (each row_bytes_of xs) (some s)) (sym p.is ∙ e) in
        let all = ap (walk b (length ys) (each row_bytes_of ys)) first ∙ walk_none b (length ys) (each row_bytes_of ys) in
        fit_more m s xs ys
        ∙ ap (λ (z : Option Bytes). leb (m + length xs + length ys) 4096 && state_ends b.form z) all
        ∙ and-false (leb (m + length xs + length ys) 4096)

    -- they may: what is left is judged from the state after them
    pub fit_after : (m : ℕ) (o : Option (List (Deep FlatRow))) → answer ≡ true → fit_from b m s (with_rows xs o) ≡ fit_from b (m + length xs) s' o
    fit_after m none e = refl
    fit_after m (some ys) e =
        fit_more m s xs ys
        ∙ ap (λ (z : Option Bytes). leb (m + length xs + length ys) 4096 && state_ends b.form (walk b (length ys) (each row_bytes_of ys) z)) (p.state e)

  -- there are too many already
  pub fit_many : (m : ℕ) (s : Bytes) (xs : List (Deep FlatRow)) (o : Option (List (Deep FlatRow))) → 4096 < m + length xs → fit_from b m s (with_rows xs o) ≡ false
  fit_many m s xs none h = refl
  fit_many m s xs (some ys) h =
      ap (λ (z : Bool). z && state_ends b.form (walk b (length (xs ++ ys)) (each row_bytes_of (xs ++ ys)) (some s)))
      (lt-leb (m + length (xs ++ ys)) 4096 (omega (arith, length-append xs ys)))

  -- how many there are, if they fit
  pub more_rows : (xs : List (Deep FlatRow)) (m n : ℕ) (s : Bytes) (o : Option (List (Deep FlatRow))) → fit_from b m s o ≡ true
      → n + length (rows_or (with_rows xs o)) ≡ n + length xs + length (rows_or o)
  more_rows xs m n s none e = absurd (false≢true e)
  more_rows xs m n s (some ys) e = omega (arith, length-append xs ys)

  -- no row is left
  pub fit_ended : (m : ℕ) (s : Bytes) (l : List ℕ) {d : ℕ} → m ≤ 4096 → length l ≡ d
      → fit_from b m s (elim (is_none l) [ true ↦ some [] | false ↦ none ]) ≡ (eqb d 0 && end b.form s)
  unfolding walk
  fit_ended m s [] {d} h e = rw (sym e, le-leb (m + 0) 4096 (omega arith))
  fit_ended m s (x ∷ l) {d} h e = rw (ne_eqb d 0 (λ z. omega arith))

-- ---- the bytes of rows, at the front of a buffer with room for them
module _ {w : ℕ} {xs : List (Deep FlatRow)} {out : Bytes} {r : ℕ} {out' : Bytes} (p : RowsPut w xs out 0 r out') (room : r ≤ length out) where
  size : r ≡ length (each (row_bytes w) xs)
  size = p.laid.next ∙ zero-add (length (each (row_bytes w) xs))

  pub rows_front : take r out' ≡ each (row_bytes w) xs
  rows_front =
      ap₂ (λ (k : ℕ) (s : Bytes). take k s) size (p.laid.stored ∙ sets-eq (each (row_bytes w) xs) out 0 (omega (arith, size)))
      ∙ take-append_seam (each (row_bytes w) xs) (drop (0 + length (each (row_bytes w) xs)) out)

  pub rows_size : row_size w * length xs ≡ length (take r out')
  rows_size = omega (arith, length_each (row_bytes w) (row_size w) (length_row w) xs, size, length-take-le r out' (omega (arith, laid_long p.laid)))
