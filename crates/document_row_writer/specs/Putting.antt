-- The rows that the documents of a text say, written: a token at a time, some rows at a time, all of them.
use Rattle.std.specs.Prelude.{ℕ, ◌+◌, ◌*◌, ◌<◌, ◌≤◌, ◌≡◌, Bool, true, false, List, [], ◌∷◌, eqb, length, drop}
use Rattle.std.specs.Prelude as code
use Rattle.std.specs.Prelude.{MatchOption}
use Rattle.std.proofs.Math.Option.{Option, none, some}
use Rattle.rules.specs.Bytes.{Bytes}
use Rattle.rules.specs.Preorder.{Deep}
use Rattle.rules.specs.Layout.{FlatRow, row_bytes, each}
use Rattle.rules.specs.WellFormed.{is_there}
use Rattle.codec.specs.Laid.{Laid}
use Rattle.layout.specs.RowBytes.{row_of}
use Rattle.document_tokens.specs.Tokens.{Declared, declared_in, with_rows, document_rows}
use Rattle.document_tokens.specs.Telling.{stack_of}
use Rattle.document_row_writer.specs.declared.Written.{Written}
use Rattle.document_row_writer.specs.declared.Progress.{Progress}

-- the rows of the documents of a text, by a form
abbrev pub documents_in : ℕ → Bytes → Bytes → Option (List (Deep FlatRow))
documents_in w form txt = document_rows (declared_in form) w 1 [] false 0 txt

abbrev pub rows_or : Option (List (Deep FlatRow)) → List (Deep FlatRow)
rows_or none = []
rows_or (some xs) = xs

-- every token of the documents is exact, and their rows are no more than a store has
pub record RowsRead (w : ℕ) (form txt : Bytes) : Type 0 where
  pub there : is_there (documents_in w form txt) ≡ true
  pub few : length (rows_or (documents_in w form txt)) ≤ 4096

-- the rows from a place on: `depth` definitions are opened, m rows came before
abbrev pub rows_here : ℕ → Declared → ℕ → Bytes → ℕ → Bool → Bytes → Option (List (Deep FlatRow))
rows_here w f m opened depth tag txt = document_rows f w (m + 1) (stack_of depth opened) tag 0 txt

-- ---- what a token of this sort and index does
-- the row that it makes, if it makes one
abbrev pub made_row : ℕ → ℕ → ℕ → ℕ → Bytes → List (Deep FlatRow)
made_row sort depth index serial value = elim (eqb sort 0) [ true ↦ [] | false ↦ row_of sort depth index serial value ∷ [] ]

abbrev pub made_count : ℕ → ℕ
made_count sort = elim (eqb sort 0) [ true ↦ 0 | false ↦ 1 ]

-- the definitions that are opened after it
abbrev pub open_by : Bool → List ℕ → ℕ → ℕ → List ℕ
open_by tag opened sort index =
    elim (eqb sort 1) [ true ↦ index ∷ opened | false ↦ elim (eqb sort 0) [ true ↦ elim tag [ true ↦ opened | false ↦ drop 1 opened ] | false ↦ opened ] ]

pub record Advanced (tag : Bool) (opened : Bytes) (depth sort index r : ℕ) (opened' : Bytes) : Type 0 where
  pub is : stack_of r opened' ≡ open_by tag (stack_of depth opened) sort index
  pub low : r ≤ 255
  pub long : length opened' ≡ 256

-- ---- rows written
-- the rows xs were written over out from `at` on; a row has at most 267 bytes
pub record RowsPut (w : ℕ) (xs : List (Deep FlatRow)) (out : Bytes) (at r : ℕ) (out' : Bytes) : Type 0 where
  pub laid : Laid (each (row_bytes w) xs) out at r out'
  pub small : r ≤ at + 267 * length xs

-- The first `size` bytes of a text were read, and the rows that they make written: what is read of a text is those rows
-- and what is read from there on.
pub record PartRead (w : ℕ) (d : Declared) (txt : Bytes) (m : ℕ) (opened : Bytes) (depth : ℕ) (tag : Bool) (out : Bytes) (at : ℕ)
    (size m' : ℕ) (opened' : Bytes) (depth' : ℕ) (tag' : Bool) (out' : Bytes) (at' : ℕ) : Type 0 where
  pub made : List (Deep FlatRow)
  pub rows : rows_here w d m opened depth tag txt ≡ with_rows made (rows_here w d m' opened' depth' tag' (drop size txt))
  pub put : RowsPut w made out at at' out'
  pub counted : m + length made ≡ m'
  pub few : length made ≤ size
  pub within : size ≤ length txt
  pub deep : depth' ≤ 255

-- documents begin here: nothing is opened, and no row came before
pub record Starts (depth : ℕ) (tag : Bool) (m : ℕ) : Type 0 where
  pub depth_is : depth ≡ 0
  pub tag_is : tag ≡ false
  pub count_is : m ≡ 0

-- the stack and the buffer that are lent keep their lengths
pub record Kept (out opened' out' : Bytes) : Type 0 where
  pub stack : length opened' ≡ 256
  pub long : length out' ≡ length out

-- a token was read
pub record TokenRead (w : ℕ) (d : Declared) (txt : Bytes) (m : ℕ) (opened : Bytes) (depth : ℕ) (tag : Bool) (out : Bytes) (at : ℕ)
    (size m' : ℕ) (opened' : Bytes) (depth' : ℕ) (tag' : Bool) (out' : Bytes) (at' : ℕ) : Type 0 where
  pub part : PartRead w d txt m opened depth tag out at size m' opened' depth' tag' out' at'
  pub onward : 0 < size
  pub more : m' ≤ m + 1

-- .. or it is not exact, and there are no rows
pub record TokenPut (w : ℕ) (d : Declared) (txt : Bytes) (m : ℕ) (opened : Bytes) (depth : ℕ) (tag : Bool) (out : Bytes) (at : ℕ) (r : code.Option Written) (p' : Progress) (out' : Bytes) : Type 0 where
  pub is : MatchOption r (rows_here w d m opened depth tag txt ≡ none)
      (λ p. TokenRead w d txt m opened depth tag out at p.size p'.count p'.opened p'.depth p'.tag out' p.at)

-- tokens were read up to row `limit`, or to the end of the text if that comes first
pub record SomeRead (w : ℕ) (d : Declared) (txt : Bytes) (m : ℕ) (opened : Bytes) (depth : ℕ) (tag : Bool) (limit : ℕ) (out : Bytes) (at : ℕ)
    (size m' : ℕ) (opened' : Bytes) (depth' : ℕ) (tag' : Bool) (out' : Bytes) (at' : ℕ) : Type 0 where
  pub part : PartRead w d txt m opened depth tag out at size m' opened' depth' tag' out' at'
  pub onward : 0 < length txt → 0 < size
  pub ceiling : m' ≤ limit
  pub ends : m' < limit → length txt ≤ size

-- one of them is not exact, and there are no rows: documents go on where they did before
pub record NoneRead (w : ℕ) (d : Declared) (txt : Bytes) (m : ℕ) (opened : Bytes) (depth : ℕ) (tag : Bool) (p' : Progress) : Type 0 where
  pub rows : rows_here w d m opened depth tag txt ≡ none
  pub depth_stays : p'.depth ≡ depth
  pub tag_stays : p'.tag ≡ tag
  pub count_stays : p'.count ≡ m

-- the one or the other
pub record SomePut (w : ℕ) (d : Declared) (txt : Bytes) (m : ℕ) (opened : Bytes) (depth : ℕ) (tag : Bool) (limit : ℕ) (out : Bytes) (at : ℕ)
    (r : code.Option Written) (p' : Progress) (out' : Bytes) : Type 0 where
  pub is : MatchOption r (NoneRead w d txt m opened depth tag p')
      (λ p. SomeRead w d txt m opened depth tag limit out at p.size p'.count p'.opened p'.depth p'.tag out' p.at)
