-- What reading a text decides, stage by stage: the form that the text declares, the rows that it shows, the store of
-- both.
use Rattle.std.specs.Prelude.{ℕ, ◌+◌, Bool, true, false, ◌&&◌, List, [], leb, length, drop}
use Rattle.std.proofs.Math.Option.{Option, none, some}
use Rattle.rules.specs.Bytes.{Bytes}
use Rattle.rules.specs.Preorder.{Deep}
use Rattle.rules.specs.Layout.{value_width, row_bytes, each, FlatRow, FlatStore, flat_bytes}
use Rattle.rules.specs.WellFormed.{within_ceilings}
use Rattle.rules.specs.Passing.{passes}
use Rattle.rules.specs.Outcome.{Outcome, refused, unless_refused}
use Rattle.rules.specs.Print.{too_long}
use Rattle.printing.specs.Texts.{text_of}
use Rattle.row_check.specs.Verdict.{verdict}
use Rattle.row_check.specs.Walking.{before_read}
use Rattle.layout.specs.Bodies.{width_of}
use Rattle.store_laws.specs.Forms.{reformed}
use Rattle.lookup.specs.Bodies.{bodies_of}
use Rattle.form_front.specs.Front.{front_stands}
use Rattle.declaration_scan.specs.Declared.{declared_form}
use Rattle.document_tokens.specs.Tokens.{declared_in, document_rows}

-- a store's form, with other rows and a next serial after them
abbrev pub with_documents : FlatStore → List (Deep FlatRow) → FlatStore
with_documents f xs = reformed f f (1 + length xs) xs

module _ (version : ℕ) (txt : Bytes) where
  abbrev pub read_width : ℕ
  read_width = value_width version

  abbrev pub form_declared : FlatStore
  form_declared = declared_form version read_width txt

  -- a store without rows
  abbrev pub declared_bytes : Bytes
  declared_bytes = flat_bytes read_width form_declared

  abbrev pub declared_text : Bytes
  declared_text = text_of declared_bytes

  -- the form stands: it is within the ceilings, passes, and prints as the front of the text
  unfoldable pub form_stands : Bool
  form_stands = within_ceilings form_declared && (passes declared_bytes && front_stands declared_bytes txt)

  unfoldable pub rows_shown : Option (List (Deep FlatRow))
  rows_shown = document_rows (declared_in declared_bytes) read_width 1 [] false 0 (drop (length declared_text) txt)

-- rows that the store of the bytes `bs` may hold
unfoldable pub rows_stand : Bytes → List (Deep FlatRow) → Bool
rows_stand bs xs = leb (length xs) 4096 && verdict (before_read bs) (length xs) (each (row_bytes (width_of bs)) xs)

abbrev pub if_rows : (List (Deep FlatRow) → Outcome) → Option (List (Deep FlatRow)) → Outcome
if_rows f none = refused 19
if_rows f (some xs) = f xs

-- the bytes of the store that is read
abbrev pub store_bytes : ℕ → Bytes → List (Deep FlatRow) → Bytes
store_bytes version txt xs = flat_bytes (value_width version) (with_documents (declared_form version (value_width version) txt) xs)

-- THE ANSWER OF READING, as the code decides it
unfoldable pub stages_outcome : ℕ → Bytes → ℕ → Outcome
stages_outcome version txt room =
    elim (form_stands version txt) [
      | true ↦
          if_rows
          (λ xs.
          elim (rows_stand (declared_bytes version txt) xs) [
            | true ↦ unless_refused (too_long room (store_bytes version txt xs)) (store_bytes version txt xs)
            | false ↦ refused 19
          ])
          (rows_shown version txt)
      | false ↦ refused 19
    ]

-- the same from the form on: the answer for the documents `rest` behind the form of the store `bs`
abbrev pub joined_bytes : Bytes → List (Deep FlatRow) → Bytes
joined_bytes bs xs = flat_bytes (width_of bs) (with_documents (bodies_of bs) xs)

unfoldable pub documents_outcome : Bytes → Bytes → ℕ → Outcome
documents_outcome bs rest room =
    if_rows (λ xs. elim (rows_stand bs xs) [ true ↦ unless_refused (too_long room (joined_bytes bs xs)) (joined_bytes bs xs) | false ↦ refused 19 ])
    (document_rows (declared_in bs) (width_of bs) 1 [] false 0 rest)
