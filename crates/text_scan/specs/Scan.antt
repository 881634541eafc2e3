-- Words on texts: what a text begins with, its lines, and the value that an escaped one stands for.
use Rattle.std.specs.Prelude.{ℕ, zero, suc, ◌+◌, ◌≡◌, Bool, true, false, ◌&&◌, ◌||◌, not, List, [], ◌∷◌, eqb, length, get_or}
use Rattle.std.specs.Prelude as code
use Rattle.std.specs.Prelude.{Some, None, IsSome}
use Rattle.std.proofs.Math.Option.{Option, none, some}
use Rattle.std.proofs.lemmas.List.Edits.{sets}
use Rattle.rules.specs.Bytes.{Bytes, ascii}
use Rattle.text_scan.specs.declared.Character.{Character}

abbrev pub first_byte : Bytes → ℕ
first_byte txt = get_or txt 0 0

-- the text begins with the word
unfoldable pub starts_with : Bytes → Bytes → Bool
starts_with [] txt = true
starts_with (x ∷ xs) [] = false
starts_with (x ∷ xs) (y ∷ ys) = eqb x y && starts_with xs ys

-- the longest front of bytes that pass a test, and what is after it
unfoldable pub front_while : (ℕ → Bool) → Bytes → Bytes
front_while p [] = []
front_while p (x ∷ xs) = elim (p x) [ true ↦ x ∷ front_while p xs | false ↦ [] ]

unfoldable pub after_while : (ℕ → Bool) → Bytes → Bytes
after_while p [] = []
after_while p (x ∷ xs) = elim (p x) [ true ↦ after_while p xs | false ↦ x ∷ xs ]

-- all bytes but one: those before a `"`, a `<`, a line feed
abbrev pub no_quote : ℕ → Bool
no_quote x = not (eqb x 34)

abbrev pub no_tag : ℕ → Bool
no_tag x = not (eqb x 60)

abbrev pub no_line_feed : ℕ → Bool
no_line_feed x = not (eqb x 10)

-- ---- escapes, undone
-- the byte that stands at a place of an escaped value, and how many bytes of its escape come after the first
pub record PlainByte : Type 0 where
  pub byte : ℕ
  pub more : ℕ

-- after a `&`
abbrev pub escaped_at : Bytes → Option PlainByte
escaped_at xs =
    elim (starts_with (ascii "amp;") xs) [
      | true ↦ some (record { byte = 38; more = 4 })
      | false ↦
          elim (starts_with (ascii "lt;") xs) [
            | true ↦ some (record { byte = 60; more = 3 })
            | false ↦
                elim (starts_with (ascii "gt;") xs) [
                  | true ↦ some (record { byte = 62; more = 3 })
                  | false ↦ elim (starts_with (ascii "quot;") xs) [ true ↦ some (record { byte = 34; more = 5 }) | false ↦ none ]
                ]
          ]
    ]

-- one of the four bytes stands only as its escape
abbrev pub plain_at : ℕ → Bytes → Option PlainByte
plain_at x xs = elim (eqb x 38) [ true ↦ escaped_at xs | false ↦ elim (eqb x 60 || (eqb x 62 || eqb x 34)) [ true ↦ none | false ↦ some (record { byte = x; more = 0 }) ] ]

-- .. as the reader of one place hands it back: the byte, and all bytes of its escape
abbrev pub character_of : Option PlainByte → code.Option Character
character_of none = None
character_of (some p) = Some (record { byte = p.byte; size = p.more + 1 })

abbrev pub precede : ℕ → Option Bytes → Option Bytes
precede x none = none
precede x (some v) = some (x ∷ v)

-- the value whose escape the text is, without the first `skip` bytes; none if it is no escape
unfoldable pub unescaped : ℕ → Bytes → Option Bytes
unescaped zero [] = some []
unescaped (suc skip) [] = none
unescaped (suc skip) (x ∷ xs) = unescaped skip xs
unescaped zero (x ∷ xs) = elim (plain_at x xs) [ none ↦ none | some p ↦ precede p.byte (unescaped p.more xs) ]

-- .. or nothing
abbrev pub value_or : Option Bytes → Bytes
value_or none = []
value_or (some v) = v

abbrev pub value_of_raw : Bytes → Bytes
value_of_raw raw = value_or (unescaped 0 raw)

-- the length of a value, if there is one
abbrev pub length_of : Option Bytes → code.Option ℕ
length_of none = None
length_of (some v) = Some (length v)

-- a value undone: its length, if the text is an escape; then `value` has what it stands for, as far as `value` goes
pub record Unescapes (raw value : Bytes) (r : code.Option ℕ) (value' : Bytes) : Type 0 where
  pub is : r ≡ length_of (unescaped 0 raw)
  pub stored : IsSome r → value' ≡ sets value 0 (value_of_raw raw)
  pub long : length value' ≡ length value

-- ---- lines
abbrev pub on_line : ℕ → List Bytes → List Bytes
on_line x [] = (x ∷ []) ∷ []
on_line x (l ∷ ls) = (x ∷ l) ∷ ls

-- what stands between line feeds; nothing comes after the last one
unfoldable pub split_lines : Bytes → List Bytes
split_lines [] = []
split_lines (x ∷ xs) = elim (eqb x 10) [ true ↦ [] ∷ split_lines xs | false ↦ on_line x (split_lines xs) ]
