-- What the code tells of a token.
use Rattle.std.specs.Prelude.{ℕ, zero, suc, ◌+◌, ◌*◌, ◌≤◌, ◌≡◌, Bool, ◌&&◌, List, [], ◌∷◌, eqb, length, get_or, take, drop, Option, None, Some, is_some, IfSome}
use Rattle.rules.specs.Bytes.{Bytes, ascii}
use Rattle.rules.specs.Decode.{definition_count, attribute_count}
use Rattle.text_scan.specs.Scan.{first_byte, starts_with, front_while, after_while, no_quote, unescaped, value_of_raw}
use Rattle.rules.specs.declared.RowSort.{RowSort}
use Rattle.rules.specs.RowSorts.{row_number}
use Rattle.document_tokens.specs.declared.Token as code
use Rattle.document_tokens.specs.declared.Quoted.{Quoted}
use Rattle.document_tokens.specs.Tokens.{Token, short_value}

-- what the code asks of a form: its numbers within the ceilings, and its definitions all there
pub record FormRoom (form : Bytes) : Type 0 where
  pub definitions_few : definition_count form ≤ 64
  pub attributes_few : attribute_count form ≤ 64
  pub definitions_there : 40 + 20 * definition_count form ≤ length form

-- the definitions of the elements that are opened, the innermost first, as the code holds them: d bytes, the
-- innermost last
unfoldable pub stack_of : ℕ → Bytes → List ℕ
stack_of zero a = []
stack_of (suc d) a = get_or a d 0 ∷ stack_of d a

-- the numbers of a token, and its value at the front of a buffer
pub record TokenTold (t : Token) (size sort index n : ℕ) (value' : Bytes) : Type 0 where
  pub size_is : size ≡ t.size
  pub sort_is : sort ≡ t.sort
  pub index_is : index ≡ t.index
  pub length_is : n ≡ length t.value
  pub value_is : take n value' ≡ t.value

-- the code of the row that a token makes, 0 if it makes none
abbrev pub sort_code : Option RowSort → ℕ
sort_code None = 0
sort_code (Some s) = row_number s

-- it is there if it is exact, and is what it is then
pub record Tells (t : Token) (value : Bytes) (r : Option code.Token) (value' : Bytes) : Type 0 where
  pub is : is_some r ≡ t.exact
  pub told : IfSome r (λ k. TokenTold t k.size (sort_code k.sort) k.index k.length value')
  pub long : length value' ≡ length value

-- ---- values
-- n bytes at the front of a buffer are a value
pub record ValueTold (v : Bytes) (n : ℕ) (value' : Bytes) : Type 0 where
  pub size : n ≡ length v
  pub stored : take n value' ≡ v

-- a value of at most w bytes, of which raw is the escape
pub record ValueRead (w : ℕ) (raw value : Bytes) (r : Option ℕ) (value' : Bytes) : Type 0 where
  pub is : is_some r ≡ short_value w (unescaped 0 raw)
  pub told : IfSome r (λ n. ValueTold (value_of_raw raw) n value')
  pub long : length value' ≡ length value

-- `="`, such a value and `"`
abbrev pub quoted_raw : Bytes → Bytes
quoted_raw txt = front_while no_quote (drop 2 txt)

unfoldable pub is_quoted : ℕ → Bytes → Bool
is_quoted w txt = starts_with (ascii "=\"") txt && (eqb (first_byte (after_while no_quote (drop 2 txt))) 34 && short_value w (unescaped 0 (quoted_raw txt)))

-- how many bytes the value has as it stands; n bytes in a buffer
pub record QuoteTold (txt : Bytes) (raw n : ℕ) (value' : Bytes) : Type 0 where
  pub raw_is : raw ≡ length (quoted_raw txt)
  pub room : 3 + raw ≤ length txt
  pub length_is : n ≡ length (value_of_raw (quoted_raw txt))
  pub value_is : take n value' ≡ value_of_raw (quoted_raw txt)

pub record Quotes (w : ℕ) (txt value : Bytes) (r : Option Quoted) (value' : Bytes) : Type 0 where
  pub is : is_some r ≡ is_quoted w txt
  pub told : IfSome r (λ q. QuoteTold txt q.raw q.length value')
  pub long : length value' ≡ length value
