-- A store that prints as the front of a text.
use Rattle.std.specs.Prelude.{ℕ, ◌≡◌, Bool, ◌&&◌, leb, length, Option, is_some, IfSome}
use Rattle.rules.specs.Bytes.{Bytes}
use Rattle.printing.specs.Texts.{text_of}
use Rattle.text_scan.specs.Scan.{starts_with}

-- room for the text of a form, which has at most 23,232 bytes at width 32 (`form_text_bytes` of `declaration_laws`)
abbrev pub form_text_room : ℕ
form_text_room = 24576

-- the text of a store has room, and is the front of the other
unfoldable pub front_stands : Bytes → Bytes → Bool
front_stands bs txt = leb (length (text_of bs)) form_text_room && starts_with (text_of bs) txt

-- whether it does: how long its text is
pub record FrontOf (bs txt : Bytes) (r : Option ℕ) : Type 0 where
  pub is : is_some r ≡ front_stands bs txt
  pub size : IfSome r (λ n. n ≡ length (text_of bs))
