-- The rows after a token: what it makes and opens, in the code's numbers.
use mathlib.Core.Path.{◌≡◌, refl, sym, ap, ◌∙◌}
use mathlib.Core.Bool.{Bool, true, false, ◌||◌, false≢true}
use mathlib.Core.Option.{Option}
use mathlib.Core.List.{List, [], ◌∷◌}
use Prim.Native.Nat.{ℕ, ◌+◌, ◌<◌, ◌≤◌}
use native.Mathlib.Omega.{arith}
use lib.Dec.{eqb}
use lib.ListN.{length, take, drop}
use Rattle.rules.specs.Bytes.{Bytes}
use Rattle.rules.specs.Preorder.{Deep}
use Rattle.rules.specs.Layout.{FlatRow}
use Rattle.rules.specs.WellFormed.{is_there}
use Rattle.rules.specs.Decode.{definition_count, attribute_count}
use Rattle.layout.specs.RowBytes.{row_of}
use Rattle.document_tokens.specs.Tokens.{Declared, declared_in, Token, token_at, row_of_token, open_after, tag_after, with_rows, document_rows}
use Rattle.document_tokens.specs.Telling.{stack_of, TokenTold}
use Rattle.document_tokens.proofs.FormLaws.{definitions_many, attributes_many}
use Rattle.document_tokens.proofs.TokenLaws.{TokenFits}
use Rattle.document_tokens.proofs.ChoiceLaws.{stack_size}
use Rattle.document_row_writer.specs.Putting.{made_row, made_count, rows_here, open_by, Advanced}
use Rattle.document_row_writer.proofs.RowLaws.{rows_after, rows_refused, rows_on}

-- ---- how many rows a token makes
pub made_many : (sort depth index serial : ℕ) (v : Bytes) → length (made_row sort depth index serial v) ≡ made_count sort
made_many sort depth index serial v = by (eqb sort 0)
  where
    by : (b : Bool) → length {A = Deep FlatRow} (elim b [ true ↦ [] | false ↦ row_of sort depth index serial v ∷ [] ]) ≡ elim b [ true ↦ 0 | false ↦ 1 ]
    by true = refl
    by false = refl

pub made_few : (sort : ℕ) → made_count sort ≤ 1
made_few sort = by (eqb sort 0)
  where
    by : (b : Bool) → elim b as (λ x. ℕ) [ true ↦ 0 | false ↦ 1 ] ≤ 1
    by true = omega arith
    by false = omega arith

-- ---- the numbers of a token
module _ (bs : Bytes) {w : ℕ} {opened : List ℕ} {txt : Bytes} {t : Token} {size sort index n : ℕ} {v' : Bytes}
    (fits : TokenFits (declared_in bs) w opened txt t) (told : TokenTold t size sort index n v') where
  pub index_small : definition_count bs ≤ 64 → attribute_count bs ≤ 64 → index < 256
  index_small h g = omega (arith, fits.low, told.index_is, definitions_many bs, attributes_many bs)

  pub value_fits_lem : {v : Bytes} → v ≡ take n v' → length v ≤ w
  value_fits_lem e = omega (arith, fits.short, ap length (e ∙ told.value_is))

  pub opens_more : {depth : ℕ} → length opened ≡ depth → sort ≡ 1 → depth < 255
  opens_more e g = omega (arith, fits.deep (sym told.sort_is ∙ g))

-- ---- the rows
module _ (w : ℕ) (d : Declared) (txt : Bytes) (m : ℕ) (opened : Bytes) (depth : ℕ) (tag : Bool) (there : 0 < length txt) where
  abbrev t : Token
  t = token_at d w (stack_of depth opened) tag txt

  -- where there are rows, the token is exact
  pub exact_there : is_there (rows_here w d m opened depth tag txt) ≡ true → t.exact ≡ true
  exact_there h = by t.exact refl
    where
      by : (b : Bool) → t.exact ≡ b → b ≡ true
      by true e = refl
      by false e = absurd (false≢true (sym (ap is_there (rows_refused d w (m + 1) (stack_of depth opened) tag txt there e)) ∙ h))

  module _ {size sort index n : ℕ} {v' v : Bytes} (exact : t.exact ≡ true) (told : TokenTold t size sort index n v') (valued : v ≡ take n v') where
    abbrev after : Option (List (Deep FlatRow))
    after = rows_after d w (m + 1) (stack_of depth opened) tag t txt

    made_is : row_of_token (m + 1) (length (stack_of depth opened)) t ≡ made_row sort depth index (m + 1) v
    made_is = λ i. made_row (sym told.sort_is i) (stack_size depth opened i) (sym told.index_is i) (m + 1) ((sym (valued ∙ told.value_is)) i)

    pub rows_made_lem : rows_here w d m opened depth tag txt ≡ with_rows (made_row sort depth index (m + 1) v) after
    rows_made_lem = rows_on d w (m + 1) (stack_of depth opened) tag txt there exact ∙ ap (λ (l : List (Deep FlatRow)). with_rows l after) made_is

    module _ {size' m' depth' : ℕ} {opened' : Bytes} {tag' : Bool} (adv : Advanced tag opened depth sort index depth' opened') (z : size' ≡ size) (mm : m' ≡ m + made_count sort)
        (g : tag' ≡ (eqb sort 1 || eqb sort 2)) where
      pub made_counted : m + length (made_row sort depth index (m + 1) v) ≡ m'
      made_counted = ap (λ (k : ℕ). m + k) (made_many sort depth index (m + 1) v) ∙ sym mm

      serial : m + 1 + length (row_of_token (m + 1) (length (stack_of depth opened)) t) ≡ m' + 1
      serial = ap (λ (l : List (Deep FlatRow)). m + 1 + length l) made_is ∙ omega (arith, made_counted)

      stack : open_after tag (stack_of depth opened) t ≡ stack_of depth' opened'
      stack = (λ i. open_by tag (stack_of depth opened) (sym told.sort_is i) (sym told.index_is i)) ∙ sym adv.is

      tagged : tag_after t ≡ tag'
      tagged = ap (λ (k : ℕ). eqb k 1 || eqb k 2) (sym told.sort_is) ∙ sym g

      pub rows_left_lem : after ≡ rows_here w d m' opened' depth' tag' (drop size' txt)
      rows_left_lem = λ i. document_rows d w (serial i) (stack i) (tagged i) 0 (drop ((sym (z ∙ told.size_is)) i) txt)
