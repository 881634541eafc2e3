-- The rows of a text, token by token.
use mathlib.Core.Path.{◌≡◌, refl, ap, ◌∙◌}
use mathlib.Core.Bool.{Bool, true, false}
use mathlib.Core.Option.{Option, none, some}
use mathlib.Core.List.{List, [], ◌∷◌}
use Prim.Native.Nat.{ℕ, zero, suc, ◌+◌, ◌-◌, ◌<◌, ◌≤◌}
use native.Mathlib.Omega.{arith}
use native.Mathlib.Numerals.{sub-one}
use lib.ListN.{length, drop}
use Rattle.rules.specs.Bytes.{Bytes, is_none}
use Rattle.rules.specs.Preorder.{Deep}
use Rattle.rules.specs.Layout.{FlatRow}
use Rattle.document_tokens.specs.Tokens.{Declared, Token, token_at, row_of_token, open_after, tag_after, with_rows, document_rows}
use Rattle.document_tokens.proofs.TokenLaws.{token_fits}

rows_skip : (f : Declared) (w k : ℕ) (opened : List ℕ) (tag : Bool) (n : ℕ) (txt : Bytes) → n ≤ length txt → document_rows f w k opened tag n txt ≡ document_rows f w k opened tag 0 (drop n txt)
unfolding document_rows
rows_skip f w k opened tag zero txt h = refl
rows_skip f w k opened tag (suc n) [] h = absurd (omega arith)
rows_skip f w k opened tag (suc n) (x ∷ txt) h = rows_skip f w k opened tag n txt (omega arith)

module _ (f : Declared) (w k : ℕ) (opened : List ℕ) (tag : Bool) where
  -- what follows a token
  abbrev pub rows_after : Token → Bytes → Option (List (Deep FlatRow))
  rows_after t txt = document_rows f w (k + length (row_of_token k (length opened) t)) (open_after tag opened t) (tag_after t) 0 (drop t.size txt)

  pub rows_refused : (txt : Bytes) → 0 < length txt → (token_at f w opened tag txt).exact ≡ false → document_rows f w k opened tag 0 txt ≡ none
  unfolding document_rows
  rows_refused [] h e = absurd (omega arith)
  rows_refused (x ∷ xs) h e = rw (e, document_rows)

  pub rows_on : (txt : Bytes) → 0 < length txt → (token_at f w opened tag txt).exact ≡ true
      → document_rows f w k opened tag 0 txt ≡ with_rows (row_of_token k (length opened) (token_at f w opened tag txt)) (rows_after (token_at f w opened tag txt) txt)
  unfolding document_rows
  rows_on [] h e = absurd (omega arith)
  rows_on (x ∷ xs) h e =
      let t : Token = token_at f w opened tag (x ∷ xs) in
      let g = token_fits f w opened tag (x ∷ xs) e in
      let m : ℕ = k + length (row_of_token k (length opened) t) in
      let back : drop (t.size - 1) xs ≡ drop t.size (x ∷ xs) = drop_back t.size g.onward in
      rw (e, document_rows)
      (ap (with_rows (row_of_token k (length opened) t))
      (rows_skip f w m (open_after tag opened t) (tag_after t) (t.size - 1) xs (omega (arith, g.within, g.onward))
      ∙ ap (λ (l : Bytes). document_rows f w m (open_after tag opened t) (tag_after t) 0 l) back))
    where
      drop_back : (n : ℕ) → 0 < n → drop (n - 1) xs ≡ drop n (x ∷ xs)
      drop_back zero h = absurd (omega arith)
      drop_back (suc n) h = rw sub-one

  pub rows_ended : (txt : Bytes) → length txt ≡ 0 → document_rows f w k opened tag 0 txt ≡ elim (is_none opened) [ true ↦ some [] | false ↦ none ]
  unfolding document_rows
  rows_ended [] h = refl
  rows_ended (x ∷ xs) h = absurd (omega arith)
