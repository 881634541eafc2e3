-- What the rows that a text shows are like, whatever the text is: their fields fit their bytes, and their serials are
-- counted from the first on. By induction over the text, token by token.
use Prim.Native.Nat.{ℕ, zero, suc, ◌+◌, ◌-◌, ◌≤◌, ◌<◌}
use native.Mathlib.Omega.{arith}
use mathlib.Core.Path.{◌≡◌, refl, ap, ◌∙◌, subst}
use mathlib.Core.Bool.{Bool, true, false}
use mathlib.Core.Option.{Option, none, some, none-ne-some, some-injective}
use mathlib.Core.List.{List, [], ◌∷◌, ◌++◌}
use lib.Dec.{eqb}
use lib.ListN.{length, drop}
use Rattle.rules.specs.Bytes.{Bytes, eqb_eq}
use Rattle.rules.specs.Preorder.{Deep}
use Rattle.rules.specs.Layout.{FlatRow}
use Rattle.rules.proofs.BooleanLaws.{Every}
use Rattle.history.proofs.NumberTests.{range}
use Rattle.layout.specs.RowBytes.{row_of}
use Rattle.store_check.specs.Reading.{serials_of_rows}
use Rattle.document_tokens.specs.Tokens.{Declared, Token, token_at, row_of_token, open_after, tag_after, with_rows, document_rows}
use Rattle.document_tokens.proofs.TokenLaws.{TokenFits, token_fits}

-- the depth fits a byte, the index two, the value its field
pub record RowBounded (w : ℕ) (x : Deep FlatRow) : Type 0 where
  pub depth : x.depth < 256
  pub index : x.row.index < 65536
  pub value : length x.row.value ≤ w

module _ (f : Declared) (w : ℕ) (few : length f.definitions ≤ 64) (fewer : length f.attributes ≤ 64) where
  pub record RowsMade (k : ℕ) (xs : List (Deep FlatRow)) : Type 0 where
    pub rows : Every (RowBounded w) xs
    pub serials : serials_of_rows xs ≡ range k (length xs)

  made_none : {k : ℕ} {xs : List (Deep FlatRow)} → [] ≡ xs → RowsMade k xs
  made_none {k} e = subst (λ (z : List (Deep FlatRow)). RowsMade k z) e (record { rows = tt; serials = unfold range in refl })

  -- the row of a token, and those behind it
  made_more : (k : ℕ) (opened : List ℕ) (txt : Bytes) (t : Token) (ys : List (Deep FlatRow)) → length opened ≤ 255 → TokenFits f w opened txt t
      → RowsMade (k + length (row_of_token k (length opened) t)) ys → RowsMade k (row_of_token k (length opened) t ++ ys)
  unfolding range
  made_more k opened txt t ys l m = by (eqb t.sort 0)
    where
      by : (z : Bool)
          → let made : List (Deep FlatRow) = elim z [ true ↦ [] | false ↦ row_of t.sort (length opened) t.index k t.value ∷ [] ] in
          RowsMade (k + length made) ys → RowsMade k (made ++ ys)
      by true r = let e : k + 0 ≡ k = omega arith in subst (λ (j : ℕ). RowsMade j ys) e r
      by false r =
          let e : k + 1 ≡ suc k = omega arith in
          record {
            rows = (record { depth = omega arith; index = omega (arith, m.low); value = m.short }, r.rows);
            serials = ap (λ (ks : List ℕ). k ∷ ks) (r.serials ∙ ap (λ (j : ℕ). range j (length ys)) e);
          }

  -- what stays open
  open_bound : (tag : Bool) (opened : List ℕ) (txt : Bytes) (t : Token) → length opened ≤ 255 → TokenFits f w opened txt t → length (open_after tag opened t) ≤ 255
  open_bound tag opened txt t l m = by (eqb t.sort 1) refl (eqb t.sort 0) tag
    where
      popped : (os : List ℕ) → length os ≤ 255 → length (drop 1 os) ≤ 255
      popped [] h = h
      popped (o ∷ os) h = omega arith

      by : (a : Bool) → eqb t.sort 1 ≡ a → (b c : Bool)
          → length {A = ℕ} (elim a as (λ z. List ℕ) [
            | true ↦ t.index ∷ opened
            | false ↦
                elim b as (λ z. List ℕ) [ true ↦ elim c as (λ z. List ℕ) [ true ↦ opened | false ↦ drop 1 opened ] | false ↦ opened ]
          ]) ≤ 255
      by true q b c = omega (arith, m.deep (eqb_eq t.sort 1 q))
      by false q true true = l
      by false q true false = popped opened l
      by false q false c = l

  pub rows_made_lem : (txt : Bytes) (skip k : ℕ) (opened : List ℕ) (tag : Bool) (xs : List (Deep FlatRow)) → length opened ≤ 255
      → document_rows f w k opened tag skip txt ≡ some xs → RowsMade k xs
  unfolding document_rows
  rows_made_lem [] zero k [] tag xs l e = made_none (some-injective [] xs e)
  rows_made_lem [] zero k (o ∷ others) tag xs l e = absurd (none-ne-some xs e)
  rows_made_lem [] (suc skip) k opened tag xs l e = absurd (none-ne-some xs e)
  rows_made_lem (y ∷ ys) (suc skip) k opened tag xs l e = rows_made_lem ys skip k opened tag xs l e
  rows_made_lem (y ∷ ys) zero k opened tag xs l e = by (token_at f w opened tag (y ∷ ys)).exact refl (λ skip k' opened' tag' zs. rows_made_lem ys skip k' opened' tag' zs) e
    where
      t : Token
      t = token_at f w opened tag (y ∷ ys)

      made : List (Deep FlatRow)
      made = row_of_token k (length opened) t

      joined : (o : Option (List (Deep FlatRow))) → ((zs : List (Deep FlatRow)) → o ≡ some zs → RowsMade (k + length made) zs) → TokenFits f w opened (y ∷ ys) t
          → with_rows made o ≡ some xs → RowsMade k xs
      joined none h m q = absurd (none-ne-some xs q)
      joined (some zs) h m q = subst (λ (z : List (Deep FlatRow)). RowsMade k z) (some-injective (made ++ zs) xs q) (made_more k opened (y ∷ ys) t zs l m (h zs refl))

      by : (b : Bool) → t.exact ≡ b
          → ((skip k' : ℕ) (opened' : List ℕ) (tag' : Bool) (zs : List (Deep FlatRow)) → length opened' ≤ 255 → document_rows f w k' opened' tag' skip ys ≡ some zs → RowsMade k' zs)
          → elim b as (λ z. Option (List (Deep FlatRow))) [ true ↦ with_rows made (document_rows f w (k + length made) (open_after tag opened t) (tag_after t) (t.size - 1) ys) | false ↦ none ] ≡ some xs
          → RowsMade k xs
      by true q on r =
          let m : TokenFits f w opened (y ∷ ys) t = token_fits f w opened tag (y ∷ ys) q in
          joined (document_rows f w (k + length made) (open_after tag opened t) (tag_after t) (t.size - 1) ys)
          (λ zs h. on (t.size - 1) (k + length made) (open_after tag opened t) (tag_after t) zs (open_bound tag opened (y ∷ ys) t l m) h) m r
      by false q on r = absurd (none-ne-some xs r)
