-- Laws on texts: the front of a text, names in it, and escapes there and back.
use Prim.Native.Nat.{ℕ, zero, suc, ◌≤◌}
use native.Mathlib.Omega.{arith}
use mathlib.Core.Path.{◌≡◌, refl, sym, ap, ap₂, ◌∙◌, subst}
use mathlib.Core.Bool.{Bool, true, false, ◌&&◌, ◌||◌, not, false≢true}
use mathlib.Core.Option.{Option, none, some, none-ne-some, some-injective}
use mathlib.Core.List.{[], ◌∷◌, ◌++◌}
use lib.Dec.{eqb, eqb_refl}
use lib.ListN.{length, take, drop, length-append}
use lib.Seq.{take-append_seam, drop-append_seam}
use Rattle.rules.specs.Bytes.{Bytes, ascii, all, of_T, eqb_eq}
use Rattle.rules.specs.WellFormed.{starts_name, in_name, is_name}
use Rattle.rules.specs.Print.{escape_byte, escape}
use Rattle.rules.proofs.Words.{and_split}
use Rattle.text_scan.specs.Scan.{PlainByte, starts_with, front_while, after_while, no_quote, no_tag, no_line_feed, escaped_at, plain_at, precede, unescaped, value_or, value_of_raw, on_line, split_lines}

-- ---- a byte that passes a test is none that does not
pub apart : (p : ℕ → Bool) (x c : ℕ) → p x ≡ true → p c ≡ false → eqb x c ≡ false
apart p x c h n = by (eqb x c) refl
  where
    by : (b : Bool) → eqb x c ≡ b → b ≡ false
    by true e = absurd (false≢true (sym n ∙ ap p (sym (eqb_eq x c e)) ∙ h))
    by false e = refl

pub apart' : (p : ℕ → Bool) (x c : ℕ) → p x ≡ true → p c ≡ false → eqb c x ≡ false
apart' p x c h n = by (eqb c x) refl
  where
    by : (b : Bool) → eqb c x ≡ b → b ≡ false
    by true e = absurd (false≢true (sym n ∙ ap p (eqb_eq c x e) ∙ h))
    by false e = refl

-- ---- the front of a text
pub leading_of : (p : ℕ → Bool) (v : Bytes) (x : ℕ) (r : Bytes) → all p v ≡ true → p x ≡ false → front_while p (v ++ x ∷ r) ≡ v
unfolding front_while
leading_of p [] x r a n = rw n
leading_of p (y ∷ v) x r a n = let (h, t) = and_split (p y) (all p v) a in rw (h, front_while) (ap (λ (z : Bytes). y ∷ z) (leading_of p v x r t n))

pub trailing_of : (p : ℕ → Bool) (v : Bytes) (x : ℕ) (r : Bytes) → all p v ≡ true → p x ≡ false → after_while p (v ++ x ∷ r) ≡ x ∷ r
unfolding after_while
trailing_of p [] x r a n = rw n
trailing_of p (y ∷ v) x r a n = let (h, t) = and_split (p y) (all p v) a in rw (h, after_while) (trailing_of p v x r t n)

pub leading_trailing : (p : ℕ → Bool) (txt : Bytes) → front_while p txt ++ after_while p txt ≡ txt
unfolding front_while after_while
leading_trailing p [] = refl
leading_trailing p (x ∷ xs) = by (p x) (leading_trailing p xs)
  where
    by : (b : Bool) → front_while p xs ++ after_while p xs ≡ xs → elim b [ true ↦ x ∷ front_while p xs | false ↦ [] ] ++ elim b [ true ↦ after_while p xs | false ↦ x ∷ xs ] ≡ x ∷ xs
    by true h = ap (λ (z : Bytes). x ∷ z) h
    by false h = refl

pub leading_take : (p : ℕ → Bool) (txt : Bytes) → take (length (front_while p txt)) txt ≡ front_while p txt
leading_take p txt = ap (take (length (front_while p txt))) (sym (leading_trailing p txt)) ∙ take-append_seam (front_while p txt) (after_while p txt)

pub trailing_drop : (p : ℕ → Bool) (txt : Bytes) → drop (length (front_while p txt)) txt ≡ after_while p txt
trailing_drop p txt = ap (drop (length (front_while p txt))) (sym (leading_trailing p txt)) ∙ drop-append_seam (front_while p txt) (after_while p txt)

pub leading_test : (p : ℕ → Bool) (txt : Bytes) → all p (front_while p txt) ≡ true
unfolding front_while
leading_test p [] = refl
leading_test p (x ∷ xs) = by (p x) refl (leading_test p xs)
  where
    by : (b : Bool) → p x ≡ b → all p (front_while p xs) ≡ true → all p (elim b [ true ↦ x ∷ front_while p xs | false ↦ [] ]) ≡ true
    by true e h = rw (e, h)
    by false e h = refl

-- ---- a word at the front of a text
pub starts_split : (w txt : Bytes) → starts_with w txt ≡ true → w ++ drop (length w) txt ≡ txt
unfolding starts_with
starts_split [] txt e = refl
starts_split (x ∷ w) [] e = absurd (false≢true e)
starts_split (x ∷ w) (y ∷ txt) e = let (h, t) = and_split (eqb x y) (starts_with w txt) e in ap₂ (λ (z : ℕ) (s : Bytes). z ∷ s) (eqb_eq x y h) (starts_split w txt t)

pub starts_long : (w txt : Bytes) → starts_with w txt ≡ true → length w ≤ length txt
starts_long w txt e = omega (arith, ap length (starts_split w txt e), length-append w (drop (length w) txt))

pub starts_append : (w r : Bytes) → starts_with w (w ++ r) ≡ true
unfolding starts_with
starts_append [] r = refl
starts_append (x ∷ w) r = let same : eqb x x ≡ true = of_T (eqb_refl x) in rw same (starts_append w r)

-- ---- lines
pub line_first : (y : ℕ) (ys : Bytes) → split_lines (y ∷ ys) ≡ front_while no_line_feed (y ∷ ys) ∷ split_lines (drop 1 (after_while no_line_feed (y ∷ ys)))
unfolding split_lines front_while after_while
line_first y [] = by (eqb y 10)
  where
    by : (b : Bool) → elim b [ true ↦ [] ∷ [] | false ↦ (y ∷ []) ∷ [] ]
        ≡ elim (not b) [ true ↦ y ∷ [] | false ↦ [] ] ∷ split_lines (drop 1 (elim (not b) [ true ↦ [] | false ↦ y ∷ [] ]))
    by true = refl
    by false = refl
line_first y (z ∷ zs) = by (eqb y 10) (line_first z zs)
  where
    by : (b : Bool) → split_lines (z ∷ zs) ≡ front_while no_line_feed (z ∷ zs) ∷ split_lines (drop 1 (after_while no_line_feed (z ∷ zs)))
        → elim b [ true ↦ [] ∷ split_lines (z ∷ zs) | false ↦ on_line y (split_lines (z ∷ zs)) ]
        ≡ elim (not b) [ true ↦ y ∷ front_while no_line_feed (z ∷ zs) | false ↦ [] ]
        ∷ split_lines (drop 1 (elim (not b) [ true ↦ after_while no_line_feed (z ∷ zs) | false ↦ y ∷ z ∷ zs ]))
    by true h = refl
    by false h = ap (on_line y) h

pub lines_of : (l r : Bytes) → all no_line_feed l ≡ true → split_lines (l ++ 10 ∷ r) ≡ l ∷ split_lines r
unfolding split_lines
lines_of [] r e = refl
lines_of (x ∷ l) r e = let (h, t) = and_split (not (eqb x 10)) (all no_line_feed l) e in by (eqb x 10) h (lines_of l r t)
  where
    by : (b : Bool) → not b ≡ true → split_lines (l ++ 10 ∷ r) ≡ l ∷ split_lines r
        → elim b [ true ↦ [] ∷ split_lines (l ++ 10 ∷ r) | false ↦ on_line x (split_lines (l ++ 10 ∷ r)) ] ≡ (x ∷ l) ∷ split_lines r
    by true h p = absurd (false≢true h)
    by false h p = ap (on_line x) p

-- ---- names
pub record Naming (n : Bytes) : Type 0 where
  pub head : ℕ
  pub tail : Bytes
  pub is : n ≡ head ∷ tail
  pub starts : starts_name head ≡ true
  pub bytes : all in_name n ≡ true

pub naming : (n : Bytes) → is_name n ≡ true → Naming n
naming [] e = absurd (false≢true e)
naming (x ∷ xs) e =
    let (h, t) = and_split (starts_name x && all in_name xs) _ e in
    let (s, a) = and_split (starts_name x) (all in_name xs) h in
    record { head = x; tail = xs; is = refl; starts = s; bytes = rw (s, a) }

-- ---- values
-- a byte is one of the four that are escaped, or none of them
escape_by_lem : (x : ℕ) (P : Bytes → Type 0) → P (escape_byte 38) → P (escape_byte 60) → P (escape_byte 62) → P (escape_byte 34)
    → (eqb x 38 ≡ false → eqb x 60 ≡ false → eqb x 62 ≡ false → eqb x 34 ≡ false → P (x ∷ [])) → P (escape_byte x)
escape_by_lem x P p q r s t = by (eqb x 38) refl (eqb x 60) refl (eqb x 62) refl (eqb x 34) refl
  where
    by : (a : Bool) → eqb x 38 ≡ a → (b : Bool) → eqb x 60 ≡ b → (c : Bool) → eqb x 62 ≡ c → (d : Bool) → eqb x 34 ≡ d
        → P (elim a [ true ↦ escape_byte 38 | false ↦ elim b [ true ↦ escape_byte 60 | false ↦ elim c [ true ↦ escape_byte 62 | false ↦ elim d [ true ↦ escape_byte 34 | false ↦ x ∷ [] ] ] ] ])
    by true e₁ b e₂ c e₃ d e₄ = p
    by false e₁ true e₂ c e₃ d e₄ = q
    by false e₁ false e₂ true e₃ d e₄ = r
    by false e₁ false e₂ false e₃ true e₄ = s
    by false e₁ false e₂ false e₃ false e₄ = t e₁ e₂ e₃ e₄

-- an escaped value has no `"` and no `<`
pub escape_quoted : (v : Bytes) → all no_quote (escape v) ≡ true
escape_quoted [] = refl
escape_quoted (x ∷ v) =
    let h = escape_quoted v in
    escape_by_lem x (λ w. all no_quote (w ++ escape v) ≡ true) h h h h (λ a b c d. rw d h)

pub escape_untagged : (v : Bytes) → all no_tag (escape v) ≡ true
escape_untagged [] = refl
escape_untagged (x ∷ v) =
    let h = escape_untagged v in
    escape_by_lem x (λ w. all no_tag (w ++ escape v) ≡ true) h h h h (λ a b c d. rw b h)

-- an escape is undone
pub unescaped_escape : (v : Bytes) → unescaped 0 (escape v) ≡ some v
unfolding unescaped starts_with
unescaped_escape [] = refl
unescaped_escape (x ∷ v) = by (unescaped_escape v) (eqb x 38) refl (eqb x 60) refl (eqb x 62) refl (eqb x 34) refl
  where
    is : (c : ℕ) → eqb x c ≡ true → some (c ∷ v) ≡ some (x ∷ v)
    is c e = ap (λ (z : ℕ). some (z ∷ v)) (sym (eqb_eq x c e))

    by : unescaped 0 (escape v) ≡ some v → (a : Bool) → eqb x 38 ≡ a → (b : Bool) → eqb x 60 ≡ b → (c : Bool) → eqb x 62 ≡ c → (d : Bool) → eqb x 34 ≡ d
        → unescaped 0
        ((elim a [ true ↦ escape_byte 38 | false ↦ elim b [ true ↦ escape_byte 60 | false ↦ elim c [ true ↦ escape_byte 62 | false ↦ elim d [ true ↦ escape_byte 34 | false ↦ x ∷ [] ] ] ] ]) ++ escape v)
        ≡ some (x ∷ v)
    by h true e₁ b e₂ c e₃ d e₄ = ap (precede 38) h ∙ is 38 e₁
    by h false e₁ true e₂ c e₃ d e₄ = ap (precede 60) h ∙ is 60 e₂
    by h false e₁ false e₂ true e₃ d e₄ = ap (precede 62) h ∙ is 62 e₃
    by h false e₁ false e₂ false e₃ true e₄ = ap (precede 34) h ∙ is 34 e₄
    by h false e₁ false e₂ false e₃ false e₄ = let p : plain_at x (escape v) ≡ some (record { byte = x; more = 0 }) = rw (e₁, plain_at) (rw (e₂, e₃, e₄)) in rw (p, unescaped) (ap (precede x) h)

pub value_escape : (v : Bytes) → value_of_raw (escape v) ≡ v
value_escape v = ap value_or (unescaped_escape v)

-- the bytes that stand for one byte are its escape
pub record Undone (x : ℕ) (xs : Bytes) (p : PlainByte) : Type 0 where
  pub is : escape_byte p.byte ++ drop p.more xs ≡ x ∷ xs
  pub inside : p.more ≤ length xs

pub plain_undone : (x : ℕ) (xs : Bytes) (p : PlainByte) → plain_at x xs ≡ some p → Undone x xs p
plain_undone x xs p e = by (eqb x 38) refl e
  where
    this : {q : PlainByte} → some q ≡ some p → Undone x xs q → Undone x xs p
    this e h = subst (Undone x xs) (some-injective _ _ e) h

    word : (w : Bytes) → eqb x 38 ≡ true → starts_with w xs ≡ true → 38 ∷ w ++ drop (length w) xs ≡ x ∷ xs
    word w e s = ap₂ (λ (z : ℕ) (r : Bytes). z ∷ r) (sym (eqb_eq x 38 e)) (starts_split w xs s)

    after : eqb x 38 ≡ true → (a : Bool) → starts_with (ascii "amp;") xs ≡ a → (b : Bool) → starts_with (ascii "lt;") xs ≡ b
        → (c : Bool) → starts_with (ascii "gt;") xs ≡ c → (d : Bool) → starts_with (ascii "quot;") xs ≡ d
        → elim a [
          | true ↦ some (record { byte = 38; more = 4 })
          | false ↦
              elim b [
                | true ↦ some (record { byte = 60; more = 3 })
                | false ↦
                    elim c [ true ↦ some (record { byte = 62; more = 3 }) | false ↦ elim d [ true ↦ some (record { byte = 34; more = 5 }) | false ↦ none ] ]
              ]
        ] ≡ some p
        → Undone x xs p
    after i true e₁ b e₂ c e₃ d e₄ h = this h (record { is = word (ascii "amp;") i e₁; inside = starts_long (ascii "amp;") xs e₁ })
    after i false e₁ true e₂ c e₃ d e₄ h = this h (record { is = word (ascii "lt;") i e₂; inside = starts_long (ascii "lt;") xs e₂ })
    after i false e₁ false e₂ true e₃ d e₄ h = this h (record { is = word (ascii "gt;") i e₃; inside = starts_long (ascii "gt;") xs e₃ })
    after i false e₁ false e₂ false e₃ true e₄ h = this h (record { is = word (ascii "quot;") i e₄; inside = starts_long (ascii "quot;") xs e₄ })
    after i false e₁ false e₂ false e₃ false e₄ h = absurd (none-ne-some p h)

    other : eqb x 38 ≡ false → (a : Bool) → eqb x 60 ≡ a → (b : Bool) → eqb x 62 ≡ b → (c : Bool) → eqb x 34 ≡ c
        → elim (a || (b || c)) [ true ↦ none | false ↦ some (record { byte = x; more = 0 }) ] ≡ some p → Undone x xs p
    other n true e₁ b e₂ c e₃ h = absurd (none-ne-some p h)
    other n false e₁ true e₂ c e₃ h = absurd (none-ne-some p h)
    other n false e₁ false e₂ true e₃ h = absurd (none-ne-some p h)
    other n false e₁ false e₂ false e₃ h = this h (record { is = rw (n, escape_byte) (rw (e₁, e₂, e₃)); inside = omega arith })

    by : (a : Bool) → eqb x 38 ≡ a
        → elim a [ true ↦ escaped_at xs | false ↦ elim (eqb x 60 || (eqb x 62 || eqb x 34)) [ true ↦ none | false ↦ some (record { byte = x; more = 0 }) ] ] ≡ some p → Undone x xs p
    by true i h = after i (starts_with (ascii "amp;") xs) refl (starts_with (ascii "lt;") xs) refl (starts_with (ascii "gt;") xs) refl (starts_with (ascii "quot;") xs) refl h
    by false i h = other i (eqb x 60) refl (eqb x 62) refl (eqb x 34) refl h

unescaped_from : (raw : Bytes) (skip : ℕ) (v : Bytes) → unescaped skip raw ≡ some v → escape v ≡ drop skip raw
unfolding unescaped
unescaped_from [] zero v e = ap escape (sym (some-injective _ _ e))
unescaped_from [] (suc skip) v e = absurd (none-ne-some v e)
unescaped_from (x ∷ xs) (suc skip) v e = unescaped_from xs skip v e
unescaped_from (x ∷ xs) zero v e = by (unescaped_from xs) (plain_at x xs) refl e
  where
    on : (byte : ℕ) (o : Option Bytes) (rest : Bytes) → ((u : Bytes) → o ≡ some u → escape u ≡ rest) → precede byte o ≡ some v → escape v ≡ escape_byte byte ++ rest
    on byte none rest h e = absurd (none-ne-some v e)
    on byte (some u) rest h e = ap escape (sym (some-injective _ _ e)) ∙ ap (λ (z : Bytes). escape_byte byte ++ z) (h u refl)

    by : ((skip : ℕ) (u : Bytes) → unescaped skip xs ≡ some u → escape u ≡ drop skip xs) → (o : Option PlainByte) → plain_at x xs ≡ o
        → elim o [ none ↦ none | some p ↦ precede p.byte (unescaped p.more xs) ] ≡ some v → escape v ≡ x ∷ xs
    by h none i e = absurd (none-ne-some v e)
    by h (some p) i e = on p.byte (unescaped p.more xs) (drop p.more xs) (h p.more) e ∙ (plain_undone x xs p i).is

-- what is undone was the escape
pub escape_unescaped : (raw v : Bytes) → unescaped 0 raw ≡ some v → escape v ≡ raw
escape_unescaped raw v e = unescaped_from raw 0 v e
