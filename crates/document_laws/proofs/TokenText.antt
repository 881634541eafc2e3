-- What is read off a text has that text: each token is exact, so it is the text of its row; by induction on the text.
use Prim.Native.Nat.{ℕ, zero, suc, ◌+◌, ◌-◌, ◌≤◌, ◌<◌}
use native.Mathlib.Omega.{arith}
use mathlib.Core.Path.{◌≡◌, refl, sym, ap, ap₂, ◌∙◌}
use mathlib.Core.Bool.{Bool, true, false, ◌&&◌, false≢true}
use mathlib.Core.Option.{Option, none, some, none-ne-some, some-injective}
use mathlib.Core.List.{List, [], ◌∷◌, ◌++◌, map}
use lib.Dec.{eqb, ltb}
use lib.ListN.{length, drop, length-map}
use lib.Seq.{drop-drop}
use borrow.Author.Tests.{ltb-true}
use Rattle.rules.specs.Bytes.{Bytes, ascii, same, is_none, eqb_eq, same_eq}
use Rattle.rules.specs.Preorder.{Deep}
use Rattle.rules.specs.Layout.{FlatAttribute, FlatRow}
use Rattle.rules.specs.WellFormed.{in_name}
use Rattle.rules.specs.Decode.{name_at, flat_name, flat_attribute_name}
use Rattle.rules.specs.Print.{escape}
use Rattle.rules.proofs.Words.{and_split}
use Rattle.rules.proofs.BooleanLaws.{guard_some}
use Rattle.layout.specs.RowBytes.{row_of}
use Rattle.text_scan.specs.Scan.{first_byte, starts_with, front_while, after_while, no_quote, no_tag, unescaped, value_or}
use Rattle.text_scan.proofs.ScanLaws.{leading_trailing, trailing_drop, starts_split, escape_unescaped}
use Rattle.declaration_scan.specs.Declared.{place_among}
use Rattle.document_tokens.specs.Tokens.{Declared, declared_names, kind_of_definition, attribute_among, Token, short_value, element_token, attribute_token, text_token, start_end_token, end_tag, end_token}
use Rattle.document_tokens.specs.Tokens.{no_token, token_at, row_of_token, open_after, tag_after, with_rows, document_rows}
use Rattle.rules.proofs.PreorderLaws.{Ends}
use Rattle.document_laws.specs.RowsText.{attribute_names_in, text_of_rows}
use Rattle.document_laws.proofs.RowsTextLaws.{Follows, text_end, text_start, text_element, text_attribute, text_content}

-- ---- what is found has that very name
pub place_name : (n : Bytes) (ns : List Bytes) → place_among n ns < length ns → name_at (place_among n ns) ns ≡ n
unfolding place_among
place_name n [] l = absurd (let z : ⊥ = omega arith in z)
place_name n (m ∷ ns) l = by (same n m) refl l (place_name n ns)
  where
    by : (b : Bool) → same n m ≡ b → elim b [ true ↦ 0 | false ↦ suc (place_among n ns) ] < suc (length ns) → (place_among n ns < length ns → name_at (place_among n ns) ns ≡ n)
        → name_at (elim b [ true ↦ 0 | false ↦ suc (place_among n ns) ]) (m ∷ ns) ≡ n
    by true e h k = sym (same_eq n m e)
    by false e h k = k (omega arith)

pub attribute_name_lem : (o : ℕ) (n : Bytes) (table : List FlatAttribute) → attribute_among o n table < length table → name_at (attribute_among o n table) (map flat_attribute_name table) ≡ n
unfolding attribute_among
attribute_name_lem o n [] l = absurd (let z : ⊥ = omega arith in z)
attribute_name_lem o n (a ∷ table) l = by (eqb o a.owner && same n a.name) refl l (attribute_name_lem o n table)
  where
    by : (b : Bool) → (eqb o a.owner && same n a.name) ≡ b → elim b [ true ↦ 0 | false ↦ suc (attribute_among o n table) ] < suc (length table)
        → (attribute_among o n table < length table → name_at (attribute_among o n table) (map flat_attribute_name table) ≡ n)
        → name_at (elim b [ true ↦ 0 | false ↦ suc (attribute_among o n table) ]) (map flat_attribute_name (a ∷ table)) ≡ n
    by true e h k = sym (same_eq n a.name (and_split (eqb o a.owner) (same n a.name) e).1)
    by false e h k = k (omega arith)

-- ---- a text by its first byte
first_is : (c : ℕ) (txt : Bytes) → eqb (first_byte txt) (suc c) ≡ true → txt ≡ suc c ∷ drop 1 txt
first_is c [] e = let z : 0 ≡ suc c = eqb_eq 0 (suc c) e in absurd (let y : ⊥ = omega arith in y)
first_is c (x ∷ xs) e = ap (λ (z : ℕ). z ∷ xs) (eqb_eq x (suc c) e)

short_some : (w : ℕ) (v : Option Bytes) → short_value w v ≡ true → v ≡ some (value_or v)
short_some w none e = absurd (false≢true e)
short_some w (some v) e = refl

drop_less : (n x : ℕ) (xs : Bytes) → 1 ≤ n → drop n (x ∷ xs) ≡ drop (n - 1) xs
drop_less zero x xs l = absurd (let z : ⊥ = omega arith in z)
drop_less (suc n) x xs l = let e : suc n - 1 ≡ n = omega arith in ap (λ (m : ℕ). drop m xs) (sym e)

end_long : (f : Declared) (o n : ℕ) → 1 ≤ length (end_tag f o n)
end_long f o zero = omega arith
end_long f o (suc n) = omega arith

-- ---- tokens
module _ (f : Declared) (w : ℕ) where
  -- the text is that of the rows
  pub record Says (opened : List ℕ) (tag : Bool) (txt : Bytes) (rows : List (Deep FlatRow)) : Type 0 where
    pub is : txt ≡ text_of_rows f opened tag rows
    pub follows : Follows opened tag rows

  -- .. where the rows after the token have the text after it
  abbrev Sound : List ℕ → Bool → ℕ → Bytes → Token → Type 0
  Sound opened tag x xs t =
      t.exact ≡ true → (k : ℕ) (rows : List (Deep FlatRow)) → Says (open_after tag opened t) (tag_after t) (drop (t.size - 1) xs) rows
      → Says opened tag (x ∷ xs) (row_of_token k (length opened) t ++ rows)

  element_sound : (opened : List ℕ) (x : ℕ) (xs : Bytes) → Sound opened false x xs (element_token f (x ∷ xs))
  element_sound opened x xs e k rows h =
      let n : Bytes = front_while in_name xs in
      let i : ℕ = place_among n (declared_names f) in
      let (e₀, e₁) = and_split (eqb x 60) (ltb i (length f.definitions)) e in
      let found : name_at i (declared_names f) ≡ n = place_name n (declared_names f) (rw (length-map f.definitions flat_name) (ltb-true i (length f.definitions) e₁)) in
      let size : (1 + length n) - 1 ≡ length n = omega arith in
      let rest : after_while in_name xs ≡ text_of_rows f (i ∷ opened) true rows = sym (trailing_drop in_name xs) ∙ ap (λ (m : ℕ). drop m xs) (sym size) ∙ h.is in
      record {
        is =
            ap₂ (λ (z : ℕ) (zs : Bytes). z ∷ zs) (eqb_eq x 60 e₀) (sym (leading_trailing in_name xs) ∙ ap₂ (λ (a b : Bytes). a ++ b) (sym found) rest)
            ∙ sym (text_element f opened (row_of 1 (length opened) i k []) rows (omega arith) false refl);
        follows = record { depth = omega arith; sort = λ a b. refl };
      }

  attribute_sound : (o : ℕ) (others : List ℕ) (x : ℕ) (xs : Bytes) → eqb x 32 ≡ true → Sound (o ∷ others) true x xs (attribute_token f w o (x ∷ xs))
  attribute_sound o others x xs blank e k rows h =
      let n : Bytes = front_while in_name xs in
      let t : Bytes = after_while in_name xs in
      let raw : Bytes = front_while no_quote (drop 2 t) in
      let u : Bytes = after_while no_quote (drop 2 t) in
      let v : Bytes = value_or (unescaped 0 raw) in
      let i : ℕ = attribute_among o n f.attributes in
      let (e₀, e₁) = and_split (starts_with (ascii "=\"") t) (eqb (first_byte u) 34 && (ltb i (length f.attributes) && short_value w (unescaped 0 raw))) e in
      let (e₂, e₃) = and_split (eqb (first_byte u) 34) (ltb i (length f.attributes) && short_value w (unescaped 0 raw)) e₁ in
      let (e₄, e₅) = and_split (ltb i (length f.attributes)) (short_value w (unescaped 0 raw)) e₃ in
      let found : n ≡ name_at i (attribute_names_in f) = sym (attribute_name_lem o n f.attributes (ltb-true i (length f.attributes) e₄)) in
      let is-raw : raw ≡ escape v = sym (escape_unescaped raw v (short_some w (unescaped 0 raw) e₅)) in
      let size : (4 + (length n + length raw)) - 1 ≡ length n + (2 + (length raw + 1)) = omega arith in
      let rest : drop 1 u ≡ text_of_rows f (o ∷ others) true rows =
      sym (
      ap (λ (m : ℕ). drop m xs) size
      ∙ sym (drop-drop (2 + (length raw + 1)) (length n) xs)
      ∙ ap (λ (z : Bytes). drop (2 + (length raw + 1)) z) (trailing_drop in_name xs)
      ∙ sym (drop-drop (length raw + 1) 2 t)
      ∙ sym (drop-drop 1 (length raw) (drop 2 t))
      ∙ ap (λ (z : Bytes). drop 1 z) (trailing_drop no_quote (drop 2 t))
      )
      ∙ h.is in
      let after-value : u ≡ 34 ∷ text_of_rows f (o ∷ others) true rows = first_is 33 u e₂ ∙ ap (λ (z : Bytes). 34 ∷ z) rest in
      let after-equals : drop 2 t ≡ escape v ++ (34 ∷ text_of_rows f (o ∷ others) true rows) = sym (leading_trailing no_quote (drop 2 t)) ∙ ap₂ (λ (a b : Bytes). a ++ b) is-raw after-value in
      let after_name : t ≡ 61 ∷ 34 ∷ (escape v ++ (34 ∷ text_of_rows f (o ∷ others) true rows)) = sym (starts_split (ascii "=\"") t e₀) ∙ ap (λ (z : Bytes). 61 ∷ 34 ∷ z) after-equals in
      record {
        is =
            ap₂ (λ (z : ℕ) (zs : Bytes). z ∷ zs) (eqb_eq x 32 blank) (sym (leading_trailing in_name xs) ∙ ap₂ (λ (a b : Bytes). a ++ b) found after_name)
            ∙ sym (text_attribute f (o ∷ others) (row_of 2 (suc (length others)) i k v) rows (omega arith) true refl);
        follows = record { depth = omega arith; sort = λ a b. absurd (false≢true (sym a)) };
      }

  text_sound : (o : ℕ) (others : List ℕ) (x : ℕ) (xs : Bytes) → Sound (o ∷ others) true x xs (text_token w (x ∷ xs))
  text_sound o others x xs e k rows h =
      let raw : Bytes = front_while no_tag xs in
      let (e₀, e₁) = and_split (eqb x 62) (short_value w (unescaped 0 raw)) e in
      let v : Bytes = value_or (unescaped 0 raw) in
      let is-raw : escape v ≡ raw = escape_unescaped raw v (short_some w (unescaped 0 raw) e₁) in
      let size : (1 + length raw) - 1 ≡ length raw = omega arith in
      let rest : after_while no_tag xs ≡ text_of_rows f (o ∷ others) false rows = sym (trailing_drop no_tag xs) ∙ ap (λ (m : ℕ). drop m xs) (sym size) ∙ h.is in
      record {
        is =
            ap₂ (λ (z : ℕ) (zs : Bytes). z ∷ zs) (eqb_eq x 62 e₀) (sym (leading_trailing no_tag xs) ∙ ap₂ (λ (a b : Bytes). a ++ b) (sym is-raw) rest)
            ∙ sym (text_content f (o ∷ others) (row_of 3 (suc (length others)) 0 k v) rows (omega arith) true refl);
        follows = record { depth = omega arith; sort = λ a b. absurd (false≢true (sym a)) };
      }

  start_sound : (o : ℕ) (others : List ℕ) (x : ℕ) (xs : Bytes) → Sound (o ∷ others) true x xs (start_end_token (x ∷ xs))
  start_sound o others x xs e k rows h =
      record { is = ap₂ (λ (z : ℕ) (zs : Bytes). z ∷ zs) (eqb_eq x 62 e) h.is ∙ sym (text_start f o others rows h.follows); follows = follows_start rows h.follows }
    where
      follows_start : (rows : List (Deep FlatRow)) → Follows (o ∷ others) false rows → Follows (o ∷ others) true rows
      follows_start [] n = tt
      follows_start (y ∷ ys) n = record { depth = n.depth; sort = λ a b. absurd (false≢true (sym a)) }

  end_sound : (o : ℕ) (others : List ℕ) (x : ℕ) (xs : Bytes) → Sound (o ∷ others) false x xs (end_token f o (length others) (x ∷ xs))
  end_sound o others x xs e k rows h =
      let tag : Bytes = end_tag f o (length others) in
      let rest : drop (length tag) (x ∷ xs) ≡ text_of_rows f others false rows = drop_less (length tag) x xs (end_long f o (length others)) ∙ h.is in
      record {
        is = sym (starts_split tag (x ∷ xs) e) ∙ ap (λ (z : Bytes). tag ++ z) rest ∙ sym (text_end f o others false rows (shallow rows h.follows));
        follows = follows_end rows h.follows;
      }
    where
      shallow : (rows : List (Deep FlatRow)) → Follows others false rows → Ends (suc (length others)) rows
      shallow [] n = tt
      shallow (y ∷ ys) n = omega arith

      follows_end : (rows : List (Deep FlatRow)) → Follows others false rows → Follows (o ∷ others) false rows
      follows_end [] n = tt
      follows_end (y ∷ ys) n = record { depth = omega arith; sort = λ a b. absurd (let z : ⊥ = omega arith in z) }

  none_sound : (opened : List ℕ) (tag : Bool) (x : ℕ) (xs : Bytes) → Sound opened tag x xs no_token
  none_sound opened tag x xs e k rows h = absurd (false≢true e)

  -- ---- the token that stands here
  token_sound : (opened : List ℕ) (tag : Bool) (x : ℕ) (xs : Bytes) → Sound opened tag x xs (token_at f w opened tag (x ∷ xs))
  unfolding token_at
  token_sound [] true x xs = none_sound [] true x xs
  token_sound (o ∷ others) true x xs = by (eqb x 32) refl (eqb (kind_of_definition o f.definitions) 1)
    where
      by : (b : Bool) → eqb x 32 ≡ b → (c : Bool)
          → Sound (o ∷ others) true x xs (elim b [ true ↦ attribute_token f w o (x ∷ xs) | false ↦ elim c [ true ↦ text_token w (x ∷ xs) | false ↦ start_end_token (x ∷ xs) ] ])
      by true e c = attribute_sound o others x xs e
      by false e true = text_sound o others x xs
      by false e false = start_sound o others x xs
  token_sound [] false x xs = by (starts_with (ascii "</") (x ∷ xs))
    where
      by : (b : Bool) → Sound [] false x xs (elim b [ true ↦ no_token | false ↦ element_token f (x ∷ xs) ])
      by true = none_sound [] false x xs
      by false = element_sound [] x xs
  token_sound (o ∷ others) false x xs = by (starts_with (ascii "</") (x ∷ xs)) (ltb (suc (length others)) 255)
    where
      by : (b c : Bool) → Sound (o ∷ others) false x xs (elim b [ true ↦ end_token f o (length others) (x ∷ xs) | false ↦ elim c [ true ↦ element_token f (x ∷ xs) | false ↦ no_token ] ])
      by true c = end_sound o others x xs
      by false true = element_sound (o ∷ others) x xs
      by false false = none_sound (o ∷ others) false x xs

  -- ---- the whole text
  pub read_says : (txt : Bytes) (skip k : ℕ) (opened : List ℕ) (tag : Bool) (rows : List (Deep FlatRow)) → document_rows f w k opened tag skip txt ≡ some rows → Says opened tag (drop skip txt) rows
  unfolding document_rows
  read_says [] zero k opened tag rows e = by opened e
    where
      by : (opened : List ℕ) → elim (is_none opened) [ true ↦ some [] | false ↦ none ] ≡ some rows → Says opened tag [] rows
      by [] e = rw (sym (some-injective _ _ e)) (record { is = unfold text_of_rows in refl; follows = tt })
      by (o ∷ others) e = absurd (none-ne-some rows e)
  read_says [] (suc skip) k opened tag rows e = absurd (none-ne-some rows e)
  read_says (x ∷ xs) (suc skip) k opened tag rows e = read_says xs skip k opened tag rows e
  read_says (x ∷ xs) zero k opened tag rows e =
      let t : Token = token_at f w opened tag (x ∷ xs) in
      let made : List (Deep FlatRow) = row_of_token k (length opened) t in
      let (exact, left) = guard_some t.exact (with_rows made (document_rows f w (k + length made) (open_after tag opened t) (tag_after t) (t.size - 1) xs)) rows e in
      by made (document_rows f w (k + length made) (open_after tag opened t) (tag_after t) (t.size - 1) xs)
      (λ ys q. token_sound opened tag x xs exact k ys (read_says xs (t.size - 1) (k + length made) (open_after tag opened t) (tag_after t) ys q)) left
    where
      by : (made : List (Deep FlatRow)) (o : Option (List (Deep FlatRow))) → ((ys : List (Deep FlatRow)) → o ≡ some ys → Says opened tag (x ∷ xs) (made ++ ys)) → with_rows made o ≡ some rows
          → Says opened tag (x ∷ xs) rows
      by made none h q = absurd (none-ne-some rows q)
      by made (some ys) h q = rw (sym (some-injective _ _ q)) (h ys refl)
