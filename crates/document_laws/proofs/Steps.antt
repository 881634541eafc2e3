-- Reading goes on behind a token that stands in the text: one law for each token, since the words on texts find what
-- was put there.
use Prim.Native.Nat.{ℕ, zero, suc, ◌+◌, ◌-◌, ◌≤◌, ◌<◌}
use native.Mathlib.Omega.{arith}
use mathlib.Core.Path.{◌≡◌, refl, sym, ap, ap₂, ◌∙◌}
use mathlib.Core.Bool.{Bool, true, false, ◌&&◌}
use mathlib.Core.Option.{Option, none, some}
use mathlib.Core.List.{List, [], ◌∷◌, ◌++◌, append_assoc}
use lib.Dec.{eqb, ltb}
use lib.ListN.{length, drop, length-append}
use borrow.Author.Tests.{lt-ltb, le-leb}
use Rattle.rules.specs.Bytes.{Bytes, ascii, and_both}
use Rattle.rules.specs.Preorder.{Deep}
use Rattle.rules.specs.Layout.{FlatRow}
use Rattle.rules.specs.WellFormed.{is_name}
use Rattle.rules.specs.Print.{escape}
use Rattle.rules.proofs.BooleanLaws.{guard_true}
use Rattle.layout.specs.RowBytes.{row_of}
use Rattle.text_scan.specs.Scan.{first_byte, starts_with, front_while, after_while, no_quote, no_tag, unescaped, value_or}
use Rattle.text_scan.proofs.ScanLaws.{leading_of, trailing_of, escape_quoted, escape_untagged, unescaped_escape, starts_append}
use Rattle.reading_rules.proofs.Models.{NameStops, leading_name, trailing_name, starts_with_more, starts_with_name}
use Rattle.declaration_scan.specs.Declared.{place_among}
use Rattle.document_tokens.specs.Tokens.{Declared, declared_names, kind_of_definition, attribute_among, Token, short_value, element_token, text_token, start_end_token, end_tag, end_token, no_token, token_at}
use Rattle.document_tokens.proofs.TokenLaws.{with_none}
use Rattle.document_tokens.specs.Tokens.{row_of_token, open_after, tag_after, with_rows, document_rows}

second : {A : Type 0} (b c : Bool) (x y z : A) → b ≡ false → c ≡ true → elim b [ true ↦ x | false ↦ elim c [ true ↦ y | false ↦ z ] ] ≡ y
second b c x y z p q = rw (p, q)

module _ (f : Declared) (w : ℕ) where
  -- bytes that were skipped
  skip_read : (k : ℕ) (opened : List ℕ) (tag : Bool) (u r : Bytes) → document_rows f w k opened tag (length u) (u ++ r) ≡ document_rows f w k opened tag 0 r
  unfolding document_rows
  skip_read k opened tag [] r = refl
  skip_read k opened tag (x ∷ u) r = skip_read k opened tag u r

  -- a step by the token that stands here
  abbrev step_by : ℕ → List ℕ → Bool → Bytes → Token → Option (List (Deep FlatRow))
  step_by k opened tag xs t =
      elim t.exact [
        | true ↦
            with_rows (row_of_token k (length opened) t) (document_rows f w (k + length (row_of_token k (length opened) t)) (open_after tag opened t) (tag_after t) (t.size - 1) xs)
        | false ↦ none
      ]

  step_is : (k : ℕ) (opened : List ℕ) (tag : Bool) (x : ℕ) (xs : Bytes) → document_rows f w k opened tag 0 (x ∷ xs) ≡ step_by k opened tag xs (token_at f w opened tag (x ∷ xs))
  unfolding document_rows
  step_is k opened tag x xs = refl

  -- .. which is x and u
  token_read : (k : ℕ) (opened : List ℕ) (tag : Bool) (x : ℕ) (u r : Bytes) (t : Token) → token_at f w opened tag (x ∷ (u ++ r)) ≡ t → t.exact ≡ true → t.size ≡ suc (length u)
      → document_rows f w k opened tag 0 (x ∷ (u ++ r))
      ≡ with_rows (row_of_token k (length opened) t) (document_rows f w (k + length (row_of_token k (length opened) t)) (open_after tag opened t) (tag_after t) 0 r)
  token_read k opened tag x u r t is exact size =
      let made : List (Deep FlatRow) = row_of_token k (length opened) t in
      let less : t.size - 1 ≡ length u = omega arith in
      step_is k opened tag x (u ++ r)
      ∙ ap (step_by k opened tag (u ++ r)) is
      ∙ guard_true t.exact (with_rows made (document_rows f w (k + length made) (open_after tag opened t) (tag_after t) (t.size - 1) (u ++ r))) exact
      ∙ ap (λ (n : ℕ). with_rows made (document_rows f w (k + length made) (open_after tag opened t) (tag_after t) n (u ++ r))) less
      ∙ ap (λ (z : Option (List (Deep FlatRow))). with_rows made z) (skip_read (k + length made) (open_after tag opened t) (tag_after t) u r)

  -- ---- `<` and a name
  abbrev element_by : Bytes → Token
  element_by n =
      record { exact = ltb (place_among n (declared_names f)) (length f.definitions); size = 1 + length n; sort = 1; index = place_among n (declared_names f); value = [] }

  element_token_lem : (opened : List ℕ) (n r : Bytes) → is_name n ≡ true → NameStops r → length opened < 255 → token_at f w opened false (60 ∷ (n ++ r)) ≡ element_by n
  unfolding token_at
  element_token_lem opened n r h s l =
      let o : starts_with (ascii "</") (60 ∷ (n ++ r)) ≡ false = starts_with_more 60 (ascii "/") 60 (n ++ r) ∙ starts_with_name 47 n r h refl in
      second (starts_with (ascii "</") (60 ∷ (n ++ r))) (ltb (length opened) 255) _ (element_token f (60 ∷ (n ++ r))) no_token o (lt-ltb (length opened) 255 l)
      ∙ ap element_by (leading_name n r h s)

  pub element_read : (k : ℕ) (opened : List ℕ) (n r : Bytes) (i : ℕ) → is_name n ≡ true → NameStops r → length opened < 255 → place_among n (declared_names f) ≡ i → i < length f.definitions
      → document_rows f w k opened false 0 (60 ∷ (n ++ r)) ≡ with_rows (row_of 1 (length opened) i k [] ∷ []) (document_rows f w (k + 1) (i ∷ opened) true 0 r)
  element_read k opened n r i h s l e m =
      token_read k opened false 60 n r (element_by n) (element_token_lem opened n r h s l) (ap (λ (j : ℕ). ltb j (length f.definitions)) e ∙ lt-ltb i (length f.definitions) m) (omega arith)
      ∙ ap (λ (j : ℕ). with_rows (row_of 1 (length opened) j k [] ∷ []) (document_rows f w (k + 1) (j ∷ opened) true 0 r)) e

  -- ---- an attribute
  abbrev attribute_by : Bytes → Bytes → Bytes → Bytes → Option Bytes → ℕ → Token
  attribute_by n t raw after v i =
      record {
        exact = starts_with (ascii "=\"") t && (eqb (first_byte after) 34 && (ltb i (length f.attributes) && short_value w v));
        size = 4 + (length n + length raw);
        sort = 2;
        index = i;
        value = value_or v;
      }

  attribute_token_lem : (o : ℕ) (others : List ℕ) (n v r : Bytes) → is_name n ≡ true
      → token_at f w (o ∷ others) true (32 ∷ (n ++ (61 ∷ 34 ∷ (escape v ++ (34 ∷ r)))))
      ≡ attribute_by n (61 ∷ 34 ∷ (escape v ++ (34 ∷ r))) (escape v) (34 ∷ r) (some v) (attribute_among o n f.attributes)
  unfolding token_at
  attribute_token_lem o others n v r h =
      let t : Bytes = 61 ∷ 34 ∷ (escape v ++ (34 ∷ r)) in
      let stops : NameStops t = record { head = 61; tail = 34 ∷ (escape v ++ (34 ∷ r)); is = refl; name = refl } in
      ap₂ (λ (m u : Bytes). attribute_by m u (front_while no_quote (drop 2 u)) (after_while no_quote (drop 2 u)) (unescaped 0 (front_while no_quote (drop 2 u))) (attribute_among o m f.attributes))
      (leading_name n t h stops) (trailing_name n t h stops)
      ∙ ap₂ (λ (raw u : Bytes). attribute_by n t raw u (unescaped 0 raw) (attribute_among o n f.attributes))
      (leading_of no_quote (escape v) 34 r (escape_quoted v) refl) (trailing_of no_quote (escape v) 34 r (escape_quoted v) refl)
      ∙ ap (λ (z : Option Bytes). attribute_by n t (escape v) (34 ∷ r) z (attribute_among o n f.attributes)) (unescaped_escape v)

  pub attribute_read_lem : (k o : ℕ) (others : List ℕ) (n v r : Bytes) (i : ℕ) → is_name n ≡ true → length v ≤ w → attribute_among o n f.attributes ≡ i → i < length f.attributes
      → document_rows f w k (o ∷ others) true 0 (32 ∷ (n ++ (61 ∷ 34 ∷ (escape v ++ (34 ∷ r)))))
      ≡ with_rows (row_of 2 (suc (length others)) i k v ∷ []) (document_rows f w (k + 1) (o ∷ others) true 0 r)
  unfolding starts_with
  attribute_read_lem k o others n v r i h l e m =
      let u : Bytes = n ++ (61 ∷ 34 ∷ (escape v ++ (34 ∷ []))) in
      let t : Bytes = 61 ∷ 34 ∷ (escape v ++ (34 ∷ r)) in
      let j : ℕ = attribute_among o n f.attributes in
      let split : n ++ t ≡ u ++ r =
      ap (λ (z : Bytes). n ++ (61 ∷ 34 ∷ z)) (sym (append_assoc (escape v) (34 ∷ []) r)) ∙ sym (append_assoc n (61 ∷ 34 ∷ (escape v ++ (34 ∷ []))) r) in
      let long : length u ≡ length n + suc (suc (length (escape v ++ (34 ∷ [])))) = length-append n (61 ∷ 34 ∷ (escape v ++ (34 ∷ []))) in
      let longer : length (escape v ++ (34 ∷ [])) ≡ length (escape v) + 1 = length-append (escape v) (34 ∷ []) in
      let there : ltb j (length f.attributes) ≡ true = ap (λ (z : ℕ). ltb z (length f.attributes)) e ∙ lt-ltb i (length f.attributes) m in
      ap (λ (z : Bytes). document_rows f w k (o ∷ others) true 0 (32 ∷ z)) split
      ∙ token_read k (o ∷ others) true 32 u r (attribute_by n t (escape v) (34 ∷ r) (some v) j)
      (ap (λ (z : Bytes). token_at f w (o ∷ others) true (32 ∷ z)) (sym split) ∙ attribute_token_lem o others n v r h) (and_both there (le-leb (length v) w l)) (omega arith)
      ∙ ap (λ (z : ℕ). with_rows (row_of 2 (suc (length others)) z k v ∷ []) (document_rows f w (k + 1) (o ∷ others) true 0 r)) e

  -- ---- a text
  abbrev text_by : Bytes → Option Bytes → Token
  text_by raw v = record { exact = short_value w v; size = 1 + length raw; sort = 3; index = 0; value = value_or v }

  text_token_lem : (o : ℕ) (others : List ℕ) (v r : Bytes) → eqb (kind_of_definition o f.definitions) 1 ≡ true → token_at f w (o ∷ others) true (62 ∷ (escape v ++ (60 ∷ r))) ≡ text_by (escape v) (some v)
  unfolding token_at
  text_token_lem o others v r h =
      ap (λ (b : Bool). elim b [ true ↦ text_token w (62 ∷ (escape v ++ (60 ∷ r))) | false ↦ start_end_token (62 ∷ (escape v ++ (60 ∷ r))) ]) h
      ∙ ap (λ (raw : Bytes). text_by raw (unescaped 0 raw)) (leading_of no_tag (escape v) 60 r (escape_untagged v) refl)
      ∙ ap (λ (z : Option Bytes). text_by (escape v) z) (unescaped_escape v)

  pub text_read : (k o : ℕ) (others : List ℕ) (v r : Bytes) → eqb (kind_of_definition o f.definitions) 1 ≡ true → length v ≤ w
      → document_rows f w k (o ∷ others) true 0 (62 ∷ (escape v ++ (60 ∷ r))) ≡ with_rows (row_of 3 (suc (length others)) 0 k v ∷ []) (document_rows f w (k + 1) (o ∷ others) false 0 (60 ∷ r))
  text_read k o others v r h l =
      token_read k (o ∷ others) true 62 (escape v) (60 ∷ r) (text_by (escape v) (some v)) (text_token_lem o others v r h) (le-leb (length v) w l) (omega arith)

  -- ---- `>`
  start_token : (o : ℕ) (others : List ℕ) (r : Bytes) → eqb (kind_of_definition o f.definitions) 1 ≡ false → token_at f w (o ∷ others) true (62 ∷ r) ≡ start_end_token (62 ∷ r)
  unfolding token_at
  start_token o others r h = ap (λ (b : Bool). elim b [ true ↦ text_token w (62 ∷ r) | false ↦ start_end_token (62 ∷ r) ]) h

  pub start_read : (k o : ℕ) (others : List ℕ) (r : Bytes) → eqb (kind_of_definition o f.definitions) 1 ≡ false
      → document_rows f w k (o ∷ others) true 0 (62 ∷ r) ≡ document_rows f w k (o ∷ others) false 0 r
  start_read k o others r h =
      let same : k + 0 ≡ k = omega arith in
      token_read k (o ∷ others) true 62 [] r (start_end_token (62 ∷ r)) (start_token o others r h) refl refl
      ∙ with_none (document_rows f w (k + 0) (o ∷ others) false 0 r)
      ∙ ap (λ (j : ℕ). document_rows f w j (o ∷ others) false 0 r) same

  -- ---- an end tag
  pub end_split : (o m : ℕ) → end_tag f o m ≡ 60 ∷ 47 ∷ drop 2 (end_tag f o m)
  end_split o zero = refl
  end_split o (suc m) = refl

  end_token_lem : (o : ℕ) (others : List ℕ) (r : Bytes) → token_at f w (o ∷ others) false (60 ∷ 47 ∷ r) ≡ end_token f o (length others) (60 ∷ 47 ∷ r)
  unfolding token_at starts_with
  end_token_lem o others r = refl

  pub end_read : (k o : ℕ) (others : List ℕ) (r : Bytes) → document_rows f w k (o ∷ others) false 0 (end_tag f o (length others) ++ r) ≡ document_rows f w k others false 0 r
  end_read k o others r =
      let tag : Bytes = end_tag f o (length others) in
      let same : k + 0 ≡ k = omega arith in
      let split : tag ++ r ≡ 60 ∷ 47 ∷ (drop 2 tag ++ r) = ap (λ (z : Bytes). z ++ r) (end_split o (length others)) in
      let exact : starts_with tag (60 ∷ 47 ∷ (drop 2 tag ++ r)) ≡ true = ap (λ (z : Bytes). starts_with tag z) (sym split) ∙ starts_append tag r in
      ap (λ (z : Bytes). document_rows f w k (o ∷ others) false 0 z) split
      ∙ token_read k (o ∷ others) false 60 (47 ∷ drop 2 tag) r (end_token f o (length others) (60 ∷ 47 ∷ (drop 2 tag ++ r))) (end_token_lem o others (drop 2 tag ++ r)) exact
      (ap (λ (z : Bytes). length z) (end_split o (length others)))
      ∙ with_none (document_rows f w (k + 0) others false 0 r)
      ∙ ap (λ (j : ℕ). document_rows f w j others false 0 r) same

  -- ---- the end
  pub none_read : (k : ℕ) → document_rows f w k [] false 0 [] ≡ some []
  unfolding document_rows
  none_read k = refl
