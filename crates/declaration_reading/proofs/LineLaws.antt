-- The lines of a text and what each of them says.
use Prim.Native.Nat.{ℕ, suc, ◌+◌, ◌-◌, ◌≤◌}
use mathlib.Core.Path.{◌≡◌, refl, sym, ap, ap₂, ◌∙◌}
use mathlib.Core.Bool.{Bool, true, false, ◌&&◌, false≢true}
use mathlib.Core.List.{List, [], ◌∷◌, ◌++◌, append-nil}
use native.Mathlib.Omega.{arith}
use lib.Dec.{eqb, leb}
use lib.ListN.{length, take, drop, length-append, length-drop}
use lib.Seq.{drop-drop}
use Rattle.rules.specs.Bytes.{Bytes, ascii, all}
use Rattle.rules.specs.Preorder.{Deep}
use Rattle.rules.specs.Layout.{FlatDefinition, FlatParticle, FlatAttribute}
use Rattle.rules.proofs.Words.{and_split}
use Rattle.rules.proofs.BooleanLaws.{all_append}
use Rattle.text_scan.specs.Scan.{starts_with, front_while, after_while, no_line_feed, split_lines}
use Rattle.text_scan.proofs.ScanLaws.{apart, leading_take, trailing_drop, leading_trailing, line_first}
use Rattle.declaration_scan.specs.Declared.{is_declaration, is_definition, after_declared, model_of_content, definition_of_line, attribute_of_line, definitions_of_lines, particles_of_lines}
use Rattle.declaration_scan.specs.Declared.{attributes_of_lines, declarations_of, declarations}
use Rattle.model_scan.specs.Scanning.{shallow}
use Rattle.model_scan.proofs.ModelLaws.{Alike}
use Rattle.model_scan.proofs.ContentLaws.{content_alike}
use Rattle.declaration_reading.specs.Lines.{first_line, rest_lines, Cut, owners_after}

-- ---- lines
-- a word whose bytes all pass stands at the front of a text if it stands at the front of what passes
starts_leading : (p : ℕ → Bool) (w txt : Bytes) → all p w ≡ true → starts_with w (front_while p txt) ≡ starts_with w txt
unfolding starts_with front_while
starts_leading p [] txt h = refl
starts_leading p (y ∷ w) [] h = refl
starts_leading p (y ∷ w) (x ∷ txt) h =
    let (a, c) = and_split (p y) (all p w) h in
    by (p x) refl a (starts_leading p w txt c)
  where
    by : (b : Bool) → p x ≡ b → p y ≡ true → starts_with w (front_while p txt) ≡ starts_with w txt
        → starts_with (y ∷ w) (elim b [ true ↦ x ∷ front_while p txt | false ↦ [] ]) ≡ (eqb y x && starts_with w txt)
    by true e a same = ap (λ (t : Bool). eqb y x && t) same
    by false e a same = ap (λ (t : Bool). t && starts_with w txt) (sym (apart p y x a e))

pub line_starts : (txt : Bytes) (b : Bool) → b ≡ starts_with (ascii "<!") txt → b ≡ is_declaration (first_line txt)
line_starts txt b e = e ∙ sym (starts_leading no_line_feed (ascii "<!") txt refl)

pub line_is : (txt r : Bytes) (n : ℕ) → n ≡ length (front_while no_line_feed txt) → r ≡ take n txt → r ≡ first_line txt
line_is txt r n e f = f ∙ ap (λ (k : ℕ). take k txt) e ∙ leading_take no_line_feed txt

module _ (txt : Bytes) (n : ℕ) (e : n ≡ length (front_while no_line_feed txt)) where
  past : drop n txt ≡ after_while no_line_feed txt
  past = ap (λ (k : ℕ). drop k txt) e ∙ trailing_drop no_line_feed txt

  pub rest_is : {rest : Bytes} → rest ≡ drop (n + 1) txt → rest ≡ rest_lines txt
  rest_is f = f ∙ sym (drop-drop 1 n txt) ∙ ap (drop 1) past

declared_none : (txt : Bytes) → is_declaration (first_line txt) ≡ false → declarations txt ≡ []
unfolding declarations_of split_lines
declared_none [] h = refl
declared_none (y ∷ ys) h = ap declarations_of (line_first y ys) ∙ (λ i. elim (h i) [ true ↦ first_line (y ∷ ys) ∷ declarations (rest_lines (y ∷ ys)) | false ↦ [] ])

declared_more : (txt : Bytes) → is_declaration (first_line txt) ≡ true → declarations txt ≡ first_line txt ∷ declarations (rest_lines txt)
unfolding declarations_of split_lines starts_with front_while
declared_more [] h = absurd (false≢true h)
declared_more (y ∷ ys) h = ap declarations_of (line_first y ys) ∙ (λ i. elim (h i) [ true ↦ first_line (y ∷ ys) ∷ declarations (rest_lines (y ∷ ys)) | false ↦ [] ])

begun : (l : Bytes) → is_declaration l ≡ true → 1 ≤ length l
unfolding starts_with
begun [] h = absurd (false≢true h)
begun (x ∷ l) h = omega arith

-- a text whose first line is a declaration, cut after it
pub cut : (txt line rest : Bytes) {b : Bool} → b ≡ is_declaration (first_line txt) → b ≡ true → line ≡ first_line txt → rest ≡ rest_lines txt → Cut txt line rest
cut txt line rest e h l r =
    record {
      declared = declared_more txt (sym e ∙ h) ∙ ap₂ (λ (a b : Bytes). a ∷ declarations b) (sym l) (sym r);
      some = omega (arith, begun (first_line txt) (sym e ∙ h), ap length l);
      shorter =
          omega (
            arith,
            ap length l,
            ap length r,
            length-drop 1 (after_while no_line_feed txt),
            length-append (front_while no_line_feed txt) (after_while no_line_feed txt),
            ap length (leading_trailing no_line_feed txt),
          );
    }

pub cut_none : (txt : Bytes) {b : Bool} → b ≡ is_declaration (first_line txt) → b ≡ false → declarations txt ≡ []
cut_none txt e h = declared_none txt (sym e ∙ h)

-- ---- what a line says, and what those after it say
pub definitions_split : (l : Bytes) (ls : List Bytes) → definitions_of_lines (l ∷ ls) ≡ definitions_of_lines (l ∷ []) ++ definitions_of_lines ls
unfolding definitions_of_lines
definitions_split l ls = by (is_definition l)
  where
    by : (b : Bool)
        → ◌≡◌ {A = List FlatDefinition} (elim b [ true ↦ definition_of_line l ∷ definitions_of_lines ls | false ↦ definitions_of_lines ls ])
        ((elim b [ true ↦ definition_of_line l ∷ [] | false ↦ [] ]) ++ definitions_of_lines ls)
    by true = refl
    by false = refl

pub particles_split : (ns : List Bytes) (l : Bytes) (ls : List Bytes) → particles_of_lines ns (l ∷ ls) ≡ particles_of_lines ns (l ∷ []) ++ particles_of_lines ns ls
unfolding particles_of_lines
particles_split ns l ls = by (is_definition l)
  where
    here : List (Deep FlatParticle)
    here = model_of_content ns (after_declared l)

    by : (b : Bool)
        → ◌≡◌ {A = List (Deep FlatParticle)} (elim b [ true ↦ here ++ particles_of_lines ns ls | false ↦ particles_of_lines ns ls ]) ((elim b [ true ↦ here ++ [] | false ↦ [] ]) ++ particles_of_lines ns ls)
    by true = ap (λ (ps : List (Deep FlatParticle)). ps ++ particles_of_lines ns ls) (sym (append-nil here))
    by false = refl

pub attributes_split : (w o : ℕ) (l : Bytes) (ls : List Bytes) → attributes_of_lines w o (l ∷ ls) ≡ attributes_of_lines w o (l ∷ []) ++ attributes_of_lines w (owners_after l o) ls
unfolding attributes_of_lines
attributes_split w o l ls = by (is_definition l)
  where
    by : (b : Bool)
        → ◌≡◌ {A = List FlatAttribute}
        (elim b [ true ↦ attributes_of_lines w (suc o) ls | false ↦ attribute_of_line w (o - 1) l ∷ attributes_of_lines w o ls ])
        ((elim b [ true ↦ [] | false ↦ attribute_of_line w (o - 1) l ∷ [] ]) ++ attributes_of_lines w (elim b [ true ↦ suc o | false ↦ o ]) ls)
    by true = refl
    by false = refl

-- ---- by the test of a line
abbrev pub low_test : Deep FlatParticle → Bool
low_test p = leb p.depth 4

abbrev pub said : Bool → List (Deep FlatParticle) → List (Deep FlatParticle) → List (Deep FlatParticle)
said b here after = elim b [ true ↦ here ++ after | false ↦ after ]

abbrev pub listed : Bool → List FlatAttribute → FlatAttribute → List FlatAttribute → List FlatAttribute
listed b passed here after = elim b [ true ↦ passed | false ↦ here ∷ after ]

-- ---- numbers and depths, whatever the names and the width are
pub particles_alike : (ns ms : List Bytes) (ls : List Bytes) → Alike (particles_of_lines ns ls) (particles_of_lines ms ls)
unfolding particles_of_lines
particles_alike ns ms [] = record { long = refl; low = refl }
particles_alike ns ms (l ∷ ls) = by (is_definition l) (content_alike ns ms (after_declared l)) (particles_alike ns ms ls)
  where
    by : (b : Bool) → Alike (model_of_content ns (after_declared l)) (model_of_content ms (after_declared l)) → Alike (particles_of_lines ns ls) (particles_of_lines ms ls)
        → Alike (said b (model_of_content ns (after_declared l)) (particles_of_lines ns ls)) (said b (model_of_content ms (after_declared l)) (particles_of_lines ms ls))
    by true m h =
        record {
          long =
              length-append (model_of_content ns (after_declared l)) (particles_of_lines ns ls) ∙ ap₂ (λ (a b : ℕ). a + b) m.long h.long
              ∙ sym (length-append (model_of_content ms (after_declared l)) (particles_of_lines ms ls));
          low =
              all_append low_test (model_of_content ns (after_declared l)) (particles_of_lines ns ls) ∙ ap₂ (λ (a b : Bool). a && b) m.low h.low
              ∙ sym (all_append low_test (model_of_content ms (after_declared l)) (particles_of_lines ms ls));
        }
    by false m h = h

pub attributes_alike : (w v o k : ℕ) (ls : List Bytes) → length (attributes_of_lines w o ls) ≡ length (attributes_of_lines v k ls)
unfolding attributes_of_lines
attributes_alike w v o k [] = refl
attributes_alike w v o k (l ∷ ls) = by (is_definition l) (attributes_alike w v (suc o) (suc k) ls) (attributes_alike w v o k ls)
  where
    by : (b : Bool) → length (attributes_of_lines w (suc o) ls) ≡ length (attributes_of_lines v (suc k) ls) → length (attributes_of_lines w o ls) ≡ length (attributes_of_lines v k ls)
        → length (listed b (attributes_of_lines w (suc o) ls) (attribute_of_line w (o - 1) l) (attributes_of_lines w o ls))
        ≡ length (listed b (attributes_of_lines v (suc k) ls) (attribute_of_line v (k - 1) l) (attributes_of_lines v k ls))
    by true p q = p
    by false p q = ap suc q

-- ---- how many the first line and those after it say
module _ (t line rest : Bytes) (u : Cut t line rest) where
  pub definitions_cut : length (definitions_of_lines (declarations t)) ≡ length (definitions_of_lines (line ∷ [])) + length (definitions_of_lines (declarations rest))
  definitions_cut =
      ap (λ (ls : List Bytes). length (definitions_of_lines ls)) u.declared ∙ ap length (definitions_split line (declarations rest))
      ∙ length-append (definitions_of_lines (line ∷ [])) (definitions_of_lines (declarations rest))

  pub particles_cut : length (particles_of_lines [] (declarations t)) ≡ length (particles_of_lines [] (line ∷ [])) + length (particles_of_lines [] (declarations rest))
  particles_cut =
      ap (λ (ls : List Bytes). length (particles_of_lines [] ls)) u.declared ∙ ap length (particles_split [] line (declarations rest))
      ∙ length-append (particles_of_lines [] (line ∷ [])) (particles_of_lines [] (declarations rest))

  pub attributes_cut : length (attributes_of_lines 0 0 (declarations t)) ≡ length (attributes_of_lines 0 0 (line ∷ [])) + length (attributes_of_lines 0 0 (declarations rest))
  attributes_cut =
      ap (λ (ls : List Bytes). length (attributes_of_lines 0 0 ls)) u.declared ∙ ap length (attributes_split 0 0 line (declarations rest))
      ∙ length-append (attributes_of_lines 0 0 (line ∷ [])) (attributes_of_lines 0 (owners_after line 0) (declarations rest))
      ∙ ap (λ (n : ℕ). length (attributes_of_lines 0 0 (line ∷ [])) + n) (attributes_alike 0 0 (owners_after line 0) 0 (declarations rest))

  pub lows_cut : (ns : List Bytes) → shallow (particles_of_lines ns (declarations t)) ≡ (shallow (particles_of_lines ns (line ∷ [])) && shallow (particles_of_lines ns (declarations rest)))
  lows_cut ns =
      ap (λ (ls : List Bytes). shallow (particles_of_lines ns ls)) u.declared ∙ ap shallow (particles_split ns line (declarations rest))
      ∙ all_append low_test (particles_of_lines ns (line ∷ [])) (particles_of_lines ns (declarations rest))
