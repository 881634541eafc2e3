-- What the declarations of a text say, counted: one line, and the loop over the lines.
use Prim.Native.Nat.{ℕ, ◌+◌, ◌-◌, ◌≤◌}
use mathlib.Core.Path.{◌≡◌, refl, sym, ap, ◌∙◌}
use mathlib.Core.Bool.{Bool, true, false, ◌&&◌, and_assoc}
use mathlib.Core.List.{List, [], ◌∷◌, ◌++◌, append-nil}
use native.Mathlib.Omega.{arith}
use native.Mathlib.Nat.{add-zero}
use lib.ListN.{length, drop, length-append, length-drop}
use Rattle.rules.specs.Bytes.{Bytes}
use Rattle.rules.specs.Layout.{FlatDefinition}
use Rattle.rules.specs.WellFormed.{in_name}
use Rattle.rules.proofs.Words.{and_held}
use Rattle.text_scan.specs.Scan.{front_while, after_while}
use Rattle.text_scan.proofs.ScanLaws.{leading_trailing}
use Rattle.declaration_scan.specs.Declared.{is_definition, after_declared, model_of_content, definition_of_line, attribute_of_line, definitions_of_lines, particles_of_lines, attributes_of_lines, declarations}
use Rattle.model_scan.specs.Scanning.{shallow, Measures}
use Rattle.model_scan.proofs.ContentLaws.{content_few}
use Rattle.declaration_reading.specs.Lines.{Counted, Cut}
use Rattle.declaration_reading.proofs.LineLaws.{said, listed, definitions_cut, particles_cut, attributes_cut, lows_cut}

-- ---- one line
abbrev pub defined : Bool → FlatDefinition → List FlatDefinition
defined b d = elim b [ true ↦ d ∷ [] | false ↦ [] ]

module _ (l : Bytes) (b : Bool) (e : b ≡ is_definition l) where
  pub counted_attribute : b ≡ false → Counted (l ∷ []) 0 0 1 true
  unfolding definitions_of_lines particles_of_lines attributes_of_lines
  counted_attribute h =
      record {
        definitions_are = λ i. length (defined ((sym h ∙ e) i) (definition_of_line l));
        particles_are = λ i. length (said ((sym h ∙ e) i) (model_of_content [] (after_declared l)) []);
        attributes_are = λ i. length (listed ((sym h ∙ e) i) [] (attribute_of_line 0 0 l) []);
        low_is = λ i. shallow (said ((sym h ∙ e) i) (model_of_content [] (after_declared l)) []);
      }

  pub counted_definition : b ≡ true → (content : Bytes) → content ≡ after_declared l → (count : ℕ) (low : Bool) → Measures (model_of_content [] content) count low → Counted (l ∷ []) 1 count 0 low
  unfolding definitions_of_lines particles_of_lines attributes_of_lines
  counted_definition h content c count low m =
      record {
        definitions_are = λ i. length (defined ((sym h ∙ e) i) (definition_of_line l));
        particles_are = m.count_is ∙ ap length whole ∙ (λ i. length (said ((sym h ∙ e) i) (model_of_content [] (after_declared l)) []));
        attributes_are = λ i. length (listed ((sym h ∙ e) i) [] (attribute_of_line 0 0 l) []);
        low_is = m.shallow_is ∙ ap shallow whole ∙ (λ i. shallow (said ((sym h ∙ e) i) (model_of_content [] (after_declared l)) []));
      }
    where
      whole : model_of_content [] content ≡ model_of_content [] (after_declared l) ++ []
      whole = ap (model_of_content []) c ∙ sym (append-nil (model_of_content [] (after_declared l)))

-- no more than one definition, one attribute, and a particle a byte
after_short : (l : Bytes) → length (after_declared l) ≤ length l
after_short l =
    let front : length (front_while in_name (drop 10 l)) + length (after_while in_name (drop 10 l)) ≡ length (drop 10 l) =
    sym (length-append (front_while in_name (drop 10 l)) (after_while in_name (drop 10 l))) ∙ ap length (leading_trailing in_name (drop 10 l)) in
    omega (arith, length-drop 10 l, length-drop 1 (after_while in_name (drop 10 l)))

pub record Few (l : Bytes) (definitions particles attributes : ℕ) : Type 0 where
  pub one : definitions ≤ 1
  pub bytes : particles ≤ length l
  pub other : attributes ≤ 1

pub counted_few : (l : Bytes) {d p a : ℕ} {low : Bool} → Counted (l ∷ []) d p a low → Few l d p a
unfolding definitions_of_lines particles_of_lines attributes_of_lines
counted_few l {d} {p} {a} {low} c =
    record {
      one = omega (arith, c.definitions_are, one (is_definition l));
      bytes = omega (arith, c.particles_are, bytes (is_definition l));
      other = omega (arith, c.attributes_are, other (is_definition l));
    }
  where
    one : (b : Bool) → length (defined b (definition_of_line l)) ≤ 1
    one true = omega arith
    one false = omega arith

    other : (b : Bool) → length (listed b [] (attribute_of_line 0 (0 - 1) l) []) ≤ 1
    other true = omega arith
    other false = omega arith

    bytes : (b : Bool) → length (said b (model_of_content [] (after_declared l)) []) ≤ length l
    bytes true = omega (arith, length-append (model_of_content [] (after_declared l)) [], content_few [] (after_declared l), after_short l)
    bytes false = omega arith

-- ---- the loop over the lines
-- with what is left, the counts are those of the whole, and none is more than the bytes that were read
pub record Counting (text : Bytes) (definitions particles attributes : ℕ) (low : Bool) (t : Bytes) : Type 0 where
  pub definitions_go : definitions + length (definitions_of_lines (declarations t)) ≡ length (definitions_of_lines (declarations text))
  pub particles_go : particles + length (particles_of_lines [] (declarations t)) ≡ length (particles_of_lines [] (declarations text))
  pub attributes_go : attributes + length (attributes_of_lines 0 0 (declarations t)) ≡ length (attributes_of_lines 0 0 (declarations text))
  pub low_goes : (low && shallow (particles_of_lines [] (declarations t))) ≡ shallow (particles_of_lines [] (declarations text))
  pub definitions_room : definitions + length t ≤ length text
  pub particles_room : particles + length t ≤ length text
  pub attributes_room : attributes + length t ≤ length text

pub counting_start : (text : Bytes) → Counting text 0 0 0 true text
counting_start text =
    record {
      definitions_go = omega arith;
      particles_go = omega arith;
      attributes_go = omega arith;
      low_goes = refl;
      definitions_room = omega arith;
      particles_room = omega arith;
      attributes_room = omega arith;
    }

module _ {text : Bytes} {d p a : ℕ} {low : Bool} {t : Bytes} (g : Counting text d p a low t) where
  module _ (line rest : Bytes) (u : Cut t line rest) {d' p' a' : ℕ} {low' : Bool} (c : Counted (line ∷ []) d' p' a' low') where
    pub counting_room : (d + d' ≤ length text) × (p + p' ≤ length text) × (a + a' ≤ length text)
    counting_room =
        let few = counted_few line c in (
          omega (arith, few.one, u.some, u.shorter, g.definitions_room),
          omega (arith, few.bytes, u.shorter, g.particles_room),
          omega (arith, few.other, u.some, u.shorter, g.attributes_room),
        )

    pub counting_on : Counting text (d + d') (p + p') (a + a') (low && low') rest
    counting_on =
        let few = counted_few line c in
        record {
          definitions_go = omega (arith, g.definitions_go, c.definitions_are, definitions_cut t line rest u);
          particles_go = omega (arith, g.particles_go, c.particles_are, particles_cut t line rest u);
          attributes_go = omega (arith, g.attributes_go, c.attributes_are, attributes_cut t line rest u);
          low_goes =
              and_assoc low low' (shallow (particles_of_lines [] (declarations rest)))
              ∙ ap (λ (b : Bool). low && b)
              (ap (λ (b : Bool). b && shallow (particles_of_lines [] (declarations rest))) c.low_is ∙ sym (lows_cut t line rest u []))
              ∙ g.low_goes;
          definitions_room = omega (arith, few.one, u.some, u.shorter, g.definitions_room);
          particles_room = omega (arith, few.bytes, u.shorter, g.particles_room);
          attributes_room = omega (arith, few.other, u.some, u.shorter, g.attributes_room);
        }

  pub counting_done : declarations t ≡ [] → Counted (declarations text) d p a low
  unfolding definitions_of_lines particles_of_lines attributes_of_lines
  counting_done none =
      record {
        definitions_are = sym (add-zero d) ∙ ap (λ (ls : List Bytes). d + length (definitions_of_lines ls)) (sym none) ∙ g.definitions_go;
        particles_are = sym (add-zero p) ∙ ap (λ (ls : List Bytes). p + length (particles_of_lines [] ls)) (sym none) ∙ g.particles_go;
        attributes_are = sym (add-zero a) ∙ ap (λ (ls : List Bytes). a + length (attributes_of_lines 0 0 ls)) (sym none) ∙ g.attributes_go;
        low_is = sym (and_held low true refl) ∙ ap (λ (ls : List Bytes). low && shallow (particles_of_lines [] ls)) (sym none) ∙ g.low_goes;
      }
