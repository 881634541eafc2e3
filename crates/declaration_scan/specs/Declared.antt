-- The form that the declarations of a text would be of, as records: total, and with as few tests as can be, since what
-- is read counts only if it passes the check and prints as the text.
use Rattle.std.specs.Prelude.{ℕ, zero, suc, ◌-◌, ◌%◌, Bool, true, false, List, [], ◌∷◌, ◌++◌, map, eqb, length, take, drop}
use Rattle.rules.specs.Bytes.{Bytes, ascii, same}
use Rattle.rules.specs.Preorder.{Deep}
use Rattle.rules.specs.Layout.{name_width, FlatDefinition, FlatParticle, FlatAttribute, FlatStore}
use Rattle.rules.specs.WellFormed.{in_name}
use Rattle.rules.specs.Decode.{flat_name}
use Rattle.layout.specs.RecordBytes.{definition_of, flat_particle, attribute_of}
use Rattle.text_scan.specs.Scan.{first_byte, starts_with, front_while, after_while, no_quote, value_of_raw, split_lines}

-- ---- content models
-- the code of the quantifier whose mark stands here: `?`, `*`, `+`
abbrev pub mark_code : Bytes → ℕ
mark_code txt = elim (eqb (first_byte txt) 63) [ true ↦ 1 | false ↦ elim (eqb (first_byte txt) 42) [ true ↦ 2 | false ↦ elim (eqb (first_byte txt) 43) [ true ↦ 3 | false ↦ 0 ] ] ]

-- the name that stands here, as far as a name goes
abbrev pub name_here : Bytes → Bytes
name_here txt = take name_width (front_while in_name txt)

-- what is seen of a group by its text from its `(` on: its code by the first separator, how many members, its mark
pub record Grouped : Type 0 where
  pub kind : ℕ
  pub count : ℕ
  pub mark : ℕ

-- a group of so many members so far, `nest` groups deep in it; a `,` or `|` in it says its code
unfoldable pub grouped_from : ℕ → ℕ → ℕ → Bytes → Grouped
grouped_from nest kind count [] = record { kind = kind; count = count; mark = 0 }
grouped_from nest kind count (x ∷ xs) =
    elim (eqb x 40) [
      | true ↦ grouped_from (suc nest) kind count xs
      | false ↦
          elim (eqb x 41) [
            | true ↦ elim nest [ zero ↦ record { kind = kind; count = count; mark = mark_code xs } | suc n ↦ grouped_from n kind count xs ]
            | false ↦
                elim (eqb nest 0) [
                  | true ↦
                      elim (eqb x 44) [
                        | true ↦ grouped_from nest 1 (suc count) xs
                        | false ↦ elim (eqb x 124) [ true ↦ grouped_from nest 2 (suc count) xs | false ↦ grouped_from nest kind count xs ]
                      ]
                  | false ↦ grouped_from nest kind count xs
                ]
          ]
    ]

abbrev pub grouped_at : Bytes → Grouped
grouped_at xs = grouped_from 0 1 1 xs

-- where the definition of a name stands among the names; past the last where there is none
unfoldable pub place_among : Bytes → List Bytes → ℕ
place_among n [] = 0
place_among n (m ∷ ns) = elim (same n m) [ true ↦ 0 | false ↦ suc (place_among n ns) ]

abbrev pub element_here : List Bytes → ℕ → Bytes → Deep FlatParticle
element_here ns d txt = flat_particle 0 (mark_code (after_while in_name txt)) (place_among (name_here txt) ns) d

abbrev pub group_here : ℕ → Bytes → Deep FlatParticle
group_here d xs = flat_particle (grouped_at xs).kind (grouped_at xs).mark ((grouped_at xs).count % 256) d

-- the particles from here on, at depth d; `inside`: the byte before stands in a name
unfoldable pub model_from : List Bytes → ℕ → Bool → Bytes → List (Deep FlatParticle)
model_from ns d inside [] = []
model_from ns d inside (x ∷ xs) =
    elim (eqb x 40) [
      | true ↦ group_here d xs ∷ model_from ns (suc d) false xs
      | false ↦
          elim (eqb x 41) [
            | true ↦ model_from ns (d - 1) false xs
            | false ↦
                elim (in_name x) [
                  | true ↦ elim inside [ true ↦ model_from ns d true xs | false ↦ element_here ns d (x ∷ xs) ∷ model_from ns d true xs ]
                  | false ↦ model_from ns d false xs
                ]
          ]
    ]

-- ---- lines
-- a declaration, and one of a definition
abbrev pub is_declaration : Bytes → Bool
is_declaration l = starts_with (ascii "<!") l

abbrev pub is_definition : Bytes → Bool
is_definition l = starts_with (ascii "<!E") l

-- `<!ELEMENT ` and `<!ATTLIST ` have ten bytes, the name of the definition comes after them, and then a blank
abbrev pub declared_name : Bytes → Bytes
declared_name l = name_here (drop 10 l)

abbrev pub after_declared : Bytes → Bytes
after_declared l = drop 1 (after_while in_name (drop 10 l))

-- the code of a definition's kind: EMPTY, PCDATA, COMPLEX
abbrev pub declared_kind : Bytes → ℕ
declared_kind c = elim (eqb (first_byte c) 69) [ true ↦ 0 | false ↦ elim (starts_with (ascii "(#") c) [ true ↦ 1 | false ↦ 2 ] ]

abbrev pub model_of_content : List Bytes → Bytes → List (Deep FlatParticle)
model_of_content ns c = elim (eqb (declared_kind c) 2) [ true ↦ model_from ns 0 false (drop 1 c) | false ↦ [] ]

abbrev pub definition_of_line : Bytes → FlatDefinition
definition_of_line l = definition_of (declared_name l) (declared_kind (after_declared l)) (length (model_of_content [] (after_declared l)))

-- the code of an attribute's sort, and its value: what comes after ` CDATA `
abbrev pub declared_sort : Bytes → ℕ
declared_sort t = elim (starts_with (ascii "#I") t) [ true ↦ 0 | false ↦ elim (starts_with (ascii "#R") t) [ true ↦ 1 | false ↦ 2 ] ]

abbrev pub declared_value : Bytes → Bytes
declared_value t = elim (starts_with (ascii "#I") t) [ true ↦ [] | false ↦ elim (starts_with (ascii "#R") t) [ true ↦ ascii "-" | false ↦ value_of_raw (front_while no_quote (drop 8 t)) ] ]

abbrev pub after_type : Bytes → Bytes
after_type c = drop 7 (after_while in_name c)

-- of the definition before it, with a value of at most w bytes
abbrev pub attribute_of_line : ℕ → ℕ → Bytes → FlatAttribute
attribute_of_line w owner l = attribute_of owner (name_here (after_declared l)) (declared_sort (after_type (after_declared l))) (take w (declared_value (after_type (after_declared l))))

-- ---- the bodies, of the lines from here on
unfoldable pub definitions_of_lines : List Bytes → List FlatDefinition
definitions_of_lines [] = []
definitions_of_lines (l ∷ ls) = elim (is_definition l) [ true ↦ definition_of_line l ∷ definitions_of_lines ls | false ↦ definitions_of_lines ls ]

unfoldable pub particles_of_lines : List Bytes → List Bytes → List (Deep FlatParticle)
particles_of_lines ns [] = []
particles_of_lines ns (l ∷ ls) = elim (is_definition l) [ true ↦ model_of_content ns (after_declared l) ++ particles_of_lines ns ls | false ↦ particles_of_lines ns ls ]

-- o definitions stand before
unfoldable pub attributes_of_lines : ℕ → ℕ → List Bytes → List FlatAttribute
attributes_of_lines w o [] = []
attributes_of_lines w o (l ∷ ls) = elim (is_definition l) [ true ↦ attributes_of_lines w (suc o) ls | false ↦ attribute_of_line w (o - 1) l ∷ attributes_of_lines w o ls ]

-- the lines up to the first that is no declaration
unfoldable pub declarations_of : List Bytes → List Bytes
declarations_of [] = []
declarations_of (l ∷ ls) = elim (is_declaration l) [ true ↦ l ∷ declarations_of ls | false ↦ [] ]

abbrev pub declarations : Bytes → List Bytes
declarations txt = declarations_of (split_lines txt)

-- THE FORM THAT A TEXT DECLARES, as a store without rows
unfoldable pub declared_form : ℕ → ℕ → Bytes → FlatStore
declared_form version w txt =
    record {
      version = version;
      next = 1;
      definitions = definitions_of_lines (declarations txt);
      particles = particles_of_lines (map flat_name (definitions_of_lines (declarations txt))) (declarations txt);
      attributes = attributes_of_lines w 0 (declarations txt);
      rows = [];
    }
