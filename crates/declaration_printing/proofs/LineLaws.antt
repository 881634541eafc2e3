-- The lines of definitions and attributes, written.
use mathlib.Core.Path.{◌≡◌, refl, sym, ap, ap₂, ◌∙◌, subst}
use mathlib.Core.Bool.{Bool, true, false, false≢true}
use mathlib.Core.List.{List, [], ◌∷◌, ◌++◌}
use Prim.Native.Nat.{ℕ, zero, suc, ◌+◌, ◌*◌, ◌<◌, ◌≤◌}
use native.Mathlib.Omega.{arith}
use borrow.Author.Tests.{eq-eqb, ne_eqb}
use lib.ListN.{length}
use Rattle.rules.specs.declared.GroupKind.TheVariants.{Sequence}
use Rattle.rules.specs.declared.Kind.{Kind}
use Rattle.rules.specs.declared.Kind.TheVariants.{Empty, Pcdata, Complex}
use Rattle.rules.specs.declared.AttributeSort.{AttributeSort}
use Rattle.rules.specs.declared.AttributeSort.TheVariants.{Implied, Required, Fixed}
use Rattle.rules.specs.Bytes.{Bytes, ascii, concat}
use Rattle.rules.specs.Model.{Members}
use Rattle.rules.specs.Store.{Attribute, Forest, bare, tree}
use Rattle.rules.specs.Preorder.{build}
use Rattle.rules.specs.Layout.{attribute_size, FlatParticle, FlatAttribute}
use Rattle.rules.specs.Decode.{name_at, sort_of, content_of, member_of, read_members, of_owner, read_attribute, read_definition, attribute_count, definition_count}
use Rattle.rules.specs.Kinds.{kind_by, kind_number}
use Rattle.rules.specs.Print.{escape, default_tokens, member_tokens, model_tokens, content_tokens}
use Rattle.rules.proofs.BooleanLaws.{concat_append}
use Rattle.layout.specs.Bodies.{width_of}
use Rattle.codec.specs.Laid.{Laid}
use Rattle.codec.proofs.Writers.{laid_none, laid_then, laid_as, laid_long}
use Rattle.lookup.proofs.Laws.{from_none}
use Rattle.printing_parts.specs.Walking.{Passed}
use Rattle.printing_parts.specs.Parts.{Named, definition_part, attribute_part, from_attributes, particles_from, attributes_from, names_of, attribute_names_of}
use Rattle.declaration_printing.specs.Declarations.{LaidWithin, attribute_read, default_text, attribute_line_text, attributes_text, is_tree, members_text, content_text, definition_text}
use Rattle.escaping.proofs.Laws.{escape_length}
use Rattle.printing_parts.proofs.PartLaws.{attribute_step, attribute_name_lem, definition_name_lem, value_short}

-- ---- the default of an attribute
abbrev default_by : AttributeSort → Bytes → Bytes
default_by Implied v = ascii "#IMPLIED" ++ []
default_by Required v = ascii "#REQUIRED" ++ []
default_by Fixed v = ascii "#FIXED \"" ++ (escape v ++ (ascii "\"" ++ []))

default_by_lem : (n v : Bytes) (s : AttributeSort) → concat (default_tokens (record { name = n; sort = s; value = v })) ≡ default_by s v
default_by_lem n v Implied = refl
default_by_lem n v Required = refl
default_by_lem n v Fixed = refl

module _ (bs : Bytes) (i : ℕ) (p : Bytes) (at_i : p ≡ attribute_part bs i) (sort : AttributeSort) (sort_is : sort ≡ sort_of (read_attribute p).sort) where
  abbrev here : FlatAttribute
  here = read_attribute (attribute_part bs i)

  sort_here : sort ≡ sort_of here.sort
  sort_here = sort_is ∙ ap (λ (l : Bytes). sort_of (read_attribute l).sort) at_i

  default_is : (s : AttributeSort) → sort ≡ s → default_text here ≡ default_by s here.value
  unfolding default_text
  default_is s e = default_by_lem here.name here.value (sort_of here.sort) ∙ ap (λ (z : AttributeSort). default_by z here.value) (sym sort_here ∙ e)

  pub default_implied : {out o : Bytes} {at r : ℕ} → sort ≡ Implied → Laid (ascii "#IMPLIED") out at r o → LaidWithin 2000 (default_text here) out at r o
  default_implied e l = record { laid = laid_as (default_is Implied e) (laid_then l laid_none); small = omega (arith, l.next) }

  pub default_required : {out o : Bytes} {at r : ℕ} → sort ≡ Required → Laid (ascii "#REQUIRED") out at r o → LaidWithin 2000 (default_text here) out at r o
  default_required e l = record { laid = laid_as (default_is Required e) (laid_then l laid_none); small = omega (arith, l.next) }

  value_here : (v : Bytes) → v ≡ (read_attribute p).value → v ≡ here.value
  value_here v e = e ∙ ap (λ (l : Bytes). (read_attribute l).value) at_i

  pub default_short : (v : Bytes) → v ≡ (read_attribute p).value → length v ≤ 255
  default_short v e = subst (λ (l : Bytes). length l ≤ 255) (sym (value_here v e)) (value_short bs i)

  pub default_fixed : (v : Bytes) {out o₁ o₂ o : Bytes} {at a₁ a₂ r : ℕ} → sort ≡ Fixed → v ≡ (read_attribute p).value
      → Laid (ascii "#FIXED \"") out at a₁ o₁ → Laid (escape v) o₁ a₁ a₂ o₂ → Laid (ascii "\"") o₂ a₂ r o → LaidWithin 2000 (default_text here) out at r o
  default_fixed v e w l m g =
      record {
        laid = laid_as (default_is Fixed e ∙ ap (λ (z : Bytes). ascii "#FIXED \"" ++ (escape z ++ (ascii "\"" ++ []))) (sym (value_here v w)))
            (laid_then l (laid_then m (laid_then g laid_none)));
        small = omega (arith, l.next, m.next, g.next, escape_length v, default_short v w);
      }

-- ---- the line of an attribute
pub attribute_line_lem : (bs : Bytes) (i : ℕ) (owner w : Bytes) {out o₁ o₂ o₃ o₄ o₅ o₆ o : Bytes} {at a₁ a₂ a₃ a₄ a₅ a₆ r : ℕ} → i < attribute_count bs
    → length owner ≤ 300 → Named (name_at i (attribute_names_of bs)) w
    → Laid (ascii "<!ATTLIST ") out at a₁ o₁ → Laid owner o₁ a₁ a₂ o₂ → Laid (ascii " ") o₂ a₂ a₃ o₃ → Laid w o₃ a₃ a₄ o₄ → Laid (ascii " CDATA ") o₄ a₄ a₅ o₅
    → LaidWithin 2000 (default_text (read_attribute (attribute_part bs i))) o₅ a₅ a₆ o₆ → Laid (ascii ">\n") o₆ a₆ r o
    → LaidWithin 3000 (attribute_line_text owner (read_attribute (attribute_part bs i))) out at r o
unfolding attribute_line_text default_text
attribute_line_lem bs i owner w h short n a b c d e f g =
    record {
      laid =
          laid_as
          (ap (λ (l : Bytes). ascii "<!ATTLIST " ++ (owner ++ (ascii " " ++ (x.name ++ (ascii " CDATA " ++ l))))) (concat_append (default_tokens (attribute_read x)) (ascii ">\n" ∷ []))
          ∙ ap (λ (z : Bytes). ascii "<!ATTLIST " ++ (owner ++ (ascii " " ++ (z ++ (ascii " CDATA " ++ (default_text x ++ (ascii ">\n" ++ []))))))) (sym (n.name_is ∙ attribute_name_lem bs i h)))
          (laid_then a (laid_then b (laid_then c (laid_then d (laid_then e (laid_then f.laid (laid_then g laid_none)))))));
      small = omega (arith, a.next, b.next, c.next, d.next, e.next, f.small, g.next, n.short);
    }
  where
    x : FlatAttribute
    x = read_attribute (attribute_part bs i)

-- ---- the lines of a definition's attributes
-- once the lines of those that are left are written, all are
pub record Listing (bs owner : Bytes) (o count : ℕ) (goal out₀ : Bytes) (at₀ : ℕ) (out : Bytes) (at i : ℕ) : Type 0 where
  pub counts : count ≡ attribute_count bs
  pub upto : i ≤ count
  pub goes : (r : ℕ) (out'' : Bytes) → Laid (attributes_text owner (of_owner o (attributes_from bs count i))) out at r out'' → Laid goal out₀ at₀ r out''
  pub small : at ≤ at₀ + 3000 * i
  pub long : length out ≡ length out₀

owner_this : (o : ℕ) (x : FlatAttribute) (xs : List FlatAttribute) → x.owner ≡ o → of_owner o (x ∷ xs) ≡ attribute_read x ∷ of_owner o xs
owner_this o x xs e = rw (eq-eqb o x.owner (sym e), of_owner)

owner_other : (o : ℕ) (x : FlatAttribute) (xs : List FlatAttribute) → (x.owner ≡ o → ⊥) → of_owner o (x ∷ xs) ≡ of_owner o xs
owner_other o x xs h = rw (ne_eqb o x.owner (λ e. h (sym e)), of_owner)

lines_more : (owner : Bytes) (x : FlatAttribute) (xs : List Attribute) → attributes_text owner (attribute_read x ∷ xs) ≡ attribute_line_text owner x ++ attributes_text owner xs
unfolding attributes_text attribute_line_text
lines_more owner x xs = refl

module _ (bs owner : Bytes) (o count : ℕ) {goal out₀ : Bytes} {at₀ : ℕ} {out : Bytes} {at i : ℕ} (w : Listing bs owner o count goal out₀ at₀ out at i) (h : i < count) where
  abbrev next : FlatAttribute
  next = read_attribute (attribute_part bs i)

  pub listing_this : {at' : ℕ} {out' : Bytes} → next.owner ≡ o → LaidWithin 3000 (attribute_line_text owner next) out at at' out' → Listing bs owner o count goal out₀ at₀ out' at' (i + 1)
  listing_this e l =
      record {
        counts = w.counts;
        upto = omega arith;
        goes = λ r q m. w.goes r q
            (laid_as
            (ap (λ (xs : List FlatAttribute). attributes_text owner (of_owner o xs)) (attribute_step bs count i h)
            ∙ ap (attributes_text owner) (owner_this o next (attributes_from bs count (i + 1)) e)
            ∙ lines_more owner next (of_owner o (attributes_from bs count (i + 1))))
            (laid_then l.laid m));
        small = omega (arith, w.small, l.small);
        long = laid_long l.laid ∙ w.long;
      }

  pub listing_other : (next.owner ≡ o → ⊥) → Listing bs owner o count goal out₀ at₀ out at (i + 1)
  listing_other e =
      record {
        counts = w.counts;
        upto = omega arith;
        goes = λ r q m. w.goes r q
            (laid_as
            (ap (λ (xs : List FlatAttribute). attributes_text owner (of_owner o xs)) (attribute_step bs count i h)
            ∙ ap (attributes_text owner) (owner_other o next (attributes_from bs count (i + 1)) e))
            m);
        small = omega (arith, w.small);
        long = w.long;
      }

pub listing_start : (bs owner : Bytes) (o count at : ℕ) (out : Bytes) → count ≡ attribute_count bs
    → Listing bs owner o count (attributes_text owner (of_owner o (attributes_from bs (attribute_count bs) 0))) out at out at 0
listing_start bs owner o count at out e =
    record { counts = e; upto = omega arith; goes = λ r q l. laid_as (ap (λ (n : ℕ). attributes_text owner (of_owner o (attributes_from bs n 0))) (sym e)) l; small = omega arith; long = refl }

pub listing_done : (bs owner : Bytes) (o count : ℕ) {goal out₀ : Bytes} {at₀ : ℕ} {out : Bytes} {at i : ℕ} → Listing bs owner o count goal out₀ at₀ out at i
    → count ≤ i → at ≤ at₀ + 192000 → LaidWithin 192000 goal out₀ at₀ at out
unfolding attributes_text
listing_done bs owner o count {at = at} {i = i} w h k =
    record {
      laid = w.goes at _
          (laid_as
          (ap (λ (xs : List FlatAttribute). attributes_text owner (of_owner o xs))
          (from_none read_attribute (attribute_size (width_of bs)) (from_attributes bs) count i h))
          laid_none);
      small = k;
    }

-- ---- content
content_none : (ns : List Bytes) (f : Forest FlatParticle) → false ≡ is_tree f → content_text ns 2 f ≡ ascii "EMPTY" ++ []
unfolding content_text
content_none ns bare e = refl
content_none ns (tree p q t) e = absurd (false≢true e)

model_some : (ns : List Bytes) (p : FlatParticle) (s : ℕ) (b t : Members Bytes)
    → concat (model_tokens (member_of ns p s b t)) ≡ ascii "(" ++ (concat (member_tokens Sequence [] (member_of ns p s b t)) ++ (ascii ")" ++ []))
model_some ns p zero b t = ap (λ (l : Bytes). ascii "(" ++ l) (concat_append (member_tokens Sequence [] (member_of ns p zero b t)) (ascii ")" ∷ []))
model_some ns p (suc s) b t = ap (λ (l : Bytes). ascii "(" ++ l) (concat_append (member_tokens Sequence [] (member_of ns p (suc s) b t)) (ascii ")" ∷ []))

content_some : (ns : List Bytes) (f : Forest FlatParticle) → true ≡ is_tree f → content_text ns 2 f ≡ ascii "(" ++ (members_text ns Sequence true f ++ (ascii ")" ++ []))
unfolding content_text members_text
content_some ns bare e = absurd (false≢true (sym e))
content_some ns (tree p q t) e = model_some ns p p.sort (read_members ns q) (read_members ns t)

module _ (ns : List Bytes) (f : Forest FlatParticle) {out : Bytes} {at : ℕ} where
  content_laid : (kind : ℕ) {w o : Bytes} {r : ℕ} → content_text ns kind f ≡ w ++ [] → length w ≤ 9 → Laid w out at r o → LaidWithin 640100 (content_text ns kind f) out at r o
  content_laid kind e h l = record { laid = laid_as e (laid_then l laid_none); small = omega (arith, l.next) }

  module _ {kind : Kind} where
    pub content_empty_laid : {o : Bytes} {r : ℕ} → kind ≡ Empty → Laid (ascii "EMPTY") out at r o → LaidWithin 640100 (content_text ns (kind_number kind) f) out at r o
    unfolding content_text
    content_empty_laid e l = content_laid (kind_number kind) (ap (λ (k : Kind). concat (content_tokens (content_of (kind_number k) (read_members ns f)))) e) (omega arith) l

    pub content_pcdata_laid : {o : Bytes} {r : ℕ} → kind ≡ Pcdata → Laid (ascii "(#PCDATA)") out at r o → LaidWithin 640100 (content_text ns (kind_number kind) f) out at r o
    unfolding content_text
    content_pcdata_laid e l = content_laid (kind_number kind) (ap (λ (k : Kind). concat (content_tokens (content_of (kind_number k) (read_members ns f)))) e) (omega arith) l

    pub content_model_laid : {o : Bytes} {r : ℕ} → kind ≡ Complex → LaidWithin 640100 (content_text ns (kind_number Complex) f) out at r o
        → LaidWithin 640100 (content_text ns (kind_number kind) f) out at r o
    content_model_laid {o} {r} e l = subst (λ (k : Kind). LaidWithin 640100 (content_text ns (kind_number k) f) out at r o) (sym e) l

  pub content_none_laid : {o : Bytes} {r : ℕ} (b : Bool) → b ≡ is_tree f → b ≡ false → Laid (ascii "EMPTY") out at r o → LaidWithin 640100 (content_text ns (kind_number Complex) f) out at r o
  content_none_laid b e g l = content_laid 2 (content_none ns f (sym g ∙ e)) (omega arith) l

pub content_some_laid : (bs : Bytes) (end from : ℕ) {out o₁ o₂ o : Bytes} {at a₁ a₂ next r : ℕ} (b : Bool) → end ≤ 256 → b ≡ is_tree (build (particles_from bs end from) 0) → b ≡ true
    → Laid (ascii "(") out at a₁ o₁ → Passed (particles_from bs end) (members_text (names_of bs) Sequence true) end from 0 a₁ o₁ next a₂ o₂ → Laid (ascii ")") o₂ a₂ r o
    → LaidWithin 640100 (content_text (names_of bs) (kind_number Complex) (build (particles_from bs end from) 0)) out at r o
content_some_laid bs end from b h e g l m n =
    record {
      laid = laid_as (content_some (names_of bs) (build (particles_from bs end from) 0) (sym g ∙ e)) (laid_then l (laid_then m.laid (laid_then n laid_none)));
      small = omega (arith, l.next, m.small, n.next);
    }

-- what stands below a definition, by the kind that its code is read as
content_read : (ns : List Bytes) (n : ℕ) (f : Forest FlatParticle) → content_text ns n f ≡ content_text ns (kind_number (kind_by n)) f
unfolding content_text
content_read ns zero f = refl
content_read ns (suc zero) f = refl
content_read ns (suc (suc n)) f = refl

-- ---- the line of a definition
pub definition_laid : (bs : Bytes) (o end from : ℕ) (d : Bytes) → d ≡ definition_part bs o → o < definition_count bs → (code : ℕ) (kind : Kind) → code ≡ (read_definition d).kind → kind ≡ kind_by code
    → {w out o₁ o₂ o₃ o₄ o₅ : Bytes} {at a₁ a₂ a₃ a₄ r : ℕ} → Laid (ascii "<!ELEMENT ") out at a₁ o₁ → Named (name_at o (names_of bs)) w → Laid w o₁ a₁ a₂ o₂ → Laid (ascii " ") o₂ a₂ a₃ o₃
    → LaidWithin 640100 (content_text (names_of bs) (kind_number kind) (build (particles_from bs end from) 0)) o₃ a₃ a₄ o₄ → Laid (ascii ">\n") o₄ a₄ r o₅
    → LaidWithin 641000 (definition_text (names_of bs) (read_definition (definition_part bs o)) (particles_from bs end from)) out at r o₅
unfolding definition_text
definition_laid bs o end from d at-o h code kind code_is kind_is {w} a n b c e g =
    record {
      laid = laid_as same (laid_then a (laid_then b (laid_then c (laid_then e.laid (laid_then g laid_none)))));
      small = omega (arith, a.next, b.next, c.next, e.small, g.next, n.short);
    }
  where
    below : Forest FlatParticle
    below = build (particles_from bs end from) 0

    content_here : content_text (names_of bs) (read_definition (definition_part bs o)).kind below ≡ content_text (names_of bs) (kind_number kind) below
    content_here =
        ap (λ (k : ℕ). content_text (names_of bs) k below) (sym (code_is ∙ ap (λ (l : Bytes). (read_definition l).kind) at-o))
        ∙ content_read (names_of bs) code below
        ∙ ap (λ (k : Kind). content_text (names_of bs) (kind_number k) below) (sym kind_is)

    same : ascii "<!ELEMENT "
        ++ ((read_definition (definition_part bs o)).name
        ++ (ascii " " ++ (content_text (names_of bs) (read_definition (definition_part bs o)).kind below ++ (ascii ">\n" ++ []))))
        ≡ ascii "<!ELEMENT " ++ (w ++ (ascii " " ++ (content_text (names_of bs) (kind_number kind) below ++ (ascii ">\n" ++ []))))
    same =
        ap₂ (λ (z c : Bytes). ascii "<!ELEMENT " ++ (z ++ (ascii " " ++ (c ++ (ascii ">\n" ++ [])))))
        (sym (n.name_is ∙ definition_name_lem bs o h)) content_here
