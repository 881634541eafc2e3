-- The declarations of a form, written, and the whole text.
use mathlib.Core.Path.{◌≡◌, refl, sym, ap, ap₂, ◌∙◌, subst}
use mathlib.Core.List.{List, [], ◌∷◌, ◌++◌, append_assoc, map}
use Prim.Native.Nat.{ℕ, suc, ◌+◌, ◌-◌, ◌*◌, ◌<◌, ◌≤◌}
use native.Mathlib.Omega.{arith}
use native.Mathlib.Numerals.{add-one}
use lib.ListN.{length, take, drop}
use native.Mathlib.Nat.{mul-add}
use lib.Seq.{drop-drop, take_all}
use mathlib.Core.Bool.{true, false≢true}
use mathlib.Core.Option.{Option, none, some}
use Rattle.rules.specs.Bytes.{Bytes, ascii, concat}
use Rattle.rules.specs.Preorder.{Deep, build}
use Rattle.rules.specs.Layout.{definition_size, particle_size, attribute_size, FlatParticle, FlatAttribute, FlatDefinition, FlatRow, row_size, FlatStore}
use Rattle.rules.specs.Decode.{name_at, content_of, read_members, of_owner, read_attribute, read_definition, read_particle, read_row, read_rows, read_form, read_many}
use Rattle.rules.specs.Decode.{unflat, attribute_count, definition_count, particle_count, row_count}
use Rattle.rules.specs.Print.{content_tokens, attribute_lines, form_lines, document_lines, printed}
use Rattle.rules.specs.Store.{Store}
use Rattle.rules.specs.WellFormed.{is_there}
use Rattle.rules.proofs.DecodeLaws.{read_good, unflat_flat, good_known, good_found, GoodParts, good_parts}
use Rattle.rules.specs.Passing.{read_store, passes}
use Rattle.rules.proofs.BooleanLaws.{concat_append, lines_append}
use Rattle.layout.specs.Bodies.{width_of}
use Rattle.codec.specs.Laid.{Laid}
use Rattle.codec.proofs.Writers.{laid_none, laid_then, laid_as, laid_long}
use Rattle.lookup.specs.Bodies.{records_from, bodies_of, from_rows, RowsOf, rows_from}
use Rattle.lookup.proofs.Laws.{from_none, from_all, bodies_flat}
use Rattle.printing_parts.specs.Parts.{Named, definition_part, from_definitions, from_particles, from_attributes, definitions_from, particles_from, attributes_from, names_of, attribute_names_of}
use Rattle.declaration_printing.specs.Declarations.{LaidWithin, attributes_text, content_text, definition_text}
use Rattle.printing.specs.Texts.{Within, declarations_text, form_text, text_of}
use Rattle.printing_parts.proofs.PartLaws.{definition_name_lem, definition_step}
use Rattle.codec.proofs.Records.{length_many, many_take, many_drop}
use Rattle.document_printing.specs.Documents.{documents_text}

-- ---- the form
-- records up to a number, and from a number on
module _ {A : Type 0} (f : Bytes → A) (size : ℕ) (body : Bytes) (end i n : ℕ) where
  pub from_drop : drop n (records_from f size body end i) ≡ records_from f size body end (i + n)
  unfolding records_from
  from_drop =
      let e : end - i - n ≡ end - (i + n) = omega arith in
      let g : size * i + size * n ≡ size * (i + n) = sym (mul-add size i n) in
      many_drop f size n (end - i) (drop (size * i) body) ∙ ap₂ (λ (k : ℕ) (l : Bytes). read_many f size k l) e (drop-drop (size * n) (size * i) body ∙ ap (λ (k : ℕ). drop k body) g)

  pub from_take : i + n ≤ end → take n (records_from f size body end i) ≡ records_from f size body (i + n) i
  unfolding records_from
  from_take h =
      let g : n ≡ i + n - i = omega arith in
      many_take f size n (end - i) (drop (size * i) body) (omega arith) ∙ ap (λ (k : ℕ). read_many f size k (drop (size * i) body)) g

  pub from_take_all : end ≤ i + n → take n (records_from f size body end i) ≡ records_from f size body end i
  unfolding records_from
  from_take_all h = take_all n (read_many f size (end - i) (drop (size * i) body)) (omega (arith, length_many f size (end - i) (drop (size * i) body)))

-- a definition with its attributes, then the rest of the form
form_step : (ns : List Bytes) (o : ℕ) (d : FlatDefinition) (ds : List FlatDefinition) (ps : List (Deep FlatParticle)) (cs : List FlatAttribute)
    → form_text ns o (d ∷ ds) ps cs ≡ declarations_text ns o d ps cs ++ form_text ns (o + 1) ds (drop d.particles ps) cs
unfolding form_text declarations_text definition_text content_text attributes_text
form_step ns o d ds ps cs =
    ap₂ ◌++◌
    (ap (λ (l : Bytes). ascii "<!ELEMENT " ++ (d.name ++ (ascii " " ++ l)))
    (concat_append (content_tokens (content_of d.kind (read_members ns (build (take d.particles ps) 0)))) (ascii ">\n" ∷ [])))
    (lines_append (attribute_lines d.name (of_owner o cs)) (form_lines (read_form ns (suc o) ds (drop d.particles ps) cs)))
    ∙ sym (append_assoc (definition_text ns d (take d.particles ps)) (attributes_text d.name (of_owner o cs)) (form_text ns (suc o) ds (drop d.particles ps) cs))
    ∙ ap (λ (k : ℕ). declarations_text ns o d ps cs ++ form_text ns k ds (drop d.particles ps) cs) (sym (add-one o))

form_none : (ns : List Bytes) (o : ℕ) (ps : List (Deep FlatParticle)) (cs : List FlatAttribute) → form_text ns o [] ps cs ≡ []
unfolding form_text
form_none ns o ps cs = refl

-- the declarations of one definition, written
pub declarations_laid : (bs : Bytes) (o from : ℕ) (p : Bytes) → p ≡ definition_part bs o → o < definition_count bs → (n end : ℕ) → n ≡ (read_definition p).particles
    → take n (particles_from bs (particle_count bs) from) ≡ particles_from bs end from
    → {w out o₁ o₂ : Bytes} {at a₁ r : ℕ}
    → LaidWithin 641000 (definition_text (names_of bs) (read_definition (definition_part bs o)) (particles_from bs end from)) out at a₁ o₁
    → Named (name_at o (names_of bs)) w
    → LaidWithin 192000 (attributes_text w (of_owner o (attributes_from bs (attribute_count bs) 0))) o₁ a₁ r o₂
    → LaidWithin 840000 (declarations_text (names_of bs) o (read_definition (definition_part bs o)) (particles_from bs (particle_count bs) from) (attributes_from bs (attribute_count bs) 0)) out at r o₂
unfolding declarations_text
declarations_laid bs o from p at-o h n end n_is e {w} d m a =
    record {
      laid =
          laid_as
          (ap₂
          (λ (xs : List (Deep FlatParticle)) (z : Bytes). definition_text (names_of bs) (read_definition (definition_part bs o)) xs
          ++ attributes_text z (of_owner o (attributes_from bs (attribute_count bs) 0)))
          (ap (λ (k : ℕ). take k (particles_from bs (particle_count bs) from)) (particles_here bs o p at-o n n_is) ∙ e) (sym (m.name_is ∙ definition_name_lem bs o h)))
          (laid_then d.laid a.laid);
      small = omega (arith, d.small, a.small);
    }
  where
    particles_here : (bs : Bytes) (o : ℕ) (p : Bytes) → p ≡ definition_part bs o → (n : ℕ) → n ≡ (read_definition p).particles → (read_definition (definition_part bs o)).particles ≡ n
    particles_here bs o p at-o n n_is = sym (n_is ∙ ap (λ (l : Bytes). (read_definition l).particles) at-o)

-- the loop over the definitions: once the rest of the form is written, all is
pub record Declaring (bs : Bytes) (count : ℕ) (goal out₀ : Bytes) (at₀ : ℕ) (out : Bytes) (at o from : ℕ) : Type 0 where
  pub counts : count ≡ definition_count bs
  pub upto : o ≤ count
  pub goes : (r : ℕ) (out'' : Bytes)
      → Laid (form_text (names_of bs) o (definitions_from bs count o) (particles_from bs (particle_count bs) from) (attributes_from bs (attribute_count bs) 0)) out at
      r out''
      → Laid goal out₀ at₀ r out''
  pub small : at ≤ at₀ + 840000 * o
  pub few : from ≤ 4294967296 * o
  pub long : length out ≡ length out₀

pub declaring_start : (bs : Bytes) (count at : ℕ) (out : Bytes) → count ≡ definition_count bs
    → Declaring bs count
    (form_text (names_of bs) 0 (definitions_from bs (definition_count bs) 0) (particles_from bs (particle_count bs) 0) (attributes_from bs (attribute_count bs) 0)) out
    at out at 0 0
declaring_start bs count at out e =
    record {
      counts = e;
      upto = omega arith;
      goes = λ r q l. laid_as (ap (λ (k : ℕ). form_text (names_of bs) 0 (definitions_from bs k 0) (particles_from bs (particle_count bs) 0) (attributes_from bs (attribute_count bs) 0)) (sym e)) l;
      small = omega arith;
      few = omega arith;
      long = refl;
    }

pub declaring_on : (bs : Bytes) (count : ℕ) {goal out₀ : Bytes} {at₀ : ℕ} {out : Bytes} {at o from at' : ℕ} {out' : Bytes} → Declaring bs count goal out₀ at₀ out at o from → o < count
    → (p : Bytes) → p ≡ definition_part bs o → (n : ℕ) → n ≡ (read_definition p).particles → n < 4294967296
    → LaidWithin 840000 (declarations_text (names_of bs) o (read_definition (definition_part bs o)) (particles_from bs (particle_count bs) from) (attributes_from bs (attribute_count bs) 0)) out at at' out'
    → Declaring bs count goal out₀ at₀ out' at' (o + 1) (from + n)
declaring_on bs count {o = o} {from = from} w h p at-o n n_is small l =
    record {
      counts = w.counts;
      upto = omega arith;
      goes =
          λ r q m.
          w.goes r q
          (laid_as
          (ap (λ (ds : List FlatDefinition). form_text (names_of bs) o ds ps cs) (definition_step bs count o h)
          ∙ form_step (names_of bs) o d (definitions_from bs count (o + 1)) ps cs
          ∙ ap (λ (xs : List (Deep FlatParticle)). declarations_text (names_of bs) o d ps cs ++ form_text (names_of bs) (o + 1) (definitions_from bs count (o + 1)) xs cs)
          (ap (λ (k : ℕ). drop k ps) particles ∙ from_drop read_particle particle_size (from_particles bs) (particle_count bs) from n))
          (laid_then l.laid m));
      small = omega (arith, w.small, l.small);
      few = omega (arith, w.few);
      long = laid_long l.laid ∙ w.long;
    }
  where
    d : FlatDefinition
    d = read_definition (definition_part bs o)

    ps : List (Deep FlatParticle)
    ps = particles_from bs (particle_count bs) from

    cs : List FlatAttribute
    cs = attributes_from bs (attribute_count bs) 0

    particles : (read_definition (definition_part bs o)).particles ≡ n
    particles = sym (n_is ∙ ap (λ (l : Bytes). (read_definition l).particles) at-o)

pub declaring_done : (bs : Bytes) (count : ℕ) {goal out₀ : Bytes} {at₀ : ℕ} {out : Bytes} {at o from : ℕ} → Declaring bs count goal out₀ at₀ out at o from
    → count ≤ o → definition_count bs ≤ 64 → LaidWithin 53760000 goal out₀ at₀ at out
declaring_done bs count {at = at} {o = o} {from = from} w h k =
    record {
      laid =
          w.goes at _
          (laid_as
          (ap (λ (ds : List FlatDefinition). form_text (names_of bs) o ds (particles_from bs (particle_count bs) from) (attributes_from bs (attribute_count bs) 0))
          (from_none read_definition definition_size (from_definitions bs) count o h)
          ∙ form_none (names_of bs) o (particles_from bs (particle_count bs) from) (attributes_from bs (attribute_count bs) 0))
          laid_none);
      small = omega (arith, w.small, w.upto, w.counts);
    }

-- ---- the whole text
pub text_parts : {bs rows : Bytes} {w f : ℕ} → RowsOf bs w rows → f ≡ row_count bs
    → text_of bs
    ≡ form_text (names_of bs) 0 (definitions_from bs (definition_count bs) 0) (particles_from bs (particle_count bs) 0) (attributes_from bs (attribute_count bs) 0)
    ++ documents_text (names_of bs) (attribute_names_of bs) (build (rows_from w rows f 0) 0)
unfolding text_of printed form_text documents_text names_of attribute_names_of bodies_of from_definitions from_particles from_attributes from_rows
text_parts {bs} {rows} {w} {f} h e =
    lines_append (form_lines (unflat (bodies_of bs)).form) (document_lines (unflat (bodies_of bs)).docs)
    ∙ sym
    (ap₂ ◌++◌
    (λ i. concat
    (map concat
    (form_lines
    (read_form (names_of bs) 0 (from_all read_definition definition_size (from_definitions bs) (definition_count bs) 0 i)
    (from_all read_particle particle_size (from_particles bs) (particle_count bs) 0 i)
    (from_all read_attribute (attribute_size (width_of bs)) (from_attributes bs) (attribute_count bs) 0 i)))))
    (ap (λ (xs : List (Deep FlatRow)). concat (map concat (document_lines (read_rows (names_of bs) (attribute_names_of bs) (build xs 0)))))
    (from_all read_row (row_size w) rows f 0 ∙ (λ i. read_many read_row (row_size (h.width.value i)) (e i) (h.body i)))))

-- on a store that passes
pub text_is : (bs : Bytes) (s : Store) → read_store bs ≡ some s → text_of bs ≡ printed s
unfolding text_of
text_is bs s h =
    let (e, g) = read_good bs s h in
    ap (λ (f : FlatStore). printed (unflat f)) (bodies_flat bs s h) ∙ ap printed (unflat_flat s (good_known s g) (good_found s g))

-- a store that passes is within the ceilings
passing_within : (bs : Bytes) (s : Store) → read_store bs ≡ some s → Within bs
unfolding bodies_of
passing_within bs s h =
    let (e, g) = read_good bs s h in
    let p : GoodParts s = good_parts s g in
    let q = sym (bodies_flat bs s h) in
    record {
      definitions = subst (λ (n : ℕ). n ≤ 64) (ap (λ (f : FlatStore). length f.definitions) q ∙ length_many read_definition definition_size (definition_count bs) _) p.definition_count;
      particles = subst (λ (n : ℕ). n ≤ 256) (ap (λ (f : FlatStore). length f.particles) q ∙ length_many read_particle particle_size (particle_count bs) _) p.particle_count;
      attributes = subst (λ (n : ℕ). n ≤ 64) (ap (λ (f : FlatStore). length f.attributes) q ∙ length_many read_attribute (attribute_size (width_of bs)) (attribute_count bs) _) p.attribute_count;
      rows = subst (λ (n : ℕ). n ≤ 4096) (ap (λ (f : FlatStore). length f.rows) q ∙ length_many read_row (row_size (width_of bs)) (row_count bs) _) p.row_count;
    }

pub within_counts : (bs : Bytes) → passes bs ≡ true → Within bs
within_counts bs e = by (read_store bs) refl
  where
    by : (o : Option Store) → read_store bs ≡ o → Within bs
    by none q = absurd (false≢true (sym (ap is_there q) ∙ e))
    by (some s) q = passing_within bs s q
