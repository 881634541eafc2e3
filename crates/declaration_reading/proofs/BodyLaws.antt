-- The bodies of the form that declarations say, written line by line.
use Prim.Native.Nat.{ℕ, suc, ◌+◌, ◌-◌, ◌*◌, ◌<◌, ◌≤◌}
use mathlib.Core.Path.{◌≡◌, refl, sym, ap, ◌∙◌}
use mathlib.Core.Bool.{Bool, true, false}
use mathlib.Core.List.{List, [], ◌∷◌, ◌++◌, append-nil}
use native.Mathlib.Omega.{arith}
use native.Mathlib.Numerals.{add-one}
use lib.ListN.{length, length-append}
use Rattle.rules.specs.Bytes.{Bytes}
use Rattle.rules.specs.Layout.{particle_size, FlatDefinition, definition_bytes, particle_bytes, attribute_bytes, each}
use Rattle.rules.proofs.Words.{and_split}
use Rattle.rules.proofs.LayoutLaws.{length_each, length_particle, each_append}
use Rattle.codec.specs.Laid.{Laid}
use Rattle.codec.proofs.Writers.{laid_none, laid_then, laid_as, laid_long}
use Rattle.layout.specs.RecordBytes.{definition_of}
use Rattle.declaration_scan.specs.Declared.{is_definition, declared_name, after_declared, declared_kind, model_of_content}
use Rattle.declaration_scan.specs.Declared.{definition_of_line, attribute_of_line, definitions_of_lines, particles_of_lines, attributes_of_lines}
use Rattle.declaration_scan.specs.Declared.{declarations}
use Rattle.declaration_scan.specs.Names.{NameOf, written_names}
use Rattle.model_scan.specs.Scanning.{shallow, Measures}
use Rattle.declaration_reading.specs.declared.Body.{Body}
use Rattle.declaration_reading.specs.declared.Body.TheVariants.{Definitions, Particles, Attributes}
use Rattle.declaration_reading.specs.Lines.{owners_after, said_definitions, said_particles, said_attributes, said_body, FormFits, Ready, Cut}
use Rattle.declaration_reading.proofs.LineLaws.{said, listed, definitions_split, particles_split, attributes_split, definitions_cut, particles_cut, attributes_cut, lows_cut}
use Rattle.declaration_reading.proofs.CountLaws.{defined}

-- ---- one line
module _ (l : Bytes) (b : Bool) (e : b ≡ is_definition l) where
  defined_one : b ≡ true → definitions_of_lines (l ∷ []) ≡ definition_of_line l ∷ []
  unfolding definitions_of_lines
  defined_one h = λ i. defined ((sym e ∙ h) i) (definition_of_line l)

  said_one : (ns : List Bytes) (content : Bytes) → b ≡ true → content ≡ after_declared l → particles_of_lines ns (l ∷ []) ≡ model_of_content ns content
  unfolding particles_of_lines
  said_one ns content h c = (λ i. said ((sym e ∙ h) i) (model_of_content ns (after_declared l)) []) ∙ append-nil (model_of_content ns (after_declared l)) ∙ ap (model_of_content ns) (sym c)

  pub defines_none : b ≡ false → {out : Bytes} {at : ℕ} → Laid (said_definitions (l ∷ [])) out at at out
  unfolding said_definitions definitions_of_lines
  defines_none h = laid_as (λ i. each definition_bytes (defined ((sym e ∙ h) i) (definition_of_line l))) laid_none

  module _ (h : b ≡ true) (content : Bytes) (c : content ≡ after_declared l) where
    pub defines_few : {count : ℕ} {low : Bool} → Measures (model_of_content [] content) count low → length (particles_of_lines [] (l ∷ [])) ≤ 256 → count ≤ 256
    defines_few m s = omega (arith, m.count_is, ap length (said_one [] content h c))

    pub defines_one : {name : Bytes} {kind count : ℕ} {low : Bool} {out out' : Bytes} {at r : ℕ} → NameOf (declared_name l) name → kind ≡ declared_kind content
        → Measures (model_of_content [] content) count low → Laid (definition_bytes (definition_of name kind count)) out at r out' → Laid (said_definitions (l ∷ [])) out at r out'
    unfolding said_definitions
    defines_one {name} {kind} {count} n k m d =
        laid_as (ap (each definition_bytes) (defined_one h ∙ ap (λ (x : FlatDefinition). x ∷ []) same)) (laid_then d laid_none)
      where
        same : definition_of_line l ≡ definition_of name kind count
        same =
            λ i. definition_of (sym n.value i) (sym (k ∙ ap declared_kind c) i) (sym (m.count_is ∙ ap (λ (z : Bytes). length (model_of_content [] z)) c) i)

    module _ (ns : List Bytes) where
      pub particles_low : shallow (particles_of_lines ns (l ∷ [])) ≡ true → shallow (model_of_content ns content) ≡ true
      particles_low s = ap shallow (sym (said_one ns content h c)) ∙ s

      pub particles_small : (at : ℕ) → at + length (said_particles ns (l ∷ [])) < 1152921504606846976 → at + particle_size * length (model_of_content ns content) < 2305843009213693952
      unfolding said_particles
      particles_small at s = omega (arith, length_each particle_bytes particle_size length_particle (particles_of_lines ns (l ∷ [])), ap length (said_one ns content h c))

      pub particles_laid : {out out' : Bytes} {at r : ℕ} → Laid (each particle_bytes (model_of_content ns content)) out at r out' → Laid (said_particles ns (l ∷ [])) out at r out'
      unfolding said_particles
      particles_laid d = laid_as (ap (each particle_bytes) (said_one ns content h c)) d

  pub particles_none : (ns : List Bytes) → b ≡ false → {out : Bytes} {at : ℕ} → Laid (said_particles ns (l ∷ [])) out at at out
  unfolding said_particles particles_of_lines
  particles_none ns h = laid_as (λ i. each particle_bytes (said ((sym e ∙ h) i) (model_of_content ns (after_declared l)) [])) laid_none

  pub owned_none : (w o : ℕ) → b ≡ true → {out : Bytes} {at : ℕ} → Laid (said_attributes w o (l ∷ [])) out at at out
  unfolding said_attributes attributes_of_lines
  owned_none w o h = laid_as (λ i. each (attribute_bytes w) (listed ((sym e ∙ h) i) [] (attribute_of_line w (o - 1) l) [])) laid_none

  pub owned_one : (w o owner : ℕ) → b ≡ false → owner ≡ o - 1 → {out out' : Bytes} {at r : ℕ} → Laid (attribute_bytes w (attribute_of_line w owner l)) out at r out'
      → Laid (said_attributes w o (l ∷ [])) out at r out'
  unfolding said_attributes attributes_of_lines
  owned_one w o owner h g d =
      laid_as
      ((λ i. each (attribute_bytes w) (listed ((sym e ∙ h) i) [] (attribute_of_line w (o - 1) l) [])) ∙ ap (λ (k : ℕ). attribute_bytes w (attribute_of_line w k l) ++ []) (sym g))
      (laid_then d laid_none)

  pub owners_more : (o : ℕ) → b ≡ true → o + 1 ≡ owners_after l o
  owners_more o h = add-one o ∙ (λ i. elim ((sym h ∙ e) i) [ true ↦ suc o | false ↦ o ])

  pub owners_same : (o : ℕ) → b ≡ false → o ≡ owners_after l o
  owners_same o h = λ i. elim ((sym h ∙ e) i) [ true ↦ suc o | false ↦ o ]

-- ---- bodies, by the first line and the others
definitions_body : (l : Bytes) (ls : List Bytes) → said_definitions (l ∷ ls) ≡ said_definitions (l ∷ []) ++ said_definitions ls
unfolding said_definitions
definitions_body l ls = ap (each definition_bytes) (definitions_split l ls) ∙ each_append definition_bytes (definitions_of_lines (l ∷ [])) (definitions_of_lines ls)

particles_body : (ns : List Bytes) (l : Bytes) (ls : List Bytes) → said_particles ns (l ∷ ls) ≡ said_particles ns (l ∷ []) ++ said_particles ns ls
unfolding said_particles
particles_body ns l ls = ap (each particle_bytes) (particles_split ns l ls) ∙ each_append particle_bytes (particles_of_lines ns (l ∷ [])) (particles_of_lines ns ls)

attributes_body : (w o o' : ℕ) (l : Bytes) (ls : List Bytes) → o' ≡ owners_after l o → said_attributes w o (l ∷ ls) ≡ said_attributes w o (l ∷ []) ++ said_attributes w o' ls
unfolding said_attributes
attributes_body w o o' l ls e =
    ap (each (attribute_bytes w)) (attributes_split w o l ls) ∙ each_append (attribute_bytes w) (attributes_of_lines w o (l ∷ [])) (attributes_of_lines w (owners_after l o) ls)
    ∙ ap (λ (k : ℕ). said_attributes w o (l ∷ []) ++ said_attributes w k ls) (sym e)

body_split : (body : Body) (defs : Bytes) (o o' : ℕ) (l : Bytes) (ls : List Bytes) → o' ≡ owners_after l o
    → said_body body defs o (l ∷ ls) ≡ said_body body defs o (l ∷ []) ++ said_body body defs o' ls
body_split Definitions defs o o' l ls e = definitions_body l ls
body_split (Particles n) defs o o' l ls e = particles_body (written_names n defs) l ls
body_split (Attributes w) defs o o' l ls e = attributes_body w o o' l ls e

-- no line says anything, so that nothing is written
body_end : (body : Body) (defs : Bytes) (o : ℕ) → said_body body defs o [] ≡ []
unfolding said_definitions said_particles said_attributes definitions_of_lines particles_of_lines attributes_of_lines
body_end Definitions defs o = refl
body_end (Particles n) defs o = refl
body_end (Attributes w) defs o = refl

-- ---- the loop over the lines of a body
-- what is asked of all lines holds of the first and of those after it
module _ {t line rest : Bytes} (u : Cut t line rest) {o : ℕ} (f : FormFits o (declarations t)) where
  lows : (shallow (particles_of_lines [] (line ∷ [])) ≡ true) × (shallow (particles_of_lines [] (declarations rest)) ≡ true)
  lows = and_split (shallow (particles_of_lines [] (line ∷ []))) (shallow (particles_of_lines [] (declarations rest))) (sym (lows_cut t line rest u []) ∙ f.low)

  fits_first : FormFits o (line ∷ [])
  fits_first =
      record {
        definitions = omega (arith, f.definitions, definitions_cut t line rest u);
        particles = omega (arith, f.particles, particles_cut t line rest u);
        attributes = omega (arith, f.attributes, attributes_cut t line rest u);
        low = lows.0;
      }

  fits_on : {o' : ℕ} → o' ≡ owners_after line o → FormFits o' (declarations rest)
  unfolding definitions_of_lines
  fits_on {o'} e =
      record {
        definitions = omega (arith, f.definitions, e, by (is_definition line), definitions_cut t line rest u);
        particles = omega (arith, f.particles, particles_cut t line rest u);
        attributes = omega (arith, f.attributes, attributes_cut t line rest u);
        low = lows.1;
      }
    where
      by : (b : Bool) → elim b [ true ↦ suc o | false ↦ o ] ≡ o + length (defined b (definition_of_line line))
      by true = omega arith
      by false = omega arith

-- once what the lines that are left say is written, all is
pub record Writing (body : Body) (defs text out₀ : Bytes) (at₀ : ℕ) (out : Bytes) (at o : ℕ) (t : Bytes) : Type 0 where
  pub goes : (r : ℕ) (out'' : Bytes) → Laid (said_body body defs o (declarations t)) out at r out'' → Laid (said_body body defs 0 (declarations text)) out₀ at₀ r out''
  pub ready : Ready body defs at o (declarations t)
  pub long : length out ≡ length out₀

module _ {body : Body} {defs text out₀ : Bytes} {at₀ : ℕ} {out : Bytes} {at o : ℕ} {t : Bytes} (w : Writing body defs text out₀ at₀ out at o t) where
  module _ {line rest : Bytes} (u : Cut t line rest) where
    abbrev first : Bytes
    first = said_body body defs o (line ∷ [])

    module _ {o' : ℕ} (e : o' ≡ owners_after line o) where
      abbrev later : Bytes
      later = said_body body defs o' (declarations rest)

      whole : said_body body defs o (declarations t) ≡ first ++ later
      whole = ap (said_body body defs o) u.declared ∙ body_split body defs o o' line (declarations rest) e

      pub writing_on : {at' : ℕ} {out' : Bytes} → Laid first out at at' out' → Writing body defs text out₀ at₀ out' at' o' rest
      writing_on l =
          record {
            goes = λ r q m. w.goes r q (laid_as whole (laid_then l m));
            ready =
                record {
                  asks = w.ready.asks;
                  fits = fits_on u w.ready.fits e;
                  room = omega (arith, w.ready.room, l.next, ap length whole, length-append first later);
                };
            long = laid_long l ∙ w.long;
          }

    pub writing_first : Ready body defs at o (line ∷ [])
    writing_first =
        let parts = length-append first (later {o' = owners_after line o} refl) in
        record { asks = w.ready.asks; fits = fits_first u w.ready.fits; room = omega (arith, w.ready.room, ap length (whole refl), parts) }

  pub writing_done : declarations t ≡ [] → Laid (said_body body defs 0 (declarations text)) out₀ at₀ at out
  writing_done none = w.goes at out (laid_as (ap (said_body body defs o) none ∙ body_end body defs o) laid_none)

-- ---- a body by its name
pub ready_as : {body which : Body} {defs : Bytes} {at o : ℕ} {ls : List Bytes} → body ≡ which → Ready body defs at o ls → Ready which defs at o ls
ready_as e r = rw e at r

pub body_laid : (defs : Bytes) (o : ℕ) (ls : List Bytes) {body which : Body} {out out' : Bytes} {at r : ℕ} → body ≡ which → Laid (said_body which defs o ls) out at r out'
    → Laid (said_body body defs o ls) out at r out'
body_laid defs o ls e l = laid_as (ap (λ (b : Body). said_body b defs o ls) e) l
