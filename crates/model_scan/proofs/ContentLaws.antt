-- The particles of the content of a definition: those of its model, if it has one.
use Prim.Native.Nat.{ℕ, ◌+◌, ◌*◌, ◌<◌, ◌≤◌}
use mathlib.Core.Path.{◌≡◌, refl, sym, ap, ◌∙◌}
use mathlib.Core.Bool.{Bool, true, false, false≢true}
use mathlib.Core.List.{List, [], ◌∷◌}
use native.Mathlib.Omega.{arith}
use borrow.Author.Tests.{eq-eqb, ne_eqb, eqb-true}
use denote.Enum.Bare.{sameb}
use lib.Dec.{eqb}
use lib.ListN.{length, drop, length-drop}
use Rattle.rules.specs.declared.Kind.{Kind}
use Rattle.rules.specs.declared.Kind.TheVariants.{Complex}
use Rattle.rules.specs.contracts.Kind.{the_type}
use Rattle.rules.specs.Kinds.{kind_number}
use Rattle.rules.proofs.KindLaws.{kind_test}
use Rattle.rules.specs.Bytes.{Bytes}
use Rattle.rules.specs.Preorder.{Deep}
use Rattle.rules.specs.Layout.{particle_size, FlatParticle, particle_bytes, each}
use Rattle.rules.specs.WellFormed.{in_name}
use Rattle.codec.specs.Laid.{Laid}
use Rattle.codec.proofs.Writers.{laid_none, laid_as}
use Rattle.declaration_scan.specs.Declared.{declared_kind, model_from, model_of_content}
use Rattle.model_scan.specs.Scanning.{depth_after, starts_here, shallow, Measures}
use Rattle.model_scan.proofs.ModelLaws.{Alike, model_alike, model_starts, model_goes}

-- ---- the kind compared with COMPLEX
pub is_model : (kind : Kind) {b : Bool} → b ≡ sameb the_type kind Complex → b ≡ true → kind_number kind ≡ 2
is_model kind e h = eqb-true _ _ (sym (kind_test kind Complex) ∙ sym e ∙ h)

pub no_model : (kind : Kind) {b : Bool} → b ≡ sameb the_type kind Complex → b ≡ false → kind_number kind ≡ 2 → ⊥
no_model kind e h z = false≢true (sym h ∙ e ∙ kind_test kind Complex ∙ eq-eqb _ _ z)

-- by the test of the kind
abbrev model_by : Bool → List (Deep FlatParticle) → List (Deep FlatParticle)
model_by b ps = elim b [ true ↦ ps | false ↦ [] ]

module _ (c : Bytes) (kind : ℕ) (k : kind ≡ declared_kind c) where
  content_some : (ns : List Bytes) (rest : Bytes) → kind ≡ 2 → rest ≡ drop 1 c → model_of_content ns c ≡ model_from ns 0 false rest
  content_some ns rest h e = (λ i. model_by (eq-eqb (declared_kind c) 2 (sym k ∙ h) i) (model_from ns 0 false (drop 1 c))) ∙ ap (model_from ns 0 false) (sym e)

  content_none : (ns : List Bytes) → (kind ≡ 2 → ⊥) → model_of_content ns c ≡ []
  content_none ns h = λ i. model_by (ne_eqb (declared_kind c) 2 (λ e. h (k ∙ e)) i) (model_from ns 0 false (drop 1 c))

  pub measured_some : (rest : Bytes) {count : ℕ} {low : Bool} → kind ≡ 2 → rest ≡ drop 1 c → Measures (model_from [] 0 false rest) count low → Measures (model_of_content [] c) count low
  measured_some rest h e m =
      record { count_is = m.count_is ∙ ap length (sym (content_some [] rest h e)); shallow_is = m.shallow_is ∙ ap shallow (sym (content_some [] rest h e)) }

  pub measured_none : (kind ≡ 2 → ⊥) → Measures (model_of_content [] c) 0 true
  measured_none h = record { count_is = ap length (sym (content_none [] h)); shallow_is = ap shallow (sym (content_none [] h)) }

  module _ (ns : List Bytes) where
    pub content_low : (rest : Bytes) → kind ≡ 2 → rest ≡ drop 1 c → shallow (model_of_content ns c) ≡ true → shallow (model_from ns 0 false rest) ≡ true
    content_low rest h e s = ap shallow (sym (content_some ns rest h e)) ∙ s

    pub content_small : (rest : Bytes) (at most : ℕ) → kind ≡ 2 → rest ≡ drop 1 c
        → at + particle_size * length (model_of_content ns c) < most → at + particle_size * length (model_from ns 0 false rest) < most
    content_small rest at most h e s = omega (arith, ap length (content_some ns rest h e))

    pub content_laid : {rest out out' : Bytes} {at r : ℕ} → kind ≡ 2 → rest ≡ drop 1 c → Laid (each particle_bytes (model_from ns 0 false rest)) out at r out'
        → Laid (each particle_bytes (model_of_content ns c)) out at r out'
    content_laid {rest} h e l = laid_as (ap (each particle_bytes) (content_some ns rest h e)) l

    pub content_empty : {out : Bytes} {at : ℕ} → (kind ≡ 2 → ⊥) → Laid (each particle_bytes (model_of_content ns c)) out at at out
    content_empty h = laid_as (ap (each particle_bytes) (content_none ns h)) laid_none

-- ---- whatever the names are
pub content_alike : (ns ms : List Bytes) (c : Bytes) → Alike (model_of_content ns c) (model_of_content ms c)
content_alike ns ms c = by (eqb (declared_kind c) 2) (model_alike ns ms 0 false (drop 1 c))
  where
    by : (b : Bool) → Alike (model_from ns 0 false (drop 1 c)) (model_from ms 0 false (drop 1 c)) → Alike (model_by b (model_from ns 0 false (drop 1 c))) (model_by b (model_from ms 0 false (drop 1 c)))
    by true h = h
    by false h = record { long = refl; low = refl }

-- ---- no more particles than bytes
model_few : (ns : List Bytes) (d : ℕ) (inside : Bool) (xs : Bytes) → length (model_from ns d inside xs) ≤ length xs
unfolding model_from
model_few ns d inside [] = omega arith
model_few ns d inside (x ∷ xs) = by (starts_here x inside) refl (model_few ns (depth_after x d) (in_name x) xs)
  where
    by : (b : Bool) → starts_here x inside ≡ b → length (model_from ns (depth_after x d) (in_name x) xs) ≤ length xs → length (model_from ns d inside (x ∷ xs)) ≤ length (x ∷ xs)
    by true e h = omega (arith, ap length (model_starts ns d inside x xs e))
    by false e h = omega (arith, ap length (model_goes ns d inside x xs e))

pub content_few : (ns : List Bytes) (c : Bytes) → length (model_of_content ns c) ≤ length c
content_few ns c = by (eqb (declared_kind c) 2)
  where
    by : (b : Bool) → length (model_by b (model_from ns 0 false (drop 1 c))) ≤ length c
    by true = omega (arith, model_few ns 0 false (drop 1 c), length-drop 1 c)
    by false = omega arith
