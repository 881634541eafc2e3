-- The particles of a content model, written: the one at a byte, and the loop over the bytes.
use Prim.Native.Nat.{ℕ, ◌+◌, ◌*◌, ◌<◌, ◌≤◌}
use mathlib.Core.Path.{◌≡◌, refl, sym, ap, ap₂, ◌∙◌}
use mathlib.Core.Bool.{Bool, true, false}
use mathlib.Core.List.{List, [], ◌∷◌, ◌++◌}
use native.Mathlib.Omega.{arith}
use native.Mathlib.Numerals.{add-one}
use borrow.Author.Tests.{eq-eqb, ne_eqb, leb-true}
use lib.Dec.{leb}
use lib.ListN.{length, drop, get_or, length-append, length-drop, drop_of_length-le}
use lib.Seq.{drop-cons}
use Rattle.std.specs.Prelude.{Option, Some, None, unwrap_or}
use Rattle.rules.specs.Bytes.{Bytes}
use Rattle.rules.specs.Preorder.{Deep}
use Rattle.rules.specs.Layout.{particle_size, FlatParticle, particle_bytes, each}
use Rattle.rules.specs.WellFormed.{in_name}
use Rattle.rules.proofs.Words.{and_split}
use Rattle.rules.proofs.BooleanLaws.{all_append}
use Rattle.rules.proofs.LayoutLaws.{length_each, length_particle, each_append}
use Rattle.codec.specs.Laid.{Laid}
use Rattle.codec.proofs.Writers.{laid_none, laid_then, laid_as, laid_long}
use Rattle.layout.specs.RecordBytes.{flat_particle}
use Rattle.text_scan.specs.Scan.{first_byte, after_while}
use Rattle.declaration_scan.specs.Declared.{mark_code, name_here, place_among, element_here, group_here, model_from}
use Rattle.declaration_scan.specs.Names.{NameOf, PlaceIn}
use Rattle.model_scan.specs.Scanning.{depth_after, Groups, starts_here, particle_here, starting_here, shallow}
use Rattle.model_scan.proofs.ModelLaws.{model_starts, model_goes, particle_depth, depth_few}

-- ---- one particle
pub group_laid : (txt : Bytes) (d : ℕ) {kind count mark : ℕ} {out out' : Bytes} {at r : ℕ} → Groups txt kind count mark
    → Laid (particle_bytes (flat_particle kind mark count d)) out at r out' → Laid (particle_bytes (group_here d txt)) out at r out'
group_laid txt d g l = laid_as (λ i. particle_bytes (flat_particle (sym g.kind_is i) (sym g.mark_is i) (sym g.count_is i) d)) l

-- the place of a name, or the number past the last
place_is : {n place : ℕ} (r : Option ℕ) → PlaceIn n place r → unwrap_or r n ≡ place
place_is None p = sym p.found
place_is (Some i) p = p.found.0

place_small : {n place : ℕ} (r : Option ℕ) → PlaceIn n place r → unwrap_or r n ≤ n
place_small None p = omega arith
place_small (Some i) p = omega (arith, p.found.1)

pub place_low : {n place k : ℕ} (r : Option ℕ) → PlaceIn n place r → k ≡ unwrap_or r n → k ≤ n
place_low r p e = rw e (place_small r p)

pub element_laid : (ns : List Bytes) (txt : Bytes) (d n : ℕ) {name after : Bytes} {r : Option ℕ} {place mark : ℕ} {out out' : Bytes} {at k : ℕ}
    → NameOf (name_here txt) name → PlaceIn n (place_among name ns) r → place ≡ unwrap_or r n → after ≡ after_while in_name txt → mark ≡ mark_code after
    → Laid (particle_bytes (flat_particle 0 mark place d)) out at k out' → Laid (particle_bytes (element_here ns d txt)) out at k out'
element_laid ns txt d n {r = r} m p u a e l =
    let here = sym (u ∙ place_is r p ∙ ap (λ (z : Bytes). place_among z ns) m.value) in
    let marked = sym (e ∙ ap mark_code a) in
    laid_as (λ i. particle_bytes (flat_particle 0 (marked i) (here i) d)) l

-- ---- the particle that begins here
nonempty : (txt : Bytes) → 0 < length txt → txt ≡ first_byte txt ∷ drop 1 txt
nonempty txt h = drop-cons txt 0 0 h

module _ (ns : List Bytes) (d : ℕ) (inside : Bool) (txt : Bytes) (x : ℕ) (e : x ≡ first_byte txt) (b : Bool) (t : b ≡ starts_here x inside) where
  abbrev first : Deep FlatParticle
  first = particle_here ns d (first_byte txt) (drop 1 txt)

  tested : b ≡ starts_here (first_byte txt) inside
  tested = t ∙ ap (λ (z : ℕ). starts_here z inside) e

  pub starting_none : b ≡ false → {out : Bytes} {at : ℕ} → Laid (each particle_bytes (starting_here ns d inside txt)) out at at out
  unfolding starting_here
  starting_none h = laid_as (λ i. each particle_bytes (elim ((sym tested ∙ h) i) [ true ↦ first ∷ [] | false ↦ [] ])) laid_none

  starting_one : b ≡ true → starting_here ns d inside txt ≡ first ∷ []
  unfolding starting_here
  starting_one h = λ i. elim ((sym tested ∙ h) i) [ true ↦ first ∷ [] | false ↦ [] ]

  -- it is not too deep
  pub starting_low : b ≡ true → shallow (starting_here ns d inside txt) ≡ true → d ≤ 4
  starting_low h s =
      let (low, rest) = and_split (leb first.depth 4) true (sym (ap shallow (starting_one h)) ∙ s) in
      leb-true d 4 (ap (λ (k : ℕ). leb k 4) (sym (particle_depth ns d (first_byte txt) (drop 1 txt))) ∙ low)

  one_laid : b ≡ true → {out out' : Bytes} {at r : ℕ} (p : Deep FlatParticle) → first ≡ p → Laid (particle_bytes p) out at r out'
      → Laid (each particle_bytes (starting_here ns d inside txt)) out at r out'
  one_laid h p f l = laid_as (ap (each particle_bytes) (starting_one h ∙ ap (λ (q : Deep FlatParticle). q ∷ []) f)) (laid_then l laid_none)

  pub starting_group : b ≡ true → x ≡ 40 → {after out out' : Bytes} {at r : ℕ} → after ≡ drop 1 txt → Laid (particle_bytes (group_here d after)) out at r out'
      → Laid (each particle_bytes (starting_here ns d inside txt)) out at r out'
  unfolding particle_here
  starting_group h g {after} a l =
      one_laid h (group_here d after)
      ((λ i. one_of (eq-eqb (first_byte txt) 40 (sym e ∙ g) i)) ∙ ap (group_here d) (sym a)) l
    where
      one_of : Bool → Deep FlatParticle
      one_of q = elim q [ true ↦ group_here d (drop 1 txt) | false ↦ element_here ns d (first_byte txt ∷ drop 1 txt) ]

  pub starting_element : b ≡ true → (x ≡ 40 → ⊥) → 0 < length txt → {out out' : Bytes} {at r : ℕ} → Laid (particle_bytes (element_here ns d txt)) out at r out'
      → Laid (each particle_bytes (starting_here ns d inside txt)) out at r out'
  unfolding particle_here
  starting_element h g long l =
      one_laid h (element_here ns d txt)
      ((λ i. one_of (ne_eqb (first_byte txt) 40 (λ q. g (e ∙ q)) i)) ∙ ap (element_here ns d) (sym (nonempty txt long))) l
    where
      one_of : Bool → Deep FlatParticle
      one_of q = elim q [ true ↦ group_here d (drop 1 txt) | false ↦ element_here ns d (first_byte txt ∷ drop 1 txt) ]

-- ---- the loop over the bytes of a model
-- once the particles that are left are written, all are; none of them is too deep, and there is room for their number
pub record Putting (ns : List Bytes) (txt out₀ : Bytes) (at₀ : ℕ) (out : Bytes) (at depth : ℕ) (inside : Bool) (i : ℕ) : Type 0 where
  pub goes : (r : ℕ) (out'' : Bytes) → Laid (each particle_bytes (model_from ns depth inside (drop i txt))) out at r out'' → Laid (each particle_bytes (model_from ns 0 false txt)) out₀ at₀ r out''
  pub low : shallow (model_from ns depth inside (drop i txt)) ≡ true
  pub small : at + particle_size * length (model_from ns depth inside (drop i txt)) < 2305843009213693952
  pub near : depth ≤ i
  pub long : length out ≡ length out₀

module _ (ns : List Bytes) (txt : Bytes) {out₀ : Bytes} {at₀ : ℕ} {out : Bytes} {at : ℕ} (depth : ℕ) (inside : Bool) (i : ℕ) (p : Putting ns txt out₀ at₀ out at depth inside i) where
  module _ (h : i < length txt) where
    abbrev here : ℕ
    here = get_or txt i 0

    abbrev left : List (Deep FlatParticle)
    left = model_from ns (depth_after here depth) (in_name here) (drop (i + 1) txt)

    abbrev now : List (Deep FlatParticle)
    now = starting_here ns depth inside (drop i txt)

    rest_is : drop i txt ≡ here ∷ drop (i + 1) txt
    rest_is = drop-cons txt i 0 h ∙ ap (λ (k : ℕ). here ∷ drop k txt) (sym (add-one i))

    model_parts : model_from ns depth inside (drop i txt) ≡ now ++ left
    unfolding starting_here
    model_parts = ap (model_from ns depth inside) rest_is ∙ by (starts_here here inside) refl ∙ ap (λ (l : Bytes). starting_here ns depth inside l ++ left) (sym rest_is)
      where
        by : (b : Bool) → starts_here here inside ≡ b → model_from ns depth inside (here ∷ drop (i + 1) txt) ≡ starting_here ns depth inside (here ∷ drop (i + 1) txt) ++ left
        by true e =
            model_starts ns depth inside here (drop (i + 1) txt) e
            ∙ (λ j. (elim (sym e j) [ true ↦ particle_here ns depth here (drop (i + 1) txt) ∷ [] | false ↦ [] ]) ++ left)
        by false e =
            model_goes ns depth inside here (drop (i + 1) txt) e
            ∙ (λ j. (elim (sym e j) [ true ↦ particle_here ns depth here (drop (i + 1) txt) ∷ [] | false ↦ [] ]) ++ left)

    pub putting_here : (rest : Bytes) → rest ≡ drop i txt → 0 < length rest
    putting_here rest e = omega (arith, ap length e, length-drop i txt)

    lows : (shallow now ≡ true) × (shallow left ≡ true)
    lows = and_split (shallow now) (shallow left) (sym (all_append (λ (p : Deep FlatParticle). leb p.depth 4) now left) ∙ ap shallow (sym model_parts) ∙ p.low)

    pub putting_low : (rest : Bytes) → rest ≡ drop i txt → shallow (starting_here ns depth inside rest) ≡ true
    putting_low rest e = ap (λ (l : Bytes). shallow (starting_here ns depth inside l)) e ∙ lows.0

    pub putting_on : {rest : Bytes} {at' : ℕ} {out' : Bytes} (depth' : ℕ) (inside' : Bool) → rest ≡ drop i txt
        → Laid (each particle_bytes (starting_here ns depth inside rest)) out at at' out' → depth' ≡ depth_after here depth → inside' ≡ in_name here
        → Putting ns txt out₀ at₀ out' at' depth' inside' (i + 1)
    putting_on {rest} depth' inside' here' made d n =
        let l : Laid (each particle_bytes now) out _ _ _ = laid_as (ap (λ (l : Bytes). each particle_bytes (starting_here ns depth inside l)) (sym here')) made in
        record {
          goes = λ r o m. p.goes r o
              (laid_as (ap (each particle_bytes) model_parts ∙ each_append particle_bytes now left) (laid_then l (laid_as (ap (each particle_bytes) (sym same)) m)));
          low = ap shallow same ∙ lows.1;
          small = omega (arith, p.small, l.next, length_each particle_bytes particle_size length_particle now, ap length model_parts, length-append now left, ap length same);
          near = omega (arith, p.near, d, depth_few here depth);
          long = laid_long l ∙ p.long;
        }
      where
        same : model_from ns depth' inside' (drop (i + 1) txt) ≡ left
        same = ap₂ (λ (e : ℕ) (b : Bool). model_from ns e b (drop (i + 1) txt)) d n

  pub putting_done : length txt ≤ i → Laid (each particle_bytes (model_from ns 0 false txt)) out₀ at₀ at out
  unfolding model_from
  putting_done h = p.goes at _ (laid_as (ap (λ (l : Bytes). each particle_bytes (model_from ns depth inside l)) (drop_of_length-le txt {i = i} h)) laid_none)
