-- What the code finds of a model in a store that passes, and the conditions 9, 10 and 11 on it.
use Prim.Native.Nat.{ℕ, zero, suc, ◌<◌}
use native.Mathlib.Omega.{arith}
use mathlib.Core.Path.{◌≡◌, refl, sym, ap, ap₂, ◌∙◌, subst}
use mathlib.Core.Bool.{Bool, true, false, not, ◌&&◌, ◌||◌, not-not}
use mathlib.Core.List.{List, [], ◌∷◌, map, Memᴰ}
use borrow.Author.Tests.{ne_eqb}
use lib.Dec.{eqb}
use lib.ListN.{length, get_or}
use Rattle.rules.specs.Bytes.{Bytes, same, bytes, all}
use Rattle.rules.specs.Model.{names, member}
use Rattle.rules.specs.Store.{members}
use Rattle.rules.specs.Layout.{value_width}
use Rattle.rules.specs.Decode.{name_at, read_particle, definition_count}
use Rattle.rules.specs.WellFormed.{names_in, Reaches, reaches_in}
use Rattle.rules.specs.Change.{definition_at}
use Rattle.rules.proofs.WellFormedLaws.{well_formed_lem}
use Rattle.rules.proofs.Height.{lookup_member, known_found, reaches_known}
use Rattle.model.specs.declared.What.{What}
use Rattle.model.specs.declared.What.TheVariants.{Element, Group}
use Rattle.model.specs.declared.Particle.{Particle}
use Rattle.model.specs.Particle.{what_of, particle_of}
use Rattle.circle_check.specs.Members.{elements_of, members_in}
use Rattle.circle_check.specs.Deep.{has_height, first_passes}
use Rattle.circle_check.specs.Avoiding.{Avoids}
use Rattle.circle_check.proofs.CircleLaws.{members_named}
use Rattle.form_index.specs.Reading.{model_part, by_index}
use Rattle.store_check.proofs.IndexLaws.{names_of, lookup_at, name_of_lem}
use Rattle.store_check.proofs.ElementReads.{same_names}
use Rattle.store_laws.specs.Stores.{store_in}
use Rattle.layout.specs.Bodies.{Number, definitions_in, particles_in}
use Rattle.store_check.proofs.StoreFacts.{form_in}
use Rattle.model_reach.specs.Reach.{stands_in_model, comes_round}
use Rattle.model_reach.proofs.FormFacts.{Reads}
use Rattle.model_reach.proofs.ReachLaws.{avoided}

-- ---- one particle
abbrev is_this : ℕ → What → Bool
is_this i (Element j) = eqb i j
is_this i (Group k n) = false

-- what was read of it
pub other_first : (t : Bytes) (p : Particle) (i : ℕ) → p ≡ particle_of (read_particle t) → {w : What} → p.what ≡ w → {b : Bool} → b ≡ is_this i w → not b ≡ first_passes (λ j. not (eqb i j)) t
unfolding particle_of
other_first t p i ep {w} e {b} eb =
    ap not (eb ∙ ap (is_this i) (sym e ∙ ap (λ (q : Particle). q.what) ep)) ∙ by (read_particle t).row.sort (read_particle t).row.index
  where
    by : (sort index : ℕ) → not (is_this i (what_of sort index)) ≡ elim (eqb sort 0) [ true ↦ not (eqb i index) | false ↦ true ]
    by zero index = refl
    by (suc n) index = sym (ap (λ (b : Bool). elim b [ true ↦ not (eqb i index) | false ↦ true ]) (ne_eqb (suc n) 0 (λ q. omega arith)))

module _ (bs : Bytes) (w : Reads bs) where
  pub size : definition_count bs ≡ length (form_in bs)
  size = w.whole.agrees.size

  pub apart : (i j : ℕ) → i < length (form_in bs) → j < length (form_in bs) → same (name_at i (names_of (form_in bs))) (name_at j (names_of (form_in bs))) ≡ eqb i j
  apart = same_names (value_width (store_in bs).version) (form_in bs) ((well_formed_lem (value_width (store_in bs).version) (form_in bs)).1 w.whole.good.form) (by_index bs) w.whole.agrees

  acyclic : (n : Bytes) → Reaches (form_in bs) n n → ⊥
  acyclic n r =
      let (d, e) = known_found (form_in bs) n (reaches_known (form_in bs) r) in
      let (m, s) = lookup_member n (form_in bs) d e in
      (w.whole.good.form.definitions d m).circle (subst (λ (z : Bytes). Reaches (form_in bs) z z) (sym s) r)

  -- ---- 10
  member_named : (i : ℕ) → i < length (form_in bs) → (js : List ℕ) → ((j : ℕ) → Memᴰ j js → j < length (form_in bs))
      → not (all (λ j. not (eqb i j)) js) ≡ member bytes (name_at i (names_of (form_in bs))) (map (λ j. name_at j (names_of (form_in bs))) js)
  unfolding member
  member_named i l [] h = refl
  member_named i l (j ∷ js) h =
      by (eqb i j) (member_named i l js (λ k m. h k (Memᴰ.tail m)))
      ∙ ap (λ (b : Bool). elim b [ true ↦ true | false ↦ member bytes (name_at i (names_of (form_in bs))) (map (λ k. name_at k (names_of (form_in bs))) js) ]) (sym (apart i j l (h j (Memᴰ.head refl))))
    where
      by : (b : Bool) → not (all (λ k. not (eqb i k)) js) ≡ member bytes (name_at i (names_of (form_in bs))) (map (λ k. name_at k (names_of (form_in bs))) js)
          → not (not b && all (λ k. not (eqb i k)) js) ≡ elim b [ true ↦ true | false ↦ member bytes (name_at i (names_of (form_in bs))) (map (λ k. name_at k (names_of (form_in bs))) js) ]
      by true e = refl
      by false e = e

  module _ {o i : ℕ} (lo : o < definition_count bs) (li : i < definition_count bs) where
    owner_in : o < length (form_in bs)
    owner_in = omega (arith, size)

    this_in : i < length (form_in bs)
    this_in = omega (arith, size)

    model_names : map (λ j. name_at j (names_of (form_in bs))) (members_in (definitions_in bs) (particles_in bs) o) ≡ names (members (definition_at o (form_in bs)))
    model_names = sym (members_named w.members o owner_in) ∙ ap names_in (lookup_at (form_in bs) w.members.once o owner_in)

    pub in_model_is : {part : Bytes} {r : Bool} → part ≡ model_part (definitions_in bs) (particles_in bs) o → r ≡ all (λ j. not (eqb i j)) (elements_of part) → not r ≡ stands_in_model (form_in bs) o i
    unfolding members_in
    in_model_is {part} {r} e q =
        ap not (q ∙ ap (λ (s : Bytes). all (λ j. not (eqb i j)) (elements_of s)) (e ∙ sym (w.parts o lo)))
        ∙ member_named i this_in (members_in (definitions_in bs) (particles_in bs) o) (w.members.within o owner_in)
        ∙ ap₂ (λ (n : Bytes) (ns : List Bytes). member bytes n ns) (name_of_lem (form_in bs) i this_in) model_names

    -- ---- 11
    pub round_is : {n : ℕ} {defs parts r : Bytes} {b : ℕ} → Number (definition_count bs) n → defs ≡ definitions_in bs → parts ≡ particles_in bs → Avoids n (members_in defs parts) o r
        → b ≡ get_or r i 0 → eqb b 0 ≡ comes_round (form_in bs) o i
    unfolding has_height
    round_is {n} {defs} {parts} {r} {b} k d p a e =
        ap (λ (z : ℕ). eqb z 0) e
        ∙ sym (not-not (eqb (get_or r i 0) 0))
        ∙ avoided w.members apart o owner_in acyclic (there a) i this_in
        ∙ ap₂ (λ (x y : Bytes). same x y || reaches_in (form_in bs) x y) (name_of_lem (form_in bs) i this_in) (name_of_lem (form_in bs) o owner_in)
      where
        there : Avoids n (members_in defs parts) o r → Avoids (length (form_in bs)) (members_in (definitions_in bs) (particles_in bs)) o r
        there x =
            subst (λ (z : ℕ). Avoids z (members_in (definitions_in bs) (particles_in bs)) o r) (k.value ∙ size)
            (subst (λ (z : Bytes). Avoids n (members_in (definitions_in bs) z) o r) p (subst (λ (z : Bytes). Avoids n (members_in z parts) o r) d x))
