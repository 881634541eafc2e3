-- The conditions of change 1, by what the code tests.
use Prim.Native.Nat.{ℕ, ◌<◌, ◌≤◌}
use native.Mathlib.Omega.{arith}
use mathlib.Core.Path.{◌≡◌, refl, sym, ap, ap₂, ◌∙◌}
use mathlib.Core.Bool.{Bool, true, false, ◌||◌, not}
use mathlib.Core.List.{[], ◌∷◌, map}
use lib.Dec.{ltb}
use lib.ListN.{length}
use borrow.Author.Tests.{lt-ltb, le-ltb, ltb-false}
use Rattle.rules.specs.Bytes.{Bytes, same}
use Rattle.rules.specs.Store.{Form}
use Rattle.rules.specs.Layout.{name_width, FlatStore, flat_definition}
use Rattle.rules.specs.WellFormed.{given_name, known, lookup}
use Rattle.rules.specs.Passing.{passes}
use Rattle.rules.specs.Change.{create_definition}
use Rattle.rules.specs.Refusal.{first, conditions, ◌if◌}
use Rattle.rules.proofs.DecodeLaws.{name_width_lem, given_stored}
use Rattle.lookup.specs.Bodies.{bodies_of}
use Rattle.store_laws.specs.Stores.{store_in}
use Rattle.store_laws.proofs.StoreLaws.{holds}
use Rattle.definition_writer.specs.Bodies.{named}

-- ---- known names, by the definitions' records
known_named : (F : Form) (n : Bytes) (form : Form) → named n (map (flat_definition F) form) ≡ known form n
known_named F n [] = refl
known_named F n (d ∷ form) = by (same n d.name) refl (known_named F n form)
  where
    by : (b : Bool) → same n d.name ≡ b → named n (map (flat_definition F) form) ≡ known form n → (same n d.name || named n (map (flat_definition F) form)) ≡ known (d ∷ form) n
    by true q e = rw (q, lookup) refl
    by false q e = rw (q, lookup) e

-- ---- conditions
abbrev tests : Bool → Bool → Bool → ℕ
tests a b c = first (2 if not a ∷ 4 if b ∷ 5 if c ∷ [])

module _ (bs n : Bytes) (k : ℕ) (p : passes bs ≡ true) where
  abbrev condition : ℕ
  condition = first (conditions (create_definition n k) (store_in bs))

  known_is : known (store_in bs).form n ≡ named n (bodies_of bs).definitions
  known_is = sym (known_named (store_in bs).form n (store_in bs).form) ∙ ap (λ (f : FlatStore). named n f.definitions) (sym (holds bs p).bodies)

  condition_is : condition ≡ tests (given_name n) (ltb 2 k) (named n (bodies_of bs).definitions)
  unfolding conditions
  condition_is = ap (tests (given_name n) (ltb 2 k)) known_is

  pub bad_name : {r : Bool} → r ≡ given_name n → r ≡ false → 2 ≡ condition
  bad_name e q = sym (condition_is ∙ ap (λ (z : Bool). tests z (ltb 2 k) (named n (bodies_of bs).definitions)) (sym e ∙ q))

  module _ {r : Bool} (e : r ≡ given_name n) (q : r ≡ true) where
    good_name : condition ≡ tests true (ltb 2 k) (named n (bodies_of bs).definitions)
    good_name = condition_is ∙ ap (λ (z : Bool). tests z (ltb 2 k) (named n (bodies_of bs).definitions)) (sym e ∙ q)

    pub bad_code : 2 < k → 4 ≡ condition
    bad_code h = sym (good_name ∙ ap (λ (z : Bool). tests true z (named n (bodies_of bs).definitions)) (lt-ltb 2 k h))

    pub by_name : k ≤ 2 → {t : Bool} → t ≡ named n (bodies_of bs).definitions → tests true false t ≡ condition
    by_name h u = sym (good_name ∙ ap (λ (z : Bool). tests true z (named n (bodies_of bs).definitions)) (le-ltb 2 k h) ∙ ap (tests true false) (sym u))

    pub name_taken : k ≤ 2 → {t : Bool} → t ≡ named n (bodies_of bs).definitions → t ≡ true → 5 ≡ condition
    name_taken h u v = sym (ap (tests true false) v) ∙ by_name h u

    pub name_free : k ≤ 2 → {t : Bool} → t ≡ named n (bodies_of bs).definitions → t ≡ false → 0 ≡ condition
    name_free h u v = sym (ap (tests true false) v) ∙ by_name h u

  -- no condition holds
  pub record Fresh : Type 0 where
    pub name : length n ≤ name_width
    pub kind : k ≤ 2

  pub fresh : condition ≡ 0 → Fresh
  fresh z = by (given_name n) refl (ltb 2 k) refl
    where
      by : (a : Bool) → given_name n ≡ a → (b : Bool) → ltb 2 k ≡ b → Fresh
      by false e b f = absurd (omega (arith, bad_name (sym e) refl, z))
      by true e true f =
          let h : tests true true (named n (bodies_of bs).definitions) ≡ condition = sym (condition_is ∙ ap₂ (λ (x y : Bool). tests x y (named n (bodies_of bs).definitions)) e f) in
          absurd (omega (arith, h, z))
      by true e false f = record { name = name_width_lem n (given_stored n e); kind = ltb-false 2 k f }
