-- The definitions with a height that avoids a target are those that neither are the target nor reach it, by name.
use Prim.Native.Nat.{ℕ, zero, suc, ◌<◌}
use native.Mathlib.Omega.{arith}
use mathlib.Core.Path.{◌≡◌, refl, sym, ap, ap₂, ◌∙◌}
use mathlib.Core.Bool.{Bool, true, false, not, ◌&&◌, ◌||◌, false≢true, not-not}
use mathlib.Core.List.{List, [], ◌∷◌, map, Memᴰ}
use lib.Dec.{eqb, ltb}
use lib.ListN.{length}
use borrow.Author.Tests.{lt-ltb}
use Rattle.rules.specs.Bytes.{Bytes, same, all, any}
use Rattle.rules.specs.Store.{Form}
use Rattle.rules.specs.Decode.{name_at}
use Rattle.rules.specs.WellFormed.{definition_name, members_of, Reaches, reaches, reaches_in}
use Rattle.rules.proofs.BooleanLaws.{any_map}
use Rattle.circle_check.specs.Deep.{deep_index, has_height}
use Rattle.circle_check.specs.Avoiding.{members_avoiding, Avoids}
use Rattle.circle_check.proofs.RoundLaws.{deep_index_member, deep_past}
use Rattle.circle_check.proofs.CircleLaws.{Indexed, members_named, fit_acyclic}

not_or : (a b : Bool) → (not a && not b) ≡ not (a || b)
not_or true b = refl
not_or false b = refl

-- all fail just where none passes
all_not : {A : Type 0} (p q : A → Bool) (xs : List A) → ((x : A) → Memᴰ x xs → p x ≡ not (q x)) → all p xs ≡ not (any q xs)
all_not p q [] h = refl
all_not p q (x ∷ xs) h =
    ap₂ (λ (a b : Bool). a && b) (h x (Memᴰ.head refl)) (all_not p q xs (λ y m. h y (Memᴰ.tail m)))
    ∙ not_or (q x) (any q xs)

module _ {indices : ℕ → List ℕ} {form : Form} (w : Indexed indices form)
    (apart : (i j : ℕ) → i < length form → j < length form → same (name_at i (map definition_name form)) (name_at j (map definition_name form)) ≡ eqb i j)
    (t : ℕ) (known : t < length form) where
  abbrev name_of : ℕ → Bytes
  name_of i = name_at i (map definition_name form)

  abbrev arrives : ℕ → ℕ → Bool
  arrives h i = same (name_of i) (name_of t) || reaches h form (name_of t) (name_of i)

  abbrev avoids : ℕ → ℕ → Bool
  avoids h i = deep_index (members_avoiding (length form) indices t) (length form) h i

  -- where every chain from definition i ends within h definitions
  avoid_is : (h i : ℕ) → i < length form → deep_index indices (length form) h i ≡ true → avoids h i ≡ not (arrives h i)
  unfolding deep_index
  avoid_is zero i l d = absurd (false≢true d)
  avoid_is (suc h) i l d = by (eqb i t) refl (λ j m. avoid_is h j (w.within i l j m) (deep_index_member indices (length form) h d m))
    where
      below : ((j : ℕ) → Memᴰ j (indices i) → avoids h j ≡ not (arrives h j))
          → all (λ j. avoids h j) (indices i) ≡ not (any (λ m. same m (name_of t) || reaches h form (name_of t) m) (members_of (name_of i) form))
      below ih =
          all_not (λ j. avoids h j) (λ j. arrives h j) (indices i) ih
          ∙ ap not (sym (any_map (λ m. same m (name_of t) || reaches h form (name_of t) m) name_of (indices i)))
          ∙ ap (λ (xs : List Bytes). not (any (λ m. same m (name_of t) || reaches h form (name_of t) m) xs)) (sym (members_named w i l))

      by : (b : Bool) → eqb i t ≡ b → ((j : ℕ) → Memᴰ j (indices i) → avoids h j ≡ not (arrives h j))
          → (ltb i (length form) && all (λ j. avoids h j) (elim b [ true ↦ length form ∷ [] | false ↦ indices i ])) ≡ not (arrives (suc h) i)
      by true e ih =
          ap₂ (λ (a b : Bool). a && (b && true)) (lt-ltb i (length form) l) (deep_past (members_avoiding (length form) indices t) (length form) h (length form) (omega arith))
          ∙ sym (ap (λ (b : Bool). not (b || reaches (suc h) form (name_of t) (name_of i))) (apart i t l known ∙ e))
      by false e ih =
          ap (λ (b : Bool). b && all (λ j. avoids h j) (indices i)) (lt-ltb i (length form) l)
          ∙ below ih
          ∙ sym (ap (λ (b : Bool). not (b || reaches (suc h) form (name_of t) (name_of i))) (apart i t l known ∙ e))

  -- THE ROUNDS: after as many as there are definitions, those without a height are the target and those that reach it
  pub avoided : ((n : Bytes) → Reaches form n n → ⊥) → {r : Bytes} → Avoids (length form) indices t r → (i : ℕ) → i < length form
      → not (has_height r i) ≡ (same (name_of i) (name_of t) || reaches_in form (name_of i) (name_of t))
  avoided acyclic {r} a i l =
      ap not (a.is i ∙ avoid_is (length form) i l ((fit_acyclic w).1 acyclic i l))
      ∙ not-not (arrives (length form) i)
