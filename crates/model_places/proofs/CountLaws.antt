-- How many members a list has.
use Prim.Native.Nat.{ℕ, zero, suc, ◌+◌, ◌≤◌}
use native.Mathlib.Omega.{arith}
use mathlib.Core.Path.{◌≡◌, refl, sym, ap, ◌∙◌}
use mathlib.Core.Bool.{Bool, true, false}
use mathlib.Core.List.{List, [], ◌∷◌}
use lib.Dec.{eqb, leb, leb→le}
use lib.ListN.{length, take}
use borrow.Author.Tests.{ne_eqb, eqb-true, eqb-false, leb-false}
use Rattle.std.specs.List.{filter, prefix_len}
use Rattle.rules.specs.Bytes.{Bytes, to_T}
use Rattle.rules.specs.Model.{Members, done, el, group, is_done}
use Rattle.rules.specs.Layout.{FlatParticle, how_many}
use Rattle.rules.specs.Decode.{read_particle}
use Rattle.model_check.proofs.Chunks.{particles}
use Rattle.model.specs.Members.{index_member, members_from}
use Rattle.model.proofs.MembersLaws.{members_few, members_deeper, members_stop, members_here}

-- ---- how many members
pub done_many : {A : Type 0} (t : Members A) → is_done t ≡ eqb (suc (how_many t)) 1
done_many done = refl
done_many (el q x t) = sym (ne_eqb (suc (suc (how_many t))) 1 (λ z. omega arith))
done_many (group q k ms t) = sym (ne_eqb (suc (suc (how_many t))) 1 (λ z. omega arith))

-- ---- the particles of depth d before the first that is less deep
abbrev pub inside : ℕ → Bytes → Bool
inside d x = leb d (read_particle x).depth

abbrev pub beside : ℕ → Bytes → Bool
beside d x = eqb (read_particle x).depth d

kept : (Bytes → Bool) → (Bytes → Bool) → List Bytes → List Bytes
kept p q xs = filter q (take (prefix_len p xs) xs)

module _ (p q : Bytes → Bool) (x : Bytes) (xs : List Bytes) where
  one_taken : take (1 + prefix_len p xs) (x ∷ xs) ≡ x ∷ take (prefix_len p xs) xs
  one_taken = let z : 1 + prefix_len p xs ≡ suc (prefix_len p xs) = omega arith in ap (λ (k : ℕ). take k (x ∷ xs)) z

  kept_here : p x ≡ true → q x ≡ true → length (kept p q (x ∷ xs)) ≡ suc (length (kept p q xs))
  unfolding kept
  kept_here a b = rw (a, one_taken, b)

  kept_past : p x ≡ true → q x ≡ false → length (kept p q (x ∷ xs)) ≡ length (kept p q xs)
  unfolding kept
  kept_past a b = rw (a, one_taken, b)

  kept_stop : p x ≡ false → length (kept p q (x ∷ xs)) ≡ 0
  unfolding kept
  kept_stop a = rw a

one_more : (x : FlatParticle) (sort : ℕ) (below rest : Members ℕ) → how_many (index_member x sort below rest) ≡ suc (how_many rest)
one_more x zero below rest = refl
one_more x (suc k) below rest = refl

module _ (d : ℕ) where
  kept_members : (t : Bytes) → length (kept (inside d) (beside d) (particles t)) ≡ how_many (members_from d t)
  unfolding particles kept
  kept_members [] = sym (ap (λ (ms : Members ℕ). how_many ms) (members_few d [] (omega arith)))
  kept_members (a ∷ []) = sym (ap (λ (ms : Members ℕ). how_many ms) (members_few d (a ∷ []) (omega arith)))
  kept_members (a ∷ b ∷ []) = sym (ap (λ (ms : Members ℕ). how_many ms) (members_few d (a ∷ b ∷ []) (omega arith)))
  kept_members (a ∷ b ∷ c ∷ []) = sym (ap (λ (ms : Members ℕ). how_many ms) (members_few d (a ∷ b ∷ c ∷ []) (omega arith)))
  kept_members (a ∷ b ∷ c ∷ e ∷ t) = by (leb d e) refl (eqb e d) refl (kept_members t)
    where
      whole : Bytes
      whole = a ∷ b ∷ c ∷ e ∷ t

      part : Bytes
      part = a ∷ b ∷ c ∷ e ∷ []

      by : (y : Bool) → leb d e ≡ y → (z : Bool) → eqb e d ≡ z → length (kept (inside d) (beside d) (particles t)) ≡ how_many (members_from d t)
          → length (kept (inside d) (beside d) (part ∷ particles t)) ≡ how_many (members_from d whole)
      by false m z n h =
          kept_stop (inside d) (beside d) part (particles t) m
          ∙ sym (ap (λ (ms : Members ℕ). how_many ms) (members_stop d whole (omega arith) (leb-false d e m)))
      by true m true n h =
          kept_here (inside d) (beside d) part (particles t) m n ∙ ap suc h
          ∙ sym (ap (λ (ms : Members ℕ). how_many ms) (members_here d whole (omega arith) (eqb-true e d n))
          ∙ one_more (read_particle whole).row (read_particle whole).row.sort (members_from (suc d) t) (members_from d t))
      by true m false n h =
          kept_past (inside d) (beside d) part (particles t) m n ∙ h
          ∙ sym (ap (λ (ms : Members ℕ). how_many ms) (members_deeper d whole (omega arith) (let f : e ≡ d → ⊥ = eqb-false e d n in let l : d ≤ e = leb→le d e (to_T m) in omega arith)))

  pub count_is : (t : Bytes) → length (filter (beside d) (take (prefix_len (inside d) (particles t)) (particles t))) ≡ how_many (members_from d t)
  unfolding kept
  count_is t = kept_members t
