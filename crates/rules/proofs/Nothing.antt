-- Members accept nothing just where the empty word is in their language.
use Prim.Native.Nat.{zero, suc}
use native.Mathlib.Omega.{arith}
use mathlib.Core.Path.{◌≡◌, refl}
use mathlib.Core.Logic.{inl, inr, ⊎_elim, ◌↔◌}
use mathlib.Core.Bool.{Bool, true, false, ◌||◌, false≢true}
use mathlib.Core.List.{[], nil≢cons}
use Rattle.rules.specs.declared.Quantifier.{Quantifier}
use Rattle.rules.specs.declared.Quantifier.TheVariants.{None, Qmark, Star, Plus}
use Rattle.rules.specs.declared.GroupKind.{GroupKind}
use Rattle.rules.specs.declared.GroupKind.TheVariants.{Sequence, Choice}
use Rattle.rules.specs.Model.{Members, done, el, group, skips, both, nothing}
use Rattle.rules.specs.Language.{Language, Repeated, Joined, Matches}
use Rattle.rules.proofs.Words.{here, then_nil, either, or_left, or_right, or_cases, and_both, and_split}

module _ {A : Type 0} {L : Language A} {b : Bool} where
  pub repeat→ : (q : Quantifier) → (b ≡ true → L []) → (skips q || b) ≡ true → Repeated q L []
  repeat→ None f e = (1, refl, here (f e) refl)
  repeat→ Qmark f e = (0, omega arith, refl)
  repeat→ Star f e = (0, tt, refl)
  repeat→ Plus f e = (1, omega arith, here (f e) refl)

  pub repeat← : (q : Quantifier) → (L [] → b ≡ true) → Repeated q L [] → (skips q || b) ≡ true
  repeat← None g (zero, h, t) = absurd (omega arith)
  repeat← None g (suc n, h, t) = g (then_nil t).0
  repeat← Qmark g r = refl
  repeat← Star g r = refl
  repeat← Plus g (zero, h, t) = absurd (omega arith)
  repeat← Plus g (suc n, h, t) = g (then_nil t).0

module _ {A : Type 0} (L M : Language A) {a b : Bool} where
  both→ : (k : GroupKind) → (a ≡ true → L []) → (b ≡ true → M []) → both k a b ≡ true → Joined k L M []
  both→ Sequence f g e = let (p, q) = and_split a b e in here (f p) (g q)
  both→ Choice f g e = either f g (or_cases a b e)

  both← : (k : GroupKind) → (L [] → a ≡ true) → (M [] → b ≡ true) → Joined k L M [] → both k a b ≡ true
  both← Sequence f g t = let (l, m) = then_nil t in and_both (f l) (g m)
  both← Choice f g (inl l) = or_left b (f l)
  both← Choice f g (inr m) = or_right a (g m)

module _ {A : Type 0} where
  pub nothing→ : (k : GroupKind) (ms : Members A) → nothing k ms ≡ true → Matches k ms []
  unfolding Matches nothing
  nothing→ Sequence done e = refl
  nothing→ Choice done e = false≢true e
  nothing→ k (el q n rest) e = both→ _ _ k (λ h. repeat→ {b = false} q (λ z. absurd (false≢true z)) (or_left false h)) (nothing→ k rest) e
  nothing→ k (group q j ms rest) e = both→ _ _ k (repeat→ q (nothing→ j ms)) (nothing→ k rest) e

  pub nothing← : (k : GroupKind) (ms : Members A) → Matches k ms [] → nothing k ms ≡ true
  unfolding Matches nothing
  nothing← Sequence done r = refl
  nothing← Choice done r = absurd r
  nothing← k (el q n rest) r =
      both← _ _ k (λ h. ⊎_elim (λ e. e) (λ z. absurd (false≢true z)) (or_cases (skips q) false (repeat← {b = false} q (λ e. absurd (nil≢cons e)) h))) (nothing← k rest) r
  nothing← k (group q j ms rest) r = both← _ _ k (repeat← q (nothing← j ms)) (nothing← k rest) r

  pub nothing_matches : (k : GroupKind) (ms : Members A) → (nothing k ms ≡ true) ↔ Matches k ms []
  nothing_matches k ms = (nothing→ k ms, nothing← k ms)
