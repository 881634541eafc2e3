-- A filling is a word of its model.
use native.Mathlib.Omega.{arith}
use mathlib.Core.Path.{◌≡◌, refl}
use mathlib.Core.Logic.{inl}
use mathlib.Core.Bool.{Bool, true, false, ◌||◌}
use mathlib.Core.List.{List, [], ◌∷◌, append-nil}
use Rattle.rules.specs.declared.Quantifier.{Quantifier}
use Rattle.rules.specs.declared.Quantifier.TheVariants.{None, Qmark, Star, Plus}
use Rattle.rules.specs.declared.GroupKind.{GroupKind}
use Rattle.rules.specs.declared.GroupKind.TheVariants.{Sequence, Choice}
use Rattle.rules.specs.Model.{Members, done, el, group, skips, nothing, unless, beside, filling, Some, Full}
use Rattle.rules.specs.Language.{Language, Repeated, Joined, Matches, Conforms}
use Rattle.rules.proofs.Nothing.{nothing→}

-- a CHOICE has a member
abbrev pub Ready : {A : Type 0} → GroupKind → Members A → Type 0
Ready Sequence ms = Unit {0}
Ready Choice ms = Some ms

pub ready : {A : Type 0} (k : GroupKind) (ms : Members A) → Some ms → Ready k ms
ready Sequence ms s = tt
ready Choice ms s = s

module _ {A : Type 0} (L M : Language A) where
  fill_joined : (k : GroupKind) (u v : List A) → L u → (k ≡ Sequence → M v) → Joined k L M (beside k u v)
  fill_joined Sequence u v l m = (u, v, refl, l, m refl)
  fill_joined Choice u v l m = inl l

module _ {A : Type 0} (L : Language A) where
  fill_repeated : (q : Quantifier) (b : Bool) (f : List A) → (b ≡ true → L []) → L f → Repeated q L (unless (skips q || b) f)
  fill_repeated None true f e l = (1, refl, ([], [], refl, e refl, refl))
  fill_repeated None false f e l = (1, refl, (f, [], append-nil f, l, refl))
  fill_repeated Qmark b f e l = (0, omega arith, refl)
  fill_repeated Star b f e l = (0, tt, refl)
  fill_repeated Plus true f e l = (1, omega arith, ([], [], refl, e refl, refl))
  fill_repeated Plus false f e l = (1, omega arith, (f, [], append-nil f, l, refl))

module _ {A : Type 0} where
  pub fill_element : (q : Quantifier) (n : A) → Repeated q (λ u. u ≡ n ∷ []) (unless (skips q) (n ∷ []))
  fill_element None n = (1, refl, (n ∷ [], [], refl, refl, refl))
  fill_element Qmark n = (0, omega arith, refl)
  fill_element Star n = (0, tt, refl)
  fill_element Plus n = (1, omega arith, (n ∷ [], [], refl, refl, refl))

  filled : (k : GroupKind) (ms : Members A) → Full ms → Ready k ms → Matches k ms (filling k ms)
  unfolding Matches filling Full
  filled Sequence done f r = refl
  filled Choice done f r = absurd r
  filled k (el q n rest) f r = fill_joined _ _ k (unless (skips q) (n ∷ [])) (filling k rest) (fill_element q n) (λ e. filled k rest f (rw e tt))
  filled k (group q j ms rest) (s, g, f) r =
      fill_joined _ _ k (unless (skips q || nothing j ms) (filling j ms)) (filling k rest)
      (fill_repeated _ q (nothing j ms) (filling j ms) (nothing→ j ms) (filled j ms g (ready j ms s)))
      (λ e. filled k rest f (rw e tt))

  -- the filling of a group under a quantifier
  pub fill_group : (q : Quantifier) (j : GroupKind) (ms : Members A) → Full ms → Some ms → Repeated q (Matches j ms) (unless (skips q || nothing j ms) (filling j ms))
  fill_group q j ms f s = fill_repeated _ q (nothing j ms) (filling j ms) (nothing→ j ms) (filled j ms f (ready j ms s))

  pub filling_conforms : (ms : Members A) → Full ms → Conforms ms (filling Sequence ms)
  filling_conforms ms f = filled Sequence ms f tt
