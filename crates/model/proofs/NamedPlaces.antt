-- A place in a model under other names: it leads to the same place.
use mathlib.Core.Path.{◌≡◌, refl, ap, ◌∙◌}
use mathlib.Core.Option.{Option, none, some}
use mathlib.Core.List.{List, [], ◌∷◌}
use Prim.Native.Nat.{ℕ, zero, suc}
use Rattle.rules.specs.declared.Quantifier.{Quantifier}
use Rattle.rules.specs.declared.GroupKind.{GroupKind}
use Rattle.rules.specs.Model.{Members, done, el, group, rename}
use Rattle.rules.specs.Place.{Found, past, over, into, within, after_members, in_group, right, present, gap, nth, find, rename_around}

abbrev pub rename_found : {A B : Type 0} → (A → B) → Option (Found A) → Option (Found B)
rename_found f none = none
rename_found f (some r) = some (record { context = rename_around f r.context; picked = rename f r.picked })

module _ {A B : Type 0} (f : A → B) where
  past_named : (q : Quantifier) (x : A) (o : Option (Found A)) → within (past q (f x)) (rename_found f o) ≡ rename_found f (within (past q x) o)
  unfolding rename_around
  past_named q x none = refl
  past_named q x (some r) = refl

  over_named : (q : Quantifier) (k : GroupKind) (ms : Members A) (o : Option (Found A)) → within (over q k (rename f ms)) (rename_found f o) ≡ rename_found f (within (over q k ms) o)
  unfolding rename_around
  over_named q k ms none = refl
  over_named q k ms (some r) = refl

  into_named : (q : Quantifier) (k : GroupKind) (rest : Members A) (o : Option (Found A)) → within (λ c. into q k c (rename f rest)) (rename_found f o) ≡ rename_found f (within (λ c. into q k c rest) o)
  unfolding rename_around
  into_named q k rest none = refl
  into_named q k rest (some r) = refl

  after_named : (go : Members A → Option (Found A)) (to : Members B → Option (Found B)) → ((t : Members A) → to (rename f t) ≡ rename_found f (go t))
      → (n : ℕ) (ms : Members A) → after_members to n (rename f ms) ≡ rename_found f (after_members go n ms)
  unfolding after_members rename
  after_named go to h zero ms = h ms
  after_named go to h (suc n) done = refl
  after_named go to h (suc n) (el q x rest) = ap (λ (o : Option (Found B)). within (past q (f x)) o) (after_named go to h n rest) ∙ past_named q x (after_members go n rest)
  after_named go to h (suc n) (group q k ms rest) = ap (λ (o : Option (Found B)). within (over q k (rename f ms)) o) (after_named go to h n rest) ∙ over_named q k ms (after_members go n rest)

  in_named : (go : Members A → Option (Found A)) (to : Members B → Option (Found B)) → ((t : Members A) → to (rename f t) ≡ rename_found f (go t))
      → (t : Members A) → in_group to (rename f t) ≡ rename_found f (in_group go t)
  unfolding rename
  in_named go to h done = refl
  in_named go to h (el q x rest) = refl
  in_named go to h (group q k ms rest) = ap (λ (o : Option (Found B)). within (λ c. into q k c (rename f rest)) o) (h ms) ∙ into_named q k rest (go ms)

  right_named : (t : Members A) → right (rename f t) ≡ rename_found f (right t)
  unfolding rename_around
  right_named t = refl

  present_named : (t : Members A) → present (rename f t) ≡ rename_found f (present t)
  unfolding rename_around rename
  present_named done = refl
  present_named (el q x rest) = refl
  present_named (group q k ms rest) = refl

  gap_named : (n : ℕ) (ms : Members A) → gap n (rename f ms) ≡ rename_found f (gap n ms)
  gap_named n ms = after_named right right right_named n ms

  nth_named : (n : ℕ) (ms : Members A) → nth n (rename f ms) ≡ rename_found f (nth n ms)
  nth_named zero ms = refl
  nth_named (suc n) ms = after_named present present present_named n ms

  find_named : (last : ℕ → Members A → Option (Found A)) (to : ℕ → Members B → Option (Found B)) → ((n : ℕ) (ms : Members A) → to n (rename f ms) ≡ rename_found f (last n ms))
      → (place : List ℕ) (ms : Members A) → find to place (rename f ms) ≡ rename_found f (find last place ms)
  unfolding find
  find_named last to h [] ms = refl
  find_named last to h (n ∷ []) ms = h n ms
  find_named last to h (zero ∷ m ∷ ns) ms = refl
  find_named last to h (suc n ∷ m ∷ ns) ms =
      after_named (in_group (λ x. find last (m ∷ ns) x)) (in_group (λ x. find to (m ∷ ns) x))
      (in_named (λ x. find last (m ∷ ns) x) (λ x. find to (m ∷ ns) x) (λ t. find_named last to h (m ∷ ns) t))
      n
      ms

  -- by a gap, and by a member
  pub find_gap_named : (place : List ℕ) (ms : Members A) → find gap place (rename f ms) ≡ rename_found f (find gap place ms)
  find_gap_named place ms = find_named gap gap gap_named place ms

  pub find_nth_named : (place : List ℕ) (ms : Members A) → find nth place (rename f ms) ≡ rename_found f (find nth place ms)
  find_nth_named place ms = find_named nth nth nth_named place ms
