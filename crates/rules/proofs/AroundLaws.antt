-- The group directly around a place by recursion on its context: the tests of change 4 as proofs use them.
use mathlib.Core.Path.{◌≡◌, refl, sym, ap, ◌∙◌}
use mathlib.Core.Bool.{Bool, true, false, not, ◌&&◌, ◌||◌, and-false}
use mathlib.Core.Option.{Option, none, some}
use Rattle.rules.specs.declared.Quantifier.{Quantifier}
use Rattle.rules.specs.declared.GroupKind.{GroupKind}
use Rattle.rules.specs.declared.GroupKind.TheVariants.{Sequence, Choice}
use Rattle.rules.specs.Model.{Members, skips, nothing, is_done}
use Rattle.rules.specs.Place.{Context, here, past, over, into, plug, Around, innermost, around}
use Rattle.rules.specs.Edit.{remove_last, unmatched, remove_unmatched}

abbrev pub unless_list : GroupKind → Bool → Bool
unless_list Sequence b = true
unless_list Choice b = b

-- if the place stands in a CHOICE: the CHOICE with `t` there, with its quantifier, accepts nothing
-- (`k`: the kind of the list around the context; `b`: it accepts nothing)
unfoldable pub leaves : {A : Type 0} → Bool → GroupKind → Context A → Members A → Bool
leaves b k here t = unless_list k b
leaves b k (past q n c) t = leaves b k c t
leaves b k (over q j ms c) t = leaves b k c t
leaves b k (into q j c rest) t = leaves (skips q || nothing j (plug c t)) j c t

-- the place is the first of an inner group (`b`: the list around the context is one, and the place its first)
unfoldable pub opens : {A : Type 0} → Bool → Context A → Bool
opens b here = b
opens b (past q n c) = opens false c
opens b (over q j ms c) = opens false c
opens b (into q j c rest) = opens true c

-- ---- both by the group around the place
module _ {A : Type 0} (t : Members A) where
  abbrev left_by : GroupKind → Bool → Option (Around A) → Bool
  left_by k b none = unless_list k b
  left_by k b (some g) = unless_list g.kind (skips g.quantifier || nothing g.kind (plug g.inside t))

  left_inner : (q : Quantifier) (j k : GroupKind) (b : Bool) (c : Context A) (o : Option (Around A))
      → left_by j (skips q || nothing j (plug c t)) o ≡ left_by k b (innermost (record { quantifier = q; kind = j; inside = c }) o)
  left_inner q j k b c none = refl
  left_inner q j k b c (some g) = refl

  left_around : (b : Bool) (k : GroupKind) (c : Context A) → leaves b k c t ≡ left_by k b (around c)
  unfolding leaves around
  left_around b k here = refl
  left_around b k (past q n c) = left_around b k c
  left_around b k (over q j ms c) = left_around b k c
  left_around b k (into q j c rest) = left_around (skips q || nothing j (plug c t)) j c ∙ left_inner q j k b c (around c)

  abbrev last_by : Bool → Option (Around A) → Bool
  last_by b none = b
  last_by b (some g) = is_done (plug g.inside t)

  last_inner : (q : Quantifier) (j : GroupKind) (b : Bool) (c : Context A) (o : Option (Around A))
      → last_by (is_done (plug c t)) o ≡ last_by b (innermost (record { quantifier = q; kind = j; inside = c }) o)
  last_inner q j b c none = refl
  last_inner q j b c (some g) = refl

  last_around : (b : Bool) (c : Context A) → (opens b c && is_done t) ≡ last_by (b && is_done (plug c t)) (around c)
  unfolding opens around plug
  last_around b here = refl
  last_around b (past q n c) = last_around false c ∙ ap (λ (z : Bool). last_by z (around c)) (sym (and-false b))
  last_around b (over q j ms c) = last_around false c ∙ ap (λ (z : Bool). last_by z (around c)) (sym (and-false b))
  last_around b (into q j c rest) = last_around true c ∙ last_inner q j (b && false) c (around c)

  pub last_is : (c : Context A) → remove_last c t ≡ (opens false c && is_done t)
  last_is c = by (around c) ∙ sym (last_around false c)
    where
      by : (o : Option (Around A)) → elim o [ none ↦ false | some g ↦ is_done (plug g.inside t) ] ≡ last_by false o
      by none = refl
      by (some g) = refl

  pub unmatched_is : (c : Context A) → remove_unmatched c t ≡ not (leaves true Sequence c t)
  unmatched_is c = by (around c) ∙ ap not (sym (left_around true Sequence c))
    where
      kinds : (k : GroupKind) (q : Quantifier) (ms : Members A) → unmatched q k ms ≡ not (unless_list k (skips q || nothing k ms))
      kinds Sequence q ms = refl
      kinds Choice q ms = refl

      by : (o : Option (Around A)) → elim o [ none ↦ false | some g ↦ unmatched g.quantifier g.kind (plug g.inside t) ] ≡ not (left_by Sequence true o)
      by none = refl
      by (some g) = kinds g.kind g.quantifier (plug g.inside t)
