-- Change 3, where no row changes.
use mathlib.Core.Path.{◌≡◌, refl}
use mathlib.Core.Logic.{◌⊎◌, inl, inr}
use mathlib.Core.Bool.{true, false, ◌||◌, false≢true}
use mathlib.Core.List.{List, []}
use Rattle.rules.specs.declared.Quantifier.{Quantifier}
use Rattle.rules.specs.declared.GroupKind.{GroupKind}
use Rattle.rules.specs.declared.GroupKind.TheVariants.{Sequence, Choice}
use Rattle.rules.specs.Model.{Members, el, skips}
use Rattle.rules.specs.Language.{Matches}
use Rattle.rules.specs.Place.{Context, plug, kind_at}
use Rattle.rules.specs.Edit.{same_kind}
use Rattle.rules.proofs.Words.{or_cases}
use Rattle.rules.proofs.Pairs.{allowed_none}
use Rattle.rules.proofs.Carry.{◌⊑◌, enlarge}

module _ {A : Type 0} where
  here_inserted : (i : GroupKind) (q : Quantifier) (n : A) (t : Members A) → (skips q || same_kind i Choice) ≡ true → Matches i t ⊑ Matches i (el q n t)
  unfolding Matches
  here_inserted Sequence q n t e = record { carry = by (or_cases (skips q) false e) }
    where
      by : (skips q ≡ true) ⊎ (false ≡ true) → (w : List A) → Matches Sequence t w → Matches Sequence (el q n t) w
      by (inl s) w m = ([], w, refl, (0, allowed_none q s, refl), m)
      by (inr z) w m = absurd (false≢true z)
  here_inserted Choice q n t e = record { carry = λ w m. inr m }

  -- 3: QMARK or STAR into a LIST, anything into a CHOICE
  pub insert_kept : (k : GroupKind) (c : Context A) (q : Quantifier) (n : A) (t : Members A) → (skips q || same_kind (kind_at k c) Choice) ≡ true → Matches k (plug c t) ⊑ Matches k (plug c (el q n t))
  insert_kept k c q n t e = enlarge k c t (el q n t) (here_inserted (kind_at k c) q n t e)
