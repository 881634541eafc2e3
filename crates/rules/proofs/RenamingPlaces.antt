-- Names for indices: places, fillings and what is asked of them stay.
use mathlib.Core.Path.{◌≡◌, refl, sym, ap, ◌∙◌}
use mathlib.Core.Bool.{Bool, true, false, ◌||◌}
use mathlib.Core.List.{List, [], ◌∷◌, map, map-append}
use Rattle.rules.specs.declared.GroupKind.{GroupKind}
use Rattle.rules.specs.declared.GroupKind.TheVariants.{Sequence, Choice}
use Rattle.rules.specs.Model.{Members, done, el, group, names, nothing, rename, filling, beside, unless, skips}
use Rattle.rules.specs.Place.{Context, here, past, over, into, plug, spine, before_place, rename_around}
use Rattle.rules.proofs.AroundLaws.{leaves}

module _ {A B : Type 0} (f : A → B) where
  pub nothing_rename : (k : GroupKind) (ms : Members A) → nothing k (rename f ms) ≡ nothing k ms
  unfolding nothing rename
  nothing_rename k done = refl
  nothing_rename k (el q n rest) = rw (nothing_rename k rest)
  nothing_rename k (group q j ms rest) = rw (nothing_rename j ms, nothing_rename k rest)

  pub names_rename : (ms : Members A) → names (rename f ms) ≡ map f (names ms)
  unfolding names rename
  names_rename done = refl
  names_rename (el q n rest) = ap (λ (z : List B). f n ∷ z) (names_rename rest)
  names_rename (group q j ms rest) = rw (names_rename ms, names_rename rest) (sym (map-append f (names ms) (names rest)))

  unless_map : (b : Bool) (w : List A) → unless b (map f w) ≡ map f (unless b w)
  unless_map true w = refl
  unless_map false w = refl

  beside_map : (k : GroupKind) (u v : List A) → beside k (map f u) (map f v) ≡ map f (beside k u v)
  beside_map Sequence u v = sym (map-append f u v)
  beside_map Choice u v = refl

  pub filling_rename : (k : GroupKind) (ms : Members A) → filling k (rename f ms) ≡ map f (filling k ms)
  unfolding filling rename
  filling_rename k done = refl
  filling_rename k (el q n rest) = rw (filling_rename k rest, unless_map (skips q) (n ∷ [])) (beside_map k (unless (skips q) (n ∷ [])) (filling k rest))
  filling_rename k (group q j ms rest) =
      rw (nothing_rename j ms, filling_rename j ms, filling_rename k rest, unless_map (skips q || nothing j ms) (filling j ms))
      (beside_map k (unless (skips q || nothing j ms) (filling j ms)) (filling k rest))

  pub plug_rename : (c : Context A) (t : Members A) → rename f (plug c t) ≡ plug (rename_around f c) (rename f t)
  unfolding plug rename rename_around
  plug_rename here t = refl
  plug_rename (past q n c) t = ap (el q (f n)) (plug_rename c t)
  plug_rename (over q k ms c) t = ap (group q k (rename f ms)) (plug_rename c t)
  plug_rename (into q k c rest) t = ap (λ (z : Members B). group q k z (rename f rest)) (plug_rename c t)

  pub spine_rename : (c : Context A) → spine (rename_around f c) ≡ spine c
  unfolding spine rename_around
  spine_rename here = refl
  spine_rename (past q n c) = spine_rename c
  spine_rename (over q k ms c) = spine_rename c
  spine_rename (into q k c rest) = rw (spine_rename c)

  pub before_rename : (c : Context A) → before_place (rename_around f c) ≡ map f (before_place c)
  unfolding before_place rename_around
  before_rename here = refl
  before_rename (past q n c) = ap (λ (z : List B). f n ∷ z) (before_rename c)
  before_rename (over q k ms c) = rw (names_rename ms, before_rename c) (sym (map-append f (names ms) (before_place c)))
  before_rename (into q k c rest) = before_rename c

  pub leaves_rename : (b : Bool) (k : GroupKind) (c : Context A) (t : Members A) → leaves b k (rename_around f c) (rename f t) ≡ leaves b k c t
  unfolding leaves rename_around
  leaves_rename b k here t = refl
  leaves_rename b k (past q n c) t = leaves_rename b k c t
  leaves_rename b k (over q j ms c) t = leaves_rename b k c t
  leaves_rename b k (into q j c rest) t =
      ap (λ (z : Bool). leaves (skips q || z) j (rename_around f c) (rename f t)) (ap (nothing j) (sym (plug_rename c t)) ∙ nothing_rename j (plug c t))
      ∙ leaves_rename (skips q || nothing j (plug c t)) j c t
