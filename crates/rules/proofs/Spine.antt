-- Each particle of the spine is passed exactly once: a word is the
-- names before the place, those there, and those after.
use mathlib.Core.Path.{◌≡◌, refl, sym, ap, ◌∙◌}
use mathlib.Core.Logic.{◌⊎◌, inl, inr, ⊎_elim}
use mathlib.Core.Bool.{true, false≢true}
use mathlib.Core.List.Memᴰ
use mathlib.Core.List.{List, ◌∷◌, ◌++◌, append_assoc, Memᴰ}
use Rattle.rules.specs.declared.Quantifier.TheVariants.{None, Qmark, Star, Plus}
use Rattle.rules.specs.declared.GroupKind.TheVariants.{Sequence, Choice}
use Rattle.rules.specs.Model.{Members, done, el, group, names, Distinct}
use Rattle.rules.specs.Language.{Language, Then, Matches, Conforms}
use Rattle.rules.specs.Place.{Context, here, past, over, into, plug, spine, before_place, after_place}
use Rattle.rules.specs.Edit.{◌⊕◌}
use Rattle.rules.proofs.Children.{ahead, behind}
use Rattle.rules.proofs.Grouping.{Alike, alike_self, alike_sym, alike_then, alike_joined, joined_done, joined_end, joined_assoc, repeated_once, append_alike}
use Rattle.rules.proofs.Apart.{names_plug}
use Rattle.rules.proofs.Correct.{distinct_right, distinct_apart}
use Rattle.rules.proofs.Letters.{letters}

module _ {A : Type 0} where
  -- what stands around the place: the words before it, and after the members there
  abbrev pub Around : Context A → Language A → Language A
  Around c L w = Then (Conforms (ahead c)) (Then L (Conforms (behind c))) w

  around_more : (c : Context A) (L : Language A) (rest : Members A) → Alike (Then (Around c L) (Conforms rest)) (Then (Conforms (ahead c)) (Then L (Conforms (behind c ⊕ rest))))
  around_more c L rest =
      alike_then (joined_assoc Sequence (Conforms (ahead c)) (Then L (Conforms (behind c))) (Conforms rest))
      (alike_joined Sequence (alike_self _)
      (alike_then (joined_assoc Sequence L (Conforms (behind c)) (Conforms rest))
      (alike_joined Sequence (alike_self _) (alike_sym (append_alike Sequence (behind c) rest)))))

  -- A WORD OF THE MODEL SPLITS AT A PLACE ON THE SPINE
  pub spine_alike : (c : Context A) (t : Members A) → spine c ≡ true → Alike (Conforms (plug c t)) (Around c (Conforms t))
  unfolding Matches plug spine ahead behind
  spine_alike here t e = alike_sym (alike_then (joined_done Sequence _) (joined_end Sequence _))
  spine_alike (past q n c) t e = alike_then (alike_joined Sequence (alike_self _) (spine_alike c t e)) (alike_sym (joined_assoc Sequence _ _ _))
  spine_alike (over q k ms c) t e = alike_then (alike_joined Sequence (alike_self _) (spine_alike c t e)) (alike_sym (joined_assoc Sequence _ _ _))
  spine_alike (into None Sequence c rest) t e =
      alike_then (alike_joined Sequence (alike_then (repeated_once _) (spine_alike c t e)) (alike_self _)) (around_more c (Conforms t) rest)
  spine_alike (into None Choice c rest) t e = absurd (false≢true e)
  spine_alike (into Qmark k c rest) t e = absurd (false≢true e)
  spine_alike (into Star k c rest) t e = absurd (false≢true e)
  spine_alike (into Plus k c rest) t e = absurd (false≢true e)

  pub names_append : (s r : Members A) → names (s ⊕ r) ≡ names s ++ names r
  unfolding names ◌⊕◌
  names_append done r = refl
  names_append (el q n s) r = ap (λ (z : List A). n ∷ z) (names_append s r)
  names_append (group q k ms s) r = ap (λ (z : List A). names ms ++ z) (names_append s r) ∙ sym (append_assoc (names ms) (names s) (names r))

  pub names_ahead : (c : Context A) → names (ahead c) ≡ before_place c
  unfolding names ahead before_place
  names_ahead here = refl
  names_ahead (past q n c) = ap (λ (z : List A). n ∷ z) (names_ahead c)
  names_ahead (over q k ms c) = ap (λ (z : List A). names ms ++ z) (names_ahead c)
  names_ahead (into q k c rest) = names_ahead c

  pub names_behind : (c : Context A) → names (behind c) ≡ after_place c
  unfolding names behind after_place
  names_behind here = refl
  names_behind (past q n c) = names_behind c
  names_behind (over q k ms c) = names_behind c
  names_behind (into q k c rest) = names_append (behind c) rest ∙ ap (λ (z : List A). z ++ names rest) (names_behind c)

  -- a word split at a place: where its names are
  pub record Split (c : Context A) (t : Members A) (w : List A) : Type 0 where
    pub left : List A
    pub mid : List A
    pub right : List A
    pub whole : left ++ (mid ++ right) ≡ w
    pub ahead_is : Conforms (ahead c) left
    pub mid_is : Conforms t mid
    pub behind_is : Conforms (behind c) right
    pub left_in : (y : A) → Memᴰ y left → Memᴰ y (before_place c)
    pub mid_in : (y : A) → Memᴰ y mid → Memᴰ y (names t)
    pub right_in : (y : A) → Memᴰ y right → Memᴰ y (after_place c)
    pub apart : (y : A) → Memᴰ y (names t) ⊎ Memᴰ y (after_place c) → Memᴰ y (before_place c) → ⊥
    pub apart_right : (y : A) → Memᴰ y (names t) → Memᴰ y (after_place c) → ⊥

  pub split : (c : Context A) (t : Members A) → spine c ≡ true → Distinct (names (plug c t)) → (w : List A) → Conforms (plug c t) w → Split c t w
  split c t s d w m = by ((spine_alike c t s).to.carry w m) (rw (names_plug c t) at d)
    where
      by : Around c (Conforms t) w → Distinct (before_place c ++ (names t ++ after_place c)) → Split c t w
      by (u, v, e, a, (x, y, f, b, z)) g =
          record {
            left = u;
            mid = x;
            right = y;
            whole = ap (λ (l : List A). u ++ l) f ∙ e;
            ahead_is = a;
            mid_is = b;
            behind_is = z;
            left_in = λ n i. rw (names_ahead c) at ((letters Sequence (ahead c)).inside u a n i);
            mid_in = λ n i. (letters Sequence t).inside x b n i;
            right_in = λ n i. rw (names_behind c) at ((letters Sequence (behind c)).inside y z n i);
            apart = λ n i j. distinct_apart (before_place c) (names t ++ after_place c) g n j (⊎_elim (Memᴰ.append_left (after_place c)) (Memᴰ.append_right (names t)) i);
            apart_right = λ n i j. distinct_apart (names t) (after_place c) (distinct_right (before_place c) (names t ++ after_place c) g) n i j;
          }

  -- other names at the place
  pub put : (c : Context A) (t : Members A) → spine c ≡ true → (u v z : List A) → Conforms (ahead c) u → Conforms t v → Conforms (behind c) z → Conforms (plug c t) (u ++ (v ++ z))
  put c t s u v z a b d = (spine_alike c t s).from.carry (u ++ (v ++ z)) (u, v ++ z, refl, a, (v, z, refl, b, d))

  -- the names there and after are none of the names before
  pub later : (c : Context A) (t : Members A) (w : List A) (p : Split c t w) (v z : List A) → ((y : A) → Memᴰ y v → Memᴰ y (names t)) → ((y : A) → Memᴰ y z → Memᴰ y (after_place c))
      → (y : A) → Memᴰ y (v ++ z) → Memᴰ y (before_place c) → ⊥
  later c t w p v z f g y m j = p.apart y (⊎_elim (λ a. inl (f y a)) (λ b. inr (g y b)) (Memᴰ.append_cases v m)) j
