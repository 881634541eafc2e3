-- A place that is found is where the model is put together again; what the changes keep of a well-formed model.
use Prim.Native.Nat.{ℕ, zero, suc}
use mathlib.Core.Path.{◌≡◌, refl, sym, ap, ◌∙◌}
use mathlib.Core.Logic.{⊎_elim}
use mathlib.Core.Bool.{Bool, true, false, ◌&&◌, false≢true}
use mathlib.Core.Option.{Option, none, some}
use mathlib.Core.List.Memᴰ
use mathlib.Core.List.{List, [], ◌∷◌, ◌++◌, Memᴰ}
use Rattle.rules.specs.declared.Quantifier.{Quantifier}
use Rattle.rules.specs.declared.Quantifier.TheVariants.{None}
use Rattle.rules.specs.declared.GroupKind.{GroupKind}
use Rattle.rules.specs.Model.{Members, done, el, group, names, Distinct, Some, Full, is_done}
use Rattle.rules.specs.Place.{Context, here, past, over, into, plug, before_place, after_place, Found, within, after_members, in_group, right, present, gap, nth, find}
use Rattle.rules.specs.Edit.{◌⊕◌}
use Rattle.rules.proofs.AroundLaws.{opens}
use Rattle.rules.proofs.Apart.{names_plug}
use Rattle.rules.proofs.Spine.{names_append}

module _ {A : Type 0} where
  abbrev Good : Members A → Option (Found A) → Type 0
  Good ms none = Unit {0}
  Good ms (some f) = plug f.context f.picked ≡ ms

  good_past : (q : Quantifier) (n : A) (rest : Members A) (o : Option (Found A)) → Good rest o → Good (el q n rest) (within (past q n) o)
  unfolding plug
  good_past q n rest none g = tt
  good_past q n rest (some f) g = ap (el q n) g

  good_over : (q : Quantifier) (k : GroupKind) (ms rest : Members A) (o : Option (Found A)) → Good rest o → Good (group q k ms rest) (within (over q k ms) o)
  unfolding plug
  good_over q k ms rest none g = tt
  good_over q k ms rest (some f) g = ap (group q k ms) g

  good_into : (q : Quantifier) (k : GroupKind) (ms rest : Members A) (o : Option (Found A)) → Good ms o → Good (group q k ms rest) (within (λ c. into q k c rest) o)
  unfolding plug
  good_into q k ms rest none g = tt
  good_into q k ms rest (some f) g = ap (λ (z : Members A). group q k z rest) g

  good_after : (go : Members A → Option (Found A)) → ((ms : Members A) → Good ms (go ms)) → (n : ℕ) (ms : Members A) → Good ms (after_members go n ms)
  unfolding after_members
  good_after go g zero ms = g ms
  good_after go g (suc n) done = tt
  good_after go g (suc n) (el q x rest) = good_past q x rest (after_members go n rest) (good_after go g n rest)
  good_after go g (suc n) (group q k ms rest) = good_over q k ms rest (after_members go n rest) (good_after go g n rest)

  good_group : (go : Members A → Option (Found A)) → ((ms : Members A) → Good ms (go ms)) → (ms : Members A) → Good ms (in_group go ms)
  good_group go g done = tt
  good_group go g (el q x rest) = tt
  good_group go g (group q k ms rest) = good_into q k ms rest (go ms) (g ms)

  good_right : (ms : Members A) → Good ms (right ms)
  unfolding plug
  good_right ms = refl

  good_present : (ms : Members A) → Good ms (present ms)
  good_present done = tt
  good_present (el q x rest) = good_right (el q x rest)
  good_present (group q k ms rest) = good_right (group q k ms rest)

  good_gap : (n : ℕ) (ms : Members A) → Good ms (gap n ms)
  good_gap n ms = good_after right good_right n ms

  good_nth : (n : ℕ) (ms : Members A) → Good ms (nth n ms)
  good_nth zero ms = tt
  good_nth (suc n) ms = good_after present good_present n ms

  module _ (last : ℕ → Members A → Option (Found A)) (g : (n : ℕ) (ms : Members A) → Good ms (last n ms)) where
    good_find : (p : List ℕ) (ms : Members A) → Good ms (find last p ms)
    unfolding find
    good_find [] ms = tt
    good_find (n ∷ []) ms = g n ms
    good_find (zero ∷ m ∷ ns) ms = tt
    good_find (suc n ∷ m ∷ ns) ms = good_after (in_group (λ x. find last (m ∷ ns) x)) (good_group (λ x. find last (m ∷ ns) x) (λ x. good_find (m ∷ ns) x)) n ms

  -- A PLACE FOUND
  pub found_gap : (p : List ℕ) (ms : Members A) (f : Found A) → find gap p ms ≡ some f → plug f.context f.picked ≡ ms
  found_gap p ms f e = rw e at (good_find gap good_gap p ms)

  pub found_nth : (p : List ℕ) (ms : Members A) (f : Found A) → find nth p ms ≡ some f → plug f.context f.picked ≡ ms
  found_nth p ms f e = rw e at (good_find nth good_nth p ms)

  -- ---- no name twice
  distinct_insert : (a b : List A) (x : A) → (Memᴰ x (a ++ b) → ⊥) → Distinct (a ++ b) → Distinct (a ++ (x ∷ b))
  distinct_insert [] b x f d = (f, d)
  distinct_insert (y ∷ a) b x f (g, d) = (
    λ m. ⊎_elim (λ i. g (Memᴰ.append_left b i)) (λ i. ⊎_elim (λ e. f (Memᴰ.head (sym e))) (λ j. g (Memᴰ.append_right a j)) (Memᴰ.cases_cons i)) (Memᴰ.append_cases a m),
    distinct_insert a b x (λ m. f (Memᴰ.tail m)) d,
  )

  distinct_remove : (a b : List A) (x : A) → Distinct (a ++ (x ∷ b)) → Distinct (a ++ b)
  distinct_remove [] b x (f, d) = d
  distinct_remove (y ∷ a) b x (g, d) =
      (λ m. g (⊎_elim (λ i. Memᴰ.append_left (x ∷ b) i) (λ i. Memᴰ.append_right a (Memᴰ.tail i)) (Memᴰ.append_cases a m)), distinct_remove a b x d)

  pub insert_distinct : (c : Context A) (q : Quantifier) (n : A) (t : Members A) → (Memᴰ n (names (plug c t)) → ⊥) → Distinct (names (plug c t)) → Distinct (names (plug c (el q n t)))
  unfolding names
  insert_distinct c q n t f d = rw (names_plug c (el q n t)) (distinct_insert (before_place c) (names t ++ after_place c) n (rw (names_plug c t) at f) (rw (names_plug c t) at d))

  pub remove_distinct : (c : Context A) (q : Quantifier) (n : A) (t : Members A) → Distinct (names (plug c (el q n t))) → Distinct (names (plug c t))
  unfolding names
  remove_distinct c q n t d = rw (names_plug c t) (distinct_remove (before_place c) (names t ++ after_place c) n (rw (names_plug c (el q n t)) at d))

  pub same_names : (c : Context A) (t t' : Members A) → names t ≡ names t' → names (plug c t) ≡ names (plug c t')
  same_names c t t' e = names_plug c t ∙ rw e (sym (names_plug c t'))

  pub convert_names : (c : Context A) (j : GroupKind) (s r : Members A) → names (plug c (s ⊕ r)) ≡ names (plug c (group None j s r))
  unfolding names
  convert_names c j s r = same_names c (s ⊕ r) (group None j s r) (names_append s r)

  -- ---- inner groups not empty
  some_done : (t : Members A) → is_done t ≡ false → Some t
  some_done done e = false≢true (sym e)
  some_done (el q n t) e = tt
  some_done (group q k ms t) e = tt

  some_plug : (c : Context A) (t : Members A) → (opens true c && is_done t) ≡ false → Some (plug c t)
  unfolding opens plug
  some_plug here t e = some_done t e
  some_plug (past q n c) t e = tt
  some_plug (over q k ms c) t e = tt
  some_plug (into q k c rest) t e = tt

  pub full_plug : (b : Bool) (c : Context A) (t t' : Members A) → (Full t → Full t') → (opens b c && is_done t') ≡ false → Full (plug c t) → Full (plug c t')
  unfolding Full opens plug
  full_plug b here t t' f e g = f g
  full_plug b (past q n c) t t' f e g = full_plug false c t t' f e g
  full_plug b (over q k ms c) t t' f e (x, y, g) = (x, y, full_plug false c t t' f e g)
  full_plug b (into q k c rest) t t' f e (x, g, y) = (some_plug c t' e, full_plug true c t t' f e g, y)
