-- CHANGES 3 TO 8: a sound model stays sound, and each instance's children become a word of the model after.
use Prim.Native.Nat.{ℕ, zero, suc}
use mathlib.Core.Path.{◌≡◌, refl, sym, ap, ◌∙◌}
use mathlib.Core.Option.{some}
use mathlib.Core.Bool.{true, false, not, false≢true, and-false}
use mathlib.Core.List.{List}
use Rattle.rules.specs.declared.Quantifier.{Quantifier}
use Rattle.rules.specs.declared.Quantifier.TheVariants.{None, Qmark, Star, Plus}
use Rattle.rules.specs.declared.GroupKind.{GroupKind}
use Rattle.rules.specs.Model.{Members, done, el, group, Equality, names, Some, Full, is_done}
use Rattle.rules.specs.Language.{Conforms}
use Rattle.rules.specs.Automaton.{accepts}
use Rattle.rules.proofs.AroundLaws.{opens, last_is}
use Rattle.rules.proofs.Unique.{accepts_carried}
use Rattle.rules.specs.Place.{Context, here, past, over, into, plug, Found}
use Rattle.rules.proofs.Children.{misplaced, unfit, children, Sound}
use Rattle.rules.specs.Edit.{◌⊕◌, group_unlike, Edit, insert, remove, quantify, convert, flatten, first_members, later_members, has_members, is_one, edited, place, model_after}
use Rattle.rules.proofs.Letters.{member_in}
use Rattle.rules.proofs.Places.{insert_distinct, remove_distinct, same_names, convert_names, full_plug, found_gap, found_nth}
use Rattle.rules.proofs.Change.{insert_conforms, remove_conforms, quantify_conforms, group_conforms, convert_conforms}
use Rattle.rules.proofs.Words.{or_split}

once_one : (q : Quantifier) → not (is_one q) ≡ false → q ≡ None
once_one None e = refl
once_one Qmark e = absurd (false≢true (sym e))
once_one Star e = absurd (false≢true (sym e))
once_one Plus e = absurd (false≢true (sym e))

module _ {A : Type 0} where
  -- ---- members cut in two
  first_later : (n : ℕ) (t : Members A) → first_members n t ⊕ later_members n t ≡ t
  unfolding ◌⊕◌
  first_later zero t = refl
  first_later (suc n) done = refl
  first_later (suc n) (el q x t) = ap (el q x) (first_later n t)
  first_later (suc n) (group q k ms t) = ap (group q k ms) (first_later n t)

  first_some : (n : ℕ) (t : Members A) → not (has_members n t) ≡ false → Some (first_members n t)
  first_some zero t e = absurd (false≢true (sym e))
  first_some (suc n) done e = absurd (false≢true (sym e))
  first_some (suc n) (el q x t) e = tt
  first_some (suc n) (group q k ms t) e = tt

  full_split : (s r : Members A) → Full (s ⊕ r) → Full s × Full r
  unfolding Full ◌⊕◌
  full_split done r f = (tt, f)
  full_split (el q x s) r f = full_split s r f
  full_split (group q k ms s) r (a, b, f) = let (x, y) = full_split s r f in ((a, b, x), y)

  full_append : (s r : Members A) → Full s → Full r → Full (s ⊕ r)
  unfolding Full ◌⊕◌
  full_append done r f g = g
  full_append (el q x s) r f g = full_append s r f g
  full_append (group q k ms s) r (a, b, f) g = (a, b, full_append s r f g)

  append_done : (s r : Members A) → Some s → is_done (s ⊕ r) ≡ false
  unfolding ◌⊕◌
  append_done done r f = absurd f
  append_done (el q x s) r f = refl
  append_done (group q k ms s) r f = refl

  -- members in place of others that are not all taken
  swap : (c : Context A) (t t' : Members A) → is_done t' ≡ false → (Full t → Full t') → Full (plug c t) → Full (plug c t')
  swap c t t' e f g = full_plug false c t t' f (rw e (and-false (opens false c))) g

  full_at : (c : Context A) (t : Members A) → Full (plug c t) → Full t
  unfolding Full plug
  full_at here t f = f
  full_at (past q n c) t f = full_at c t f
  full_at (over q k ms c) t (a, b, f) = full_at c t f
  full_at (into q k c rest) t (a, f, b) = full_at c t f

  convert_sound : (c : Context A) (j : GroupKind) (s r : Members A) → Some s → Sound (plug c (s ⊕ r)) → Sound (plug c (group None j s r))
  unfolding Full
  convert_sound c j s r o x =
      record {
        distinct = rw (convert_names c j s r) at x.distinct;
        full = swap c (s ⊕ r) (group None j s r) refl (λ f. let (a, b) = full_split s r f in (o, a, b)) x.full;
      }

  inside_group : (c : Context A) (q : Quantifier) (j : GroupKind) (s r : Members A) → Full (plug c (group q j s r)) → Some s × Full s × Full r
  unfolding Full
  inside_group c q j s r f = full_at c (group q j s r) f

  flatten_sound : (c : Context A) (j : GroupKind) (s r : Members A) → Sound (plug c (group None j s r)) → Sound (plug c (s ⊕ r))
  unfolding Full
  flatten_sound c j s r x =
      record {
        distinct = rw (← convert_names c j s r) at x.distinct;
        full = swap c (group None j s r) (s ⊕ r) (append_done s r (inside_group c None j s r x.full).0) (λ f. full_append s r f.1 f.2) x.full;
      }

  module _ (E : Equality A) (c : Context A) where
    pub edit_sound : (e : Edit A) (t : Members A) → misplaced E e c t ≡ false → Sound (plug c t) → Sound (plug c (edited e t))
    unfolding misplaced edited names Full
    edit_sound (insert q n) t m s =
        record {
          distinct = insert_distinct c q n t (λ i. false≢true (sym m ∙ member_in E n (names (plug c t)) i)) s.distinct;
          full = swap c t (el q n t) refl (λ f. f) s.full;
        }
    edit_sound remove done m s = absurd (false≢true (sym m))
    edit_sound remove (el q x t) m s = record { distinct = remove_distinct c q x t s.distinct; full = full_plug false c (el q x t) t (λ f. f) (sym (last_is t c) ∙ m) s.full }
    edit_sound remove (group q k ms t) m s = absurd (false≢true (sym m))
    edit_sound (quantify r) done m s = absurd (false≢true (sym m))
    edit_sound (quantify r) (el q x t) m s =
        record { distinct = rw (same_names c (el q x t) (el r x t) refl) at s.distinct; full = swap c (el q x t) (el r x t) refl (λ f. f) s.full }
    edit_sound (quantify r) (group q k ms t) m s =
        record { distinct = rw (same_names c (group q k ms t) (group r k ms t) refl) at s.distinct; full = swap c (group q k ms t) (group r k ms t) refl (λ f. f) s.full }
    edit_sound (convert j n) t m s =
        convert_sound c j (first_members n t) (later_members n t) (first_some n t (or_split (not (has_members n t)) (group_unlike c j (first_members n t)) m).0) (rw (first_later n t) s)
    edit_sound flatten done m s = absurd (false≢true (sym m))
    edit_sound flatten (el q x t) m s = absurd (false≢true (sym m))
    edit_sound flatten (group q j l t) m s =
        let e : q ≡ None = once_one q (or_split (not (is_one q)) (group_unlike c j l) m).0 in
        flatten_sound c j l t (rw e at s)

    pub edit_conforms : (e : Edit A) (t : Members A) → misplaced E e c t ≡ false → unfit e c t ≡ false → Sound (plug c t) → (w : List A) → Conforms (plug c t) w
        → Conforms (plug c (edited e t)) (children E e c t w)
    unfolding misplaced edited unfit children
    edit_conforms (insert q n) t m u s w h = insert_conforms E c q n t s.distinct u w h
    edit_conforms remove done m u s w h = h
    edit_conforms remove (el q x t) m u s w h = remove_conforms E c q x t s.distinct u w h
    edit_conforms remove (group q k ms t) m u s w h = h
    edit_conforms (quantify r) done m u s w h = h
    edit_conforms (quantify r) (el q x t) m u s w h = quantify_conforms E c q r x t s.distinct u w h
    edit_conforms (quantify r) (group q k ms t) m u s w h =
        let (o, f, g) = inside_group c q k ms t s.full in
        group_conforms E c q r k ms t s.distinct f o u w h
    edit_conforms (convert j n) t m u s w h =
        (convert_conforms E c j (first_members n t) (later_members n t) (or_split (not (has_members n t)) (group_unlike c j (first_members n t)) m).1).to.carry w (rw (first_later n t) h)
    edit_conforms flatten done m u s w h = h
    edit_conforms flatten (el q x t) m u s w h = h
    edit_conforms flatten (group q j l t) m u s w h =
        let e : q ≡ None = once_one q (or_split (not (is_one q)) (group_unlike c j l) m).0 in
        (convert_conforms E c j l t (or_split (not (is_one q)) (group_unlike c j l) m).1).from.carry w (rw e at h)

  -- ---- at a place of the paper, with the test of the check
  placed_right : (e : Edit A) (p : List ℕ) (ms : Members A) (f : Found A) → place e p ms ≡ some f → plug f.context f.picked ≡ ms
  unfolding place
  placed_right (insert q n) p ms f x = found_gap p ms f x
  placed_right remove p ms f x = found_nth p ms f x
  placed_right (quantify r) p ms f x = found_nth p ms f x
  placed_right (convert j n) p ms f x = found_nth p ms f x
  placed_right flatten p ms f x = found_nth p ms f x

  module _ (E : Equality A) (e : Edit A) (p : List ℕ) (ms : Members A) (f : Found A) (at : place e p ms ≡ some f) (fits : misplaced E e f.context f.picked ≡ false) (sound : Sound ms) where
    before_sound : Sound (plug f.context f.picked)
    before_sound = rw (placed_right e p ms f at) sound

    pub change_sound : Sound (model_after e f)
    change_sound = edit_sound E f.context e f.picked fits before_sound

    pub change_accepts : unfit e f.context f.picked ≡ false → (w : List A) → accepts E ms w ≡ true → accepts E (model_after e f) (children E e f.context f.picked w) ≡ true
    change_accepts u w a =
        accepts_carried E ms (model_after e f) sound.distinct change_sound.distinct w (children E e f.context f.picked w)
        (λ h. edit_conforms E f.context e f.picked fits u before_sound w (rw (placed_right e p ms f at) h)) a
