-- Changes 3, 5 and 8 on the spine: the children after the change are a word of the new model.
use Prim.Native.Nat.{ℕ, zero, suc}
use mathlib.Core.Path.{◌≡◌, refl, sym, ap, ◌∙◌}
use mathlib.Core.Logic.{inl, ⊎_elim}
use mathlib.Core.Bool.{Bool, true, false, ◌||◌, false≢true}
use mathlib.Core.List.Memᴰ
use mathlib.Core.List.{List, [], ◌∷◌, ◌++◌, append_assoc, Memᴰ}
use Rattle.rules.specs.declared.Quantifier.{Quantifier}
use Rattle.rules.specs.declared.GroupKind.{GroupKind}
use Rattle.rules.specs.declared.GroupKind.TheVariants.{Sequence}
use Rattle.rules.specs.Model.{Members, el, group, names, Distinct, Equality, skips, nothing, unless, filling, Some, Full, member}
use Rattle.rules.specs.Language.{Then, Times, Allowed, Repeated, Matches, Conforms}
use Rattle.rules.specs.Place.{Context, plug, spine, before_place, after_place}
use Rattle.rules.proofs.Children.{ahead, behind, placed, keep_first, erase, refit, any_of, refit_group}
use Rattle.rules.specs.Quantifiers.{gains, cuts}
use Rattle.rules.proofs.Spine.{Split, split, put, later}
use Rattle.rules.proofs.Letters.{letters, letters_repeated, placed_at, member_in, member_out, any_in, any_out, keep_past, keep_here, erase_none}
use Rattle.rules.proofs.Removing.{erase_append, erase_times}
use Rattle.rules.proofs.Pairs.{allowed_one, stays_none, stays_some}
use Rattle.rules.proofs.Filled.{fill_group}
use Rattle.rules.proofs.Apart.{Only, only, names_plug}
use Rattle.rules.proofs.Correct.{distinct_left, distinct_right, distinct_apart}

module _ {A : Type 0} (E : Equality A) (c : Context A) (s : spine c ≡ true) where
  -- 3: A NEEDED MEMBER INTO A SPINE LIST
  pub insert_needed : (q : Quantifier) (n : A) (t : Members A) → Distinct (names (plug c t)) → (w : List A) → Conforms (plug c t) w → Conforms (plug c (el q n t)) (placed E (before_place c) (n ∷ []) w)
  unfolding Matches
  insert_needed q n t d w m =
      let p = split c t s d w m in
      let e : placed E (before_place c) (n ∷ []) w ≡ p.left ++ ((n ∷ p.mid) ++ p.right) =
      ap (placed E (before_place c) (n ∷ [])) (sym p.whole)
      ∙ placed_at E (before_place c) (n ∷ []) p.left (p.mid ++ p.right) p.left_in (later c t w p p.mid p.right p.mid_in p.right_in) in
      rw e (put c (el q n t) s p.left (n ∷ p.mid) p.right p.ahead_is (n ∷ [], p.mid, refl, (1, allowed_one q, (n ∷ [], [], refl, refl, refl)), p.mid_is) p.behind_is)

  -- 5: AN ELEMENT'S QUANTIFIER ON THE SPINE, all sixteen pairs
  module _ (q r : Quantifier) (x : A) (t : Members A) (d : Distinct (names (plug c (el q x t)))) where
    again : (u g v z : List A) (n : ℕ) → Allowed r n → Times n (λ y. y ≡ x ∷ []) g → Conforms (ahead c) u → Conforms t v → Conforms (behind c) z → Conforms (plug c (el r x t)) (u ++ ((g ++ v) ++ z))
    unfolding Matches
    again u g v z n a b l m h = put c (el r x t) s u (g ++ v) z l (g, v, refl, (n, a, b), m) h

    absent : (u v z w : List A) → u ++ (v ++ z) ≡ w → member E x w ≡ false → placed E (before_place c) (x ∷ []) w ≡ u ++ ((x ∷ v) ++ z) → Allowed q 0
        → Conforms (ahead c) u → Conforms t v → Conforms (behind c) z
        → (b : Bool) → gains q r ≡ b → Conforms (plug c (el r x t)) (refit E (before_place c) x q r w)
    unfolding refit
    absent u v z w e o p a l m h true g = rw (o, refit) (rw g (rw p (again u (x ∷ []) v z 1 (allowed_one r) (x ∷ [], [], refl, refl, refl) l m h)))
    absent u v z w e o p a l m h false g = rw (o, refit) (rw g (rw (← e) (again u [] v z 0 (stays_none q r g a) refl l m h)))

    present : (u g v z w : List A) (n : ℕ) → u ++ ((g ++ v) ++ z) ≡ w → member E x w ≡ true → keep_first E x w ≡ u ++ ((x ∷ v) ++ z) → Allowed q (suc n) → Times (suc n) (λ y. y ≡ x ∷ []) g
        → Conforms (ahead c) u → Conforms t v → Conforms (behind c) z → (b : Bool) → cuts q r ≡ b → Conforms (plug c (el r x t)) (refit E (before_place c) x q r w)
    unfolding refit
    present u g v z w n e o p a i l m h true k = rw (o, refit) (rw k (rw p (again u (x ∷ []) v z 1 (allowed_one r) (x ∷ [], [], refl, refl, refl) l m h)))
    present u g v z w n e o p a i l m h false k = rw (o, refit) (rw k (rw (← e) (again u g v z (suc n) (stays_some q r n k a) i l m h)))

    this : Only x c t
    unfolding names
    this = only x c t (el q x t) refl d

    none_here : (u v z : List A) → ((y : A) → Memᴰ y u → Memᴰ y (before_place c)) → Conforms t v → ((y : A) → Memᴰ y z → Memᴰ y (after_place c)) → Memᴰ x (u ++ (v ++ z)) → ⊥
    none_here u v z f m g h =
        ⊎_elim (λ a. this.left (f x a)) (λ b. ⊎_elim (λ a. this.mid ((letters Sequence t).inside v m x a)) (λ a. this.right (g x a)) (Memᴰ.append_cases v b)) (Memᴰ.append_cases u h)

    kept : (u b v z : List A) (n : ℕ) → Times n (λ y. y ≡ x ∷ []) b → (Memᴰ x u → ⊥) → (Memᴰ x v → ⊥) → (Memᴰ x z → ⊥) → keep_first E x (u ++ (((x ∷ b) ++ v) ++ z)) ≡ u ++ ((x ∷ v) ++ z)
    kept u b v z n i f g h =
        keep_past E x u (((x ∷ b) ++ v) ++ z) f ∙ ap (λ (l : List A). u ++ l) (keep_here E x ((b ++ v) ++ z) ∙ ap (λ (l : List A). x ∷ l)
        (erase_append E x (b ++ v) z ∙ (ap (λ (l : List A). l ++ erase E x z) (erase_append E x b v) ∙ rw (erase_times E x n b i, erase_none E x v g, erase_none E x z h))))

    fitted : (w : List A) → (p : Split c (el q x t) w) → (g v : List A) → g ++ v ≡ p.mid → (n : ℕ) → Allowed q n → Times n (λ y. y ≡ x ∷ []) g → Conforms t v
        → Conforms (plug c (el r x t)) (refit E (before_place c) x q r w)
    unfolding names
    fitted w p g v e zero a i m =
        let f : p.left ++ (v ++ p.right) ≡ w = cc p.whole in
        absent p.left v p.right w f
        (rw (← f) (member_out E x (p.left ++ (v ++ p.right)) (none_here p.left v p.right p.left_in m p.right_in)))
        (ap (placed E (before_place c) (x ∷ [])) (sym f)
        ∙ placed_at E (before_place c) (x ∷ []) p.left (v ++ p.right) p.left_in
        (later c (el q x t) w p v p.right (λ y h. Memᴰ.tail ((letters Sequence t).inside v m y h)) p.right_in))
        a p.ahead_is m p.behind_is (gains q r) refl
    fitted w p g v e (suc n) a (a1, b1, e1, l1, t1) m =
        let k : g ≡ x ∷ b1 = cc in
        let f : p.left ++ ((g ++ v) ++ p.right) ≡ w = cc p.whole in
        let f1 : p.left ++ (((x ∷ b1) ++ v) ++ p.right) ≡ w = rw k at f in
        present p.left g v p.right w n f
        (rw (← f1) (member_in E x (p.left ++ (((x ∷ b1) ++ v) ++ p.right)) (Memᴰ.append_right p.left (Memᴰ.head refl))))
        (ap (keep_first E x) (sym f1)
        ∙ kept p.left b1 v p.right n t1 (λ h. this.left (p.left_in x h)) (λ h. this.mid ((letters Sequence t).inside v m x h))
        (λ h. this.right (p.right_in x h)))
        a (a1, b1, e1, l1, t1) p.ahead_is m p.behind_is (cuts q r) refl

    pub refit_element : (w : List A) → Conforms (plug c (el q x t)) w → Conforms (plug c (el r x t)) (refit E (before_place c) x q r w)
    refit_element w m = by (split c (el q x t) s d w m)
      where
        open_mid : (p : Split c (el q x t) w) → Then (Repeated q (λ y. y ≡ x ∷ [])) (Conforms t) p.mid → Conforms (plug c (el r x t)) (refit E (before_place c) x q r w)
        open_mid p (g, v, e, (n, a, i), h) = fitted w p g v e n a i h

        by : Split c (el q x t) w → Conforms (plug c (el r x t)) (refit E (before_place c) x q r w)
        by p = open_mid p (unfold Matches in p.mid_is)

  -- 8: A GROUP'S QUANTIFIER ON THE SPINE, all pairs that do not cut
  module _ (q r : Quantifier) (j : GroupKind) (ms t : Members A) (d : Distinct (names (plug c (group q j ms t)))) (full : Full ms) (some : Some ms) (uncut : cuts q r ≡ false) where
    regroup : (u g v z : List A) → Repeated r (Matches j ms) g → Conforms (ahead c) u → Conforms t v → Conforms (behind c) z → Conforms (plug c (group r j ms t)) (u ++ ((g ++ v) ++ z))
    unfolding Matches
    regroup u g v z b l m h = put c (group r j ms t) s u (g ++ v) z l (g, v, refl, b, m) h

    inner_apart : (y : A) → Memᴰ y (names ms) → Memᴰ y (names t) → ⊥
    unfolding names
    inner_apart = distinct_apart (names ms) (names t)
        (distinct_left (names ms ++ names t) (after_place c) (distinct_right (before_place c) ((names ms ++ names t) ++ after_place c) (rw (names_plug c (group q j ms t)) at d)))

    -- no name of the group stands in the rest of the word
    outside : (w : List A) (p : Split c (group q j ms t) w) (v : List A) → Conforms t v → p.left ++ (v ++ p.right) ≡ w → any_of E (names ms) w ≡ false
    unfolding names
    outside w p v m f = rw (← f) (any_out E (names ms) (p.left ++ (v ++ p.right)) (λ y h i.
        ⊎_elim (λ a. p.apart y (inl (Memᴰ.append_left (names t) i)) (p.left_in y a))
        (λ b. ⊎_elim (λ a. inner_apart y i ((letters Sequence t).inside v m y a)) (λ a. p.apart_right y (Memᴰ.append_left (names t) i) (p.right_in y a)) (Memᴰ.append_cases v b))
        (Memᴰ.append_cases p.left h)))

    -- a child of the group stands there: the word stays
    gain_some : (w : List A) (p : Split c (group q j ms t) w) (g v : List A) → g ++ v ≡ p.mid → (n : ℕ) → Allowed q n → Times n (Matches j ms) g → Conforms t v
        → any_of E (names ms) w ≡ true → Conforms (plug c (group r j ms t)) w
    gain_some w p g v e zero a i m o =
        let f : p.left ++ (v ++ p.right) ≡ w = cc p.whole in
        absurd (false≢true (sym (outside w p v m f) ∙ o))
    gain_some w p g v e (suc n) a i m o =
        let f : p.left ++ ((g ++ v) ++ p.right) ≡ w = cc p.whole in
        rw (← f) (regroup p.left g v p.right (suc n, stays_some q r n uncut a, i) p.ahead_is m p.behind_is)

    -- none does: the filling comes
    gain_none : (w : List A) (p : Split c (group q j ms t) w) (g v : List A) → g ++ v ≡ p.mid → ((y : A) → Memᴰ y g → Memᴰ y (names ms)) → Conforms t v → any_of E (names ms) w ≡ false
        → Conforms (plug c (group r j ms t)) (placed E (before_place c) (unless (skips r || nothing j ms) (filling j ms)) w)
    unfolding names
    gain_none w p [] v e l m o =
        let F : List A = unless (skips r || nothing j ms) (filling j ms) in
        let f : p.left ++ (v ++ p.right) ≡ w = cc p.whole in
        let a : placed E (before_place c) F w ≡ p.left ++ (F ++ (v ++ p.right)) =
        ap (placed E (before_place c) F) (sym f)
        ∙ placed_at E (before_place c) F p.left (v ++ p.right) p.left_in
        (later c (group q j ms t) w p v p.right (λ y h. Memᴰ.append_right (names ms) ((letters Sequence t).inside v m y h)) p.right_in) in
        let b : placed E (before_place c) F w ≡ p.left ++ ((F ++ v) ++ p.right) = a ∙ ap (λ (z : List A). p.left ++ z) (sym (append_assoc F v p.right)) in
        rw b (regroup p.left F v p.right (fill_group r j ms full some) p.ahead_is m p.behind_is)
    gain_none w p (y ∷ g) v e l m o =
        let f : p.left ++ (((y ∷ g) ++ v) ++ p.right) ≡ w = cc p.whole in
        let a : any_of E (names ms) w ≡ true =
        rw (← f)
        (any_in E (names ms) (p.left ++ (((y ∷ g) ++ v) ++ p.right)) y (Memᴰ.append_right p.left (Memᴰ.head refl)) (l y (Memᴰ.head refl))) in
        absurd (false≢true (sym o ∙ a))

    -- no gain: the word stays
    stay : (w : List A) (p : Split c (group q j ms t) w) (g v : List A) → g ++ v ≡ p.mid → (n : ℕ) → Allowed q n → Times n (Matches j ms) g → Conforms t v
        → gains q r ≡ false → Conforms (plug c (group r j ms t)) w
    stay w p g v e n a i m k =
        let f : p.left ++ ((g ++ v) ++ p.right) ≡ w = cc p.whole in
        rw (← f) (regroup p.left g v p.right (n, allow n a, i) p.ahead_is m p.behind_is)
      where
        allow : (n : ℕ) → Allowed q n → Allowed r n
        allow zero b = stays_none q r k b
        allow (suc l) b = stays_some q r l uncut b

    gained : (w : List A) (p : Split c (group q j ms t) w) → Then (Repeated q (Matches j ms)) (Conforms t) p.mid → (b : Bool) → any_of E (names ms) w ≡ b → (a : Bool) → gains q r ≡ a
        → Conforms (plug c (group r j ms t)) (refit_group E (before_place c) q r j ms w)
    unfolding refit_group
    gained w p (g, v, e, (n, a, i), m) true o true k = rw (k, refit_group) (rw o (gain_some w p g v e n a i m o))
    gained w p (g, v, e, (n, a, i), m) false o true k = rw (k, refit_group) (rw o (gain_none w p g v e ((letters_repeated q j ms).inside g (n, a, i)) m o))
    gained w p (g, v, e, (n, a, i), m) true o false k = rw (k, refit_group) (stay w p g v e n a i m k)
    gained w p (g, v, e, (n, a, i), m) false o false k = rw (k, refit_group) (stay w p g v e n a i m k)

    pub refit_group_lem : (w : List A) → Conforms (plug c (group q j ms t)) w → Conforms (plug c (group r j ms t)) (refit_group E (before_place c) q r j ms w)
    refit_group_lem w m = by (split c (group q j ms t) s d w m)
      where
        by : Split c (group q j ms t) w → Conforms (plug c (group r j ms t)) (refit_group E (before_place c) q r j ms w)
        by p = gained w p (unfold Matches in p.mid_is) (any_of E (names ms) w) refl (gains q r) refl
