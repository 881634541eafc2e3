-- Changes 3 to 8, accepted: the place is there, and the edit fits. The names of the model after the edit.
use Prim.Native.Nat.{ℕ, zero, suc}
use mathlib.Core.Path.{◌≡◌, refl, sym, ap, ◌∙◌}
use mathlib.Core.Logic.{◌⊎◌, inl, inr, ⊎_elim}
use mathlib.Core.Bool.{Bool, true, false, not, false≢true}
use mathlib.Core.Option.{Option, none, some}
use mathlib.Core.List.{List, [], ◌∷◌, ◌++◌, append_assoc, Memᴰ}
use lib.Dec.{leb}
use lib.ListN.{length}
use Rattle.rules.specs.declared.Quantifier.{Quantifier}
use Rattle.rules.specs.Bytes.{Bytes, bytes}
use Rattle.rules.specs.Model.{Members, done, el, group, Equality, names}
use Rattle.rules.specs.Place.{Context, plug, before_place, after_place, Found}
use Rattle.rules.specs.Edit.{Edit, insert, remove, quantify, convert, flatten, first_members, later_members, has_members, edited, place, place_of, model_after, remove_last, group_unlike}
use Rattle.rules.specs.Store.{Store, members}
use Rattle.rules.specs.Decode.{quantifier_of, group_of}
use Rattle.rules.specs.Change.{insert_element, remove_element, change_quantifier, convert_to_group, flatten_group, change_group_quantifier, definition_at, name_at_index}
use Rattle.rules.specs.Refusal.{no_place, no_element_at, no_group_at, at_place, on_element, on_group, tail_of, flatten_unlike, conditions, refusal, found_at}
use Rattle.rules.proofs.Words.{either, or_split, or_both}
use Rattle.rules.proofs.Apart.{names_plug}
use Rattle.rules.proofs.Spine.{names_append}
use Rattle.rules.proofs.Children.{misplaced, Sound}
use Rattle.rules.proofs.Places.{found_gap, found_nth}
use Rattle.rules.proofs.Whole.{change_sound}
use Rattle.change_laws.proofs.Conditions.{unmet}
use Rattle.change_laws.proofs.EditConditions.{remove_placed, flatten_placed}

module _ {A : Type 0} where
  -- ---- names
  -- the names that an edit brings
  abbrev pub brings : Edit A → List A
  brings (insert q n) = n ∷ []
  brings remove = []
  brings (quantify r) = []
  brings (convert j n) = []
  brings flatten = []

  first_later : (n : ℕ) (t : Members A) → names (first_members n t) ++ names (later_members n t) ≡ names t
  unfolding names
  first_later zero t = refl
  first_later (suc n) done = refl
  first_later (suc n) (el q x t) = ap (λ (l : List A). x ∷ l) (first_later n t)
  first_later (suc n) (group q k ms t) = append_assoc (names ms) (names (first_members n t)) (names (later_members n t)) ∙ ap (λ (l : List A). names ms ++ l) (first_later n t)

  edited_names : (e : Edit A) (t : Members A) (m : A) → Memᴰ m (names (edited e t)) → Memᴰ m (names t) ⊎ Memᴰ m (brings e)
  unfolding names edited
  edited_names (insert q n) t m i = ⊎_elim (λ e. inr (mathlib.Core.List.Memᴰ.head e)) (λ j. inl j) (mathlib.Core.List.Memᴰ.cases_cons i)
  edited_names remove done m i = inl i
  edited_names remove (el q x t) m i = inl (mathlib.Core.List.Memᴰ.tail i)
  edited_names remove (group q k ms t) m i = inl i
  edited_names (quantify r) done m i = inl i
  edited_names (quantify r) (el q x t) m i = inl i
  edited_names (quantify r) (group q k ms t) m i = inl i
  edited_names (convert j n) t m i = inl (rw (first_later n t) at i)
  edited_names flatten done m i = inl i
  edited_names flatten (el q x t) m i = inl i
  edited_names flatten (group q k s t) m i = inl (rw (names_append s t) at i)

  plug_names : (c : Context A) (t t' : Members A) (more : List A) → ((m : A) → Memᴰ m (names t') → Memᴰ m (names t) ⊎ Memᴰ m more) → (m : A)
      → Memᴰ m (names (plug c t')) → Memᴰ m (names (plug c t)) ⊎ Memᴰ m more
  plug_names c t t' more f m i =
      let j : Memᴰ m (before_place c ++ (names t' ++ after_place c)) = rw (names_plug c t') at i in
      either (λ k. rw (names_plug c t) k) (λ k. k)
      (⊎_elim (λ k. inl (mathlib.Core.List.Memᴰ.append_left (names t ++ after_place c) k))
      (λ k. ⊎_elim (λ h. either (λ g. mathlib.Core.List.Memᴰ.append_right (before_place c) (mathlib.Core.List.Memᴰ.append_left (after_place c) g)) (λ g. g) (f m h))
      (λ h. inl (mathlib.Core.List.Memᴰ.append_right (before_place c) (mathlib.Core.List.Memᴰ.append_right (names t) h))) (mathlib.Core.List.Memᴰ.append_cases (names t') k))
      (mathlib.Core.List.Memᴰ.append_cases (before_place c) j))

  -- ---- at a place
  pub place_of_lem : (e : Edit A) (p : List ℕ) (ms : Members A) (f : Found A) → place_of e p ms ≡ some f → place e p ms ≡ some f
  unfolding place_of
  place_of_lem e p ms f x = by (leb (length p) 5) refl
    where
      by : (b : Bool) → leb (length p) 5 ≡ b → place e p ms ≡ some f
      by true q = rw (q, place_of) at x
      by false q = let z : none ≡ some f = rw (q, place_of) at x in let y : false ≡ true = cc z in absurd (false≢true y)

  pub place_right : (e : Edit A) (p : List ℕ) (ms : Members A) (f : Found A) → place_of e p ms ≡ some f → plug f.context f.picked ≡ ms
  unfolding place
  place_right e p ms f x = by e (place_of_lem e p ms f x)
    where
      by : (d : Edit A) → place d p ms ≡ some f → plug f.context f.picked ≡ ms
      by (insert q n) y = found_gap p ms f y
      by remove y = found_nth p ms f y
      by (quantify r) y = found_nth p ms f y
      by (convert j n) y = found_nth p ms f y
      by flatten y = found_nth p ms f y

  -- the place is there, and the edit fits there
  pub record Placed (E : Equality A) (e : Edit A) (p : List ℕ) (ms : Members A) : Type 0 where
    pub found : Found A
    pub at : place_of e p ms ≡ some found
    pub fits : misplaced E e found.context found.picked ≡ false

  module _ (E : Equality A) (e : Edit A) (p : List ℕ) (ms : Members A) (x : Placed E e p ms) where
    pub placed_sound : Sound ms → Sound (model_after e x.found)
    placed_sound s = change_sound E e p ms x.found (place_of_lem e p ms x.found x.at) x.fits s

    pub placed_names : (m : A) → Memᴰ m (names (model_after e x.found)) → Memᴰ m (names ms) ⊎ Memᴰ m (brings e)
    placed_names m i =
        rw (← place_right e p ms x.found x.at) (plug_names x.found.context x.found.picked (edited e x.found.picked) (brings e) (edited_names e x.found.picked) m i)

-- ---- the conditions of the calls
-- P: what the conditions say of what is found
placed : (e : Edit Bytes) (p : List ℕ) (ms : Members Bytes) (P : Option (Found Bytes) → Type 0) → (P none → ⊥)
    → ((f : Found Bytes) → plug f.context f.picked ≡ ms → P (some f) → misplaced bytes e f.context f.picked ≡ false) → P (place_of e p ms)
    → Placed bytes e p ms
placed e p ms P absent fit h = by (place_of e p ms) refl h
  where
    by : (o : Option (Found Bytes)) → place_of e p ms ≡ o → P o → Placed bytes e p ms
    by none q x = absurd (absent x)
    by (some f) q x = record { found = f; at = q; fits = fit f (place_right e p ms f q) x }

fit_quantify : (r : Quantifier) (c : Context Bytes) (t : Members Bytes) → (on_element true (λ q. false) t ≡ false) ⊎ (on_group true (λ q. false) t ≡ false) → misplaced bytes (quantify r) c t ≡ false
unfolding misplaced
fit_quantify r c done (inl h) = h
fit_quantify r c done (inr h) = h
fit_quantify r c (el q x t) h = refl
fit_quantify r c (group q k ms t) h = refl

module _ (room : ℕ) (s : Store) (o : ℕ) (p : List ℕ) where
  abbrev owned : Members Bytes
  owned = members (definition_at o s.form)

  pub placed_insert : (i q : ℕ) (t : Bytes) → refusal room (insert_element o p i q t) s ≡ 0 → Placed bytes (insert (quantifier_of q) (name_at_index i s.form)) p owned
  unfolding conditions misplaced
  placed_insert i q t a =
      let (text, (code, (known, (there, (kind, (once, more)))))) = unmet room (insert_element o p i q t) s a in
      placed (insert (quantifier_of q) (name_at_index i s.form)) p owned (λ x. no_place x ≡ false) (λ h. false≢true (sym h)) (λ f e h. rw e once) there

  pub placed_remove : refusal room (remove_element o p) s ≡ 0 → Placed bytes remove p owned
  unfolding conditions
  placed_remove a =
      let (known, (there, (last, more))) = unmet room (remove_element o p) s a in
      placed remove p owned (λ x. (no_element_at x ≡ false) × (at_place (λ c x. remove_last c (tail_of x)) x ≡ false)) (λ h. false≢true (sym h.0))
      (λ f e h. remove_placed f.context f.picked h.0 h.1) (there, last)

  pub placed_quantify : (q : ℕ) (t : Bytes) → refusal room (change_quantifier o p q t) s ≡ 0 → Placed bytes (quantify (quantifier_of q)) p owned
  unfolding conditions
  placed_quantify q t a =
      let (text, (code, (known, (there, more)))) = unmet room (change_quantifier o p q t) s a in
      placed (quantify (quantifier_of q)) p owned (λ x. no_element_at x ≡ false) (λ h. false≢true (sym h)) (λ f e h. fit_quantify (quantifier_of q) f.context f.picked (inl h)) there

  pub placed_quantify_group : (q : ℕ) (t : Bytes) → refusal room (change_group_quantifier o p q t) s ≡ 0 → Placed bytes (quantify (quantifier_of q)) p owned
  unfolding conditions
  placed_quantify_group q t a =
      let (text, (code, (known, (there, more)))) = unmet room (change_group_quantifier o p q t) s a in
      placed (quantify (quantifier_of q)) p owned (λ x. no_group_at x ≡ false) (λ h. false≢true (sym h)) (λ f e h. fit_quantify (quantifier_of q) f.context f.picked (inr h)) there

  pub placed_convert : (n k : ℕ) → refusal room (convert_to_group o p n k) s ≡ 0 → Placed bytes (convert (group_of k) n) p owned
  unfolding conditions misplaced
  placed_convert n k a =
      let (code, (known, (there, (alike, end)))) = unmet room (convert_to_group o p n k) s a in
      let (here, enough) = or_split (no_place (found_at (convert (group_of k) n) o p s)) _ there in
      placed (convert (group_of k) n) p owned
      (λ x. (no_place x ≡ false) × (at_place (λ c x. not (has_members n x)) x ≡ false) × (at_place (λ c x. group_unlike c (group_of k) (first_members n x)) x ≡ false)) (λ h. false≢true (sym h.0))
      (λ f e h. or_both _ _ h.1 h.2) (here, enough, alike)

  pub placed_flatten : refusal room (flatten_group o p) s ≡ 0 → Placed bytes flatten p owned
  unfolding conditions
  placed_flatten a =
      let (known, (there, (alike, end))) = unmet room (flatten_group o p) s a in
      placed flatten p owned (λ x. (no_group_at x ≡ false) × (at_place flatten_unlike x ≡ false)) (λ h. false≢true (sym h.0))
      (λ f e h. flatten_placed f.context f.picked h.0 h.1) (there, alike)
