-- Changes 3 to 8: what is not refused leaves the children of each instance a word of the new model.
use mathlib.Core.Path.{◌≡◌, refl, sym, ◌∙◌}
use mathlib.Core.Bool.{Bool, true, false, ◌&&◌, ◌||◌, false≢true}
use mathlib.Core.List.{List}
use Rattle.rules.specs.declared.Quantifier.{Quantifier}
use Rattle.rules.specs.declared.Quantifier.TheVariants.{None}
use Rattle.rules.specs.declared.GroupKind.{GroupKind}
use Rattle.rules.specs.declared.GroupKind.TheVariants.{Sequence, Choice}
use Rattle.rules.specs.Model.{Members, el, group, Equality, names, Distinct, skips, Some, Full}
use Rattle.rules.specs.Language.{Conforms}
use Rattle.rules.specs.Place.{Context, plug, kind_at, spine}
use Rattle.rules.specs.Edit.{lone, same_kind, ◌⊕◌, insert_off, remove_unmatched, quantify_off, quantify_group_off, group_unlike}
use Rattle.rules.proofs.AroundLaws.{leaves, unmatched_is}
use Rattle.rules.proofs.Children.{erase, inserted, requantified, group_requantified}
use Rattle.rules.specs.Quantifiers.{cuts, relaxes}
use Rattle.rules.proofs.Carry.{relax_element, relax_group}
use Rattle.rules.proofs.Pairs.{relaxes→}
use Rattle.rules.proofs.Inserting.{insert_kept}
use Rattle.rules.proofs.Removing.{remove_element_lem}
use Rattle.rules.proofs.Grouping.{Alike, group_alike}
use Rattle.rules.proofs.Fitting.{insert_needed, refit_element, refit_group_lem}
use borrow.Author.Tests.{not-false}

module _ {A : Type 0} (E : Equality A) (c : Context A) where
  pub insert_conforms : (q : Quantifier) (n : A) (t : Members A) → Distinct (names (plug c t)) → insert_off c q ≡ false → (w : List A) → Conforms (plug c t) w
      → Conforms (plug c (el q n t)) (inserted E c q n w)
  insert_conforms q n t d e w m = by (skips q) (spine c) refl refl
    where
      choice_or : (k : GroupKind) → (same_kind k Sequence && true) ≡ false → same_kind k Choice ≡ true
      choice_or Sequence z = absurd (false≢true (sym z))
      choice_or Choice z = refl

      by : (a b : Bool) → skips q ≡ a → spine c ≡ b → Conforms (plug c (el q n t)) (inserted E c q n w)
      by true b f g = rw (f, inserted) ((insert_kept Sequence c q n t (rw f)).carry w m)
      by false true f g = rw (f, inserted) (rw g (insert_needed E c g q n t d w m))
      by false false f g = rw (f, inserted) (rw g ((insert_kept Sequence c q n t (rw f (choice_or (kind_at Sequence c) (rw (f, g) at e)))).carry w m))

  pub remove_conforms : (q : Quantifier) (x : A) (t : Members A) → Distinct (names (plug c (el q x t))) → remove_unmatched c t ≡ false → (w : List A)
      → Conforms (plug c (el q x t)) w → Conforms (plug c t) (erase E x w)
  remove_conforms q x t d e w m = (remove_element_lem E x c q t d (not-false (leaves true Sequence c t) (sym (unmatched_is t c) ∙ e))).carry w m

  pub quantify_conforms : (q r : Quantifier) (x : A) (t : Members A) → Distinct (names (plug c (el q x t))) → quantify_off c q r ≡ false → (w : List A)
      → Conforms (plug c (el q x t)) w → Conforms (plug c (el r x t)) (requantified E c x q r w)
  quantify_conforms q r x t d e w m = by (relaxes q r) (spine c) refl refl
    where
      by : (a b : Bool) → relaxes q r ≡ a → spine c ≡ b → Conforms (plug c (el r x t)) (requantified E c x q r w)
      by a true f g = rw (g, requantified) (refit_element E c g q r x t d w m)
      by true false f g = rw (g, requantified) ((relax_element Sequence c x t (relaxes→ q r f)).carry w m)
      by false false f g = absurd (false≢true (sym (rw (f, g) at e)))

  pub group_conforms : (q r : Quantifier) (j : GroupKind) (ms t : Members A) → Distinct (names (plug c (group q j ms t))) → Full ms → Some ms → quantify_group_off c q r ≡ false
      → (w : List A) → Conforms (plug c (group q j ms t)) w → Conforms (plug c (group r j ms t)) (group_requantified E c q r j ms w)
  group_conforms q r j ms t d f o e w m = by (relaxes q r) (spine c) refl refl
    where
      left : (a b : Bool) → (a || b) ≡ false → a ≡ false
      left true b z = z
      left false b z = refl

      right : (a b : Bool) → (a || b) ≡ false → b ≡ false
      right true b z = absurd (false≢true (sym z))
      right false b z = z

      by : (a b : Bool) → relaxes q r ≡ a → spine c ≡ b → Conforms (plug c (group r j ms t)) (group_requantified E c q r j ms w)
      by a true p g = rw (g, group_requantified) (refit_group_lem E c g q r j ms t d f o (right (quantify_off c q r) (cuts q r) e) w m)
      by true false p g = rw (g, group_requantified) ((relax_group Sequence c j ms t (relaxes→ q r p)).carry w m)
      by false false p g = absurd (false≢true (sym (rw (p, g) at (left (quantify_off c q r) (cuts q r) e))))

  pub convert_conforms : (j : GroupKind) (s r : Members A) → group_unlike c j s ≡ false → Alike (Conforms (plug c (s ⊕ r))) (Conforms (plug c (group None j s r)))
  convert_conforms j s r e = group_alike Sequence c j s r (not-false (same_kind j (kind_at Sequence c) || lone s) e)
