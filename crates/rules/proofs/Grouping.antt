-- Members made a group, and a group made members: the language stays.
use mathlib.Core.Path.{◌≡◌, refl, sym, ap, ◌∙◌}
use mathlib.Core.Logic.{inl, inr, ⊎_elim}
use mathlib.Core.Bool.{true, ◌||◌, false≢true}
use mathlib.Core.List.{List, [], ◌++◌, append-nil, append_assoc}
use Rattle.rules.specs.declared.Quantifier.TheVariants.{None}
use Rattle.rules.specs.declared.GroupKind.{GroupKind}
use Rattle.rules.specs.declared.GroupKind.TheVariants.{Sequence, Choice}
use Rattle.rules.specs.Model.{Members, done, el, group}
use Rattle.rules.specs.Language.{Language, Then, Repeated, Joined, Ended, Matches}
use Rattle.rules.specs.Place.{Context, plug, kind_at}
use Rattle.rules.specs.Edit.{◌⊕◌, lone, same_kind}
use Rattle.rules.proofs.Carry.{◌⊑◌, unchanged, carry_joined, enlarge, within_self}
use Rattle.rules.proofs.AutoRepeat.{once, one←}

-- the same words
pub record Alike {A : Type 0} (L M : Language A) : Type 0 where
  pub to : L ⊑ M
  pub from : M ⊑ L

module _ {A : Type 0} where
  alike : {L M : Language A} → ((w : List A) → L w → M w) → ((w : List A) → M w → L w) → Alike L M
  alike f g = record { to = record { carry = f }; from = record { carry = g } }

  pub alike_self : (L : Language A) → Alike L L
  alike_self L = record { to = within_self L; from = within_self L }

  pub alike_sym : {L M : Language A} → Alike L M → Alike M L
  alike_sym a = record { to = a.from; from = a.to }

  pub alike_then : {L M N : Language A} → Alike L M → Alike M N → Alike L N
  alike_then a b = alike (λ w l. b.to.carry w (a.to.carry w l)) (λ w n. a.from.carry w (b.from.carry w n))

  pub alike_joined : (k : GroupKind) {L M L' M' : Language A} → Alike L L' → Alike M M' → Alike (Joined k L M) (Joined k L' M')
  alike_joined k a b = record { to = carry_joined unchanged k a.to b.to; from = carry_joined unchanged k a.from b.from }

  pub joined_done : (k : GroupKind) (L : Language A) → Alike (Joined k (Ended k) L) L
  joined_done Sequence L = alike (λ w t. rw (sym (ap (λ (z : List A). z ++ t.1) t.3) ∙ t.2) at t.4) (λ w l. ([], w, refl, refl, l))
  joined_done Choice L = alike (λ w. ⊎_elim (λ z. absurd z) (λ l. l)) (λ w l. inr l)

  pub joined_end : (k : GroupKind) (L : Language A) → Alike (Joined k L (Ended k)) L
  joined_end Sequence L = alike (λ w t. let e : t.0 ≡ w = cc (append-nil t.0, t.2, t.4) in rw e at t.3) (λ w l. (w, [], append-nil w, l, refl))
  joined_end Choice L = alike (λ w. ⊎_elim (λ l. l) (λ z. absurd z)) (λ w l. inl l)

  pub joined_assoc : (k : GroupKind) (L M N : Language A) → Alike (Joined k (Joined k L M) N) (Joined k L (Joined k M N))
  joined_assoc Sequence L M N = alike to from
    where
      to : (w : List A) → Then (Then L M) N w → Then L (Then M N) w
      to w (u, v, e, (a, b, f, l, m), n) = (a, b ++ v, cc (append_assoc a b v), l, (b, v, refl, m, n))

      from : (w : List A) → Then L (Then M N) w → Then (Then L M) N w
      from w (u, v, e, l, (a, b, f, m, n)) = (u ++ a, b, cc (append_assoc u a b), (u, a, refl, l, m), n)
  joined_assoc Choice L M N =
      alike (λ w. ⊎_elim (⊎_elim (λ l. inl l) (λ m. inr (inl m))) (λ n. inr (inr n))) (λ w. ⊎_elim (λ l. inl (inl l)) (⊎_elim (λ m. inl (inr m)) (λ n. inr n)))

  pub repeated_once : (L : Language A) → Alike (Repeated None L) L
  repeated_once L = alike (λ w r. once w r) (λ w l. (1, refl, one← w l))

  pub append_alike : (k : GroupKind) (s r : Members A) → Alike (Matches k (s ⊕ r)) (Joined k (Matches k s) (Matches k r))
  unfolding Matches ◌⊕◌
  append_alike k done r = alike_sym (joined_done k (Matches k r))
  append_alike k (el q n s) r = alike_then (alike_joined k (alike_self _) (append_alike k s r)) (alike_sym (joined_assoc k _ _ _))
  append_alike k (group q j ms s) r = alike_then (alike_joined k (alike_self _) (append_alike k s r)) (alike_sym (joined_assoc k _ _ _))

  -- one member is the same in a LIST and in a CHOICE
  lone_alike : (j k : GroupKind) (s : Members A) → lone s ≡ true → Alike (Matches j s) (Matches k s)
  unfolding Matches
  lone_alike j k done e = absurd (false≢true e)
  lone_alike j k (el q n done) e = alike_then (joined_end j _) (alike_sym (joined_end k _))
  lone_alike j k (el q n (el q' n' s)) e = absurd (false≢true e)
  lone_alike j k (el q n (group q' i ms s)) e = absurd (false≢true e)
  lone_alike j k (group q i ms done) e = alike_then (joined_end j _) (alike_sym (joined_end k _))
  lone_alike j k (group q i ms (el q' n' s)) e = absurd (false≢true e)
  lone_alike j k (group q i ms (group q' i' ms' s)) e = absurd (false≢true e)

  kind_alike : (j k : GroupKind) (s : Members A) → (same_kind j k || lone s) ≡ true → Alike (Matches j s) (Matches k s)
  kind_alike Sequence Sequence s e = alike_self _
  kind_alike Sequence Choice s e = lone_alike Sequence Choice s e
  kind_alike Choice Sequence s e = lone_alike Choice Sequence s e
  kind_alike Choice Choice s e = alike_self _

  here_alike : (i j : GroupKind) (s r : Members A) → (same_kind j i || lone s) ≡ true → Alike (Matches i (s ⊕ r)) (Matches i (group None j s r))
  unfolding Matches
  here_alike i j s r e = alike_then (append_alike i s r) (alike_joined i (alike_then (alike_sym (kind_alike j i s e)) (alike_sym (repeated_once _))) (alike_self _))

  pub alike_plug : (k : GroupKind) (c : Context A) (t t' : Members A) → Alike (Matches (kind_at k c) t) (Matches (kind_at k c) t') → Alike (Matches k (plug c t)) (Matches k (plug c t'))
  alike_plug k c t t' a = record { to = enlarge k c t t' a.to; from = enlarge k c t' t a.from }

  -- 6 AND 7: members `s` before `r`, as an unquantified group or one by one
  pub group_alike : (k : GroupKind) (c : Context A) (j : GroupKind) (s r : Members A) → (same_kind j (kind_at k c) || lone s) ≡ true
      → Alike (Matches k (plug c (s ⊕ r))) (Matches k (plug c (group None j s r)))
  group_alike k c j s r e = alike_plug k c (s ⊕ r) (group None j s r) (here_alike (kind_at k c) j s r e)
