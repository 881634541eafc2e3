-- What a well-formed form writes into the particle body passes the tests of a model's part.
use Prim.Native.Nat.{ℕ, suc, ◌≤◌}
use native.Mathlib.Omega.{arith}
use mathlib.Core.Path.{◌≡◌, refl, ap, ap₂, ◌∙◌, sym, subst}
use mathlib.Core.Logic.{◌⊎◌, inl, inr}
use mathlib.Core.Bool.{true, false, not}
use mathlib.Core.List.Memᴰ
use mathlib.Core.List.{List, [], ◌∷◌, ◌++◌, map, Memᴰ, append_assoc, map-append}
use lib.Dec.{leb}
use lib.ListN.{length, length-append}
use lib.Seq.{take-append_seam, drop-append_seam}
use borrow.Author.Tests.{le-leb, lt-ltb, eq-eqb}
use Rattle.rules.specs.declared.Quantifier.{Quantifier}
use Rattle.rules.specs.declared.Quantifier.TheVariants.{None, Qmark, Star, Plus}
use Rattle.rules.specs.declared.GroupKind.{GroupKind}
use Rattle.rules.specs.declared.GroupKind.TheVariants.{Sequence, Choice}
use Rattle.rules.specs.Bytes.{Bytes, all, is_none, numbers}
use Rattle.rules.specs.Model.{Members, done, el, group, names, Distinct, distinct, Some, Full}
use Rattle.rules.specs.Store.{Content, empty, pcdata, complex, Form, Forest, bare, tree, heads, model_of, members}
use Rattle.rules.specs.Preorder.{Deep, preorder}
use Rattle.rules.specs.Layout.{FlatParticle, quantifier_code, group_code, kind_code, index_of, how_many, particles, content_particles, flat_definition, all_particles}
use Rattle.rules.specs.WellFormed.{known, stored_name}
use Rattle.rules.proofs.Words.{and_both}
use Rattle.rules.proofs.BooleanLaws.{Every, all_left, all_right}
use Rattle.rules.proofs.TestLaws.{distinct_test}
use Rattle.rules.proofs.PreorderLaws.{build_preorder, rising, preorder_rises}
use Rattle.model_check.specs.ModelTests.{particle_fits, shaped, elements_in, model_fits}
use Rattle.form_check.specs.FormTests.{models_fit}
use Rattle.store_check.specs.Reading.{DefinitionFits}
use Rattle.store_check.proofs.IndexLaws.{known_index, index_once, distinct_map}
use Rattle.circle_check.proofs.ReadLaws.{elements_append}

pub rising_preorder : {A : Type 0} (d k : ℕ) (t : Forest A) (rest : List (Deep A)) → d ≤ k → ((j : ℕ) → d ≤ j → rising j rest ≡ true) → rising k (preorder d t ++ rest) ≡ true
rising_preorder d k bare rest l h = h k l
rising_preorder {A} d k (tree r b t) rest l h =
    and_both (le-leb d k l)
    (subst (λ (z : List (Deep A)). rising (suc d) z ≡ true) (sym (append_assoc (preorder (suc d) b) (preorder d t) rest))
    (rising_preorder (suc d) (suc d) b (preorder d t ++ rest) (omega arith) (λ j m. rising_preorder d j t rest (omega arith) h)))

quantifier_most : (q : Quantifier) → leb (quantifier_code q) 3 ≡ true
quantifier_most None = refl
quantifier_most Qmark = refl
quantifier_most Star = refl
quantifier_most Plus = refl

module _ (form : Form) where
  many_heads : (ms : Members Bytes) → length (heads (particles form ms)) ≡ how_many ms
  many_heads done = refl
  many_heads (el q n rest) = ap suc (many_heads rest)
  many_heads (group q k ms rest) = ap suc (many_heads rest)

  some_heads : (ms : Members Bytes) → Some ms → is_none (heads (particles form ms)) ≡ false
  some_heads done s = absurd s
  some_heads (el q n rest) s = refl
  some_heads (group q k ms rest) s = refl

  element_fits_lem : (q : Quantifier) (n : Bytes) → known form n ≡ true → particle_fits (length form) (record { sort = 0; quantifier = quantifier_code q; index = index_of n form }) [] ≡ true
  element_fits_lem q n h = and_both (quantifier_most q) (and_both (lt-ltb (index_of n form) (length form) (known_index form n h).below) refl)

  group_fits : (q : Quantifier) (k : GroupKind) (ms : Members Bytes) → Some ms
      → particle_fits (length form) (record { sort = group_code k; quantifier = quantifier_code q; index = how_many ms }) (heads (particles form ms)) ≡ true
  group_fits q Sequence ms s = and_both (quantifier_most q) (and_both (eq-eqb (how_many ms) (length (heads (particles form ms))) (sym (many_heads ms))) (ap not (some_heads ms s)))
  group_fits q Choice ms s = and_both (quantifier_most q) (and_both (eq-eqb (how_many ms) (length (heads (particles form ms))) (sym (many_heads ms))) (ap not (some_heads ms s)))

  abbrev pub Known : Members Bytes → Type 0
  Known ms = (m : Bytes) → Memᴰ m (names ms) → known form m ≡ true

  shaped_written : (ms : Members Bytes) → Known ms → Full ms → shaped (length form) (particles form ms) ≡ true
  unfolding names Full shaped
  shaped_written done h f = refl
  shaped_written (el q n rest) h f = and_both (element_fits_lem q n (h n (Memᴰ.head refl))) (shaped_written rest (λ m i. h m (Memᴰ.tail i)) f)
  shaped_written (group q k ms rest) h (s, f, g) =
      and_both (group_fits q k ms s)
      (and_both (shaped_written ms (λ m i. h m (Memᴰ.append_left (names rest) i)) f) (shaped_written rest (λ m i. h m (Memᴰ.append_right (names ms) i)) g))

  elements_written : (d : ℕ) (ms : Members Bytes) → elements_in (preorder d (particles form ms)) ≡ map (λ n. index_of n form) (names ms)
  unfolding names elements_in
  elements_written d done = refl
  elements_written d (el q n rest) = ap (λ (z : List ℕ). index_of n form ∷ z) (elements_written d rest)
  elements_written d (group q k ms rest) =
      past k
      ∙ elements_append (preorder (suc d) (particles form ms)) (preorder d (particles form rest))
      ∙ ap₂ (λ (u v : List ℕ). u ++ v) (elements_written (suc d) ms) (elements_written d rest)
      ∙ sym (map-append (λ n. index_of n form) (names ms) (names rest))
    where
      past : (k : GroupKind) → elements_in (preorder d (particles form (group q k ms rest))) ≡ elements_in (preorder (suc d) (particles form ms) ++ preorder d (particles form rest))
      past Sequence = refl
      past Choice = refl

  -- what a well-formed form has of a model
  pub record ModelGood (ms : Members Bytes) : Type 0 where
    pub in_range : Known ms
    pub once : Distinct (names ms)
    pub groups : Full ms

  pub model_written : (c : Content) → ModelGood (model_of c) → all (λ (p : Deep FlatParticle). leb p.depth 4) (content_particles form c) ≡ true
      → model_fits (length form) (content_particles form c) ≡ true
  unfolding model_fits shaped elements_in distinct
  model_written empty g h = refl
  model_written pcdata g h = refl
  model_written (complex ms) g h =
      and_both h
      (and_both (preorder_rises (particles form ms))
      (and_both (ap (λ (z : Forest FlatParticle). shaped (length form) z) (build_preorder (particles form ms)) ∙ shaped_written ms g.in_range g.groups)
      ((distinct_test numbers (elements_in (preorder 0 (particles form ms)))).1
      (rw (elements_written 0 ms)
      (distinct_map (λ n. index_of n form) (names ms) (λ x y i j e. index_once form x y (g.in_range x i) (g.in_range y j) e) g.once)))))

  pub models_written : (fs : Form) → Every (λ d. ModelGood (members d)) fs → all (λ (p : Deep FlatParticle). leb p.depth 4) (all_particles form fs) ≡ true
      → models_fit (length form) (map (flat_definition form) fs) (all_particles form fs) ≡ true
  unfolding models_fit
  models_written [] g h = refl
  models_written (d ∷ fs) g h =
      and_both (le-leb (length part) (length (part ++ all_particles form fs)) (omega (arith, length-append part (all_particles form fs))))
      (rw (take-append_seam part (all_particles form fs), drop-append_seam part (all_particles form fs))
      (and_both (model_written d.content g.0 (all_left (λ (p : Deep FlatParticle). leb p.depth 4) part (all_particles form fs) h))
      (models_written fs g.1 (all_right (λ (p : Deep FlatParticle). leb p.depth 4) part (all_particles form fs) h))))
    where
      part : List (Deep FlatParticle)
      part = content_particles form d.content

  kind_written : (c : Content) → (kind_code c ≤ 2) × ((kind_code c ≡ 2) ⊎ (length (content_particles form c) ≡ 0))
  kind_written empty = (omega arith, inr refl)
  kind_written pcdata = (omega arith, inr refl)
  kind_written (complex ms) = (omega arith, inl refl)

  pub definitions_written : (fs : Form) → Every (λ d. stored_name d.name ≡ true) fs → Every DefinitionFits (map (flat_definition form) fs)
  definitions_written [] h = tt
  definitions_written (d ∷ fs) h = (record { name = h.0; kind = (kind_written d.content).0; part = (kind_written d.content).1 }, definitions_written fs h.1)
