-- A definition is in use: said by names, and by indices.
use Prim.Native.Nat.{ℕ, suc, ◌<◌}
use native.Mathlib.Omega.{arith}
use mathlib.Core.Path.{◌≡◌, refl, sym, ap, ap₂, ◌∙◌}
use mathlib.Core.Bool.{Bool, true, false, ◌&&◌, ◌||◌}
use mathlib.Core.List.{[], ◌∷◌, ◌++◌, map}
use lib.Dec.{eqb}
use lib.ListN.{length}
use borrow.Author.Tests.{ne_eqb}
use Rattle.rules.specs.declared.GroupKind.{GroupKind}
use Rattle.rules.specs.declared.GroupKind.TheVariants.{Sequence, Choice}
use Rattle.rules.specs.Bytes.{Bytes, same, bytes, any}
use Rattle.rules.specs.Model.{Members, done, el, group, names, member, Distinct}
use Rattle.rules.specs.Store.{Content, empty, pcdata, complex, Definition, Form, Row, Forest, bare, tree, Store, model_of, members, heads}
use Rattle.rules.specs.Preorder.{preorder}
use Rattle.rules.specs.Layout.{particles, content_particles, all_particles, indexed, flat, row_code, row_index, quantifier_code, group_code, how_many, value_width}
use Rattle.rules.specs.WellFormed.{definition_name}
use Rattle.rules.specs.Lines.{element_named}
use Rattle.rules.specs.Passing.{good}
use Rattle.rules.specs.Change.{name_at_index}
use Rattle.rules.proofs.BooleanLaws.{any_append, member_append}
use Rattle.rules.proofs.WellFormedLaws.{well_formed_lem}
use Rattle.change_laws.proofs.ConformingSimple.{good_tests}
use Rattle.store_check.proofs.IndexLaws.{index_same, element_test}
use Rattle.definition_removal.specs.Bodies.{is_member, is_root}

module _ (form : Form) (once : Distinct (map definition_name form)) (i : ℕ) (h : i < length form) where
  abbrev n : Bytes
  n = name_at_index i form

  -- ---- models
  group_not : (d q j : ℕ) (k : GroupKind) → is_member i (record { depth = d; row = record { sort = group_code k; quantifier = q; index = j } }) ≡ false
  group_not d q j Sequence = refl
  group_not d q j Choice = refl

  model_has : (d : ℕ) (ms : Members Bytes) → any (is_member i) (preorder d (particles form ms)) ≡ member bytes n (names ms)
  unfolding names member
  model_has d done = refl
  model_has d (el q m rest) =
      ap₂ (λ (b c : Bool). b || c) (index_same form once i h m) (model_has d rest) ∙ or_member (same n m) (member bytes n (names rest))
    where
      or_member : (b c : Bool) → (b || c) ≡ elim b as (λ z. Bool) [ true ↦ true | false ↦ c ]
      or_member true c = refl
      or_member false c = refl
  model_has d (group q c ms rest) =
      ap (λ (b : Bool). b || any (is_member i) (preorder (suc d) (particles form ms) ++ preorder d (particles form rest))) (group_not d (quantifier_code q) (how_many ms) c)
      ∙ any_append (is_member i) (preorder (suc d) (particles form ms)) (preorder d (particles form rest))
      ∙ ap₂ (λ (x y : Bool). x || y) (model_has (suc d) ms) (model_has d rest)
      ∙ sym (member_append n (names ms) (names rest))

  content_has : (c : Content) → any (is_member i) (content_particles form c) ≡ member bytes n (names (model_of c))
  unfolding names member
  content_has empty = refl
  content_has pcdata = refl
  content_has (complex ms) = model_has 0 ms

  models_have : (ds : Form) → any (is_member i) (all_particles form ds) ≡ any (λ (d : Definition). member bytes n (names (members d))) ds
  models_have [] = refl
  models_have (d ∷ ds) =
      any_append (is_member i) (content_particles form d.content) (all_particles form ds) ∙ ap₂ (λ (x y : Bool). x || y) (content_has d.content) (models_have ds)

  -- ---- roots
  deeper_not : (d : ℕ) (owner : Bytes) (f : Forest Row) → any (is_root i) (preorder (suc d) (indexed form owner f)) ≡ false
  deeper_not d owner bare = refl
  deeper_not d owner (tree r b t) =
      ap
      (λ (x : Bool). (x && (eqb (row_code r.sort) 1 && eqb (row_index form owner r) i))
      || any (is_root i) (preorder (suc (suc d)) (indexed form r.name b) ++ preorder (suc d) (indexed form owner t)))
      (ne_eqb (suc d) 0 (λ e. omega arith))
      ∙ any_append (is_root i) (preorder (suc (suc d)) (indexed form r.name b)) (preorder (suc d) (indexed form owner t))
      ∙ ap₂ (λ (x y : Bool). x || y) (deeper_not (suc d) r.name b) (deeper_not d owner t)

  roots_have : (owner : Bytes) (f : Forest Row) → any (is_root i) (preorder 0 (indexed form owner f)) ≡ any (element_named n) (heads f)
  roots_have owner bare = refl
  roots_have owner (tree r b t) =
      ap₂ (λ (u v : Bool). u || v) (element_test form once i h owner r)
      (any_append (is_root i) (preorder 1 (indexed form r.name b)) (preorder 0 (indexed form owner t)) ∙ ap₂ (λ (u v : Bool). u || v) (deeper_not 0 r.name b) (roots_have owner t))

module _ (s : Store) (g : good s ≡ true) (i : ℕ) (h : i < length s.form) where
  once : Distinct (map definition_name s.form)
  once = ((well_formed_lem (value_width s.version) s.form).0 (good_tests s g).form).names

  pub used_in_models : any (is_member i) (flat s).particles ≡ any (λ (d : Definition). member bytes (name_at_index i s.form) (names (members d))) s.form
  used_in_models = models_have s.form once i h s.form

  pub used_as_root : any (is_root i) (flat s).rows ≡ any (element_named (name_at_index i s.form)) (heads s.docs)
  used_as_root = roots_have s.form once i h [] s.docs
