-- The elements of documents that conform to a form stand no deeper than its chains of members are long.
use Prim.Native.Nat.{ℕ, zero, suc, ◌+◌, ◌<◌, ◌≤◌}
use native.Mathlib.Omega.{arith}
use mathlib.Core.Path.{◌≡◌, refl, ap, ◌∙◌, sym, subst}
use mathlib.Core.Logic.{⊎_elim}
use mathlib.Core.Bool.{Bool, true, false, ◌&&◌, false≢true}
use mathlib.Core.List.Memᴰ
use mathlib.Core.List.{List, [], ◌∷◌, cons≢nil, Memᴰ}
use lib.Dec.{ltb, eqb}
use borrow.Author.Tests.{lt-ltb, eq-eqb, eqb-true}
use Rattle.rules.specs.Bytes.{all}
use Rattle.rules.specs.declared.GroupKind.TheVariants.{Sequence}
use Rattle.rules.specs.Model.{Members, names}
use Rattle.rules.specs.Store.{Forest, bare, tree, heads}
use Rattle.rules.specs.Preorder.{Deep, preorder}
use Rattle.rules.specs.Layout.{FlatRow}
use Rattle.rules.proofs.Words.{and_both, and_split}
use Rattle.rules.proofs.BooleanLaws.{all_append}
use Rattle.rules.proofs.Letters.{letters}
use Rattle.form_index.specs.Indices.{IndexForm, index_of_row, Sort, ContentOf, AttributeRowsOf, Below, Everywhere, Documents}
use Rattle.circle_check.specs.Deep.{deep_index}
use Rattle.circle_check.proofs.RoundLaws.{deep_index_member}
use Rattle.row_step.specs.Steps.{element_fits}
use Rattle.row_check.proofs.JudgeLaws.{UnderAs}
use Rattle.row_check.proofs.Children.{sort_none, sort_more}

module _ (f : IndexForm) where
  -- the elements among rows are of definitions whose chains of members end within h definitions
  abbrev EndWithin : ℕ → List FlatRow → Type 0
  EndWithin h rs = (r : FlatRow) → Memᴰ r rs → r.sort ≡ 1 → deep_index (λ k. names (f.model k)) f.size h r.index ≡ true

  -- ---- the rows right below an element
  owned_sort : (i a : ℕ) (rs : List FlatRow) → AttributeRowsOf f i a rs → Sort 2 rs
  owned_sort i a [] o = sort_none
  owned_sort i a (r ∷ rs) (s, low, known, own, allowed, o) = sort_more s (owned_sort i (suc r.index) rs o)

  -- an element among the content is of a definition that the model names
  content_names : (k : ℕ) (ms : Members ℕ) (rs : List FlatRow) → ContentOf k ms rs → (r : FlatRow) → Memᴰ r rs → r.sort ≡ 1 → Memᴰ r.index (names ms)
  content_names zero ms rs c r m s = absurd (Memᴰ.not-nil (rw c at m))
  content_names (suc zero) ms rs (t, e, text) r m s =
      let z : r ≡ t = Memᴰ.eq_of_singleton (rw e at m) in
      absurd (let y : r.sort ≡ 3 = ap (λ (x : FlatRow). x.sort) z ∙ text in omega arith)
  content_names (suc (suc k)) ms rs (only, word) r m s = (letters Sequence ms).inside _ word r.index (Memᴰ.map index_of_row m)

  -- below an element whose chains end within h + 1 definitions, those of its children end within h
  below_within : (h i : ℕ) (rs : List FlatRow) → deep_index (λ k. names (f.model k)) f.size (suc h) i ≡ true → Below f i rs → EndWithin h rs
  below_within h i rs e b r m s =
      ⊎_elim
      (λ a. absurd (let z : r.sort ≡ 2 = owned_sort i 0 b.front b.owned r a in omega arith))
      (λ c. deep_index_member (λ k. names (f.model k)) f.size h e (content_names (f.kind i) (f.model i) b.back b.content r c s))
      (Memᴰ.append_cases b.front (rw (← b.split) at m))

  -- ---- a forest
  -- a forest with no rows at its top has none
  none_below : (d : ℕ) (b : Forest FlatRow) → heads b ≡ [] → all (element_fits f.size) (preorder d b) ≡ true
  none_below d bare e = refl
  none_below d (tree r b t) e = absurd (cons≢nil e)

  -- a row, by whether it is an element, and the rows below it
  row_fits_lem : (d h : ℕ) (r : FlatRow) (b : Forest FlatRow) (c : Bool) → eqb r.sort 1 ≡ c → d + h ≤ 64
      → (r.sort ≡ 1 → deep_index (λ k. names (f.model k)) f.size h r.index ≡ true) → UnderAs f c r.index (heads b)
      → ((k : ℕ) → suc d + k ≤ 64 → EndWithin k (heads b) → all (element_fits f.size) (preorder (suc d) b) ≡ true)
      → (elim c [ true ↦ ltb d 64 && ltb r.index f.size | false ↦ true ] && all (element_fits f.size) (preorder (suc d) b)) ≡ true
  unfolding deep_index
  row_fits_lem d zero r b true e l deep under more = absurd (false≢true (deep (eqb-true r.sort 1 e)))
  row_fits_lem d (suc h) r b true e l deep under more =
      and_both (and_both (lt-ltb d 64 (omega arith)) (lt-ltb r.index f.size under.known))
      (more h (omega arith) (below_within h r.index (heads b) (deep (eqb-true r.sort 1 e)) under))
  row_fits_lem d h r b false e l deep under more = none_below (suc d) b under

  -- d elements stand around a forest, and no chain of members from the elements at its top is longer than what is left
  -- of 64
  forest_fits : (t : Forest FlatRow) (d h : ℕ) → d + h ≤ 64 → EndWithin h (heads t) → Everywhere f t → all (element_fits f.size) (preorder d t) ≡ true
  unfolding Everywhere
  forest_fits bare d h l w v = refl
  forest_fits (tree r b t) d h l w (under, below, beside) =
      let (here, inside) = and_split (element_fits f.size (record { depth = d; row = r })) (all (element_fits f.size) (preorder (suc d) b))
      (row_fits_lem d h r b (eqb r.sort 1) refl l (w r (Memᴰ.head refl)) under (λ k g u. forest_fits b (suc d) k g u below)) in
      and_both here (all_append (element_fits f.size) (preorder (suc d) b) (preorder d t) ∙ and_both inside (forest_fits t d h l (λ x m. w x (Memᴰ.tail m)) beside))

  -- the elements at the top are of definitions
  heads_known : (t : Forest FlatRow) → Everywhere f t → (r : FlatRow) → Memᴰ r (heads t) → r.sort ≡ 1 → r.index < f.size
  unfolding Everywhere
  heads_known bare v r m s = absurd (Memᴰ.not-nil m)
  heads_known (tree x b t) (under, below, beside) r m s = ⊎_elim (λ e. first e) (λ k. heads_known t beside r k s) (Memᴰ.cases_cons m)
    where
      first : r ≡ x → r.index < f.size
      first e =
          let at : x.sort ≡ 1 = ap (λ (z : FlatRow). z.sort) (sym e) ∙ s in
          let known : x.index < f.size = (subst (λ (c : Bool). UnderAs f c x.index (heads b)) (eq-eqb x.sort 1 at) under).known in
          rw e known

-- THE DEPTH: where no chain of members is longer than the definitions are many, and these are at most 64, the elements
-- of documents fit
pub elements_fit : (f : IndexForm) → f.size ≤ 64 → ((i : ℕ) → i < f.size → deep_index (λ k. names (f.model k)) f.size f.size i ≡ true)
    → (xs : List (Deep FlatRow)) → Documents f xs → all (element_fits f.size) xs ≡ true
elements_fit f few deep xs d =
    ap (λ (l : List (Deep FlatRow)). all (element_fits f.size) l) (sym d.rows)
    ∙ forest_fits f d.docs 0 f.size (omega arith) (λ r m s. deep r.index (heads_known f d.docs d.everywhere r m s)) d.everywhere
