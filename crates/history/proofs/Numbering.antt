-- New rows have no serial, and get the next serials in document order;
-- serials that stand once each, from 1 and below the next one.
use Prim.Native.Nat.{ℕ, ◌+◌, ◌≤◌, ◌<◌}
use native.Mathlib.Omega.{arith}
use native.Mathlib.Decide.{dec_le}
use mathlib.Core.Path.{◌≡◌, refl, ap, ap₂, ◌∙◌, sym}
use mathlib.Core.Bool.{Bool}
use mathlib.Core.Option.{Option, none, some}
use mathlib.Core.List.{List, [], ◌∷◌, ◌++◌, map, map-append, Memᴰ}
use lib.ListN.{length}
use Rattle.rules.specs.declared.Quantifier.{Quantifier}
use Rattle.rules.specs.Bytes.{Bytes, eqb_of}
use Rattle.rules.specs.Model.{Members, done, el, group, Distinct}
use Rattle.rules.specs.Place.{Context, Found}
use Rattle.rules.specs.Edit
use Rattle.rules.specs.Edit.{place_of}
use Rattle.rules.specs.Store.{Form, Row, Forest, bare, tree, members}
use Rattle.rules.specs.Decode.{quantifier_of}
use Rattle.rules.specs.Conforming.{EveryRow}
use Rattle.rules.specs.Filling.{fill_definition}
use Rattle.rules.specs.Passing.{serials}
use Rattle.rules.specs.Lines.{Line, lines, element_named, attribute_named, element_with, children_of}
use Rattle.rules.specs.Change
use Rattle.rules.specs.Change.{Call, definition_at, name_at_index, Owned, attribute_at, Plan, insert_plan, remove_plan, group_filling, quantify_plan, picked_plan, set_at}
use Rattle.rules.specs.Change.{set_plan, drop_plan, plan, is_new, new_rows, given, number}
use Rattle.rules.proofs.FillingLaws.{every_each, filling_serials}
use Rattle.history.specs.History.{serial_of}
use Rattle.history.proofs.NumberTests.{ones, times, times_in, times_out, distinct_times, range, range_append, range_below, range_above, range_once}

-- rows without a serial only
abbrev pub Blank : Forest Row → Type 0
Blank f = EveryRow (λ r b. r.serial ≡ 0) f

-- ---- the rows that a plan makes
blank_fill : (version : ℕ) (form : Form) (txt n : Bytes) → Blank (fill_definition version form txt n)
blank_fill version form txt n = filling_serials version (length form) form txt n

blank_insert : (version : ℕ) (form : Form) (owner txt : Bytes) (q : Quantifier) (n : Bytes) (o : Option (Found Bytes)) → Blank (insert_plan version form owner txt q n o).filling
blank_insert version form owner txt q n none = tt
blank_insert version form owner txt q n (some f) = blank_fill version form txt n

blank_remove : (owner : Bytes) (t : Members Bytes) → Blank (remove_plan owner t).filling
blank_remove owner done = tt
blank_remove owner (el q x rest) = tt
blank_remove owner (group q k ms rest) = tt

blank_quantify : (version : ℕ) (form : Form) (ls : List Line) (owner txt : Bytes) (new : Quantifier) (c : Context Bytes) (t : Members Bytes)
    → Blank (quantify_plan version form ls owner txt new c t).filling
blank_quantify version form ls owner txt new c done = tt
blank_quantify version form ls owner txt new c (el old x rest) = blank_fill version form txt x
blank_quantify version form ls owner txt new c (group old k ms rest) =
    every_each (λ r b. r.serial ≡ 0) (λ n. fill_definition version form txt n) (group_filling new k ms) (λ n i. blank_fill version form txt n)

blank_picked : (f : Context Bytes → Members Bytes → Plan) → ((c : Context Bytes) (t : Members Bytes) → Blank (f c t).filling) → (o : Option (Found Bytes)) → Blank (picked_plan f o).filling
blank_picked f x none = tt
blank_picked f x (some y) = x y.context y.picked

-- changes 5 and 8
blank_requantify : (version : ℕ) (form : Form) (ls : List Line) (o : ℕ) (txt : Bytes) (q : Quantifier) (x : Option (Found Bytes))
    → Blank (picked_plan (quantify_plan version form ls (name_at_index o form) txt q) x).filling
blank_requantify version form ls o txt q x = blank_picked (quantify_plan version form ls (name_at_index o form) txt q) (blank_quantify version form ls (name_at_index o form) txt q) x

blank_set : (ls : List Line) (k : ℕ) (v : Bytes) (o : Option Owned) → Blank (set_plan ls k v o).filling
blank_set ls k v none = tt
blank_set ls k v (some o) = by (children_of (attribute_named o.attribute.name) k ls)
  where
    by : (ss : List ℕ) → Blank (set_at k o v ss).filling
    by [] = (refl, tt, tt)
    by (s ∷ ss) = tt

blank_drop : (above : Owned → Row → Bool) (o : Option Owned) → Blank (drop_plan above o).filling
blank_drop above none = tt
blank_drop above (some o) = tt

pub blank_plan : (c : Call) (version : ℕ) (form : Form) (ls : List Line) → Blank (plan c version form ls).filling
unfolding plan
blank_plan (Change.create_definition n k) version form ls = tt
blank_plan (Change.destroy_definition i) version form ls = tt
blank_plan (Change.insert_element o p i q t) version form ls =
    blank_insert version form (name_at_index o form) t (quantifier_of q) (name_at_index i form) (place_of (Edit.insert (quantifier_of q) (name_at_index i form)) p (members (definition_at o form)))
blank_plan (Change.remove_element o p) version form ls =
    blank_picked (λ c t. remove_plan (name_at_index o form) t) (λ c t. blank_remove (name_at_index o form) t) (place_of Edit.remove p (members (definition_at o form)))
blank_plan (Change.change_quantifier o p q t) version form ls = blank_requantify version form ls o t (quantifier_of q) (place_of (Edit.quantify (quantifier_of q)) p (members (definition_at o form)))
blank_plan (Change.convert_to_group o p n k) version form ls = tt
blank_plan (Change.flatten_group o p) version form ls = tt
blank_plan (Change.change_group_quantifier o p q t) version form ls = blank_requantify version form ls o t (quantifier_of q) (place_of (Edit.quantify (quantifier_of q)) p (members (definition_at o form)))
blank_plan (Change.add_attribute o n k v) version form ls = (refl, tt, tt)
blank_plan (Change.destroy_attribute a) version form ls = blank_drop (λ o u. element_named o.owner.name u) (attribute_at a form)
blank_plan (Change.add_document i t) version form ls = blank_fill version form t (name_at_index i form)
blank_plan (Change.add_element k j i t) version form ls = blank_fill version form t (name_at_index i form)
blank_plan (Change.destroy_element k) version form ls = tt
blank_plan (Change.set_attribute k a v) version form ls = blank_set ls k v (attribute_at a form)
blank_plan (Change.destroy_attribute_row k a) version form ls = blank_drop (λ o u. element_with k u) (attribute_at a form)
blank_plan (Change.set_text k t) version form ls = tt

-- ---- their serials
new_one : (r : Row) → r.serial ≡ 0 → is_new r ≡ 1
new_one r e = ap ones (eqb_of r.serial 0 e)

given_new : (n : ℕ) (r : Row) → r.serial ≡ 0 → (given n r).serial ≡ n
unfolding given
given_new n r e = rw (eqb_of r.serial 0 e, given)

range_parts : (n m a b : ℕ) → m ≡ 1 → n ∷ (range (n + m) a ++ range (n + (m + a)) b) ≡ range n (m + (a + b))
unfolding range
range_parts n m a b e =
    let f : n + (m + a) ≡ n + m + a = omega arith in
    rw (f, ← (range_append (n + m) a b), e) (sym (range_append n 1 (a + b)))

-- 'New rows get serials in document order'
pub number_serials : (n : ℕ) (f : Forest Row) → Blank f → serials (number n f) ≡ range n (new_rows f)
unfolding number new_rows range
number_serials n bare x = refl
number_serials n (tree r b t) (x, y, z) =
    ap₂ (λ (k : ℕ) (ks : List ℕ). k ∷ ks) (given_new n r x)
    (ap₂ (λ (u v : List ℕ). u ++ v) (number_serials (n + is_new r) b y) (number_serials (n + (is_new r + new_rows b)) t z))
    ∙ range_parts n (is_new r) (new_rows b) (new_rows t) (new_one r x)

pub lines_serials : (up : ℕ) (f : Forest Row) → map (λ (l : Line). serial_of l) (lines up f) ≡ serials f
lines_serials up bare = refl
lines_serials up (tree r b t) =
    ap (λ (ks : List ℕ). r.serial ∷ ks)
    (map-append (λ (l : Line). serial_of l) (lines r.serial b) (lines up t) ∙ ap₂ (λ (u v : List ℕ). u ++ v) (lines_serials r.serial b) (lines_serials up t))

-- ---- serials given so far: once each, from 1, below the next
pub record Spent (next : ℕ) (ks : List ℕ) : Type 0 where
  pub least : 1 ≤ next
  pub once : (k : ℕ) → times k ks ≤ 1
  pub zero : times 0 ks ≡ 0
  pub above : (k : ℕ) → next ≤ k → times k ks ≡ 0

module _ {next : ℕ} {ks : List ℕ} where
  pub spent : 1 ≤ next → Distinct ks → ((k : ℕ) → Memᴰ k ks → (1 ≤ k) × (k < next)) → Spent next ks
  spent h d f =
      record {
        least = h;
        once = (distinct_times ks).0 d;
        zero = times_out 0 ks (λ m. let (a, b) = f 0 m in omega arith);
        above = λ k l. times_out k ks (λ m. let (a, b) = f k m in omega arith);
      }

  pub spent_distinct : Spent next ks → Distinct ks
  spent_distinct s = (distinct_times ks).1 s.once

  pub spent_below : Spent next ks → (k : ℕ) → Memᴰ k ks → (1 ≤ k) × (k < next)
  spent_below s k m = by k (dec_le 1 k) (dec_le next k) (times_in k ks m)
    where
      by : (k : ℕ) → Dec (1 ≤ k) → Dec (next ≤ k) → 1 ≤ times k ks → (1 ≤ k) × (k < next)
      by k (no i) j x = let e : k ≡ 0 = omega arith in let y : 1 ≤ times 0 ks = rw e at x in absurd (let z : ⊥ = omega (arith, s.zero) in z)
      by k (yes i) (yes j) x = absurd (let z : ⊥ = omega (arith, s.above k j) in z)
      by k (yes i) (no j) x = (i, omega arith)

  -- some of them
  pub spent_part : {js : List ℕ} → Spent next ks → ((k : ℕ) → times k js ≤ times k ks) → Spent next js
  spent_part s f =
      record { least = s.least; once = λ k. omega (arith, f k, s.once k); zero = omega (arith, f 0, s.zero); above = λ k h. omega (arith, f k, s.above k h) }

  -- and the next m
  pub spent_more : {js : List ℕ} (m : ℕ) → Spent next ks → ((k : ℕ) → times k js ≡ times k ks + times k (range next m)) → Spent (next + m) js
  spent_more {js} m s f =
      record {
        least = omega (arith, s.least);
        once = λ k. by k (dec_le next k);
        zero = omega (arith, f 0, s.zero, range_below 0 next m (omega (arith, s.least)));
        above = λ k h. omega (arith, f k, s.above k (omega arith), range_above k next m h);
      }
    where
      by : (k : ℕ) → Dec (next ≤ k) → times k js ≤ 1
      by k (yes i) = omega (arith, f k, s.above k i, range_once k next m)
      by k (no i) = omega (arith, f k, s.once k, range_below k next m (omega arith))
