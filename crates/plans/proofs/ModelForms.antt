-- An edit of one model: no index moves. Elements and their marks, by index and by name.
use Prim.Native.Nat.{ℕ, ◌<◌}
use mathlib.Core.Path.{◌≡◌, refl, sym, ap, ◌∙◌, subst}
use mathlib.Core.Bool.{true, ◌&&◌, not}
use mathlib.Core.Option.{some}
use mathlib.Core.List.Memᴰ
use mathlib.Core.List.{List, ◌++◌, map, Memᴰ}
use lib.Dec.{eqb}
use lib.ListN.{length, get_or}
use Rattle.rules.specs.Bytes.{Bytes, bytes}
use Rattle.rules.specs.Model.{Members, names, Distinct, member}
use Rattle.rules.specs.Place.{Found, before_place, after_place}
use Rattle.rules.specs.Store.{Form, RowSort, element, attribute, text, Row, Forest, heads, Store, members}
use Rattle.rules.specs.Layout.{row_code, row_index, index_of}
use Rattle.rules.specs.WellFormed.{definition_name, is_there, known}
use Rattle.rules.specs.Conforming.{is_element, RowConforms}
use Rattle.rules.specs.Lines.{element_named}
use Rattle.rules.specs.Passing.{good}
use Rattle.rules.specs.Edit.{Edit, place_of}
use Rattle.rules.specs.Change.{definition_at, name_at_index}
use Rattle.rules.proofs.Apart.{names_plug}
use Rattle.rules.proofs.WellFormedLaws.{definition_stands}
use Rattle.rules.proofs.PassingLaws.{good_is}
use Rattle.change_laws.proofs.Rowwise.{Standing}
use Rattle.change_laws.proofs.ModelAfter.{place_right}
use Rattle.store_check.proofs.IndexLaws.{Indexed, known_index, name_of_lem, element_test}
use Rattle.store_check.proofs.AttributeRows.{row_written}
use Rattle.row_walk.specs.declared.Which.TheVariants.{Elements}
use Rattle.row_walk.specs.declared.Later.TheVariants.{Unmarked}
use Rattle.row_walk.specs.Walk.{matches, place_mark, is_later}
use Rattle.plans.specs.ModelCalls.{Marked}
use Rattle.rules.proofs.ConformingLaws.{is_element_lem}
use Rattle.change_laws.proofs.StandingLaws.{standing_every}

-- ---- what stands in the documents
-- an element is one of a definition
pub known_element : (s : Store) → good s ≡ true → (r : Row) (b : Forest Row) → Standing s.docs r b → is_element r.sort ≡ true → known s.form r.name ≡ true
known_element s g r b i e = by (standing_every (λ u rows. RowConforms s.version s.form u rows) s.docs ((good_is s).0 g).docs.rows r b i)
  where
    by : RowConforms s.version s.form r (heads b) → known s.form r.name ≡ true
    by x = let (d, q, y) = rw (is_element_lem r.sort e) at x in ap is_there q

-- a name in a model is one of a definition: the names around a place, and at it
pub names_around : (e : Edit Bytes) (p : List ℕ) (ms : Members Bytes) (f : Found Bytes) → place_of e p ms ≡ some f
    → names ms ≡ before_place f.context ++ (names f.picked ++ after_place f.context)
names_around e p ms f at = sym (ap names (place_right e p ms f at)) ∙ names_plug f.context f.picked

pub picked_known : (s : Store) → good s ≡ true → (o : ℕ) → o < length s.form → (e : Edit Bytes) (p : List ℕ) (f : Found Bytes) → place_of e p (members (definition_at o s.form)) ≡ some f
    → (n : Bytes) → Memᴰ n (names f.picked) → known s.form n ≡ true
picked_known s g o l e p f at n m =
    (((good_is s).0 g).form.definitions (definition_at o s.form) (definition_stands s.form o l)).in_range n
    (subst (λ (ns : List Bytes). Memᴰ n ns) (sym (names_around e p (members (definition_at o s.form)) f at))
    (Memᴰ.append_right (before_place f.context) (Memᴰ.append_left (after_place f.context) m)))

-- ---- elements by the index of their name
module _ (form : Form) (once : Distinct (map definition_name form)) where
  -- a name at its index
  pub index_of_name_lem : (n : Bytes) → known form n ≡ true → (index_of n form < length form) × (name_at_index (index_of n form) form ≡ n)
  index_of_name_lem n k = let x : Indexed form n = known_index form n k in (x.below, sym (name_of_lem form (index_of n form) x.below) ∙ x.name)

  pub named_test : (n : Bytes) → known form n ≡ true → (owner : Bytes) (r : Row) → matches (Elements (index_of n form)) (row_written form owner r) ≡ element_named n r
  named_test n k owner r =
      let (l, e) = index_of_name_lem n k in
      element_test form once (index_of n form) l owner r ∙ ap (λ (m : Bytes). element_named m r) e

  -- marks by name
  module _ (before_place at : List Bytes) (marks : Bytes) (m : Marked form before_place at marks) (owner : Bytes) (r : Row) (k : is_element r.sort ≡ true → known form r.name ≡ true) where
    pub later_test : is_later marks Unmarked (row_written form owner r) ≡ (is_element r.sort && not (member bytes r.name before_place))
    later_test = by r.sort refl
      where
        by : (t : RowSort) → r.sort ≡ t → (eqb (row_code r.sort) 1 && not (eqb (get_or marks (row_index form owner r) 0) 1)) ≡ (is_element r.sort && not (member bytes r.name before_place))
        by element q =
            let (l, e) = index_of_name_lem r.name (k (ap is_element q)) in
            rw q (ap not (m.ones (index_of r.name form) l ∙ ap (λ (n : Bytes). member bytes n before_place) e))
        by attribute q = rw q
        by text q = rw q

    pub place_test : (eqb (row_code r.sort) 1 && eqb (place_mark marks (row_written form owner r)) 2) ≡ (is_element r.sort && member bytes r.name at)
    place_test = by r.sort refl
      where
        by : (t : RowSort) → r.sort ≡ t → (eqb (row_code r.sort) 1 && eqb (get_or marks (row_index form owner r) 0) 2) ≡ (is_element r.sort && member bytes r.name at)
        by element q =
            let (l, e) = index_of_name_lem r.name (k (ap is_element q)) in
            rw q (m.twos (index_of r.name form) l ∙ ap (λ (n : Bytes). member bytes n at) e)
        by attribute q = rw q
        by text q = rw q
