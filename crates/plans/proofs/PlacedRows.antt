-- The rows right below an instance at a place on the spine of its model: those of names before the place, those of the
-- member at it, the others. So if one of the member at the place stands,
-- the first row that is later than the place is one.
use Prim.Native.Nat.{ℕ, ◌<◌}
use mathlib.Core.Path.{◌≡◌, refl, sym, ap, ap₂, ◌∙◌, subst}
use mathlib.Core.Logic.{◌⊎◌, inl, inr, ⊎_elim}
use mathlib.Core.Bool.{Bool, true, false, ◌&&◌, not, false≢true}
use mathlib.Core.Option.{some}
use mathlib.Core.List.{List, [], ◌∷◌, ◌++◌, map, append_assoc, Memᴰ}
use lib.ListN.{length}
use Rattle.rules.specs.declared.GroupKind.TheVariants.{Sequence}
use Rattle.rules.specs.Bytes.{Bytes, same, bytes, same_eq}
use Rattle.rules.specs.Model.{Members, names, is_done, Distinct, member}
use Rattle.rules.specs.Language.{Conforms}
use Rattle.rules.specs.Place.{Context, plug, spine, before_place, after_place}
use Rattle.rules.specs.Edit.{Edit, ◌⊕◌, place_of}
use Rattle.rules.specs.Store.{Content, complex, Definition, RowSort, element, attribute, Row, Forest, heads, Store, members}
use Rattle.rules.specs.WellFormed.{lookup}
use Rattle.rules.specs.Conforming.{is_element, name_of, Sorted, RowConforms, ElementRows, ContentRows}
use Rattle.rules.specs.Lines.{element_named, element_among}
use Rattle.rules.specs.Passing.{good}
use Rattle.rules.specs.Change.{definition_at, name_at_index}
use Rattle.rules.proofs.Words.{and_split}
use Rattle.rules.proofs.Apart.{names_plug}
use Rattle.rules.proofs.Grouping.{append_alike}
use Rattle.rules.proofs.Correct.{distinct_left, distinct_right, distinct_apart}
use Rattle.rules.proofs.Letters.{letters, member_in, member_out}
use Rattle.rules.proofs.Spine.{split, names_append}
use Rattle.rules.proofs.WellFormedLaws.{definition_stands}
use Rattle.rules.proofs.PassingLaws.{good_is}
use Rattle.change_laws.proofs.Rowwise.{Standing}
use Rattle.change_laws.proofs.FormLaws.{definition_found}
use Rattle.change_laws.proofs.ModelAfter.{place_right}
use Rattle.change_laws.proofs.EditConditions.{complex_content, picked_complex}
use Rattle.rules.proofs.ConformingLaws.{is_element_lem}
use Rattle.change_laws.proofs.StandingLaws.{standing_every}

-- ---- words
pub record Placed (bs ns w : List Bytes) : Type 0 where
  pub left : List Bytes
  pub mid : List Bytes
  pub right : List Bytes
  pub whole : left ++ (mid ++ right) ≡ w
  pub left_in : (y : Bytes) → Memᴰ y left → Memᴰ y bs
  pub mid_in : (y : Bytes) → Memᴰ y mid → Memᴰ y ns
  pub right_out : (y : Bytes) → Memᴰ y right → Memᴰ y ns → ⊥
  pub apart : (y : Bytes) → Memᴰ y ns → Memᴰ y bs → ⊥

-- a word of the model with the members `one` at the place, and `rest` after them
pub placed : (c : Context Bytes) (one rest : Members Bytes) → spine c ≡ true → Distinct (names (plug c (one ⊕ rest))) → (w : List Bytes)
    → Conforms (plug c (one ⊕ rest)) w → Placed (before_place c) (names one) w
placed c one rest s d w m =
    let p = split c (one ⊕ rest) s d w m in
    let (u, v, e, a, b) = (append_alike Sequence one rest).to.carry p.mid p.mid_is in
    let all : Distinct (names one ++ names rest) =
    subst (λ (l : List Bytes). Distinct l) (names_append one rest)
    (distinct_left (names (one ⊕ rest)) (after_place c)
    (distinct_right (before_place c) (names (one ⊕ rest) ++ after_place c) (subst (λ (l : List Bytes). Distinct l) (names_plug c (one ⊕ rest)) d))) in
    let here : (y : Bytes) → Memᴰ y (names one) → Memᴰ y (names (one ⊕ rest)) =
    λ y k. subst (λ (l : List Bytes). Memᴰ y l) (sym (names_append one rest)) (mathlib.Core.List.Memᴰ.append_left (names rest) k) in
    record {
      left = p.left;
      mid = u;
      right = v ++ p.right;
      whole = ap (λ (z : List Bytes). p.left ++ z) (sym (append_assoc u v p.right) ∙ ap (λ (z : List Bytes). z ++ p.right) e) ∙ p.whole;
      left_in = p.left_in;
      mid_in = λ y i. (letters Sequence one).inside u a y i;
      right_out = λ y i k. ⊎_elim (λ j. distinct_apart (names one) (names rest) all y k ((letters Sequence rest).inside v b y j))
          (λ j. p.apart_right y (here y k) (p.right_in y j)) (mathlib.Core.List.Memᴰ.append_cases v i);
      apart = λ y k j. p.apart y (inl (here y k)) j;
    }

-- ---- rows; bs: the names before the place, ns: those at it
abbrev pub is_late : List Bytes → Row → Bool
is_late bs r = is_element r.sort && not (member bytes r.name bs)

abbrev pub NoneAt : List Bytes → List Row → Type 0
NoneAt ns rows = (r : Row) → Memᴰ r rows → element_among ns r ≡ false

-- the first row that is later is one of the names at the place
abbrev pub FirstAt : List Bytes → List Bytes → List Row → Type 0
FirstAt bs ns [] = ⊥
FirstAt bs ns (r ∷ rows) = ((is_late bs r ≡ true) × (element_among ns r ≡ true)) ⊎ ((is_late bs r ≡ false) × (element_among ns r ≡ false) × FirstAt bs ns rows)

module _ (bs ns : List Bytes) where
  abbrev Cases : List Row → Type 0
  Cases rows = NoneAt ns rows ⊎ FirstAt bs ns rows

  -- a row before all others
  one_more : (r : Row) (rows : List Row) → is_late bs r ≡ false → element_among ns r ≡ false → Cases rows → Cases (r ∷ rows)
  one_more r rows l a (inl f) = inl (λ x m. ⊎_elim (λ e. ap (element_among ns) e ∙ a) (λ i. f x i) (mathlib.Core.List.Memᴰ.cases_cons m))
  one_more r rows l a (inr f) = inr (inr (l, a, f))

  element_late : (r : Row) → r.sort ≡ element → (b : Bool) → member bytes r.name bs ≡ b → is_late bs r ≡ not b
  element_late r e b m = ap₂ (λ (s : RowSort) (z : Bool). is_element s && not z) e m

  element_among_lem : (r : Row) → r.sort ≡ element → (b : Bool) → member bytes r.name ns ≡ b → element_among ns r ≡ b
  element_among_lem r e b m = ap₂ (λ (s : RowSort) (z : Bool). is_element s && z) e m

  module _ (apart : (y : Bytes) → Memᴰ y ns → Memᴰ y bs → ⊥) (mid right : List Bytes) (mid_in : (y : Bytes) → Memᴰ y mid → Memᴰ y ns)
      (right_out : (y : Bytes) → Memᴰ y right → Memᴰ y ns → ⊥) where
    right_rows : (rows : List Row) → right ≡ map name_of rows → Sorted element rows → NoneAt ns rows
    right_rows rows e s r m = element_among_lem r (s r m) false (member_out bytes r.name ns (right_out r.name (subst (λ (l : List Bytes). Memᴰ r.name l) (sym e) (mathlib.Core.List.Memᴰ.map name_of m))))

    mid_rows : (rows : List Row) (w : List Bytes) → ((y : Bytes) → Memᴰ y w → Memᴰ y ns) → w ++ right ≡ map name_of rows → Sorted element rows → Cases rows
    mid_rows rows [] f e s = inl (right_rows rows e s)
    mid_rows [] (y ∷ w) f e s = let z : false ≡ true = cc e in absurd (false≢true z)
    mid_rows (r ∷ rows) (y ∷ w) f e s =
        let n : y ≡ r.name = cc e in
        let k : Memᴰ r.name ns = f r.name (mathlib.Core.List.Memᴰ.head (sym n)) in
        inr (inl (
          element_late r (s r (mathlib.Core.List.Memᴰ.head refl)) false (member_out bytes r.name bs (apart r.name k)),
          element_among_lem r (s r (mathlib.Core.List.Memᴰ.head refl)) true (member_in bytes r.name ns k),
        ))

    left_rows : (left : List Bytes) (rows : List Row) → ((y : Bytes) → Memᴰ y left → Memᴰ y bs) → left ++ (mid ++ right) ≡ map name_of rows → Sorted element rows → Cases rows
    left_rows [] rows f e s = mid_rows rows mid mid_in e s
    left_rows (y ∷ left) [] f e s = let z : false ≡ true = cc e in absurd (false≢true z)
    left_rows (y ∷ left) (r ∷ rows) f e s =
        let n : y ≡ r.name = cc e in
        let h : left ++ (mid ++ right) ≡ map name_of rows = cc e in
        let k : Memᴰ r.name bs = f r.name (mathlib.Core.List.Memᴰ.head (sym n)) in
        one_more r rows (element_late r (s r (mathlib.Core.List.Memᴰ.head refl)) true (member_in bytes r.name bs k))
        (element_among_lem r (s r (mathlib.Core.List.Memᴰ.head refl)) false (member_out bytes r.name ns (λ j. apart r.name j k)))
        (left_rows left rows (λ x i. f x (mathlib.Core.List.Memᴰ.tail i)) h (λ x i. s x (mathlib.Core.List.Memᴰ.tail i)))

  placed_rows : (rows : List Row) → Sorted element rows → Placed bs ns (map name_of rows) → Cases rows
  placed_rows rows s p = left_rows p.apart p.mid p.right p.mid_in p.right_out p.left rows p.left_in p.whole s

  -- attribute rows stand in front
  front_rows : (front back : List Row) → Sorted attribute front → Cases back → Cases (front ++ back)
  front_rows [] back s k = k
  front_rows (r ∷ front) back s k =
      let e : r.sort ≡ attribute = s r (mathlib.Core.List.Memᴰ.head refl) in
      one_more r (front ++ back) (ap (λ (z : RowSort). is_element z && not (member bytes r.name bs)) e)
      (ap (λ (z : RowSort). is_element z && member bytes r.name ns) e) (front_rows front back (λ x i. s x (mathlib.Core.List.Memᴰ.tail i)) k)

-- ---- the rows right below an instance in a store that passes
module _ (s : Store) (g : good s ≡ true) (o : ℕ) (l : o < length s.form) (e : Edit Bytes) (p : List ℕ) (c : Context Bytes) (one rest : Members Bytes)
    (at : place_of e p (members (definition_at o s.form)) ≡ some (record { context = c; picked = one ⊕ rest })) (there : is_done (one ⊕ rest) ≡ false) (spined : spine c ≡ true) where
  abbrev d : Definition
  d = definition_at o s.form

  right : plug c (one ⊕ rest) ≡ members d
  right = place_right e p (members d) (record { context = c; picked = one ⊕ rest }) at

  content : d.content ≡ complex (members d)
  content = complex_content d.content (picked_complex d.content c (one ⊕ rest) right there)

  pub instance_rows : (r : Row) (b : Forest Row) → Standing s.docs r b → element_named (name_at_index o s.form) r ≡ true
      → NoneAt (names one) (heads b) ⊎ FirstAt (before_place c) (names one) (heads b)
  instance_rows r b i n =
      let (is, called) = and_split (is_element r.sort) (same d.name r.name) n in
      let (k, q, x) = rw (is_element_lem r.sort is) at (standing_every (λ u rows. RowConforms s.version s.form u rows) s.docs ((good_is s).0 g).docs.rows r b i) in
      let found : lookup r.name s.form ≡ some d =
      ap (λ (z : Bytes). lookup z s.form) (sym (same_eq d.name r.name called)) ∙ definition_found o s.form ((good_is s).0 g).form.names l in
      let own : k ≡ d = cc (q, found) in
      by (subst (λ (z : Definition). ElementRows s.version z (heads b)) own x)
    where
      once : Distinct (names (plug c (one ⊕ rest)))
      once = subst (λ (z : Members Bytes). Distinct (names z)) (sym right) (((good_is s).0 g).form.definitions d (definition_stands s.form o l)).once

      by : ElementRows s.version d (heads b) → NoneAt (names one) (heads b) ⊎ FirstAt (before_place c) (names one) (heads b)
      by x =
          let (sorted, word) = subst (λ (z : Content). ContentRows z x.back) content x.content in
          subst (λ (z : List Row). NoneAt (names one) z ⊎ FirstAt (before_place c) (names one) z) x.split
          (front_rows (before_place c) (names one) x.front x.back x.attributes.sorts
          (placed_rows (before_place c) (names one) x.back sorted
          (placed c one rest spined once (map name_of x.back) (subst (λ (z : Members Bytes). Conforms z (map name_of x.back)) (sym right) word))))
