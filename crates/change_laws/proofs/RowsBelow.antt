-- Documents that conform: right below a row stands at most one row of an attribute and at most one text; an element's
-- name is a member of its parent's definition, and so no instance of a definition stands anywhere below another.
use Prim.Native.Nat.{ℕ}
use mathlib.Core.Path.{◌≡◌, refl, sym, ap, ◌∙◌, subst}
use mathlib.Core.Logic.{◌⊎◌, inl, inr, ⊎_elim}
use mathlib.Core.Bool.{Bool, true, false≢true}
use mathlib.Core.Option.{Option, some}
use mathlib.Core.List.Memᴰ
use mathlib.Core.List.{List, [], ◌∷◌, map, Memᴰ}
use Rattle.rules.specs.Bytes.{Bytes, same, same_eq}
use Rattle.rules.specs.Model.{Distinct, names}
use Rattle.rules.specs.Store.{Content, empty, pcdata, complex, Definition, Form, RowSort, element, attribute, text, Row, Forest, bare, tree, heads, members}
use Rattle.rules.specs.WellFormed.{attribute_name, lookup, names_in, members_of, Reaches, directly, WellFormed}
use Rattle.rules.specs.Conforming.{name_of, is_element, is_attribute, is_text, InOrder, ContentRows, ElementRows, RowConforms, Conforming}
use Rattle.rules.specs.Passing.{GoodSerials}
use Rattle.rules.specs.Lines.{Line, lines, is_text_row, element_named, attribute_named}
use Rattle.rules.specs.MadeTakenGiven.{IsRemoved, IsTaken, itself, beneath}
use Rattle.rules.proofs.Words.{and_split}
use Rattle.rules.proofs.Height.{lookup_member, reaches_then}
use Rattle.rules.proofs.PlanLaws.{AtMostOne}
use Rattle.change_laws.proofs.Rowwise.{Standing}
use Rattle.change_laws.proofs.StandingLaws.{standing_every, one_row_lem, no_zero}
use Rattle.rules.proofs.ConformingLaws.{is_attribute_lem, is_element_lem, is_text_lem, in_order_lem}
use Rattle.change_laws.proofs.ConformingForms.{content_named}

-- ---- lines and the rows that stand
line_stands : (up : ℕ) (f : Forest Row) (l : Line) → Memᴰ l (lines up f) → (c : Forest Row) × Standing f l.row c
line_stands up bare l i = absurd (Memᴰ.not-nil i)
line_stands up (tree r b t) l i =
    ⊎_elim (λ e. (b, inl (ap (λ (z : Line). z.row) (sym e), refl)))
    (λ j. ⊎_elim (λ x. let (c, s) = line_stands r.serial b l x in (c, inr (inl s))) (λ y. let (c, s) = line_stands up t l y in (c, inr (inr s))) (Memᴰ.append_cases (lines r.serial b) j))
    (Memᴰ.cases_cons i)

-- the row right above a line
abbrev HasParent : Forest Row → Line → Type 0
HasParent f l = (u : Row) × (c : Forest Row) × Standing f u c × (u.serial ≡ l.parent) × Memᴰ l.row (heads c)

line_parent : (up : ℕ) (f : Forest Row) (l : Line) → Memᴰ l (lines up f) → ((up ≡ l.parent) × Memᴰ l.row (heads f)) ⊎ HasParent f l
line_parent up bare l i = absurd (Memᴰ.not-nil i)
line_parent up (tree r b t) l i =
    ⊎_elim (λ e. inl (ap (λ (z : Line). z.parent) (sym e), Memᴰ.head (ap (λ (z : Line). z.row) e)))
    (λ j. ⊎_elim (λ x. inr (deeper (line_parent r.serial b l x))) (λ y. beside (line_parent up t l y)) (Memᴰ.append_cases (lines r.serial b) j)) (Memᴰ.cases_cons i)
  where
    beside : ((up ≡ l.parent) × Memᴰ l.row (heads t)) ⊎ HasParent t l → ((up ≡ l.parent) × Memᴰ l.row (heads (tree r b t))) ⊎ HasParent (tree r b t) l
    beside (inl (e, m)) = inl (e, Memᴰ.tail m)
    beside (inr (u, c, s, e, m)) = inr (u, c, inr (inr s), e, m)

    deeper : ((r.serial ≡ l.parent) × Memᴰ l.row (heads b)) ⊎ HasParent b l → HasParent (tree r b t) l
    deeper (inl (e, m)) = (r, b, inl (refl, refl), e, m)
    deeper (inr (u, c, s, e, m)) = (u, c, inr (inl s), e, m)

-- ---- names taken out of a table, each at most once
each_once : (xs table : List Bytes) → InOrder xs table → Distinct table → Distinct xs
each_once [] table o d = tt
each_once (y ∷ xs) [] o d = absurd o
each_once (y ∷ xs) (z ∷ table) (inl (e, o)) d = (λ i. d.0 (subst (λ (w : Bytes). Memᴰ w table) e (in_order_lem xs table o y i)), each_once xs table o d.1)
each_once (y ∷ xs) (z ∷ table) (inr o) d = each_once (y ∷ xs) table o d.1

named_once : (rows : List Row) → Distinct (map name_of rows) → (r s : Row) → Memᴰ r rows → Memᴰ s rows → r.name ≡ s.name → r ≡ s
named_once [] d r s i _ q = elim i [ ]
named_once (x ∷ rows) d r s (Memᴰ.head e) (Memᴰ.head f) q = e ∙ sym f
named_once (x ∷ rows) d r s (Memᴰ.head e) (Memᴰ.tail j) q = absurd (d.0 (subst (λ (z : Bytes). Memᴰ z (map name_of rows)) (sym q ∙ ap name_of e) (Memᴰ.map name_of j)))
named_once (x ∷ rows) d r s (Memᴰ.tail i) (Memᴰ.head f) q = absurd (d.0 (subst (λ (z : Bytes). Memᴰ z (map name_of rows)) (q ∙ ap name_of f) (Memᴰ.map name_of i)))
named_once (x ∷ rows) d r s (Memᴰ.tail i) (Memᴰ.tail j) q = named_once rows d.1 r s i j q

-- ---- the rows right below an element
module _ {version : ℕ} (d : Definition) (rows : List Row) (e : ElementRows version d rows) where
  parted : (r : Row) → Memᴰ r rows → Memᴰ r e.front ⊎ Memᴰ r e.back
  parted r i = Memᴰ.append_cases e.front (subst (λ (z : List Row). Memᴰ r z) (sym e.split) i)

  -- what follows the attributes: no attribute; texts only one; elements with names of the model
  not_attribute : (k : Content) (back : List Row) → ContentRows k back → (r : Row) → Memᴰ r back → r.sort ≡ attribute → ⊥
  not_attribute empty back c r i s = Memᴰ.not-nil (subst (λ (z : List Row). Memᴰ r z) c i)
  not_attribute pcdata back (x, q, t) r i s =
      ⊎_elim (λ h. false≢true (ap is_attribute (sym t ∙ ap (λ (z : Row). z.sort) (sym h) ∙ s))) (λ j. Memᴰ.not-nil j) (Memᴰ.cases_cons (subst (λ (z : List Row). Memᴰ r z) q i))
  not_attribute (complex ms) back (c, w) r i s = false≢true (ap is_attribute (sym (c r i) ∙ s))

  one_text : (k : Content) (back : List Row) → ContentRows k back → (r s : Row) → Memᴰ r back → Memᴰ s back → r.sort ≡ text → r ≡ s
  one_text empty back c r s i j t = absurd (Memᴰ.not-nil (subst (λ (z : List Row). Memᴰ r z) c i))
  one_text pcdata back (x, q, t') r s i j t =
      let only : (y : Row) → Memᴰ y back → y ≡ x = λ y m. ⊎_elim (λ h. h) (λ n. absurd (Memᴰ.not-nil n)) (Memᴰ.cases_cons (subst (λ (z : List Row). Memᴰ y z) q m)) in
      only r i ∙ sym (only s j)
  one_text (complex ms) back (c, w) r s i j t = absurd (false≢true (ap is_text (sym (c r i) ∙ t)))

  one_attribute_lem : Distinct (map attribute_name d.attributes) → (r s : Row) → Memᴰ r rows → Memᴰ s rows → r.sort ≡ attribute → s.sort ≡ attribute → r.name ≡ s.name → r ≡ s
  one_attribute_lem once r s i j a b q =
      named_once e.front (each_once (map name_of e.front) (map attribute_name d.attributes) e.attributes.owned once) r s (front r i a) (front s j b) q
    where
      front : (x : Row) → Memᴰ x rows → x.sort ≡ attribute → Memᴰ x e.front
      front x m a = ⊎_elim (λ f. f) (λ n. absurd (not_attribute d.content e.back e.content x n a)) (parted x m)

  one_text_row : (r s : Row) → Memᴰ r rows → Memᴰ s rows → r.sort ≡ text → s.sort ≡ text → r ≡ s
  one_text_row r s i j a b = one_text d.content e.back e.content r s (back r i a) (back s j b) a
    where
      back : (x : Row) → Memᴰ x rows → x.sort ≡ text → Memᴰ x e.back
      back x m a = ⊎_elim (λ f. absurd (false≢true (ap is_text (sym (e.attributes.sorts x f) ∙ a)))) (λ n. n) (parted x m)

  member_named : (r : Row) → Memᴰ r rows → r.sort ≡ element → Memᴰ r.name (names (members d))
  member_named r i a =
      ⊎_elim (λ f. absurd (false≢true (ap is_element (sym (e.attributes.sorts r f) ∙ a)))) (λ n. content_named d.content e.back e.content r n a) (parted r i)

-- ---- documents that conform
-- what is said of a row, by its sort
abbrev BySort : ℕ → Form → Bytes → List Row → RowSort → Type 0
BySort version form n rows s = elim s [ element ↦ (d : Definition) × (lookup n form ≡ some d) × ElementRows version d rows | attribute ↦ rows ≡ [] | text ↦ rows ≡ [] ]

same_line : (l m : Line) → l.parent ≡ m.parent → l.row ≡ m.row → l ≡ m
same_line l m p q = λ i. record { parent = p i; row = q i }

module _ {version : ℕ} (w : ℕ) (form : Form) (well : WellFormed w form) (next : ℕ) (docs : Forest Row) (good : GoodSerials next docs) (cf : Conforming version form docs) where
  -- a row with rows below it is an element of a definition
  abbrev Defined : Row → List Row → Type 0
  Defined u rows = (d : Definition) × (lookup u.name form ≡ some d) × ElementRows version d rows × (u.sort ≡ element)

  defined : (u : Row) (c : Forest Row) → Standing docs u c → (r : Row) → Memᴰ r (heads c) → Defined u (heads c)
  defined u c i r m = by u.sort refl (standing_every (λ r below. RowConforms version form r below) docs cf.rows u c i)
    where
      by : (s : RowSort) → u.sort ≡ s → BySort version form u.name (heads c) s → Defined u (heads c)
      by element q (d, e, x) = (d, e, x, q)
      by attribute q e = absurd (Memᴰ.not-nil (subst (λ (z : List Row). Memᴰ r z) e m))
      by text q e = absurd (Memᴰ.not-nil (subst (λ (z : List Row). Memᴰ r z) e m))

  -- two lines below one row
  below_one : (test : Row → Bool) → (test-element : (r : Row) → r.sort ≡ element → test r ≡ true → ⊥)
      → ((d : Definition) → Memᴰ d form → (rows : List Row) → ElementRows version d rows → (r s : Row) → Memᴰ r rows → Memᴰ s rows → test r ≡ true → test s ≡ true → r ≡ s)
      → AtMostOne test (lines 0 docs)
  below_one test not_root one l m i j p a b = by (line_parent 0 docs l i) (line_parent 0 docs m j)
    where
      by : ((0 ≡ l.parent) × Memᴰ l.row (heads docs)) ⊎ HasParent docs l → ((0 ≡ m.parent) × Memᴰ m.row (heads docs)) ⊎ HasParent docs m → l ≡ m
      by (inl (e, x)) y = absurd (not_root l.row (cf.roots l.row x) a)
      by (inr x) (inl (e, y)) = absurd (not_root m.row (cf.roots m.row y) b)
      by (inr (u, c, s, e, x)) (inr (u', c', s', e', y)) =
          let same : (u ≡ u') × (c ≡ c') = one_row_lem next docs good u u' c c' s s' (e ∙ p ∙ sym e') in
          let (d, f, rows, q) = defined u c s l.row x in
          same_line l m p (one d (lookup_member u.name form d f).0 (heads c) rows l.row m.row x (subst (λ (z : Forest Row). Memᴰ m.row (heads z)) (sym same.1) y) a b)

  -- 'attribute rows are the owner's, each at most once'
  pub one_of_attribute : (n : Bytes) → AtMostOne (attribute_named n) (lines 0 docs)
  one_of_attribute n =
      below_one (attribute_named n) (λ r s t. false≢true (ap is_attribute (sym s) ∙ (and_split (is_attribute r.sort) (same n r.name) t).0 ∙ refl))
      (λ d m rows e r s i j a b.
      let x = and_split (is_attribute r.sort) (same n r.name) a in
      let y = and_split (is_attribute s.sort) (same n s.name) b in
      one_attribute_lem d rows e (well.definitions d m).attribute_names r s i j (is_attribute_lem r.sort x.0) (is_attribute_lem s.sort y.0)
      (sym (same_eq n r.name x.1) ∙ same_eq n s.name y.1))

  -- 'PCDATA has exactly one text row'
  pub one_of_text : AtMostOne is_text_row (lines 0 docs)
  one_of_text = below_one is_text_row (λ r s t. false≢true (ap is_text (sym s) ∙ t)) (λ d m rows e r s i j a b. one_text_row d rows e r s i j (is_text_lem r.sort a) (is_text_lem s.sort b))

  -- an element below a row: its name is a member of the definition of that row, which is an element
  member_below : (u l : Line) → Memᴰ u (lines 0 docs) → Memᴰ l (lines 0 docs) → u.row.serial ≡ l.parent → l.row.sort ≡ element
      → (u.row.sort ≡ element) × Memᴰ l.row.name (members_of u.row.name form)
  member_below u l i j e s = by (line_parent 0 docs l j) (line_stands 0 docs u i)
    where
      by : ((0 ≡ l.parent) × Memᴰ l.row (heads docs)) ⊎ HasParent docs l → (c : Forest Row) × Standing docs u.row c
          → (u.row.sort ≡ element) × Memᴰ l.row.name (members_of u.row.name form)
      by (inl (z, x)) (c, k) = absurd (let o : u.row.serial ≡ 0 = e ∙ sym z in no_zero next docs good u.row c k o)
      by (inr (v, b, s', z, x)) (c, k) =
          let same : (v ≡ u.row) × (b ≡ c) = one_row_lem next docs good v u.row b c s' k (z ∙ sym e) in
          let (d, f, rows, q) = defined v b s' l.row x in (
            ap (λ (r : Row). r.sort) (sym same.0) ∙ q,
            subst (λ (r : Row). Memᴰ l.row.name (members_of r.name form)) same.0
                (subst (λ (o : Option Definition). Memᴰ l.row.name (names_in o)) (sym f) (member_named d (heads b) rows l.row x s)),
          )

  -- all elements that are taken with a child of an instance are reached from its definition
  reached : (owner x : Bytes) (N : Line → Type 0) → ((l : Line) → N l → IsRemoved owner x (lines 0 docs) l) → {l : Line} → Memᴰ l (lines 0 docs) → IsTaken N (lines 0 docs) l
      → l.row.sort ≡ element → Reaches form owner l.row.name
  reached owner x N f i (itself l n) s =
      let (a, (u, j, e, h)) = f l n in
      let (t, m) = member_below u l j i e s in
      subst (λ (z : Bytes). Reaches form z l.row.name) (sym (same_eq owner u.row.name (and_split (is_element u.row.sort) (same owner u.row.name) h).1)) (directly m)
  reached owner x N f i (beneath u l j e n) s =
      let (t, m) = member_below u l j i e s in
      reaches_then form (reached owner x N f j n t) (directly m)

  -- an instance is not taken with a child of an instance
  pub instance_spared : (owner x : Bytes) (N : Line → Type 0) → ((l : Line) → N l → IsRemoved owner x (lines 0 docs) l) → (l : Line) → Memᴰ l (lines 0 docs)
      → element_named owner l.row ≡ true → IsTaken N (lines 0 docs) l → ⊥
  instance_spared owner x N f l i h n =
      let (a, b) = and_split (is_element l.row.sort) (same owner l.row.name) h in
      let name : owner ≡ l.row.name = same_eq owner l.row.name b in
      let r : Reaches form owner owner = subst (λ (z : Bytes). Reaches form owner z) (sym name) (reached owner x N f i n (is_element_lem l.row.sort a)) in
      let (c, k) = line_stands 0 docs l i in
      by l.row c k name (is_element_lem l.row.sort a) r
    where
      by : (u : Row) (c : Forest Row) → Standing docs u c → owner ≡ u.name → u.sort ≡ element → Reaches form owner owner → ⊥
      by u c k name s r = at u.sort s (standing_every (λ r below. RowConforms version form r below) docs cf.rows u c k)
        where
          at : (s : RowSort) → s ≡ element → BySort version form u.name (heads c) s → ⊥
          at element q (d, e, y) =
              let (m, g) = lookup_member u.name form d e in
              let o : owner ≡ d.name = name ∙ sym g in
              (well.definitions d m).circle (subst (λ (z : Bytes). Reaches form z z) o r)
          at attribute q e = false≢true (ap is_element q)
          at text q e = false≢true (ap is_element q)
