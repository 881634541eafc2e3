-- The pass with the automaton of a form accepts exactly the rows of documents that conform to it.
use Prim.Native.Nat.{ℕ, suc, ◌<◌}
use mathlib.Core.Path.{◌≡◌, refl, ap, ◌∙◌, sym}
use mathlib.Core.Logic.{◌↔◌}
use mathlib.Core.Bool.{Bool, true, false, ◌&&◌, false≢true}
use mathlib.Core.List.{List, [], ◌∷◌, ◌++◌}
use lib.Dec.{ltb, eqb}
use lib.ListN.{length, get_or}
use borrow.Author.Tests.{lt-ltb, ltb-true, eq-eqb, eqb-true}
use Rattle.rules.specs.Model.{Distinct, names}
use Rattle.rules.specs.Store.{Forest, bare, tree, heads}
use Rattle.rules.specs.Preorder.{Deep}
use Rattle.rules.specs.Layout.{FlatRow}
use Rattle.rules.proofs.Words.{and_both, and_split}
use Rattle.next_row.specs.declared.Level.{Level}
use Rattle.next_row.specs.declared.Level.TheVariants.{Element}
use Rattle.form_index.specs.Indices.{IndexForm, Sort, Below, Everywhere, Documents}
use Rattle.row_check.specs.Machine.{rows_run, Fine, machine}
use Rattle.form_table.specs.Every.{every}
use Rattle.next_row.specs.Judge.{spare, attribute_may, child_may, children_end, row_may, level_after, entered, ground_level, judge}
use Rattle.row_check.proofs.MachineLaws.{Within, accepted}
use Rattle.row_check.proofs.Attributes.{Taken, taken→, taken←}
use Rattle.row_check.proofs.Children.{sort_none, sort_more, sort_first, sort_rest, child_not, walks, content→, content←}

-- a level of the rows below an element
abbrev inside : ℕ → ℕ → ℕ → Level
inside i seen last = Element (record { index = i; seen = seen; last = last })

-- the rows right below a row, by whether it is an element
abbrev pub UnderAs : IndexForm → Bool → ℕ → List FlatRow → Type 0
UnderAs f c i rs = elim c [ true ↦ Below f i rs | false ↦ rs ≡ [] ]

module _ (f : IndexForm) where
  -- ---- the place of the documents, and a place that holds nothing
  roots→ : (rs : List FlatRow) → rows_run (judge f) ground_level rs ≡ true → Sort 1 rs
  unfolding rows_run
  roots→ [] e = sort_none
  roots→ (r ∷ rs) e =
      let (u, v) = and_split (eqb r.sort 1) (rows_run (judge f) ground_level rs) e in
      sort_more (eqb-true r.sort 1 u) (roots→ rs v)

  roots← : (rs : List FlatRow) → Sort 1 rs → rows_run (judge f) ground_level rs ≡ true
  unfolding rows_run
  roots← [] h = refl
  roots← (r ∷ rs) h = and_both (eq-eqb r.sort 1 (sort_first h)) (roots← rs (sort_rest h))

  -- ---- below an element
  module _ (i : ℕ) where
    -- of no definition
    unknown : (rs : List FlatRow) (seen last : ℕ) → ltb i f.size ≡ false → rows_run (judge f) (inside i seen last) rs ≡ false
    unfolding rows_run
    unknown [] seen last e = rw e
    unknown (r ∷ rs) seen last e = rw e

    module _ (known : ltb i f.size ≡ true) where
      -- past the attributes
      past : (rs : List FlatRow) (last : ℕ) → rows_run (judge f) (inside i 0 last) rs ≡ walks (f.kind i) (f.model i) last rs
      unfolding rows_run walks
      past [] last = rw known
      past (r ∷ rs) last = rw known (by (eqb r.sort 2) refl (past rs (suc r.index)))
        where
          by : (c : Bool) → eqb r.sort 2 ≡ c → rows_run (judge f) (inside i 0 (suc r.index)) rs ≡ walks (f.kind i) (f.model i) (suc r.index) rs
              → (row_may f c (record { index = i; seen = 0; last = last }) r && rows_run (judge f) (level_after c (inside i 0 last) r.index) rs)
              ≡ (child_may (f.kind i) (f.model i) last r.sort r.index && walks (f.kind i) (f.model i) (suc r.index) rs)
          by true e h = rw (child_not (f.kind i) (f.model i) last r.sort r.index (eqb-true r.sort 2 e))
          by false e h = ap (λ (x : Bool). child_may (f.kind i) (f.model i) last r.sort r.index && x) h

      -- the attribute rows, and those after them
      record Parted (a : ℕ) (rs : List FlatRow) : Type 0 where
        front : List FlatRow
        back : List FlatRow
        split : front ++ back ≡ rs
        taken : Taken f i a front
        walked : walks (f.kind i) (f.model i) 0 back ≡ true

      parted→ : (rs : List FlatRow) (a : ℕ) → rows_run (judge f) (inside i (suc a) 0) rs ≡ true → Parted a rs
      unfolding rows_run walks Taken
      parted→ [] a h =
          let (u, v) = and_split (every (spare f i) f.attributes a) (children_end (f.kind i) (f.model i) 0) (rw known at h) in
          record { front = []; back = []; split = refl; taken = u; walked = v }
      parted→ (r ∷ rs) a h = by (eqb r.sort 2) refl (rw known at h) (λ g. parted→ rs (suc r.index) g)
        where
          by : (c : Bool) → eqb r.sort 2 ≡ c → (row_may f c (record { index = i; seen = suc a; last = 0 }) r && rows_run (judge f) (level_after c (inside i (suc a) 0) r.index) rs) ≡ true
              → (rows_run (judge f) (inside i (suc (suc r.index)) 0) rs ≡ true → Parted (suc r.index) rs) → Parted a (r ∷ rs)
          by true e k more =
              let (m, g) = and_split (attribute_may f i (suc a) r) (rows_run (judge f) (inside i (suc (suc r.index)) 0) rs) k in
              let p = more g in
              record { front = r ∷ p.front; back = p.back; split = ap (λ (z : List FlatRow). r ∷ z) p.split; taken = (eqb-true r.sort 2 e, m, p.taken); walked = p.walked }
          by false e k more =
              let (m, g) = and_split (every (spare f i) f.attributes a && child_may (f.kind i) (f.model i) 0 r.sort r.index) (rows_run (judge f) (inside i 0 (suc r.index)) rs) k in
              let (u, v) = and_split (every (spare f i) f.attributes a) (child_may (f.kind i) (f.model i) 0 r.sort r.index) m in
              record { front = []; back = r ∷ rs; split = refl; taken = u; walked = and_both v (sym (past rs (suc r.index)) ∙ g) }

      parted← : (front back : List FlatRow) (a : ℕ) → Taken f i a front → walks (f.kind i) (f.model i) 0 back ≡ true → rows_run (judge f) (inside i (suc a) 0) (front ++ back) ≡ true
      unfolding rows_run walks Taken
      parted← [] [] a t w = rw known (and_both t w)
      parted← [] (r ∷ back) a t w = rw known (by (eqb r.sort 2) refl (and_split (child_may (f.kind i) (f.model i) 0 r.sort r.index) (walks (f.kind i) (f.model i) (suc r.index) back) w))
        where
          by : (c : Bool) → eqb r.sort 2 ≡ c → (child_may (f.kind i) (f.model i) 0 r.sort r.index ≡ true) × (walks (f.kind i) (f.model i) (suc r.index) back ≡ true)
              → (row_may f c (record { index = i; seen = suc a; last = 0 }) r && rows_run (judge f) (level_after c (inside i (suc a) 0) r.index) back) ≡ true
          by true e (u, v) = absurd (false≢true (sym (child_not (f.kind i) (f.model i) 0 r.sort r.index (eqb-true r.sort 2 e)) ∙ u))
          by false e (u, v) = and_both (and_both t u) (past back (suc r.index) ∙ v)
      parted← (r ∷ front) back a (e, m, t) w = rw (known, eq-eqb r.sort 2 e) (and_both m (parted← front back (suc r.index) t w))

  module _ (sound : (i : ℕ) → i < f.size → Distinct (names (f.model i))) where
    below→ : (i : ℕ) (rs : List FlatRow) → rows_run (judge f) (inside i 1 0) rs ≡ true → Below f i rs
    below→ i rs h = by (ltb i f.size) refl
      where
        by : (c : Bool) → ltb i f.size ≡ c → Below f i rs
        by true e =
            let p = parted→ i e rs 0 h in
            let (o, n) = taken→ f i p.front p.taken in
            record {
              known = ltb-true i f.size e;
              front = p.front;
              back = p.back;
              split = p.split;
              owned = o;
              whole = n;
              content = content→ (f.model i) (sound i (ltb-true i f.size e)) (f.kind i) p.back p.walked;
            }
        by false e = absurd (false≢true (sym (unknown i rs 1 0 e) ∙ h))

    below← : (i : ℕ) (rs : List FlatRow) → Below f i rs → rows_run (judge f) (inside i 1 0) rs ≡ true
    below← i rs b =
        rw (← b.split)
        (parted← i (lt-ltb i f.size b.known) b.front b.back 0 (taken← f i b.front b.owned b.whole) (content← (f.model i) (sound i b.known) (f.kind i) b.back b.content))

    under→ : (r : FlatRow) (rs : List FlatRow) (c : Bool) → rows_run (judge f) (entered c r.index) rs ≡ true → UnderAs f c r.index rs
    unfolding rows_run
    under→ r rs true h = below→ r.index rs h
    under→ r [] false h = refl
    under→ r (x ∷ rs) false h = absurd (false≢true h)

    under← : (r : FlatRow) (rs : List FlatRow) (c : Bool) → UnderAs f c r.index rs → rows_run (judge f) (entered c r.index) rs ≡ true
    unfolding rows_run
    under← r rs true u = below← r.index rs u
    under← r rs false e = rw e

    fine→ : (t : Forest FlatRow) → Fine (judge f) t → Everywhere f t
    unfolding Fine Everywhere
    fine→ bare h = tt
    fine→ (tree r b t) (h, p, q) = (under→ r (heads b) (eqb r.sort 1) h, fine→ b p, fine→ t q)

    fine← : (t : Forest FlatRow) → Everywhere f t → Fine (judge f) t
    unfolding Fine Everywhere
    fine← bare h = tt
    fine← (tree r b t) (u, p, q) = (under← r (heads b) (eqb r.sort 1) u, fine← b p, fine← t q)

    -- THE CHECK OF THE ROWS, by a pass with b + 1 levels
    pub documents_judged : (b : ℕ) (xs : List (Deep FlatRow)) (l : List Level) → length l ≡ suc b → get_or l 0 ground_level ≡ ground_level → Within b xs
        → (machine (judge f) ground_level l 1 xs ≡ true) ↔ Documents f xs
    documents_judged b xs l h g w = (
      λ e.
          let (t, p, q, r) = (accepted (judge f) ground_level b xs l h w).0 e in
          record { docs = t; rows = p; roots = roots→ (heads t) (rw g at q); everywhere = fine→ t r },
      λ d.
          (accepted (judge f) ground_level b xs l h w).1 (d.docs, d.rows, (rw g (roots← (heads d.docs) d.roots)), fine← d.docs d.everywhere),
    )
