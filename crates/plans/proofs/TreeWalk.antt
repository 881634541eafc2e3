-- The walk over the rows of a forest in a list is the walk over the forest.
use Prim.Native.Nat.{ℕ, suc, ◌<◌}
use native.Mathlib.Omega.{arith}
use mathlib.Core.Path.{◌≡◌, refl, sym, ap, ap₂, ◌∙◌}
use mathlib.Core.Bool.{Bool, true, false, ◌&&◌, ◌||◌, not, false≢true, and-true, and-false}
use mathlib.Core.List.{List, [], ◌∷◌, ◌++◌, append_assoc, append-nil}
use lib.Dec.{eqb}
use borrow.Author.Tests.{lt-ltb, le-ltb, eq-eqb, ne_eqb}
use Rattle.std.specs.Prelude.{Option, None, Some}
use Rattle.rules.specs.Bytes.{Bytes}
use Rattle.rules.specs.Store.{Forest, bare, tree}
use Rattle.rules.specs.Preorder.{Deep, preorder}
use Rattle.rules.specs.Layout.{FlatRow}
use Rattle.rules.proofs.PreorderLaws.{Ends, ends_after}
use Rattle.row_walk.specs.declared.Which.{Which}
use Rattle.row_walk.specs.declared.Which.TheVariants.{Nothing, Everything, Ground, Elements, Attributes, Serial}
use Rattle.row_walk.specs.declared.Plan.{Plan}
use Rattle.row_walk.specs.declared.Open.{Open}
use Rattle.row_walk.specs.Walk.{matches, is_everything, names_ground, is_later, kept_row, is_under, is_at, is_below_taken, closes, closed, is_taken, is_filled}
use Rattle.row_walk.specs.Walk.{after_taken, after_kept, owed, row_depth, emitted, next_open, walked, at_first}
use Rattle.plans.specs.Trees.{taken_at, filled_at, tree_walk, documents_walk, NoneOf, NotNested}
use Rattle.plans.proofs.SimulationLaws.{walk_taken}

-- what the walk over the rows in a list needs of a plan and the documents
pub data Clear (p : Plan) (f : Forest FlatRow) : Type 0 where
  apart : NotNested (matches p.above) f → Clear p f
  everywhere : is_everything p.above ≡ true → p.fills ≡ false → Clear p f

-- what is open
abbrev opened : Option ℕ → Option ℕ → Bool → Open
opened k b u = record { taking = k; below = b; due = u }

abbrev at : ℕ → FlatRow → Deep FlatRow
at d r = record { depth = d; row = r }

-- what is open once a row has closed the open row or not
abbrev left_open : Bool → Option ℕ → Bool → Open
left_open c b u = elim c [ true ↦ opened None None false | false ↦ opened None b u ]

-- the rows right below the open row, if there is one, are less deep than d
abbrev Low : Option ℕ → ℕ → Type 0
Low None d = Unit {0}
Low (Some k) d = k < d

low_more : (b : Option ℕ) (d : ℕ) → Low b d → Low b (suc d)
low_more None d h = tt
low_more (Some k) d h = omega arith

-- .. and no row of depth d is one of them, or closes the open row
low_apart : (b : Option ℕ) (d : ℕ) → Low b d → is_at b d ≡ false
low_apart None d h = refl
low_apart (Some k) d h = ne_eqb k d (λ e. omega arith)

low_open : (b : Option ℕ) (d : ℕ) → Low b (suc d) → is_under b d ≡ false
low_open None d h = refl
low_open (Some k) d h = le-ltb d k (omega arith)

-- ---- tests
everything_matches : (w : Which) → is_everything w ≡ true → (r : FlatRow) → matches w r ≡ true
everything_matches Nothing e r = absurd (false≢true e)
everything_matches Everything e r = refl
everything_matches Ground e r = absurd (false≢true e)
everything_matches (Elements i) e r = absurd (false≢true e)
everything_matches (Attributes j) e r = absurd (false≢true e)
everything_matches (Serial k) e r = absurd (false≢true e)

not_everything : (w : Which) (r : FlatRow) → matches w r ≡ false → is_everything w ≡ false
not_everything Nothing r e = refl
not_everything Everything r e = absurd (false≢true (sym e))
not_everything Ground r e = refl
not_everything (Elements i) r e = refl
not_everything (Attributes j) r e = refl
not_everything (Serial k) r e = refl

everything_ground : (w : Which) → is_everything w ≡ true → names_ground w ≡ false
everything_ground Nothing e = refl
everything_ground Everything e = refl
everything_ground Ground e = absurd (false≢true e)
everything_ground (Elements i) e = refl
everything_ground (Attributes j) e = refl
everything_ground (Serial k) e = refl

ground_matches : (w : Which) → names_ground w ≡ true → (r : FlatRow) → matches w r ≡ false
ground_matches Nothing e r = refl
ground_matches Everything e r = absurd (false≢true e)
ground_matches Ground e r = refl
ground_matches (Elements i) e r = absurd (false≢true e)
ground_matches (Attributes j) e r = absurd (false≢true e)
ground_matches (Serial k) e r = absurd (false≢true e)

-- rows of which none can be one of them
module _ (q : FlatRow → Bool) where
  pub none_of : ((r : FlatRow) → q r ≡ false) → (f : Forest FlatRow) → NoneOf q f
  none_of h bare = tt
  none_of h (tree r b t) = (h r, none_of h b, none_of h t)

  pub none_apart : (f : Forest FlatRow) → NoneOf q f → NotNested q f
  none_apart bare n = tt
  none_apart (tree r b t) (other, inside, beside) = ((λ e. inside), none_apart b inside, none_apart t beside)

module _ (p : Plan) (v : Bytes) (fill : ℕ → List (Deep FlatRow)) where
  -- ---- the walk at a row, by what the row meets
  abbrev on_row : Open → Deep FlatRow → List (Deep FlatRow) → List (Deep FlatRow)
  on_row o x xs = emitted p v fill o x ++ walked p v fill (next_open p v fill o x) xs

  walk_gone : (o : Open) (x : Deep FlatRow) (xs : List (Deep FlatRow)) → is_below_taken o x ≡ true → walked p v fill o (x ∷ xs) ≡ walked p v fill o xs
  unfolding walked
  walk_gone o x xs e =
      ap (λ (g : Bool). elim g [ true ↦ walked p v fill o xs | false ↦ owed (closes o x && o.due) (fill (row_depth o)) ++ on_row (closed o x) x xs ]) e

  walk_row : (o : Open) (x : Deep FlatRow) (xs : List (Deep FlatRow)) (c : Bool) → is_below_taken o x ≡ false → closes o x ≡ c
      → walked p v fill o (x ∷ xs) ≡ owed (c && o.due) (fill (row_depth o)) ++ on_row (left_open c o.below o.due) x xs
  unfolding walked
  walk_row o x xs c e q =
      ap (λ (g : Bool). elim g [ true ↦ walked p v fill o xs | false ↦ owed (closes o x && o.due) (fill (row_depth o)) ++ on_row (closed o x) x xs ]) e
      ∙ ap (λ (c : Bool). owed (c && o.due) (fill (row_depth o)) ++ on_row (left_open c o.below o.due) x xs) q

  -- ---- a row taken is done with at the first row that is not deeper; the open row too, and its filling comes
  done_taking : (k : ℕ) (b : Option ℕ) (u : Bool) (rest : List (Deep FlatRow)) → Ends (suc k) rest → walked p v fill (opened (Some k) b u) rest ≡ walked p v fill (opened None b u) rest
  unfolding walked
  done_taking k b u [] h = refl
  done_taking k b u (x ∷ rest) h =
      walk_row (opened (Some k) b u) x rest (is_under b x.depth) (le-ltb k x.depth (omega arith)) refl
      ∙ sym (walk_row (opened None b u) x rest (is_under b x.depth) refl refl)

  done_below : (d : ℕ) (u : Bool) (rest : List (Deep FlatRow)) → Ends d rest → walked p v fill (opened None (Some d) u) rest ≡ owed u (fill d) ++ walked p v fill (opened None None false) rest
  unfolding walked
  done_below d u [] h = sym (append-nil (owed u (fill d)))
  done_below d u (x ∷ rest) h =
      walk_row (opened None (Some d) u) x rest true refl (lt-ltb x.depth d h)
      ∙ ap (λ (l : List (Deep FlatRow)). owed u (fill d) ++ l) (sym (walk_row (opened None None false) x rest false refl refl))

  skipped : (k : ℕ) (b : Option ℕ) (u : Bool) (e : ℕ) (f : Forest FlatRow) (rest : List (Deep FlatRow)) → k < e
      → walked p v fill (opened (Some k) b u) (preorder e f ++ rest) ≡ walked p v fill (opened (Some k) b u) rest
  skipped k b u e bare rest h = refl
  skipped k b u e (tree r g t) rest h =
      walk_gone (opened (Some k) b u) (at e r) ((preorder (suc e) g ++ preorder e t) ++ rest) (lt-ltb k e h)
      ∙ ap (walked p v fill (opened (Some k) b u)) (append_assoc (preorder (suc e) g) (preorder e t) rest)
      ∙ skipped k b u (suc e) g (preorder e t ++ rest) (omega arith)
      ∙ skipped k b u e t rest h

  -- ---- a row that closes nothing is taken or kept
  row_taken : (o : Open) (x : Deep FlatRow) (xs : List (Deep FlatRow)) → is_taken p o x ≡ true → on_row o x xs ≡ walked p v fill (after_taken o x) xs
  unfolding emitted next_open
  row_taken o x xs q =
      ap
      (λ (c : Bool).
      elim c [ true ↦ [] | false ↦ owed (is_filled p o x) (fill x.depth) ++ kept_row p v x ∷ [] ] ++ walked p v fill (elim c [ true ↦ after_taken o x | false ↦ after_kept p o x ]) xs)
      q

  row_kept : (o : Open) (x : Deep FlatRow) (xs : List (Deep FlatRow)) → is_taken p o x ≡ false
      → on_row o x xs ≡ owed (is_filled p o x) (fill x.depth) ++ (kept_row p v x ∷ walked p v fill (after_kept p o x) xs)
  unfolding emitted next_open
  row_kept o x xs q =
      ap
      (λ (c : Bool).
      elim c [ true ↦ [] | false ↦ owed (is_filled p o x) (fill x.depth) ++ kept_row p v x ∷ [] ] ++ walked p v fill (elim c [ true ↦ after_taken o x | false ↦ after_kept p o x ]) xs)
      q
      ∙ append_assoc (owed (is_filled p o x) (fill x.depth)) (kept_row p v x ∷ []) (walked p v fill (after_kept p o x) xs)

  module _ (sel due : Bool) (d : ℕ) (r : FlatRow) (g t : Forest FlatRow) where
    -- the walk of the rows below r, and of those after it once r is kept
    abbrev inner : List (Deep FlatRow)
    inner = tree_walk p v fill (matches p.above r) (matches p.above r && p.fills) (suc d) g

    abbrev others : List (Deep FlatRow)
    others = tree_walk p v fill sel (due && not (is_later p.marks p.later r)) d t

    abbrev on_tree : Bool → List (Deep FlatRow)
    on_tree c = elim c [ true ↦ tree_walk p v fill sel due d t | false ↦ owed (filled_at p due r) (fill d) ++ (kept_row p v (at d r) ∷ (inner ++ others)) ]

    tree_kept : taken_at p sel due r ≡ false → (z : List (Deep FlatRow))
        → tree_walk p v fill sel due d (tree r g t) ++ z ≡ owed (filled_at p due r) (fill d) ++ (kept_row p v (at d r) ∷ (inner ++ (others ++ z)))
    unfolding tree_walk
    tree_kept q z =
        ap (λ (c : Bool). on_tree c ++ z) q
        ∙ append_assoc (owed (filled_at p due r) (fill d)) (kept_row p v (at d r) ∷ (inner ++ others)) z
        ∙ ap (λ (l : List (Deep FlatRow)). owed (filled_at p due r) (fill d) ++ (kept_row p v (at d r) ∷ l)) (append_assoc inner others z)

    -- what is open after r, kept, as it is one of `above` or not
    abbrev open_after : Option ℕ → Bool → Bool → Open
    open_after b u m = elim m [ true ↦ opened None (Some (suc d)) p.fills | false ↦ opened None b (u && not (is_at b d && is_later p.marks p.later r)) ]

    -- of a row that closes nothing: the walk of it, of the rows below it and of those after it
    node : (b : Option ℕ) (u m : Bool) (rest z : List (Deep FlatRow)) → Low b (suc d) → is_taken p (opened None b u) (at d r) ≡ taken_at p sel due r → (u && is_at b d) ≡ due
        → matches p.above r ≡ m → Ends d rest → walked p v fill (opened None b u) (preorder d t ++ rest) ≡ tree_walk p v fill sel due d t ++ z
        → walked p v fill (open_after b u m) (preorder (suc d) g ++ (preorder d t ++ rest)) ≡ tree_walk p v fill m (m && p.fills) (suc d) g ++ (others ++ z)
        → walked p v fill (opened None b u) (preorder d (tree r g t) ++ rest) ≡ tree_walk p v fill sel due d (tree r g t) ++ z
    node b u m rest z low tested owes one end skip keep =
        walk_row (opened None b u) (at d r) ((preorder (suc d) g ++ preorder d t) ++ rest) false refl (low_open b d low)
        ∙ ap (on_row (opened None b u) (at d r)) (append_assoc (preorder (suc d) g) (preorder d t) rest)
        ∙ by (taken_at p sel due r) refl
      where
        below : walked p v fill (after_kept p (opened None b u) (at d r)) (preorder (suc d) g ++ (preorder d t ++ rest)) ≡ inner ++ (others ++ z)
        below =
            ap (λ (c : Bool). walked p v fill (open_after b u c) (preorder (suc d) g ++ (preorder d t ++ rest))) one
            ∙ keep
            ∙ ap (λ (c : Bool). tree_walk p v fill c (c && p.fills) (suc d) g ++ (others ++ z)) (sym one)

        by : (c : Bool) → taken_at p sel due r ≡ c → on_row (opened None b u) (at d r) (preorder (suc d) g ++ (preorder d t ++ rest)) ≡ tree_walk p v fill sel due d (tree r g t) ++ z
        by true q =
            row_taken (opened None b u) (at d r) (preorder (suc d) g ++ (preorder d t ++ rest)) (tested ∙ q)
            ∙ skipped d b u (suc d) g (preorder d t ++ rest) (omega arith)
            ∙ done_taking d b u (preorder d t ++ rest) (ends_after d t rest end)
            ∙ skip
            ∙ ap (λ (l : List (Deep FlatRow)). l ++ z) (sym (walk_taken p v fill sel due d r g t q))
        by false q =
            row_kept (opened None b u) (at d r) (preorder (suc d) g ++ (preorder d t ++ rest)) (tested ∙ q)
            ∙ ap₂ (λ (c : Bool) (l : List (Deep FlatRow)). owed (filled_at p c r) (fill d) ++ (kept_row p v (at d r) ∷ l)) owes below
            ∙ sym (tree_kept q z)

  -- ---- forests, by what is open: a row further up
  walk_deeper : (d : ℕ) (b : Option ℕ) (u : Bool) (f : Forest FlatRow) (rest : List (Deep FlatRow)) → Low b d → NoneOf (matches p.above) f → Ends d rest
      → walked p v fill (opened None b u) (preorder d f ++ rest) ≡ tree_walk p v fill false false d f ++ walked p v fill (opened None b u) rest
  unfolding tree_walk
  walk_deeper d b u bare rest h none end = refl
  walk_deeper d b u (tree r g t) rest h (other, inside, beside) end =
      node false false d r g t b u false rest (walked p v fill (opened None b u) rest) (low_more b d h)
      (ap₂ (λ (e c : Bool). ((e || c) && matches p.takes r) && not (p.keeps && u)) (not_everything p.above r other) apart_is
      ∙ sym (ap (λ (e : Bool). ((e || false) && matches p.takes r) && not (p.keeps && false)) (not_everything p.above r other)))
      (ap (λ (c : Bool). u && c) apart_is ∙ and-false u) other end (walk_deeper d b u t rest h beside end)
      (ap (λ (c : Bool). walked p v fill (opened None b (u && not (c && is_later p.marks p.later r))) (preorder (suc d) g ++ (preorder d t ++ rest))) apart_is
      ∙ ap (λ (c : Bool). walked p v fill (opened None b c) (preorder (suc d) g ++ (preorder d t ++ rest))) (and-true u)
      ∙ walk_deeper (suc d) b u g (preorder d t ++ rest) (low_more b d h) inside (ends_after d t rest end)
      ∙ ap (λ (l : List (Deep FlatRow)). tree_walk p v fill false false (suc d) g ++ l) (walk_deeper d b u t rest h beside end))
    where
      apart_is : is_at b d ≡ false
      apart_is = low_apart b d h

  -- the row right above
  walk_below : (d : ℕ) (u : Bool) (f : Forest FlatRow) (rest : List (Deep FlatRow)) → NoneOf (matches p.above) f → Ends d rest
      → walked p v fill (opened None (Some d) u) (preorder d f ++ rest) ≡ tree_walk p v fill true u d f ++ walked p v fill (opened None None false) rest
  unfolding tree_walk
  walk_below d u bare rest none end = done_below d u rest end
  walk_below d u (tree r g t) rest (other, inside, beside) end =
      node true u d r g t (Some d) u false rest (walked p v fill (opened None None false) rest) (omega arith)
      (ap (λ (c : Bool). ((is_everything p.above || c) && matches p.takes r) && not (p.keeps && u)) here)
      (ap (λ (c : Bool). u && c) here ∙ and-true u) other end (walk_below d u t rest beside end)
      (ap (λ (c : Bool). walked p v fill (opened None (Some d) (u && not (c && is_later p.marks p.later r))) (preorder (suc d) g ++ (preorder d t ++ rest))) here
      ∙ walk_deeper (suc d) (Some d) (u && not (is_later p.marks p.later r)) g (preorder d t ++ rest) (omega arith) inside (ends_after d t rest end)
      ∙ ap (λ (l : List (Deep FlatRow)). tree_walk p v fill false false (suc d) g ++ l) (walk_below d (u && not (is_later p.marks p.later r)) t rest beside end))
    where
      here : eqb d d ≡ true
      here = eq-eqb d d refl

  -- none
  walk_apart : (d : ℕ) (f : Forest FlatRow) (rest : List (Deep FlatRow)) → NotNested (matches p.above) f → Ends d rest
      → walked p v fill (opened None None false) (preorder d f ++ rest) ≡ tree_walk p v fill false false d f ++ walked p v fill (opened None None false) rest
  unfolding tree_walk
  walk_apart d bare rest a end = refl
  walk_apart d (tree r g t) rest (none, inside, beside) end =
      by (matches p.above r) refl (walk_apart (suc d) g (preorder d t ++ rest) inside (ends_after d t rest end)) (walk_apart d t rest beside end)
    where
      by : (m : Bool) → matches p.above r ≡ m
          → walked p v fill (opened None None false) (preorder (suc d) g ++ (preorder d t ++ rest)) ≡ tree_walk p v fill false false (suc d) g ++ walked p v fill (opened None None false) (preorder d t ++ rest)
          → walked p v fill (opened None None false) (preorder d t ++ rest) ≡ tree_walk p v fill false false d t ++ walked p v fill (opened None None false) rest
          → walked p v fill (opened None None false) (preorder d (tree r g t) ++ rest) ≡ tree_walk p v fill false false d (tree r g t) ++ walked p v fill (opened None None false) rest
      by true q x y =
          node false false d r g t None false true rest (walked p v fill (opened None None false) rest) tt refl refl q end y
          (walk_below (suc d) p.fills g (preorder d t ++ rest) (none q) (ends_after d t rest end)
          ∙ ap (λ (l : List (Deep FlatRow)). tree_walk p v fill true p.fills (suc d) g ++ l) y)
      by false q x y =
          node false false d r g t None false false rest (walked p v fill (opened None None false) rest) tt refl refl q end y
          (x ∙ ap (λ (l : List (Deep FlatRow)). tree_walk p v fill false false (suc d) g ++ l) y)

  -- every row is one of `above`, and none has a filling
  walk_everywhere : (d : ℕ) (b : Option ℕ) (sel : Bool) (f : Forest FlatRow) (rest : List (Deep FlatRow)) → is_everything p.above ≡ true → p.fills ≡ false → Low b (suc d)
      → walked p v fill (opened None b false) rest ≡ walked p v fill (opened None None false) rest → Ends d rest
      → walked p v fill (opened None b false) (preorder d f ++ rest) ≡ tree_walk p v fill sel false d f ++ walked p v fill (opened None None false) rest
  unfolding tree_walk
  walk_everywhere d b sel bare rest e n low same end = same
  walk_everywhere d b sel (tree r g t) rest e n low same end =
      node sel false d r g t b false true rest (walked p v fill (opened None None false) rest) low
      (ap (λ (c : Bool). ((c || is_at b d) && matches p.takes r) && not (p.keeps && false)) e ∙ sym (ap (λ (c : Bool). ((c || sel) && matches p.takes r) && not (p.keeps && false)) e)) refl
      (everything_matches p.above e r) end (walk_everywhere d b sel t rest e n low same end)
      (ap (λ (c : Bool). walked p v fill (opened None (Some (suc d)) c) (preorder (suc d) g ++ (preorder d t ++ rest))) n
      ∙ walk_everywhere (suc d) (Some (suc d)) true g (preorder d t ++ rest) e n (omega arith) (done_below (suc d) false (preorder d t ++ rest) (ends_after d t rest end))
      (ends_after d t rest end)
      ∙ ap₂ (λ (c : Bool) (l : List (Deep FlatRow)). tree_walk p v fill true c (suc d) g ++ l) (sym n) (walk_everywhere d None sel t rest e n tt refl end))

  -- ---- the documents
  pub walk_tree : (f : Forest FlatRow) → Clear p f → walked p v fill (at_first p) (preorder 0 f) ≡ documents_walk p v fill f
  unfolding walked
  walk_tree f clear = ap (walked p v fill (at_first p)) (sym (append-nil (preorder 0 f))) ∙ by (names_ground p.above) refl clear ∙ append-nil (documents_walk p v fill f)
    where
      open_first : Bool → Open
      open_first c = elim c [ true ↦ opened None (Some 0) p.fills | false ↦ opened None None false ]

      from : (c : Bool) → names_ground p.above ≡ c → walked p v fill (open_first c) (preorder 0 f ++ []) ≡ tree_walk p v fill c (c && p.fills) 0 f ++ []
          → walked p v fill (at_first p) (preorder 0 f ++ []) ≡ documents_walk p v fill f ++ []
      from c q x =
          ap (λ (c : Bool). walked p v fill (open_first c) (preorder 0 f ++ [])) q ∙ x ∙ ap (λ (c : Bool). tree_walk p v fill c (c && p.fills) 0 f ++ []) (sym q)

      by : (c : Bool) → names_ground p.above ≡ c → Clear p f → walked p v fill (at_first p) (preorder 0 f ++ []) ≡ documents_walk p v fill f ++ []
      by true q (apart a) = from true q (walk_below 0 p.fills f [] (none_of (matches p.above) (ground_matches p.above q) f) tt)
      by true q (everywhere e n) = absurd (false≢true (sym (everything_ground p.above e) ∙ q))
      by false q (apart a) = from false q (walk_apart 0 f [] a tt)
      by false q (everywhere e n) = from false q (walk_everywhere 0 None false f [] e n tt refl tt)
