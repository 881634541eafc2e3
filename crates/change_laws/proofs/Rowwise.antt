-- What a plan does to the documents, row by row: the rows right below each row, and a test on every row.
use mathlib.Core.Path.{◌≡◌, refl, sym, ap, ◌∙◌}
use mathlib.Core.Logic.{◌⊎◌, inl, inr}
use mathlib.Core.Bool.{Bool, true, false, ◌&&◌, not, false≢true}
use mathlib.Core.List.{List, ◌∷◌, ◌++◌, map}
use Rattle.rules.specs.Store.{Row, Forest, bare, tree, ◌⧺◌, heads}
use Rattle.rules.specs.Conforming.{every_row}
use Rattle.rules.specs.Lines.{ground}
use Rattle.rules.specs.Change.{Plan, prune, each_row, plant, changed}
use Rattle.rules.proofs.Words.{and_both, and_split}
use Rattle.change_laws.proofs.RowEdits.{keep, plant_rows, revalued, children_after}
use Rattle.rules.proofs.FillingLaws.{heads_beside}

-- row r stands in the forest, with b below it
abbrev pub Standing : Forest Row → Row → Forest Row → Type 0
Standing bare r b = ⊥
Standing (tree s c t) r b = ((s ≡ r) × (c ≡ b)) ⊎ (Standing c r b ⊎ Standing t r b)

pub every_beside : (q : Row → List Row → Bool) (f g : Forest Row) → every_row q f ≡ true → every_row q g ≡ true → every_row q (f ⧺ g) ≡ true
every_beside q bare g x y = y
every_beside q (tree r b t) g x y =
    let (a, z) = and_split (q r (heads b)) (every_row q b && every_row q t) x in
    let (i, j) = and_split (every_row q b) (every_row q t) z in
    and_both a (and_both i (every_beside q t g j y))

module _ (p : Plan) where
  taken : (v r : Row) (b t : Forest Row) → p.takes v r ≡ true → prune p.takes v (tree r b t) ≡ prune p.takes v t
  unfolding prune
  taken v r b t e = rw (e, prune)

  left : (v r : Row) (b t : Forest Row) → p.takes v r ≡ false → prune p.takes v (tree r b t) ≡ tree r (prune p.takes r b) (prune p.takes v t)
  unfolding prune
  left v r b t e = rw (e, prune)

  -- a forest with the plan carried out below a row that was v and is u
  abbrev pub below : Row → Bool → Row → Forest Row → Forest Row
  below u due v f = plant p u due (each_row (revalued p) (prune p.takes v f))

  pub below_taken : (u : Row) (due : Bool) (v r : Row) (b t : Forest Row) → p.takes v r ≡ true → below u due v (tree r b t) ≡ below u due v t
  below_taken u due v r b t e = ap (λ (z : Forest Row). plant p u due (each_row (revalued p) z)) (taken v r b t e)

  abbrev pub under : Row → Forest Row → Forest Row
  under r b = below (revalued p r) (p.fills (revalued p r)) r b

  plant_here : (u s : Row) (due : Bool) (c t : Forest Row) → (due && p.later u s) ≡ true → plant p u due (tree s c t) ≡ p.filling ⧺ tree s (plant p s (p.fills s) c) (plant p u false t)
  unfolding plant
  plant_here u s true c t e = rw (e, plant)
  plant_here u s false c t e = absurd (false≢true e)

  plant_past : (u s : Row) (due : Bool) (c t : Forest Row) → (due && p.later u s) ≡ false → plant p u due (tree s c t) ≡ tree s (plant p s (p.fills s) c) (plant p u due t)
  unfolding plant
  plant_past u s true c t e = rw (e, plant)
  plant_past u s false c t e = refl

  pub below_here : (u : Row) (due : Bool) (v r : Row) (b t : Forest Row) → p.takes v r ≡ false → (due && p.later u (revalued p r)) ≡ true
      → below u due v (tree r b t) ≡ p.filling ⧺ tree (revalued p r) (under r b) (below u false v t)
  unfolding each_row
  below_here u due v r b t e h =
      ap (λ (z : Forest Row). plant p u due (each_row (revalued p) z)) (left v r b t e)
      ∙ plant_here u (revalued p r) due (each_row (revalued p) (prune p.takes r b)) (each_row (revalued p) (prune p.takes v t)) h

  pub below_past : (u : Row) (due : Bool) (v r : Row) (b t : Forest Row) → p.takes v r ≡ false → (due && p.later u (revalued p r)) ≡ false
      → below u due v (tree r b t) ≡ tree (revalued p r) (under r b) (below u due v t)
  unfolding each_row
  below_past u due v r b t e h =
      ap (λ (z : Forest Row). plant p u due (each_row (revalued p) z)) (left v r b t e)
      ∙ plant_past u (revalued p r) due (each_row (revalued p) (prune p.takes r b)) (each_row (revalued p) (prune p.takes v t)) h

  -- ---- the rows at the top
  abbrev rows_below : Row → Bool → Row → List Row → List Row
  rows_below u due v rs = plant_rows p u due (map (revalued p) (keep (λ r. not (p.takes v r)) rs))

  rows_taken : (u : Row) (due : Bool) (v r : Row) (rs : List Row) → p.takes v r ≡ true → rows_below u due v (r ∷ rs) ≡ rows_below u due v rs
  unfolding keep
  rows_taken u due v r rs e = ap (λ (z : List Row). plant_rows p u due (map (revalued p) z)) kept
    where
      kept : keep (λ r. not (p.takes v r)) (r ∷ rs) ≡ keep (λ r. not (p.takes v r)) rs
      kept = rw (e, keep)

  rows_left_lem : (u : Row) (due : Bool) (v r : Row) (rs : List Row) → p.takes v r ≡ false
      → rows_below u due v (r ∷ rs) ≡ plant_rows p u due (revalued p r ∷ map (revalued p) (keep (λ r. not (p.takes v r)) rs))
  unfolding keep
  rows_left_lem u due v r rs e = ap (λ (z : List Row). plant_rows p u due (map (revalued p) z)) kept
    where
      kept : keep (λ r. not (p.takes v r)) (r ∷ rs) ≡ r ∷ keep (λ r. not (p.takes v r)) rs
      kept = rw (e, keep)

  rows_here_lem : (u s : Row) (due : Bool) (rs : List Row) → (due && p.later u s) ≡ true → plant_rows p u due (s ∷ rs) ≡ heads p.filling ++ (s ∷ plant_rows p u false rs)
  unfolding plant_rows
  rows_here_lem u s true rs e = rw (e, plant_rows)
  rows_here_lem u s false rs e = absurd (false≢true e)

  rows_past : (u s : Row) (due : Bool) (rs : List Row) → (due && p.later u s) ≡ false → plant_rows p u due (s ∷ rs) ≡ s ∷ plant_rows p u due rs
  unfolding plant_rows
  rows_past u s true rs e = rw (e, plant_rows)
  rows_past u s false rs e = refl

  heads_below : (u : Row) (due : Bool) (v : Row) (f : Forest Row) → heads (below u due v f) ≡ rows_below u due v (heads f)
  unfolding prune each_row plant keep plant_rows
  heads_below u true v bare = refl
  heads_below u false v bare = refl
  heads_below u due v (tree r b t) = by (p.takes v r) refl (due && p.later u (revalued p r)) refl (heads_below u false v t) (heads_below u due v t)
    where
      rest : List Row
      rest = map (revalued p) (keep (λ r. not (p.takes v r)) (heads t))

      by : (c : Bool) → p.takes v r ≡ c → (d : Bool) → (due && p.later u (revalued p r)) ≡ d → heads (below u false v t) ≡ rows_below u false v (heads t)
          → heads (below u due v t) ≡ rows_below u due v (heads t)
          → heads (below u due v (tree r b t)) ≡ rows_below u due v (r ∷ heads t)
      by true e d h x y = ap heads (below_taken u due v r b t e) ∙ y ∙ sym (rows_taken u due v r (heads t) e)
      by false e true h x y =
          ap heads (below_here u due v r b t e h)
          ∙ heads_beside p.filling (tree (revalued p r) (under r b) (below u false v t))
          ∙ ap (λ (z : List Row). heads p.filling ++ (revalued p r ∷ z)) x
          ∙ sym (rows_left_lem u due v r (heads t) e ∙ rows_here_lem u (revalued p r) due rest h)
      by false e false h x y =
          ap heads (below_past u due v r b t e h) ∙ ap (λ (z : List Row). revalued p r ∷ z) y ∙ sym (rows_left_lem u due v r (heads t) e ∙ rows_past u (revalued p r) due rest h)

  pub heads_changed : (u : Row) (b : Forest Row) → heads (plant p (revalued p u) (p.fills (revalued p u)) (each_row (revalued p) (prune p.takes u b))) ≡ children_after p u (heads b)
  unfolding children_after
  heads_changed u b = heads_below (revalued p u) (p.fills (revalued p u)) u b

  -- the documents themselves stand below `ground`, whose value no plan sets
  pub roots_changed : (docs : Forest Row) → heads (changed p docs) ≡ plant_rows p ground (p.fills ground) (map (revalued p) (keep (λ r. not (p.takes ground r)) (heads docs)))
  roots_changed docs = heads_below ground (p.fills ground) ground docs

  -- ---- every row
  module _ (q q' : Row → List Row → Bool) (new : every_row q' p.filling ≡ true) where
    every_below : (u : Row) (due : Bool) (v : Row) (f : Forest Row)
        → ((r : Row) (b : Forest Row) → Standing f r b → q r (heads b) ≡ true → q' (revalued p r) (children_after p r (heads b)) ≡ true)
        → every_row q f ≡ true → every_row q' (below u due v f) ≡ true
    unfolding prune each_row plant
    every_below u true v bare k e = new
    every_below u false v bare k e = refl
    every_below u due v (tree r b t) k e =
        let (x, z) = and_split (q r (heads b)) (every_row q b && every_row q t) e in
        let (y, w) = and_split (every_row q b) (every_row q t) z in
        let later : (due : Bool) → every_row q' (below u due v t) ≡ true = λ due. every_below u due v t (λ s c i. k s c (inr (inr i))) w in
        by (p.takes v r) refl (due && p.later u (revalued p r)) refl
        (ap (λ (l : List Row). q' (revalued p r) l) (heads_changed r b) ∙ k r b (inl (refl, refl)) x)
        (every_below (revalued p r) (p.fills (revalued p r)) r b (λ s c i. k s c (inr (inl i))) y) later
      where
        by : (c : Bool) → p.takes v r ≡ c → (d : Bool) → (due && p.later u (revalued p r)) ≡ d → q' (revalued p r) (heads (under r b)) ≡ true → every_row q' (under r b) ≡ true
            → ((due : Bool) → every_row q' (below u due v t) ≡ true) → every_row q' (below u due v (tree r b t)) ≡ true
        by true g d h x y z = ap (every_row q') (below_taken u due v r b t g) ∙ z due
        by false g true h x y z =
            ap (every_row q') (below_here u due v r b t g h) ∙ every_beside q' p.filling (tree (revalued p r) (under r b) (below u false v t)) new (and_both x (and_both y (z false)))
        by false g false h x y z = ap (every_row q') (below_past u due v r b t g h) ∙ and_both x (and_both y (z due))

    -- a test passed by every row, a test that each row then passes with the rows it has below it after the plan
    pub every_changed : (docs : Forest Row)
        → ((r : Row) (b : Forest Row) → Standing docs r b → q r (heads b) ≡ true → q' (revalued p r) (children_after p r (heads b)) ≡ true)
        → every_row q docs ≡ true → every_row q' (changed p docs) ≡ true
    every_changed docs k e = every_below ground (p.fills ground) ground docs k e
