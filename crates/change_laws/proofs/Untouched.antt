-- What a plan leaves alone: the rows right below a row where it takes nothing, fills nothing or sets nothing.
use Prim.Native.Nat.{ℕ}
use mathlib.Core.Path.{◌≡◌, refl, ap, ap₂, ◌∙◌}
use mathlib.Core.Bool.{Bool, true, false, not}
use mathlib.Core.List.{List, [], ◌∷◌, map, Memᴰ}
use Rattle.rules.specs.Bytes.{numbers}
use Rattle.rules.specs.Store.{Row, Forest, heads}
use Rattle.rules.specs.Change.{Plan}
use Rattle.rules.specs.Passing.{GoodSerials}
use Rattle.rules.proofs.Apart.{differs}
use Rattle.change_laws.proofs.RowEdits.{keep, plant_rows, revalued, children_after}
use Rattle.change_laws.proofs.Rowwise.{Standing}
use Rattle.change_laws.proofs.StandingLaws.{standing_child, no_zero}
use Rattle.change_laws.proofs.InstanceRows.{keep_all, plant_not}

pub revalued_other : (p : Plan) (r : Row) → (r.serial ≡ p.set → ⊥) → revalued p r ≡ r
revalued_other p r f = rw (differs numbers r.serial p.set f)

pub keep_alike : (test other : Row → Bool) → ((r : Row) → test r ≡ other r) → (rows : List Row) → keep test rows ≡ keep other rows
unfolding keep
keep_alike test other f [] = refl
keep_alike test other f (r ∷ rows) = rw (f r, keep) (ap (λ (z : List Row). elim (other r) as (λ c. List Row) [ true ↦ r ∷ z | false ↦ z ]) (keep_alike test other f rows))

pub map_same : (w : Row → Row) (rows : List Row) → ((r : Row) → Memᴰ r rows → w r ≡ r) → map w rows ≡ rows
map_same w [] f = refl
map_same w (r ∷ rows) f = ap₂ (λ (x : Row) (z : List Row). x ∷ z) (f r (Memᴰ.head refl)) (map_same w rows (λ s m. f s (Memᴰ.tail m)))

module _ (p : Plan) (u : Row) (rows : List Row) where
  -- nothing is taken
  pub children_left : ((r : Row) → Memᴰ r rows → p.takes u r ≡ false) → children_after p u rows ≡ plant_rows p (revalued p u) (p.fills (revalued p u)) (map (revalued p) rows)
  unfolding children_after
  children_left f = ap (λ (z : List Row). plant_rows p (revalued p u) (p.fills (revalued p u)) (map (revalued p) z)) (keep_all (λ r. not (p.takes u r)) rows (λ r m. ap not (f r m)))

  -- nothing is filled
  pub children_cut : p.fills (revalued p u) ≡ false → children_after p u rows ≡ map (revalued p) (keep (λ r. not (p.takes u r)) rows)
  unfolding children_after
  children_cut e = let z : List Row = map (revalued p) (keep (λ r. not (p.takes u r)) rows) in ap (λ (b : Bool). plant_rows p (revalued p u) b z) e ∙ plant_not p (revalued p u) z

  -- nothing is done
  pub children_same : ((r : Row) → Memᴰ r rows → p.takes u r ≡ false) → p.fills (revalued p u) ≡ false → ((r : Row) → Memᴰ r rows → revalued p r ≡ r) → children_after p u rows ≡ rows
  children_same f e g = children_cut e ∙ ap (map (revalued p)) (keep_all (λ r. not (p.takes u r)) rows (λ r m. ap not (f r m))) ∙ map_same (revalued p) rows g

-- a plan that sets no value, on documents without serial 0
module _ (next : ℕ) (docs : Forest Row) (good : GoodSerials next docs) (p : Plan) (none-set : p.set ≡ 0) where
  pub same_row_lem : (r : Row) (b : Forest Row) → Standing docs r b → revalued p r ≡ r
  same_row_lem r b i = revalued_other p r (λ e. no_zero next docs good r b i (e ∙ none-set))

  pub same_child : (r : Row) (b : Forest Row) → Standing docs r b → (s : Row) → Memᴰ s (heads b) → revalued p s ≡ s
  same_child r b i s m = let (c, j) = standing_child docs r b i s m in same_row_lem s c j

  pub children_kept : (r : Row) (b : Forest Row) → Standing docs r b → ((s : Row) → Memᴰ s (heads b) → p.takes r s ≡ false) → p.fills r ≡ false → children_after p r (heads b) ≡ heads b
  children_kept r b i f e = children_same p r (heads b) f (ap p.fills (same_row_lem r b i) ∙ e) (same_child r b i)
