-- A plan that takes no row and fills none in: each row is kept.
use Prim.Native.Nat.{ℕ, suc}
use mathlib.Core.Path.{◌≡◌, refl, ap, ap₂, ◌∙◌}
use mathlib.Core.Bool.{Bool, true, false, ◌&&◌, ◌||◌, not, and-false, false≢true}
use mathlib.Core.List.{List, [], ◌∷◌, ◌++◌, map}
use Rattle.std.specs.Prelude.{Option, None, Some}
use Rattle.rules.specs.Bytes.{Bytes}
use Rattle.rules.specs.Preorder.{Deep}
use Rattle.rules.specs.Layout.{FlatRow, FlatStore}
use Rattle.row_walk.specs.declared.Which.{Which}
use Rattle.row_walk.specs.declared.Which.TheVariants.{Nothing, Everything, Ground, Elements, Attributes, Serial}
use Rattle.row_walk.specs.declared.Plan.{Plan}
use Rattle.row_walk.specs.declared.Open.{Open}
use Rattle.row_walk.specs.Walk.{matches, is_everything, names_ground, kept_row, closes, closed, is_below, is_taken, is_filled, after_taken, after_kept, owed, row_depth, emitted, next_open, walked, at_first}
use Rattle.planned_rows.specs.Planned.{fill_of, rows_after}

-- whether no row is one of them
abbrev is_nothing : Which → Bool
is_nothing Nothing = true
is_nothing Everything = false
is_nothing Ground = false
is_nothing (Elements i) = false
is_nothing (Attributes j) = false
is_nothing (Serial k) = false

matches_none : (w : Which) (r : FlatRow) → is_nothing w ≡ true → matches w r ≡ false
matches_none Nothing r e = refl
matches_none Everything r e = absurd (false≢true e)
matches_none Ground r e = refl
matches_none (Elements i) r e = absurd (false≢true e)
matches_none (Attributes j) r e = absurd (false≢true e)
matches_none (Serial k) r e = absurd (false≢true e)

-- ---- the walk: nothing is taken and nothing is due
module _ (p : Plan) (v : Bytes) (none : is_nothing p.takes ≡ true) (dry : p.fills ≡ false) where
  abbrev calm : Option ℕ → Open
  calm b = record { taking = None; below = b; due = false }

  not_taken : (o : Open) (x : Deep FlatRow) → is_taken p o x ≡ false
  not_taken o x =
      ap (λ (b : Bool). ((is_everything p.above || is_below o x) && b) && not (p.keeps && o.due)) (matches_none p.takes x.row none)
      ∙ ap (λ (b : Bool). b && not (p.keeps && o.due)) (and-false (is_everything p.above || is_below o x))

  -- how deep is open after what a row closes, and after the row
  abbrev shallow : Option ℕ → Deep FlatRow → Option ℕ
  shallow b x = elim (closes (calm b) x) as (λ z. Option ℕ) [ true ↦ None | false ↦ b ]

  abbrev deeper : Option ℕ → Deep FlatRow → Option ℕ
  deeper b x = elim (matches p.above x.row) as (λ z. Option ℕ) [ true ↦ Some (suc x.depth) | false ↦ b ]

  closed_calm : (b : Option ℕ) (x : Deep FlatRow) → closed (calm b) x ≡ calm (shallow b x)
  closed_calm b x = by (closes (calm b) x)
    where
      by : (c : Bool) → elim c as (λ z. Open) [ true ↦ calm None | false ↦ calm b ] ≡ calm (elim c as (λ z. Option ℕ) [ true ↦ None | false ↦ b ])
      by true = refl
      by false = refl

  kept_calm : (b : Option ℕ) (x : Deep FlatRow) → after_kept p (calm b) x ≡ calm (deeper b x)
  kept_calm b x = by (matches p.above x.row)
    where
      by : (m : Bool)
          → elim m as (λ z. Open) [ true ↦ record { taking = None; below = Some (suc x.depth); due = p.fills } | false ↦ calm b ]
          ≡ calm (elim m as (λ z. Option ℕ) [ true ↦ Some (suc x.depth) | false ↦ b ])
      by true = ap (λ (d : Bool). record { taking = None; below = Some (suc x.depth); due = d }) dry
      by false = refl

  first_calm : at_first p ≡ calm (elim (names_ground p.above) as (λ z. Option ℕ) [ true ↦ Some 0 | false ↦ None ])
  first_calm = by (names_ground p.above)
    where
      by : (g : Bool) → elim g as (λ z. Open) [ true ↦ record { taking = None; below = Some 0; due = p.fills } | false ↦ calm None ] ≡ calm (elim g as (λ z. Option ℕ) [ true ↦ Some 0 | false ↦ None ])
      by true = ap (λ (d : Bool). record { taking = None; below = Some 0; due = d }) dry
      by false = refl

  module _ (fill : ℕ → List (Deep FlatRow)) where
    emitted_one : (b : Option ℕ) (x : Deep FlatRow) → emitted p v fill (calm b) x ≡ kept_row p v x ∷ []
    unfolding emitted
    emitted_one b x = ap (λ (t : Bool). elim t as (λ z. List (Deep FlatRow)) [ true ↦ [] | false ↦ owed (is_filled p (calm b) x) (fill x.depth) ++ kept_row p v x ∷ [] ]) (not_taken (calm b) x)

    onward_calm : (b : Option ℕ) (x : Deep FlatRow) → next_open p v fill (calm b) x ≡ calm (deeper b x)
    unfolding next_open
    onward_calm b x = ap (λ (t : Bool). elim t as (λ z. Open) [ true ↦ after_taken (calm b) x | false ↦ after_kept p (calm b) x ]) (not_taken (calm b) x) ∙ kept_calm b x

    walked_calm : (b : Option ℕ) (xs : List (Deep FlatRow)) → walked p v fill (calm b) xs ≡ map (kept_row p v) xs
    unfolding walked
    walked_calm b [] = refl
    walked_calm b (x ∷ xs) =
        ap (λ (t : Bool). owed t (fill (row_depth (calm b))) ++ (emitted p v fill (closed (calm b) x) x ++ walked p v fill (next_open p v fill (closed (calm b) x) x) xs)) (and-false (closes (calm b) x))
        ∙ ap (λ (o : Open). emitted p v fill o x ++ walked p v fill (next_open p v fill o x) xs) (closed_calm b x)
        ∙ ap₂ (λ (l : List (Deep FlatRow)) (o : Open). l ++ walked p v fill o xs) (emitted_one (shallow b x) x) (onward_calm (shallow b x) x)
        ∙ ap (λ (l : List (Deep FlatRow)). kept_row p v x ∷ l) (walked_calm (deeper (shallow b x) x) xs)

    walked_still : (xs : List (Deep FlatRow)) → walked p v fill (at_first p) xs ≡ map (kept_row p v) xs
    walked_still xs = ap (λ (o : Open). walked p v fill o xs) first_calm ∙ walked_calm _ xs

  pub rows_still : (f : FlatStore) → rows_after p v f ≡ map (kept_row p v) f.rows
  unfolding rows_after
  rows_still f = walked_still (fill_of p v f) f.rows
