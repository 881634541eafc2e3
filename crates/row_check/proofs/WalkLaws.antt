-- The walk may stop after any row: the state reached and the rows left give the verdict. And the verdict is what the
-- machine says of rows in their ranges.
use Prim.Native.Nat.{ℕ, zero, suc, ◌+◌, ◌*◌, ◌≤◌}
use native.Mathlib.Omega.{arith}
use native.Mathlib.Nat.{mul-zero, mul-suc}
use mathlib.Core.Path.{◌≡◌, refl, ap, sym, ◌∙◌}
use mathlib.Core.Logic.{inl}
use mathlib.Core.Bool.{Bool, true, false, ◌&&◌, and-false}
use mathlib.Core.Option.{Option, none, some}
use mathlib.Core.List.{List}
use lib.Dec.{leb, ltb}
use lib.ListN.{length, get_or, take, drop, replicate, length-replicate}
use lib.Seq.{drop-drop}
use borrow.Author.Tests.{leb-true}
use Rattle.rules.specs.Bytes.{Bytes, all}
use Rattle.rules.specs.Preorder.{Deep}
use Rattle.rules.specs.Layout.{row_size, FlatRow}
use Rattle.rules.specs.Decode.{read_row}
use Rattle.rules.proofs.Words.{and_split}
use Rattle.records.specs.Records.{row_fits, serial_fits, each_fits}
use Rattle.next_row.specs.declared.Level.{Level}
use Rattle.next_row.specs.Judge.{judge, ground_level}
use Rattle.row_state.specs.State.{open_elements, StateFits, start_state, level_at, stepped, RoomFor}
use Rattle.open_levels.specs.Open.{open_end, end}
use Rattle.row_step.specs.Steps.{Before, element_fits, comes_next, may_step, walk, state_ends}
use Rattle.row_step.proofs.StepLaws.{room_for}
use Rattle.row_check.specs.Machine.{levels_end, opened, machine}
use Rattle.row_check.specs.Verdict.{rows_read, fields_fit, answer_from, verdict}
use Rattle.row_check.proofs.StateLaws.{StandsFor, shut_alike, comes_alike, stands_stepped}

-- ---- the walk, in parts
module _ (b : Before) where
  -- a refusal stays
  pub walk_none : (count : ℕ) (bs : Bytes) → walk b count bs none ≡ none
  unfolding walk
  walk_none zero bs = refl
  walk_none (suc count) bs = walk_none count (drop (row_size b.width) bs)

  -- the state after the first m rows, and the rows that are left, give the state after all
  pub walk_split : (m n : ℕ) (bs : Bytes) (o : Option Bytes) → walk b (m + n) bs o ≡ walk b n (drop (row_size b.width * m) bs) (walk b m bs o)
  unfolding walk
  walk_split zero n bs o = let e : 0 + n ≡ n = omega arith in rw (e, mul-zero)
  walk_split (suc m) n bs o =
      let e : suc m + n ≡ suc (m + n) = omega arith in
      let g : row_size b.width + row_size b.width * m ≡ row_size b.width * suc m = omega (arith, mul-suc (row_size b.width) m) in
      ap (λ (k : ℕ). walk b k bs o) e
      ∙ walk_split m n (drop (row_size b.width) bs) _
      ∙ ap (λ (t : Bytes). walk b n t (walk b (suc m) bs o)) (drop-drop (row_size b.width * m) (row_size b.width) bs ∙ ap (λ (k : ℕ). drop k bs) g)

-- ---- the walk and the machine
-- the levels before the first row
unfoldable pub no_levels : List Level
no_levels = replicate 257 ground_level

pub levels_many : length no_levels ≡ 257
unfolding no_levels
levels_many = length-replicate 257 ground_level

pub levels_ground : get_or no_levels 0 ground_level ≡ ground_level
unfolding no_levels
levels_ground = refl

start_stands : StandsFor start_state no_levels 1
unfolding start_state
start_stands =
    record {
      fits = record { long = length-replicate {A = ℕ} 130 0; low = omega arith };
      many = levels_many;
      ground = levels_ground;
      inside = λ k h. absurd (omega arith);
      live = inl refl;
    }

-- the tests of the first row, and those of the others
first_apart : (x y a b c xs ys m : Bool) → ((x && xs) && ((y && ys) && (a && (b && (c && m))))) ≡ ((x && (y && (a && (b && c)))) && (xs && (ys && m)))
first_apart false y a b c xs ys m = refl
first_apart true y a b c false ys m = sym (and-false (y && (a && (b && c))))
first_apart true false a b c true ys m = refl
first_apart true true a b c true false m = sym (and-false (a && (b && c)))
first_apart true true false b c true true m = refl
first_apart true true true false c true true m = refl
first_apart true true true true c true true m = refl

-- what a row that may come passes
pub record Came (b : Before) (s row : Bytes) : Type 0 where
  pub fits : row_fits b.width row ≡ true
  pub serial : serial_fits b.next (read_row row).row.serial ≡ true
  pub element : element_fits b.form.size (read_row row) ≡ true
  pub deep : (read_row row).depth ≤ open_elements s
  pub next : (judge b.form).may (level_at s (read_row row).depth) (read_row row).row ≡ true

pub came : (b : Before) (s row : Bytes) → may_step b s row ≡ true → Came b s row
unfolding may_step
came b s row e =
    let x : Deep FlatRow = read_row row in
    let (fits, e₁) = and_split (row_fits b.width row) ((serial_fits b.next x.row.serial && element_fits b.form.size x) && comes_next b.form s x) e in
    let (ranged, comes) = and_split (serial_fits b.next x.row.serial && element_fits b.form.size x) (comes_next b.form s x) e₁ in
    let (serial, element) = and_split (serial_fits b.next x.row.serial) (element_fits b.form.size x) ranged in
    let (deep, e₂) = and_split (leb x.depth (open_elements s)) (open_end b.form s (x.depth + 1) && (judge b.form).may (level_at s x.depth) x.row) comes in
    let (shut, next) = and_split (open_end b.form s (x.depth + 1)) ((judge b.form).may (level_at s x.depth) x.row) e₂ in
    record { fits = fits; serial = serial; element = element; deep = leb-true x.depth (open_elements s) deep; next = next }

module _ (b : Before) where
  -- a row's serial is in the range, and an element fits
  abbrev pub ranges_fit : Deep FlatRow → Bool
  ranges_fit x = serial_fits b.next x.row.serial && element_fits b.form.size x

  -- the rows from here on, with `live` levels open
  abbrev pub judged : List Level → ℕ → ℕ → Bytes → Bool
  judged l live count bs =
      fields_fit b.width count bs && (all ranges_fit (rows_read b.width count bs) && machine (judge b.form) ground_level l live (rows_read b.width count bs))

  abbrev first_row : Bytes → Bytes
  first_row bs = take (row_size b.width) bs

  abbrev others : Bytes → Bytes
  others bs = drop (row_size b.width) bs

  abbrev levels_after : List Level → Bytes → List Level
  levels_after l row = opened (judge b.form) ground_level l (read_row row).depth (read_row row).row

  judged_first : (count : ℕ) (bs : Bytes) {s : Bytes} {l : List Level} {live : ℕ} → StandsFor s l live
      → judged l live (suc count) bs ≡ (may_step b s (first_row bs) && judged (levels_after l (first_row bs)) (suc (suc (read_row (first_row bs)).depth)) count (others bs))
  unfolding machine each_fits may_step
  judged_first count bs {s} {l} {live} p =
      let x : Deep FlatRow = read_row (first_row bs) in
      first_apart (row_fits b.width (first_row bs)) (ranges_fit x) (ltb x.depth live) (levels_end (judge b.form) ground_level l live (suc x.depth))
      ((judge b.form).may (get_or l x.depth ground_level) x.row) (fields_fit b.width count (others bs)) (all ranges_fit (rows_read b.width count (others bs)))
      (machine (judge b.form) ground_level (levels_after l (first_row bs)) (suc (suc x.depth)) (rows_read b.width count (others bs)))
      ∙ ap (λ (z : Bool). (row_fits b.width (first_row bs) && (ranges_fit x && z)) && judged (levels_after l (first_row bs)) (suc (suc x.depth)) count (others bs))
      (comes_alike b.form p x)

  module _ (few : b.form.size ≤ 64) (some-few : b.form.attributes ≤ 64) where
    -- the state has room for a row that may come
    pub came_room : {s row : Bytes} → StateFits s → Came b s row → RoomFor (read_row row)
    came_room {s} {row} p c =
        room_for b.width b.form (level_at s (read_row row).depth) row few some-few (omega (arith, p.low, c.deep)) c.fits c.element c.next

    judged_walk : (count : ℕ) (bs : Bytes) {s : Bytes} {l : List Level} {live : ℕ} → StandsFor s l live → judged l live count bs ≡ state_ends b.form (walk b count bs (some s))
    unfolding walk machine each_fits end
    judged_walk zero bs p = shut_alike b.form p 0 (omega arith)
    judged_walk (suc count) bs {s} {l} {live} p =
        judged_first count bs p
        ∙ by (may_step b s (first_row bs)) refl
        (λ q. let c = came b s (first_row bs) q in judged_walk count (others bs) (stands_stepped b.form p (read_row (first_row bs)) c.deep (came_room p.fits c)))
      where
        by : (c : Bool) → may_step b s (first_row bs) ≡ c
            → (may_step b s (first_row bs) ≡ true
            → judged (levels_after l (first_row bs)) (suc (suc (read_row (first_row bs)).depth)) count (others bs)
            ≡ state_ends b.form (walk b count (others bs) (some (stepped s (read_row (first_row bs))))))
            → (c && judged (levels_after l (first_row bs)) (suc (suc (read_row (first_row bs)).depth)) count (others bs))
            ≡ state_ends b.form (walk b count (others bs) (elim c [ true ↦ some (stepped s (read_row (first_row bs))) | false ↦ none ]))
        by true q h = h q
        by false q h = ap (state_ends b.form) (sym (walk_none b count (others bs)))

    -- THE VERDICT is the machine's on rows that fit and are in their ranges
    pub verdict_judged : (count : ℕ) (bs : Bytes) → judged no_levels 1 count bs ≡ verdict b count bs
    unfolding verdict answer_from
    verdict_judged count bs = judged_walk count bs start_stands
