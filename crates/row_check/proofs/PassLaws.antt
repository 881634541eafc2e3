-- The loop of the steps: the walk over the rows that are left; and what the verdict says.
use Prim.Native.Nat.{ℕ, zero, suc, ◌+◌, ◌*◌, ◌-◌, ◌≤◌, ◌<◌}
use native.Mathlib.Omega.{arith}
use mathlib.Core.Path.{◌≡◌, refl, ap, ap₂, sym, ◌∙◌}
use mathlib.Core.Logic.{◌↔◌}
use mathlib.Core.Bool.{Bool, true, false, false≢true}
use mathlib.Core.Option.{Option, none, some}
use lib.ListN.{length, get_or, take, drop, replicate, length-append, length-replicate}
use lib.Seq.{length-take-le, take-take, get_or-take, get_or-drop, take-append_seam, drop-append_seam}
use native.Mathlib.Nat.{mul-suc, mul-zero}
use mathlib.Core.List.{◌++◌}
use Rattle.rules.specs.Bytes.{Bytes, all}
use Rattle.rules.specs.Layout.{row_size}
use Rattle.rules.specs.Decode.{read_row}
use Rattle.rules.specs.WellFormed.{is_there}
use Rattle.rules.proofs.Words.{and_both, and_split}
use Rattle.rules.proofs.BooleanLaws.{all_of, all_in}
use Rattle.records.proofs.RecordLaws.{drop_take}
use Rattle.records.specs.Records.{serial_fits}
use Rattle.form_index.specs.Indices.{Documents}
use Rattle.next_row.specs.Judge.{ground_level, judge}
use Rattle.row_state.specs.State.{StateFits, start_state, stepped}
use Rattle.open_levels.specs.Open.{end}
use Rattle.row_step.specs.Steps.{Before, element_fits, row_step, walk, state_ends, StepMade}
use Rattle.row_check.specs.Machine.{machine}
use Rattle.row_check.specs.Verdict.{rows_read, fields_fit, answer_from, verdict, SoundForm, RowsConform}
use Rattle.row_check.specs.Walking.{WalkMade}
use Rattle.row_check.proofs.MachineLaws.{Within}
use Rattle.row_check.proofs.JudgeLaws.{documents_judged}
use Rattle.row_check.proofs.DepthLaws.{elements_fit}
use Rattle.row_check.proofs.WalkLaws.{walk_none, no_levels, levels_many, levels_ground, ranges_fit, verdict_judged}

-- ---- the loop of the steps
-- the walk over the m rows that are left, from the state reached, is the whole walk; and the bytes left are those rows
pub record StepsLeft (b : Before) (goal : Option Bytes) (s t : Bytes) (m : ℕ) : Type 0 where
  pub is : goal ≡ walk b m t (some s)
  pub fits : StateFits s
  pub exact : length t ≡ row_size b.width * m

-- a walk reads the bytes of its rows, and none after them
walk_within : (b : Before) (count : ℕ) (rows : Bytes) (o : Option Bytes) → walk b count (take (row_size b.width * count) rows) o ≡ walk b count rows o
unfolding walk
walk_within b zero rows o = refl
walk_within b (suc count) rows o =
    let more : row_size b.width * suc count ≡ row_size b.width + row_size b.width * count = omega (arith, mul-suc (row_size b.width) count) in
    let first : take (row_size b.width) (take (row_size b.width * suc count) rows) ≡ take (row_size b.width) rows =
    take-take (row_size b.width) (row_size b.width * suc count) rows (omega (arith, more)) in
    let others : drop (row_size b.width) (take (row_size b.width * suc count) rows) ≡ take (row_size b.width * count) (drop (row_size b.width) rows) =
    drop_take (row_size b.width) (row_size b.width * suc count) rows (omega (arith, more))
    ∙ ap (λ (k : ℕ). take k (drop (row_size b.width) rows)) (omega (arith, more)) in
    ap₂ (λ (u v : Bytes). walk b count u (elim o as (λ x. Option Bytes) [ some s ↦ row_step b s v | none ↦ none ])) others first
    ∙ walk_within b count (drop (row_size b.width) rows) _

-- at first: all rows
pub steps_start : (b : Before) (s t rows : Bytes) (count size : ℕ) → StateFits s → row_size b.width * count ≤ length rows → size ≡ row_size b.width → t ≡ take (size * count) rows
    → StepsLeft b (walk b count rows (some s)) s t (count - 0)
steps_start b s t rows count size fits room z e =
    let cut : t ≡ take (row_size b.width * count) rows = e ∙ ap (λ (k : ℕ). take (k * count) rows) z in
    let all : count - 0 ≡ count = omega arith in
    rw (all, cut)
    (record {
      is = sym (walk_within b count rows (some s));
      fits = fits;
      exact = length-take-le (row_size b.width * count) rows room;
    })

module _ (b : Before) (goal : Option Bytes) (s t : Bytes) (m : ℕ) (p : StepsLeft b goal s t m) where
  -- no row is left
  pub steps_end : length t < row_size b.width → goal ≡ some s
  unfolding walk
  steps_end h = by m refl
    where
      by : (k : ℕ) → m ≡ k → goal ≡ some s
      by zero e = p.is ∙ ap (λ (k : ℕ). walk b k t (some s)) e
      by (suc k) e = absurd (omega (arith, p.exact, ap (λ (x : ℕ). row_size b.width * x) e, mul-suc (row_size b.width) k))

  module _ (x t' : Bytes) (split : t ≡ x ++ t') (sized : length x ≡ row_size b.width) {c : Bool} {s' : Bytes} (made : StepMade b s x c s') where
    first_row : take (row_size b.width) t ≡ x
    first_row = ap₂ take (sym sized) split ∙ take-append_seam x t'

    others : drop (row_size b.width) t ≡ t'
    others = ap₂ drop (sym sized) split ∙ drop-append_seam x t'

    abbrev from_first : Bool → Option Bytes
    from_first c = elim c as (λ x. Option Bytes) [ true ↦ some (stepped s (read_row x)) | false ↦ none ]

    -- the first row, and the rows after it
    first : (k : ℕ) → m ≡ suc k → goal ≡ walk b k t' (from_first c)
    unfolding walk
    first k e =
        p.is
        ∙ ap (λ (j : ℕ). walk b j t (some s)) e
        ∙ ap₂ (λ (u v : Bytes). walk b k u (row_step b s v)) others first_row
        ∙ ap (λ (z : Bool). walk b k t' (from_first z)) (sym made.is)

    pub steps_refused : c ≡ false → goal ≡ none
    unfolding walk
    steps_refused q = by m refl
      where
        by : (k : ℕ) → m ≡ k → goal ≡ none
        by zero e = absurd (omega (arith, p.exact, ap (λ (x : ℕ). row_size b.width * x) e, mul-zero (row_size b.width), ap length split, length-append x t', sized))
        by (suc k) e = first k e ∙ ap (λ (z : Bool). walk b k t' (from_first z)) q ∙ walk_none b k t'

    pub steps_on : c ≡ true → StepsLeft b goal s' t' (m - 1)
    steps_on q = by m refl
      where
        by : (k : ℕ) → m ≡ k → StepsLeft b goal s' t' (m - 1)
        by zero e = absurd (omega (arith, p.exact, ap (λ (x : ℕ). row_size b.width * x) e, mul-zero (row_size b.width), ap length split, length-append x t', sized))
        by (suc k) e =
            let less : m - 1 ≡ k = omega arith in
            rw less
            (record {
              is = first k e ∙ ap (λ (z : Bool). walk b k t' (from_first z)) q ∙ ap (λ (u : Bytes). walk b k t' (some u)) (sym (made.state q));
              fits = made.fits;
              exact = omega (arith, p.exact, ap (λ (x : ℕ). row_size b.width * x) e, mul-suc (row_size b.width) k, ap length split, length-append x t', sized);
            })

-- ---- what the walk leaves
module _ (b : Before) (s : Bytes) (count : ℕ) (rows : Bytes) {s' : Bytes} (f : StateFits s') where
  pub made_none : walk b count rows (some s) ≡ none → WalkMade b s count rows false s'
  made_none e = record { is = sym (ap is_there e); state = λ z. absurd (false≢true z); fits = f }

  pub made_all : walk b count rows (some s) ≡ some s' → WalkMade b s count rows true s'
  made_all e = record { is = sym (ap is_there e); state = λ z. e; fits = f }

-- the answer from a state on: a walk that refuses, or the end that is asked after it
module _ {b : Before} {s : Bytes} {count : ℕ} {rows : Bytes} {answer : Bool} {s' : Bytes} (x : WalkMade b s count rows answer s') where
  pub answer_refused : answer ≡ false → false ≡ answer_from b s count rows
  unfolding answer_from
  answer_refused q = sym (none_ends (walk b count rows (some s)) (sym x.is ∙ q))
    where
      none_ends : (o : Option Bytes) → is_there o ≡ false → state_ends b.form o ≡ false
      none_ends none e = refl
      none_ends (some t) e = absurd (false≢true (sym e))

  pub answer_ended : answer ≡ true → {r : Bool} → r ≡ end b.form s' → r ≡ answer_from b s count rows
  unfolding answer_from
  answer_ended q h = h ∙ sym (ap (state_ends b.form) (x.state q))

-- from the start
pub start_fits : StateFits (replicate {A = ℕ} 130 0)
start_fits = record { long = length-replicate {A = ℕ} 130 0; low = omega arith }

pub from_start : (b : Before) (count : ℕ) (rows : Bytes) {r : Bool} → r ≡ answer_from b (replicate {A = ℕ} 130 0) count rows → r ≡ verdict b count rows
unfolding verdict start_state
from_start b count rows e = e

-- ---- what the verdict says
-- each depth is a byte
pub rows_within : (w m : ℕ) (t : Bytes) → ((i : ℕ) → get_or t i 0 < 256) → Within 256 (rows_read w m t)
rows_within w zero t h = tt
rows_within w (suc m) t h =
    ((rw (get_or-take (row_size w) t 1 0 (omega arith)) (h 1)), rows_within w m (drop (row_size w) t) (λ i. rw (get_or-drop (row_size w) t i 0) (h (row_size w + i))))

-- THE VERDICT of the walk is that the rows conform
pub verdict_says : (b : Before) (count : ℕ) (rows : Bytes) → SoundForm b.form → Within 256 (rows_read b.width count rows) → (verdict b count rows ≡ true) ↔ RowsConform b count rows
verdict_says b count rows sound low = (to, from)
  where
    judge_says : (machine (judge b.form) ground_level no_levels 1 (rows_read b.width count rows) ≡ true) ↔ Documents b.form (rows_read b.width count rows)
    judge_says = documents_judged b.form sound.once 256 (rows_read b.width count rows) no_levels levels_many levels_ground low

    to : verdict b count rows ≡ true → RowsConform b count rows
    to e =
        let (fields, e₁) = and_split (fields_fit b.width count rows) _ (verdict_judged b sound.definitions sound.attributes count rows ∙ e) in
        let (ranged, run) = and_split (all (ranges_fit b) (rows_read b.width count rows)) (machine (judge b.form) ground_level no_levels 1 (rows_read b.width count rows)) e₁ in
        record {
          fields = fields;
          serials = all_of (λ x. serial_fits b.next x.row.serial) (rows_read b.width count rows)
              (λ x m. (and_split (serial_fits b.next x.row.serial) (element_fits b.form.size x) (all_in (ranges_fit b) x (rows_read b.width count rows) ranged m)).0);
          documents = judge_says.0 run;
        }

    from : RowsConform b count rows → verdict b count rows ≡ true
    from r =
        let elements : all (element_fits b.form.size) (rows_read b.width count rows) ≡ true =
        elements_fit b.form sound.definitions sound.chains (rows_read b.width count rows) r.documents in
        let ranged : all (ranges_fit b) (rows_read b.width count rows) ≡ true =
        all_of (ranges_fit b) (rows_read b.width count rows)
        (λ x m. and_both (all_in (λ y. serial_fits b.next y.row.serial) x (rows_read b.width count rows) r.serials m)
        (all_in (element_fits b.form.size) x (rows_read b.width count rows) elements m)) in
        sym (verdict_judged b sound.definitions sound.attributes count rows) ∙ and_both r.fields (and_both ranged (judge_says.1 r.documents))
