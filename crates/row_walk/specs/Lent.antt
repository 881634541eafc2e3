-- A plan by numbers and marks of any size: serials past 32 bits, and marks of another length than a `Plan` has.
use Rattle.std.specs.Prelude.{ℕ, zero, suc, Bool, true, false, List, eqb, get_or, Some}
use Rattle.rules.specs.declared.GroupKind.TheVariants.{Sequence, Choice}
use Rattle.rules.specs.Bytes.{Bytes}
use Rattle.filling.specs.declared.Filling.{Filling}
use Rattle.filling.specs.declared.Filling.TheVariants as filled
use Rattle.row_walk.specs.declared.Which.{Which}
use Rattle.row_walk.specs.declared.Which.TheVariants.{Nothing, Everything, Ground, Elements, Attributes, Serial}
use Rattle.row_walk.specs.declared.Later.{Later}
use Rattle.row_walk.specs.declared.Later.TheVariants.{Never, Row, Past, Unmarked}
use Rattle.row_walk.specs.declared.Shift.{Shift}
use Rattle.row_walk.specs.declared.Plan.{Plan}

-- by the number of the variant, and what it holds
abbrev pub which_in : ℕ → ℕ → Which
which_in zero n = Nothing
which_in (suc zero) n = Everything
which_in (suc (suc zero)) n = Ground
which_in (suc (suc (suc zero))) n = Elements n
which_in (suc (suc (suc (suc zero)))) n = Attributes n
which_in (suc (suc (suc (suc (suc k))))) n = Serial n

abbrev pub later_in : ℕ → ℕ → Later
later_in zero n = Never
later_in (suc zero) n = Row n
later_in (suc (suc zero)) n = Past n
later_in (suc (suc (suc k))) n = Unmarked

abbrev pub filling_in : ℕ → ℕ → ℕ → Filling
filling_in zero n d = filled.Nothing
filling_in (suc zero) n d = filled.Definition n
filling_in (suc (suc zero)) n d = filled.Attribute n
filling_in (suc (suc (suc zero))) n d = filled.Particles Sequence n d
filling_in (suc (suc (suc (suc k)))) n d = filled.Particles Choice n d

abbrev pub shift_in : ℕ → ℕ → ℕ → Shift
shift_in from more less = record { from = from; more = more; less = less }

abbrev pub plan_in : List ℕ → Bytes → Plan
plan_in ks marks =
    record {
      above = which_in (get_or ks 0 0) (get_or ks 1 0);
      takes = which_in (get_or ks 2 0) (get_or ks 3 0);
      fills = eqb (get_or ks 6 0) 1;
      later = later_in (get_or ks 4 0) (get_or ks 5 0);
      filling = filling_in (get_or ks 16 0) (get_or ks 17 0) (get_or ks 18 0);
      marks = marks;
      keeps = eqb (get_or ks 7 0) 1;
      spares = eqb (get_or ks 8 0) 1;
      set = Some (get_or ks 9 0);
      definitions = shift_in (get_or ks 10 0) (get_or ks 11 0) (get_or ks 12 0);
      attributes = shift_in (get_or ks 13 0) (get_or ks 14 0) (get_or ks 15 0);
    }

-- ---- of one row, by the answers of its tests
-- every row, or none
abbrev pub every_if : Bool → Which
every_if true = Everything
every_if false = Nothing

-- a filling comes before every row, or before none
abbrev pub later_if : Bool → Later
later_if true = Past 0
later_if false = Never
