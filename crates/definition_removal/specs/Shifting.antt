-- The plan that keeps all rows and moves their indices.
use Rattle.std.specs.Prelude.{ℕ, None, false}
use Rattle.filling.specs.declared.Filling.TheVariants as filling
use Rattle.row_walk.specs.declared.Which.TheVariants.{Nothing}
use Rattle.row_walk.specs.declared.Later.TheVariants.{Never}
use Rattle.row_walk.specs.declared.Plan.{Plan}
use Rattle.plans.specs.CallPlans.{unmarked}

-- definitions from number `definition` on fall by one, attributes from number `from` on by `less`
abbrev pub shifting : ℕ → ℕ → ℕ → Plan
shifting definition from less =
    record {
      above = Nothing;
      takes = Nothing;
      fills = false;
      later = Never;
      filling = filling.Nothing;
      marks = unmarked;
      keeps = false;
      spares = false;
      set = None;
      definitions = record { from = definition; more = 0; less = 1 };
      attributes = record { from = from; more = 0; less = less };
    }
