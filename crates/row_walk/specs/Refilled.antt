-- A plan with another filling.
use Rattle.filling.specs.declared.Filling.{Filling}
use Rattle.row_walk.specs.declared.Plan.{Plan}

abbrev pub refilled : Plan → Filling → Plan
refilled p what =
    record {
      above = p.above;
      takes = p.takes;
      fills = p.fills;
      later = p.later;
      filling = what;
      marks = p.marks;
      keeps = p.keeps;
      spares = p.spares;
      set = p.set;
      definitions = p.definitions;
      attributes = p.attributes;
    }
