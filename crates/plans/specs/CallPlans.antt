-- The plans by indices of changes 11 to 16; `setting_plan` of no row serves 6 and 7 too, `taking_plan` 4.
use Rattle.std.specs.Prelude.{ℕ, None, Some, true, false, eqb, replicate}
use Rattle.std.proofs.Math.Option.{none, some}
use Rattle.rules.specs.Bytes.{Bytes}
use Rattle.rules.specs.Store.{Store}
use Rattle.rules.specs.Lines.{lines, is_element_row, is_text_row, attribute_named, children_of, serial_at}
use Rattle.rules.specs.Change.{attribute_at}
use Rattle.filling.specs.declared.Filling.{Filling}
use Rattle.filling.specs.declared.Filling.TheVariants.{Definition, Attribute}
use Rattle.filling.specs.declared.Filling.TheVariants as filling
use Rattle.row_walk.specs.declared.Which.{Which}
use Rattle.row_walk.specs.declared.Which.TheVariants.{Nothing, Everything, Ground, Attributes, Serial}
use Rattle.row_walk.specs.declared.Later.{Later}
use Rattle.row_walk.specs.declared.Later.TheVariants.{Never, Row, Past}
use Rattle.row_walk.specs.declared.Shift.{Shift}
use Rattle.row_walk.specs.declared.Plan.{Plan}

-- ---- plans that do one thing
abbrev pub unmoved : Shift
unmoved = record { from = 0; more = 0; less = 0 }

unfoldable pub unmarked : Bytes
unmarked = replicate 64 0

abbrev pub filling_plan : Which → Later → Filling → Plan
filling_plan above later rows =
    record {
      above = above;
      takes = Nothing;
      fills = true;
      later = later;
      filling = rows;
      marks = unmarked;
      keeps = false;
      spares = false;
      set = None;
      definitions = unmoved;
      attributes = unmoved;
    }

abbrev pub taking_plan : Which → Which → Plan
taking_plan above takes =
    record {
      above = above;
      takes = takes;
      fills = false;
      later = Never;
      filling = filling.Nothing;
      marks = unmarked;
      keeps = false;
      spares = false;
      set = None;
      definitions = unmoved;
      attributes = unmoved;
    }

-- the row with serial m gets the call's value
abbrev pub setting_plan : ℕ → Plan
setting_plan m =
    record {
      above = Nothing;
      takes = Nothing;
      fills = false;
      later = Never;
      filling = filling.Nothing;
      marks = unmarked;
      keeps = false;
      spares = false;
      set = Some m;
      definitions = unmoved;
      attributes = unmoved;
    }

-- ---- the serials that plans name; 0: no such row stands
-- the element child number j of row k
abbrev pub child_serial : ℕ → ℕ → Store → ℕ
child_serial k j s = serial_at j (children_of is_element_row k (lines 0 s.docs))

-- the row of attribute a below row k
abbrev pub attribute_serial : ℕ → ℕ → Store → ℕ
attribute_serial k a s = elim (attribute_at a s.form) [ none ↦ 0 | some o ↦ serial_at 0 (children_of (attribute_named o.attribute.name) k (lines 0 s.docs)) ]

-- the text row of row k
abbrev pub text_serial : ℕ → Store → ℕ
text_serial k s = serial_at 0 (children_of is_text_row k (lines 0 s.docs))

-- ---- the calls
-- 11: a filling of definition i after the last document
abbrev pub add_document_plan : ℕ → Plan
add_document_plan i = filling_plan Ground Never (Definition i)

-- 12: below element k a filling of definition i before the row m, else last (m: `child_serial`)
abbrev pub add_element_plan : ℕ → ℕ → ℕ → Plan
add_element_plan k m i = filling_plan (Serial k) (Row m) (Definition i)

-- 13: element k, wherever it stands
abbrev pub destroy_element_plan : ℕ → Plan
destroy_element_plan k = taking_plan Everything (Serial k)

-- 14: the row m of attribute a below element k gets the value (m: `attribute_serial`);
-- where none stands a row comes after those of lower index
abbrev pub set_attribute_plan : ℕ → ℕ → ℕ → Plan
set_attribute_plan k a m = elim (eqb m 0) [ true ↦ filling_plan (Serial k) (Past a) (Attribute a) | false ↦ setting_plan m ]

-- 15: the row of attribute a below element k
abbrev pub destroy_attribute_row_plan : ℕ → ℕ → Plan
destroy_attribute_row_plan k a = taking_plan (Serial k) (Attributes a)

-- 16: the text row m (`text_serial`)
abbrev pub set_text_plan : ℕ → Plan
set_text_plan m = setting_plan m
