-- What comes of a row by what a walk goes by.
use Rattle.std.specs.Prelude.{ℕ, List}
use Rattle.rules.specs.Preorder.{Deep}
use Rattle.rules.specs.Layout.{FlatRow}
use Rattle.row_walk.specs.declared.Open.{Open}
use Rattle.row_walk.specs.Walk.{emitted, next_open}
use Rattle.walk_writer.specs.declared.walker.Walker.{Walker}
use Rattle.walk_writer.specs.Step.{step_rows, step_open, plan_filling}

-- the filling at a depth
abbrev pub fill_by : Walker → ℕ → List (Deep FlatRow)
fill_by k d = plan_filling k.form.now k.plan.now k.text.now d

-- of a row of which the walk has closed what it closes
abbrev pub come_rows : Walker → Open → Deep FlatRow → List (Deep FlatRow)
come_rows k o x = emitted k.plan.now k.text.now (fill_by k) o x

abbrev pub come_open : Walker → Open → Deep FlatRow → Open
come_open k o x = next_open k.plan.now k.text.now (fill_by k) o x

-- of any row
abbrev pub goes_rows : Walker → Open → Deep FlatRow → List (Deep FlatRow)
goes_rows k o x = step_rows k.plan.now k.text.now (fill_by k) o x

abbrev pub goes_open : Walker → Open → Deep FlatRow → Open
goes_open k o x = step_open k.plan.now k.text.now (fill_by k) o x
