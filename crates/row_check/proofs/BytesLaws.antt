-- What is walked by a form that is lent is walked by the bytes that say it.
use Prim.Native.Nat.{ℕ, ◌*◌, ◌≤◌}
use native.Mathlib.Omega.{arith}
use mathlib.Core.Path.{◌≡◌, sym, ap, subst, ◌∙◌}
use mathlib.Core.Bool.{Bool}
use mathlib.Core.List.{List}
use Rattle.rules.specs.Bytes.{Bytes}
use Rattle.rules.specs.Layout.{row_size}
use Rattle.layout.specs.declared.Form.{Form}
use Rattle.layout.specs.Bodies.{width_of}
use Rattle.layout.specs.Form.{FormOf}
use Rattle.form_index.specs.Indices.{IndexForm}
use Rattle.form_index.specs.Reading.{index_form, index_form_of, by_index}
use Rattle.form_table.specs.declared.Entry.{Entry}
use Rattle.form_table.specs.Table.{FormFew, TabledForm, TableOf}
use Rattle.form_table.proofs.TableLaws.{tabled_in, tabled_of}
use Rattle.open_levels.specs.Open.{end}
use Rattle.row_step.specs.Steps.{Before, before_by}
use Rattle.row_check.specs.Walking.{before_with, FewIn, WalkMade}

module _ {bs : Bytes} {f : Form} (x : FormOf bs f) where
  pub few_lent : FewIn bs → FormFew f
  few_lent few =
      record {
        width = x.sized.width;
        definitions = omega (arith, x.definition_count, few.definitions);
        attributes = omega (arith, x.attribute_count, few.attributes);
      }

  -- the table
  pub table_lent : {t : List Entry} → TabledForm f t → TableOf bs t
  table_lent y = record { is = tabled_in x y.table }

  pub tabled_lent : FewIn bs → {t : List Entry} → TableOf bs t → TabledForm f t
  tabled_lent few y = record { few = few_lent few; table = tabled_of x y.is }

  pub room_lent : (count size : ℕ) → row_size (width_of bs) * count ≤ size → row_size f.width * count ≤ size
  room_lent count size h = subst (λ (w : ℕ). row_size w * count ≤ size) (sym x.width) h

  -- what the walk reads
  form_lent : index_form_of f ≡ by_index bs
  form_lent = λ i. index_form (x.version i) (x.width i) (x.definition_count i) (x.definitions i) (x.particles i) (x.attributes i) (x.attribute_count i)

  before_lent : (next : ℕ) → before_by next f ≡ before_with next bs
  before_lent next = λ i. record { width = x.width i; next = next; form = form_lent i }

  pub walk_lent : {next count : ℕ} {st rows : Bytes} {answer : Bool} {st' : Bytes} → WalkMade (before_by next f) st count rows answer st'
      → WalkMade (before_with next bs) st count rows answer st'
  walk_lent {next} {count} {st} {rows} {answer} {st'} w = subst (λ (b : Before). WalkMade b st count rows answer st') (before_lent next) w

  pub end_lent : (st : Bytes) {r : Bool} → r ≡ end (index_form_of f) st → r ≡ end (by_index bs) st
  end_lent st e = e ∙ ap (λ (g : IndexForm). end g st) form_lent
