-- The plans by indices of changes 3, 4, 5 and 8, which edit the model of definition o at a place.
use Rattle.std.specs.Prelude.{ℕ, None, ◌<◌, ◌≡◌, Bool, true, false, ◌||◌, List, [], eqb, length, get_or}
use Rattle.rules.specs.Bytes.{Bytes, bytes}
use Rattle.rules.specs.Model.{member}
use Rattle.rules.specs.Store.{Form, Store}
use Rattle.rules.specs.Preorder.{preorder}
use Rattle.rules.specs.Layout.{indexed, flat}
use Rattle.rules.specs.Change.{Call, name_at_index, form_after, docs_after}
use Rattle.filling.specs.declared.Filling.{Filling}
use Rattle.filling.specs.declared.Filling.TheVariants.{Definition}
use Rattle.filling.specs.declared.Filling.TheVariants as filling
use Rattle.row_walk.specs.declared.Which.{Which}
use Rattle.row_walk.specs.declared.Which.TheVariants.{Nothing, Elements}
use Rattle.row_walk.specs.declared.Later.TheVariants.{Unmarked}
use Rattle.row_walk.specs.declared.Plan.{Plan}
use Rattle.planned_rows.specs.Planned.{fill_of}
use Rattle.plans.specs.Trees.{documents_walk}
use Rattle.plans.specs.CallPlans.{unmoved, taking_plan}

-- ---- marks
-- of each definition of a form: 1 for the names before a place in a model, 2 for those at the place
pub record Marked (form : Form) (before at : List Bytes) (marks : Bytes) : Type 0 where
  pub ones : (i : ℕ) → i < length form → eqb (get_or marks i 0) 1 ≡ member bytes (name_at_index i form) before
  pub twos : (i : ℕ) → i < length form → eqb (get_or marks i 0) 2 ≡ member bytes (name_at_index i form) at

-- ---- the plans
-- 4: the elements of definition x below instances
abbrev pub remove_element_plan : ℕ → ℕ → Plan
remove_element_plan o x = taking_plan (Elements o) (Elements x)

-- 3: `needs`: the quantifier needs a filling, and the place is on the spine
abbrev pub insert_element_plan : ℕ → Bytes → ℕ → Bool → Plan
insert_element_plan o marks i needs =
    record {
      above = Elements o;
      takes = Nothing;
      fills = needs;
      later = Unmarked;
      filling = Definition i;
      marks = marks;
      keeps = false;
      spares = false;
      set = None;
      definitions = unmoved;
      attributes = unmoved;
    }

-- 5 and 8: `cut`, `gain`: it cuts or gains, and the place is on the spine;
-- a cut takes the elements of definition x but the first
abbrev pub cut_takes : Bool → ℕ → Which
cut_takes cut x = elim cut [ true ↦ Elements x | false ↦ Nothing ]

abbrev pub gain_filling : Bool → Filling → Filling
gain_filling gain what = elim gain [ true ↦ what | false ↦ filling.Nothing ]

abbrev pub requantify_plan : ℕ → Bytes → Bool → ℕ → Bool → Filling → Plan
requantify_plan o marks cut x gain what =
    record {
      above = Elements o;
      takes = cut_takes cut x;
      fills = cut || gain;
      later = Unmarked;
      filling = gain_filling gain what;
      marks = marks;
      keeps = cut;
      spares = true;
      set = None;
      definitions = unmoved;
      attributes = unmoved;
    }

-- a plan with the value v does on the documents what the call c does, in the form after it
abbrev pub DoesIn : Call → Store → Plan → Bytes → Type 0
DoesIn c s p v = documents_walk p v (fill_of p v (flat s)) (indexed s.form [] s.docs) ≡ preorder 0 (indexed (form_after c s.form) [] (docs_after c s))
