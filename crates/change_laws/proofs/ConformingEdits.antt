-- Changes 3 to 8: an accepted call leaves documents that conform.
use Prim.Native.Nat.{ℕ}
use mathlib.Core.Path.{◌≡◌, refl, sym, ap, ◌∙◌}
use mathlib.Core.Bool.{true, false, ◌&&◌, not, and-false, false≢true}
use mathlib.Core.List.{List}
use Rattle.rules.specs.Bytes.{Bytes}
use Rattle.rules.specs.Model.{Members, done, el, group, skips}
use Rattle.rules.specs.Quantifiers.{gains}
use Rattle.rules.specs.Place.{Context, spine}
use Rattle.rules.specs.Edit.{Edit, insert, remove, quantify, convert, flatten}
use Rattle.rules.specs.Store.{Form, Row, Forest, Store, heads}
use Rattle.rules.specs.WellFormed.{well_formed}
use Rattle.rules.specs.Conforming.{fits_row, conforming}
use Rattle.rules.specs.Passing.{GoodSerials}
use Rattle.rules.specs.Lines.{Line, lines, ground, element_named}
use Rattle.rules.specs.Change.{Call, Plan, name_at_index, form_after, plan, docs_after}
use Rattle.change_laws.proofs.RowEdits.{revalued, children_after}
use Rattle.change_laws.proofs.Rowwise.{Standing}
use Rattle.change_laws.proofs.StandingLaws.{standing_line, children_are, children_once, children_given}
use Rattle.change_laws.proofs.Untouched.{same_row_lem}
use Rattle.change_laws.proofs.ConformingAfter.{conforming_changed}
use Rattle.change_laws.proofs.InstanceEdits.{edit_plan}
use Rattle.change_laws.proofs.AcceptedEdits.{Accepted}
use Rattle.change_laws.proofs.EditedRows.{row_fits_after, filling_fits_after}

-- such a plan sets no value, and makes no document
record Inside (p : Plan) : Type 0 where
  set : p.set ≡ 0
  grounded : p.fills ground ≡ false

edit_inside : (version : ℕ) (form : Form) (ls : List Line) (owner txt : Bytes) (e : Edit Bytes) (c : Context Bytes) (t : Members Bytes) → Inside (edit_plan version form ls owner txt e c t)
edit_inside version form ls owner txt (insert q n) c t = record { set = refl; grounded = and-false (not (skips q) && spine c) }
edit_inside version form ls owner txt remove c done = record { set = refl; grounded = refl }
edit_inside version form ls owner txt remove c (el q x t) = record { set = refl; grounded = refl }
edit_inside version form ls owner txt remove c (group q k ms t) = record { set = refl; grounded = refl }
edit_inside version form ls owner txt (quantify r) c done = record { set = refl; grounded = refl }
edit_inside version form ls owner txt (quantify r) c (el q x t) = record { set = refl; grounded = and-false (spine c && gains q r) }
edit_inside version form ls owner txt (quantify r) c (group q k ms t) = record { set = refl; grounded = and-false (spine c && gains q r) }
edit_inside version form ls owner txt (convert j n) c t = record { set = refl; grounded = refl }
edit_inside version form ls owner txt flatten c t = record { set = refl; grounded = refl }

module _ (w : ℕ) (s : Store) (ok : well_formed w s.form ≡ true) (serials : GoodSerials s.next s.docs) (c : Call) (a : Accepted s c) where
  ls : List Line
  ls = lines 0 s.docs

  p : Plan
  p = plan c s.version s.form ls

  inside : Inside p
  unfolding p
  inside = rw (a.planned ls) (edit_inside s.version s.form ls (name_at_index a.o s.form) a.txt a.edit a.found.context a.found.picked)

  row : (r : Row) (b : Forest Row) → Standing s.docs r b → fits_row s.version s.form r (heads b) ≡ true
      → fits_row s.version (form_after c s.form) (revalued p r) (children_after p r (heads b)) ≡ true
  unfolding p ls
  row r b i h =
      ap (λ (z : Row). fits_row s.version (form_after c s.form) z (children_after p r (heads b))) (same_row_lem s.next s.docs serials p inside.set r b i)
      ∙ row_fits_after w s ok c a ls r (heads b) (standing_line (element_named (name_at_index a.o s.form)) 0 s.docs r b i)
      (record {
        given = children_given s.next s.docs serials r b i;
        once = children_once s.next s.docs serials r b i;
        seen = λ test. children_are s.next s.docs serials test r b i;
      })
      h

  pub conforming_edited : conforming s.version s.form s.docs ≡ true → conforming s.version (form_after c s.form) (docs_after c s) ≡ true
  unfolding p ls
  conforming_edited = conforming_changed s.version s.form (form_after c s.form) p s.docs (λ e. absurd (false≢true (sym inside.grounded ∙ e))) (filling_fits_after w s ok c a ls) row
