-- Conforming by indices as an automaton for the one pass.
use Rattle.std.specs.Prelude.{ℕ, zero, suc, Bool, true, false, not, ◌&&◌, ltb, leb, eqb}
use Rattle.rules.specs.Model.{Members}
use Rattle.rules.specs.Layout.{FlatRow}
use Rattle.model.specs.Steps.{steps, finishes}
use Rattle.form_index.specs.Indices.{IndexForm}
use Rattle.form_table.specs.Every.{every}
use Rattle.next_row.specs.declared.OpenElement.{OpenElement}
use Rattle.next_row.specs.declared.Level.{Level}
use Rattle.next_row.specs.declared.Level.TheVariants.{Documents, Element, Nothing}
use Rattle.next_row.specs.Automaton.{Automaton}

-- ---- children, after `last` (0: none, else 1 and the index of the last), by the kind of the definition
abbrev pub child_may : ℕ → Members ℕ → ℕ → ℕ → ℕ → Bool
child_may zero ms last sort index = false
child_may (suc zero) ms last sort index = eqb sort 3 && eqb last 0
child_may (suc (suc k)) ms last sort index = eqb sort 1 && steps ms last index

abbrev pub children_end : ℕ → Members ℕ → ℕ → Bool
children_end zero ms last = true
children_end (suc zero) ms last = not (eqb last 0)
children_end (suc (suc k)) ms last = finishes ms last

-- an open element after a row below it, by whether the row is an attribute's
abbrev pub element_after : Bool → OpenElement → ℕ → OpenElement
element_after true e j = record { index = e.index; seen = suc (suc j); last = e.last }
element_after false e j = record { index = e.index; seen = 0; last = suc j }

-- the level after a row; and the level that a row opens, by whether it is an element
abbrev pub level_after : Bool → Level → ℕ → Level
level_after attribute Documents j = Documents
level_after attribute (Element e) j = Element (element_after attribute e j)
level_after attribute Nothing j = Nothing

abbrev pub entered : Bool → ℕ → Level
entered true i = Element (record { index = i; seen = 1; last = 0 })
entered false i = Nothing

-- the place of the documents
abbrev pub ground_level : Level
ground_level = Documents

module _ (f : IndexForm) where
  -- attribute j may be missing below definition i
  abbrev pub spare : ℕ → ℕ → Bool
  spare i j = not (eqb (f.owner j) i && f.needed j)

  -- ---- attributes of definition i, after `seen` (0: no more may come, else 1 and the first that may)
  abbrev pub attribute_may : ℕ → ℕ → FlatRow → Bool
  attribute_may i zero r = false
  attribute_may i (suc a) r = leb a r.index && (ltb r.index f.attributes && (eqb (f.owner r.index) i && (f.allows r.index r.value && every (spare i) r.index a)))

  abbrev pub freed : ℕ → ℕ → Bool
  freed i zero = true
  freed i (suc a) = every (spare i) f.attributes a

  -- ---- below an element; the first argument: whether the row is an attribute's
  abbrev pub row_may : Bool → OpenElement → FlatRow → Bool
  row_may true e r = attribute_may e.index e.seen r
  row_may false e r = freed e.index e.seen && child_may (f.kind e.index) (f.model e.index) e.last r.sort r.index

  abbrev pub rows_end : OpenElement → Bool
  rows_end e = freed e.index e.seen && children_end (f.kind e.index) (f.model e.index) e.last

  -- ---- at a level
  abbrev pub may : Level → FlatRow → Bool
  may Documents r = eqb r.sort 1
  may (Element e) r = ltb e.index f.size && row_may (eqb r.sort 2) e r
  may Nothing r = false

  abbrev pub ends : Level → Bool
  ends Documents = true
  ends (Element e) = ltb e.index f.size && rows_end e
  ends Nothing = true

  abbrev pub judge : Automaton FlatRow Level
  judge =
      record {
        enter = λ r. entered (eqb r.sort 1) r.index;
        may = may;
        next = λ l r. level_after (eqb r.sort 2) l r.index;
        ends = ends;
      }
