-- The store that a call leaves is the one after a plan that does on the
-- documents what the call does, with the bodies of the form after it.
use Prim.Native.Nat.{ℕ, ◌+◌}
use mathlib.Core.Path.{◌≡◌, sym, ap, ap₂, ◌∙◌}
use mathlib.Core.List.{List, []}
use Rattle.rules.specs.Bytes.{Bytes}
use Rattle.rules.specs.Store.{Forest, Store}
use Rattle.rules.specs.Preorder.{Deep, preorder}
use Rattle.rules.specs.Layout.{FlatRow, FlatStore, indexed, flat}
use Rattle.rules.specs.Change.{Call, form_after, docs_after, after}
use Rattle.row_writer.specs.Written.{new_in, numbered}
use Rattle.row_walk.specs.declared.Plan.{Plan}
use Rattle.planned_rows.specs.Planned.{fill_of, rows_after, planned_in}
use Rattle.plans.specs.Trees.{documents_walk}
use Rattle.plans.specs.Bodies.{HoldsForm}
use Rattle.plans.proofs.Numbered.{new_flat, number_flat}
use Rattle.plans.proofs.TreeWalk.{Clear, walk_tree}

module _ (c : Call) (s : Store) (p : Plan) (v : Bytes) where
  -- the documents, as they are and as the call leaves them without the new serials
  abbrev standing : Forest FlatRow
  standing = indexed s.form [] s.docs

  abbrev left : List (Deep FlatRow)
  left = preorder 0 (indexed (form_after c s.form) [] (docs_after c s))

  -- the bodies of the form in g with other rows, n of them new
  abbrev with_rows : FlatStore → ℕ → List (Deep FlatRow) → FlatStore
  with_rows g n rows = record { version = s.version; next = s.next + n; definitions = g.definitions; particles = g.particles; attributes = g.attributes; rows = rows }

  rows_left_lem : Clear p standing → documents_walk p v (fill_of p v (flat s)) standing ≡ left → left ≡ rows_after p v (flat s)
  unfolding rows_after
  rows_left_lem clear e = sym e ∙ sym (walk_tree p v (fill_of p v (flat s)) standing clear)

  pub flat_planned_in : (g : FlatStore) → HoldsForm g (form_after c s.form) → Clear p (indexed s.form [] s.docs)
      → documents_walk p v (fill_of p v (flat s)) (indexed s.form [] s.docs) ≡ preorder 0 (indexed (form_after c s.form) [] (docs_after c s)) → flat (after c s) ≡ planned_in g p v (flat s)
  unfolding after planned_in
  flat_planned_in g holds clear e =
      ap₂ (with_rows (flat (after c s))) (new_flat (form_after c s.form) 0 [] (docs_after c s)) (number_flat (form_after c s.form) 0 [] s.next (docs_after c s))
      ∙ ap (λ (rows : List (Deep FlatRow)). with_rows (flat (after c s)) (new_in rows) (numbered s.next rows)) (rows_left_lem clear e)
      ∙ (λ i. record {
        version = s.version;
        next = s.next + new_in (rows_after p v (flat s));
        definitions = sym holds.definitions i;
        particles = sym holds.particles i;
        attributes = sym holds.attributes i;
        rows = numbered s.next (rows_after p v (flat s));
      })
