-- The bodies of a store after a plan.
use Rattle.std.specs.Prelude.{ℕ, ◌+◌, List, drop}
use Rattle.rules.specs.Bytes.{Bytes}
use Rattle.rules.specs.Model.{Members}
use Rattle.rules.specs.Preorder.{Deep, build}
use Rattle.rules.specs.Layout.{FlatRow, FlatStore}
use Rattle.model.specs.Members.{index_members}
use Rattle.store_check.specs.Reading.{flat_index_form, entry_of}
use Rattle.row_writer.specs.Written.{new_in, numbered}
use Rattle.filling.specs.Fillings.{filling_rows}
use Rattle.filling.specs.Parts.{value_of}
use Rattle.row_walk.specs.declared.Plan.{Plan}
use Rattle.row_walk.specs.Walk.{walked, at_first}

-- the members of depth e from particle k on
unfoldable pub members_at : FlatStore → ℕ → ℕ → Members ℕ
members_at f k e = index_members (build (drop k f.particles) e)

-- the rows of the filling of a plan, at a depth
abbrev pub fill_of : Plan → Bytes → FlatStore → ℕ → List (Deep FlatRow)
fill_of p v f d = filling_rows (flat_index_form f) (λ j. value_of (entry_of j f.attributes)) (λ k e. members_at f k e) p.filling v d

-- the rows after a plan with the value v, the new ones without serials
unfoldable pub rows_after : Plan → Bytes → FlatStore → List (Deep FlatRow)
rows_after p v f = walked p v (fill_of p v f) (at_first p) f.rows

-- a plan that leaves the form as it is
unfoldable pub planned : Plan → Bytes → FlatStore → FlatStore
planned p v f =
    record {
      version = f.version;
      next = f.next + new_in (rows_after p v f);
      definitions = f.definitions;
      particles = f.particles;
      attributes = f.attributes;
      rows = numbered f.next (rows_after p v f);
    }

-- a plan with a change of the form: g has the definitions, particles and attributes that take the place of the old ones
unfoldable pub planned_in : FlatStore → Plan → Bytes → FlatStore → FlatStore
planned_in g p v f =
    record {
      version = f.version;
      next = f.next + new_in (rows_after p v f);
      definitions = g.definitions;
      particles = g.particles;
      attributes = g.attributes;
      rows = numbered f.next (rows_after p v f);
    }
