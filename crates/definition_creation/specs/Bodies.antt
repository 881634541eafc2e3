-- The bodies of a store after change 1.
use Rattle.std.specs.Prelude.{ℕ, [], ◌∷◌, ◌++◌}
use Rattle.rules.specs.Bytes.{Bytes}
use Rattle.rules.specs.Layout.{FlatStore}
use Rattle.definition_writer.specs.Bodies.{new_definition}

unfoldable pub created : Bytes → ℕ → FlatStore → FlatStore
created n k f =
    record {
      version = f.version;
      next = f.next;
      definitions = f.definitions ++ new_definition n k ∷ [];
      particles = f.particles;
      attributes = f.attributes;
      rows = f.rows;
    }
