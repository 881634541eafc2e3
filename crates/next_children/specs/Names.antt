-- The elements that a model names, as a set; nothing follows any other.
use Rattle.std.specs.Prelude.{◌≡◌, false, ℕ, suc, ◌<◌}
use Rattle.rules.specs.declared.Facts.{Facts}
use Rattle.rules.specs.declared.GroupKind.{GroupKind}
use Rattle.rules.specs.Bytes.{Bytes, numbers}
use Rattle.rules.specs.Model.{Members}
use Rattle.rules.specs.Automaton.{facts}
use Rattle.rules.specs.Decode.{read_particle}
use Rattle.sets.specs.Sets.{has}
use Rattle.model.specs.Members.{members_from}
use Rattle.model.specs.Steps.{steps, finishes}
use Rattle.automaton.specs.declared.Nexts.{Nexts}

-- facts of an x that no word has
pub record Never (f : Facts) : Type 0 where
  pub last_not : f.last ≡ false
  pub follow_not : f.follow ≡ false

-- whatever members s holds, none of their words has x
abbrev pub Absent : ℕ → Bytes → Type 0
Absent x s = (k : GroupKind) (d y : ℕ) → Never (facts numbers k (members_from d s) x y)

-- a number that is not in r is not the index of the first particle, where that is an element
pub record FirstName (s : Bytes) (r : ℕ) : Type 0 where
  pub other : (x : ℕ) → x < 64 → has r x ≡ false → (read_particle s).row.sort ≡ 0 → (read_particle s).row.index ≡ x → ⊥

-- a number that is not in r is none that the model names
pub record NamesIn (s : Bytes) (r : ℕ) : Type 0 where
  pub absent : (x : ℕ) → x < 64 → has r x ≡ false → Absent x s

-- r says what follows x, and whether no child is owed after it
pub record After (ms : Members ℕ) (x : ℕ) (r : Nexts ℕ) : Type 0 where
  pub last_is : r.last ≡ finishes ms (suc x)
  pub follow_is : (y : ℕ) → y < 64 → has r.follow y ≡ steps ms (suc x) y
