use mathlib.Core.Path.{◌≡◌}
use Prim.Native.Nat.{ℕ, ◌+◌, ◌*◌}
use lib.ListN.{length, drop}
use Rattle.rules.specs.Layout.{particle_size}
use Rattle.model.proofs.FactsLaws.{Joining}
use Rattle.automaton.specs.Nexts.{told}
use Rattle.automaton.proofs.+nexts_from_first_nexts.Given as goal

abbrev pub decreases-nexts_from : goal.decreases-nexts_from
decreases-nexts_from g l = 2 * length l.s.now + 1

abbrev pub decreases-first_nexts : goal.decreases-first_nexts
decreases-first_nexts g l = 2 * length l.t.now

-- f tells the facts of the members before the particles that are left
abbrev pub invariant-nexts_from-loop-i : goal.invariant-nexts_from-loop-i
invariant-nexts_from-loop-i g l =
    let left = l.i-iterator.iter in
    (left.size ≡ particle_size) × (left.rest.now ≡ drop (particle_size * l.i-iterator.count) l.s)
    × ((y : ℕ) → g.N.Names.Tells l.names y → Joining l.kind l.d l.x y l.s left.rest.now (told g.N.Names.has l.f y))
