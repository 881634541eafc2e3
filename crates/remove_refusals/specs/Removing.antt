-- What the code of change 4 tests.
use Rattle.std.specs.Prelude.{ℕ, ◌+◌, ◌-◌, ◌*◌, ◌≤◌, ◌≡◌, Bool, false, ◌&&◌, ◌||◌, not, List, [], ◌∷◌, eqb, ltb, take, drop}
use Rattle.rules.specs.declared.GroupKind.TheVariants.{Sequence, Choice}
use Rattle.rules.specs.Bytes.{Bytes}
use Rattle.rules.specs.Model.{skips, nothing}
use Rattle.rules.specs.Layout.{particle_size, how_many}
use Rattle.rules.specs.Decode.{read_particle}
use Rattle.rules.specs.Edit.{same_kind}
use Rattle.rules.specs.Refusal.{Condition, ◌if◌}
use Rattle.model.specs.declared.place.Holder.{Holder}
use Rattle.model.specs.Particle.{particle_of}
use Rattle.model.specs.Members.{members_from}

-- an inner CHOICE whose members start at a particle, without the element at particle p of depth d, accepts nothing
abbrev pub choice_left : Bytes → ℕ → ℕ → ℕ → Bool
choice_left part start p d =
    (skips (particle_of (read_particle (drop (particle_size * (start - 1)) part))).quantifier || nothing Choice (members_from d (take (particle_size * (p - start)) (drop (particle_size * start) part))))
    || nothing Choice (members_from d (drop (particle_size * (p + 1)) part))

pub record Removable (part : Bytes) (h : Holder) (p : ℕ) : Type 0 where
  pub deep : same_kind h.kind Sequence ≡ false → 1 ≤ h.start
  pub later : h.start ≤ p
  pub few : p ≤ 256

-- rows 14 and 15 of change 4
abbrev pub remove_tests : Bool → Bytes → Holder → ℕ → List Condition
remove_tests exists part h p =
    let d : ℕ = (read_particle (drop (particle_size * p) part)).depth in
    14 if ((ltb 0 d && eqb p h.start) && eqb (how_many (members_from d (drop (particle_size * p) part))) 1)
    ∷ 15 if (exists && not (same_kind h.kind Sequence || choice_left part h.start p d))
    ∷ []
