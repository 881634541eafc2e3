-- The plans of changes 5 and 8, as the code reads them from the owner's part.
use Rattle.std.specs.Prelude.{ℕ, ◌+◌, ◌*◌, ◌≤◌, Bool, true, false, ◌&&◌, length, drop}
use Rattle.rules.specs.declared.Quantifier.{Quantifier}
use Rattle.rules.specs.Bytes.{Bytes}
use Rattle.rules.specs.Quantifiers.{gains, cuts}
use Rattle.rules.specs.Layout.{particle_size}
use Rattle.rules.specs.Decode.{read_particle}
use Rattle.model.specs.declared.Particle.{Particle}
use Rattle.model.specs.declared.place.Holder.{Holder}
use Rattle.model.specs.Members.{particles_of}
use Rattle.model.specs.Particle.{particle_of, kind_in}
use Rattle.model.specs.Places.{span_of}
use Rattle.filling.specs.declared.Filling.TheVariants.{Definition, Particles}
use Rattle.row_walk.specs.declared.Plan.{Plan}
use Rattle.plans.specs.ModelCalls.{requantify_plan}
use Rattle.place_marks.specs.Marking.{marks_at}

-- particle p of a part
abbrev pub particle_at : Bytes → ℕ → Particle
particle_at part p = particle_of (read_particle (drop (particle_size * p) part))

-- the index that stands in it
abbrev pub index_at : Bytes → ℕ → ℕ
index_at part p = (read_particle (drop (particle_size * p) part)).row.index

-- it is there, in the list h
pub record Stands (part : Bytes) (h : Holder) (p : ℕ) : Type 0 where
  pub inside : particle_size * (p + 1) ≤ length part
  pub short : length part ≤ particle_size * 256
  pub deep : h.depth ≤ p

-- how many particles a group at particle p has, with its own
abbrev pub group_span : Bytes → Holder → ℕ → ℕ
group_span part h p = 1 + span_of h.depth (particles_of (drop (particle_size * (p + 1)) part))

-- 5: the element at particle p gets the quantifier `new`
unfoldable pub element_plan : ℕ → Bytes → Holder → ℕ → Quantifier → Plan
element_plan o part h p new =
    requantify_plan o (marks_at 1 p part) (h.spine && cuts (particle_at part p).quantifier new) (index_at part p) (h.spine && gains (particle_at part p).quantifier new) (Definition (index_at part p))

-- 8: the group there; `before` particles stand before the part
unfoldable pub group_plan : ℕ → ℕ → Bytes → Holder → ℕ → Quantifier → Plan
group_plan before o part h p new =
    requantify_plan o (marks_at (group_span part h p) p part) false 0 (h.spine && gains (particle_at part p).quantifier new)
    (Particles (kind_in (particle_at part p).what) (before + p + 1) (h.depth + 1))

-- 5 or 8
abbrev pub new_plan : Bool → ℕ → ℕ → Bytes → Holder → ℕ → Quantifier → Plan
new_plan false before o part h p new = element_plan o part h p new
new_plan true before o part h p new = group_plan before o part h p new
