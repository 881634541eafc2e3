-- An edit of one model in a store by its bytes: the form after it, and when the code can write that.
use Rattle.std.specs.Prelude.{ℕ, ◌+◌, ◌≤◌, ◌<◌, ◌≡◌, true, length}
use Rattle.rules.specs.Bytes.{Bytes}
use Rattle.rules.specs.Edit.{Edit}
use Rattle.rules.specs.Layout.{FlatStore}
use Rattle.rules.specs.Decode.{definition_count, particle_count}
use Rattle.rules.specs.WellFormed.{within_ceilings}
use Rattle.rules.specs.Passing.{passes}
use Rattle.model.specs.declared.place.Holder.{Holder}
use Rattle.model.specs.Members.{particles_of}
use Rattle.model.specs.Places.{Particles}
use Rattle.form_index.specs.Reading.{definition_in, particles_before}
use Rattle.layout.specs.Bodies.{definitions_in, particles_in}
use Rattle.lookup.specs.Bodies.{bodies_of}
use Rattle.model_writer.specs.Spliced.{spliced_form}
use Rattle.model_writer.specs.PartAfter.{part_after, length_after}
use Rattle.model_writer.specs.Writing.{EditPart}
use Rattle.store_laws.specs.Forms.{bare_form}
use Rattle.model_places.specs.Placing.{part_in}

-- where the particles of definition o start, and how many it has
abbrev pub start_in : Bytes → ℕ → ℕ
start_in bs o = particles_before (definitions_in bs) o

abbrev pub model_length : Bytes → ℕ → ℕ
model_length bs o = (definition_in (definitions_in bs) o).particles

-- the particles of definition o after an edit at particle n of the list h
unfoldable pub part_edited : Bytes → ℕ → Edit ℕ → Holder → ℕ → Particles
part_edited bs o e h n = part_after e h n (particles_of (part_in bs o))

-- .. and the form
unfoldable pub form_edited : Bytes → ℕ → Edit ℕ → Holder → ℕ → FlatStore
form_edited bs o e h n = spliced_form o (part_edited bs o e h n) (bodies_of bs)

-- the edit is one of definition o of a store that passes
pub record Edits (bs : Bytes) (o : ℕ) (e : Edit ℕ) (h : Holder) (n : ℕ) : Type 0 where
  pub good : passes bs ≡ true
  pub there : o < definition_count bs
  pub own : start_in bs o + model_length bs o ≤ particle_count bs
  pub inside : n ≤ model_length bs o
  pub many : length (part_edited bs o e h n) ≡ length_after e (model_length bs o)
  pub body : within_ceilings (bare_form (form_edited bs o e h n)) ≡ true → EditPart e h n (start_in bs o) (model_length bs o) (particles_in bs)
