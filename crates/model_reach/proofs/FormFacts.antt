-- The members of definitions that the bytes of a store that passes have.
use Prim.Native.Nat.{ℕ, zero, suc, ◌+◌, ◌*◌, ◌<◌, ◌≤◌}
use native.Mathlib.Omega.{arith}
use mathlib.Core.Path.{◌≡◌, refl, sym, ap₂, ◌∙◌, subst}
use mathlib.Core.Bool.{true}
use lib.ListN.{length, take, drop}
use Rattle.rules.specs.Bytes.{Bytes}
use Rattle.rules.specs.Store.{Form}
use Rattle.rules.specs.Layout.{particle_size}
use Rattle.rules.specs.Decode.{definition_count, particle_count}
use Rattle.rules.specs.Passing.{passes}
use Rattle.codec.proofs.Strings.{part_there}
use Rattle.lookup.specs.Bodies.{bodies_of}
use Rattle.layout.specs.Bodies.{width_of, definitions_in, particles_in}
use Rattle.circle_check.specs.Members.{count_at, start_at, members_in}
use Rattle.circle_check.specs.Members as circles
use Rattle.circle_check.proofs.CircleLaws.{Indexed}
use Rattle.form_index.specs.Reading.{definition_in, particles_before, model_part, by_index}
use Rattle.store_check.proofs.FormLaws.{members_indexed, part_room}
use Rattle.store_check.proofs.StringChecks.{Headed, laid_in, passes_in, same_form}
use Rattle.store_check.proofs.IndexReads.{index_agrees}
use Rattle.store_laws.specs.Stores.{store_in}
use Rattle.store_check.proofs.StoreFacts.{form_in, headed_of, Whole, whole}

-- ---- one part of the particles, read in two ways
module _ (defs : Bytes) where
  count_same : (i : ℕ) → count_at defs i ≡ (definition_in defs i).particles
  count_same i = refl

  start_same : (i : ℕ) → start_at defs i ≡ particles_before defs i
  unfolding start_at particles_before
  start_same zero = refl
  start_same (suc i) = ap₂ (λ (a b : ℕ). a + b) (start_same i) (count_same i)

  part_same : (parts : Bytes) (i p : ℕ) → start_at defs i + count_at defs i ≤ p → particle_size * p ≤ length parts → circles.model_bytes defs parts i ≡ model_part defs parts i
  unfolding circles.model_bytes model_part
  part_same parts i p room long =
      part_there (particle_size * start_at defs i) (particle_size * count_at defs i) parts (omega arith)
      ∙ ap₂ (λ (a b : ℕ). take (particle_size * b) (drop (particle_size * a) parts)) (start_same i) (count_same i)

-- ---- of a store
pub record Reads (bs : Bytes) : Type 0 where
  pub whole : Whole bs
  pub members : Indexed (members_in (definitions_in bs) (particles_in bs)) (form_in bs)
  pub parts : (i : ℕ) → i < definition_count bs → circles.model_bytes (definitions_in bs) (particles_in bs) i ≡ model_part (definitions_in bs) (particles_in bs) i

pub reads : (bs : Bytes) → passes bs ≡ true → Reads bs
unfolding store_in bodies_of width_of
reads bs q =
    let w : Whole bs = whole bs q in
    let d : Headed bs = headed_of q in
    let form = ((passes_in d (by_index bs) (λ x. index_agrees (laid_in d) x.passes _)).0 q).0 in
    record {
      whole = w;
      members =
          subst (λ (z : Form). Indexed (members_in (definitions_in bs) (particles_in bs)) z) (sym (same_form d))
          (members_indexed (laid_in d) form.passes.definitions form.passes.attributes form.passes.bodies);
      parts =
          λ i l. part_same (definitions_in bs) (particles_in bs) i (particle_count bs)
          (part_room (laid_in d) form.passes.definitions form.passes.attributes form.passes.bodies i l) (omega (arith, (laid_in d).bodies.particle_body.whole));
    }
