-- A particle passed, as `chunks_exact` gives it: the loop of `reach`.
use Prim.Native.Nat.{ℕ, ◌+◌, ◌-◌, ◌<◌}
use mathlib.Core.Path.{◌≡◌, sym, ap, ◌∙◌, subst}
use lib.ListN.{length, take, drop}
use Rattle.rules.specs.Bytes.{Bytes}
use Rattle.rules.specs.Preorder.{Deep}
use Rattle.rules.specs.Layout.{particle_size, FlatParticle}
use Rattle.rules.specs.Decode.{read_particle}
use Rattle.codec.proofs.Writers.{tail_seen}
use Rattle.model.specs.declared.place.Reached.{Reached}
use Rattle.model.specs.declared.place.Reached.TheVariants.{Member}
use Rattle.model.specs.Places.{onward, ended}
use Rattle.model.proofs.ChunkLaws.{Front}
use Rattle.model.proofs.PlacesLaws.{Left, left_stop, left_member, left_pass, left_deeper}

module _ {t x s : Bytes} (first : Front t x s) where
  rest_is : take (length t - particle_size) (drop particle_size t) ≡ s
  rest_is = tail_seen t particle_size ∙ sym first.rest

  module _ {depth : ℕ} (r : depth ≡ (read_particle x).depth) where
    depth_is : depth ≡ (read_particle t).depth
    depth_is = r ∙ ap (λ (p : Deep FlatParticle). p.depth) first.reads

    module _ {goal : Reached} {bound d p n : ℕ} (l : Left goal bound d t p n) where
      pub chunk_stop : depth < d → onward p (ended n) ≡ goal
      chunk_stop k = left_stop goal bound d t p depth first.long depth_is n k l

      pub chunk_member : depth ≡ d → n ≡ 0 → Member p ≡ goal
      chunk_member k z = left_member goal bound d t p depth first.long depth_is n k z l

      pub chunk_pass : depth ≡ d → (n ≡ 0 → ⊥) → Left goal bound d s (p + 1) (n - 1)
      chunk_pass k z = subst (λ (b : Bytes). Left goal bound d b (p + 1) (n - 1)) rest_is (left_pass goal bound d t p depth first.long depth_is n k z l)

      pub chunk_deeper : d < depth → Left goal bound d s (p + 1) n
      chunk_deeper k = subst (λ (b : Bytes). Left goal bound d b (p + 1) n) rest_is (left_deeper goal bound d t p depth first.long depth_is n k l)
