-- What the code reads at the place of an edit that fits.
use Prim.Native.Nat.{ℕ, suc, ◌+◌, ◌≤◌}
use native.Mathlib.Omega.{arith}
use mathlib.Core.Path.{◌≡◌, refl, sym, ap, ◌∙◌}
use mathlib.Core.Bool.{false, false≢true}
use mathlib.Core.List.{List, ◌∷◌, ◌++◌}
use lib.ListN.{drop}
use Rattle.rules.specs.declared.Quantifier.{Quantifier}
use Rattle.rules.specs.declared.GroupKind.{GroupKind}
use Rattle.rules.specs.declared.GroupKind.TheVariants.{Sequence, Choice}
use Rattle.rules.specs.Bytes.{Bytes}
use Rattle.rules.specs.Model.{Members, done, el, group, is_done, rename}
use Rattle.rules.specs.Place.{Context, here, past, over, into, Found as Spot, spine}
use Rattle.rules.specs.Edit.{Edit}
use Rattle.rules.specs.Preorder.{Deep}
use Rattle.rules.specs.Layout.{FlatParticle, group_code}
use Rattle.model.specs.declared.place.Holder.{Holder}
use Rattle.model.specs.Members.{particles_of}
use Rattle.model.specs.Particle.{what_of, particle_of, kind_in}
use Rattle.model.specs.Places.{Particles, top}
use Rattle.model.specs.Positions.{spread, offset, trailing, level}
use Rattle.model_writer.specs.PartAfter.{inserts}
use Rattle.model_writer.proofs.HeadAfter.{depth_holder}
use Rattle.store_laws.proofs.Encoded.{encoded}
use Rattle.model_places.specs.Placing.{index_of_name, part_in, Placed}
use Rattle.model_places.proofs.PickLaws.{around, from_there, one_there, read_there}
use Rattle.model_form.specs.Editing.{start_in}
use Rattle.model_form.proofs.OwnParts.{own_length, own_inside}
use Rattle.model_edit.proofs.Fits.{Fits, same_found}
use Rattle.quantifier_plans.specs.Quantifying.{particle_at, Stands}
use Rattle.rules.proofs.DecodeLaws.{quantifier_code_lem}

-- each group around a place has a particle before it
level_before : (d : ℕ) (c : Context ℕ) → level d c ≤ d + offset c
level_before d here = omega arith
level_before d (past q i c) = omega (arith, level_before d c)
level_before d (over q k ms c) = omega (arith, level_before d c)
level_before d (into q k c rest) = omega (arith, level_before (suc d) c)

code_kind : (k : GroupKind) (n : ℕ) → kind_in (what_of (group_code k) n) ≡ k
code_kind Sequence n = refl
code_kind Choice n = refl

module _ {bs : Bytes} {o : ℕ} {p : List ℕ} {e : Edit Bytes} (x : Fits bs o p e) {h : Holder} {n : ℕ} (y : Placed bs o (inserts e) p h n) where
  pub spine_there : h.spine ≡ spine x.found.context
  spine_there = y.spine ∙ ap (λ (w : Spot Bytes). spine w.context) (same_found x y)

  pub level_there : h.depth ≡ level 0 (around y)
  level_there = ap (λ (g : Holder). g.depth) (sym y.held) ∙ depth_holder top 0 (around y)

  -- the particles from the place on, where the members t stand
  from_found : (t : Members Bytes) → x.found.picked ≡ t → drop n (particles_of (part_in bs o)) ≡ spread (level 0 (around y)) (rename (index_of_name bs) t) ++ trailing 0 (around y)
  from_found t is =
      from_there y
      ∙ ap (λ (u : Members Bytes). spread (level 0 (around y)) (rename (index_of_name bs) u) ++ trailing 0 (around y))
      (ap (λ (w : Spot Bytes). w.picked) (same_found x y) ∙ is)

  module _ {z : Deep FlatParticle} {zs : Particles} (from : drop n (particles_of (part_in bs o)) ≡ z ∷ zs) where
    stands : Stands (part_in bs o) h n
    stands =
        let deep : level 0 (around y) ≤ offset (around y) = omega (arith, level_before 0 (around y)) in
        record {
          inside = omega (arith, one_there y z zs from);
          short = omega (arith, own_length bs o, own_inside bs x.good o x.there, (encoded bs x.good).particles, (encoded bs x.good).few_particles);
          deep = omega (arith, level_there, y.stands);
        }

    -- its number among all particles
    number_low : start_in bs o + n + 1 ≤ 256
    number_low = omega (arith, one_there y z zs from, own_length bs o, own_inside bs x.good o x.there, (encoded bs x.good).particles, (encoded bs x.good).few_particles)

  -- a member is at the place
  pub member_stands : (t : Members Bytes) → x.found.picked ≡ t → is_done t ≡ false → Stands (part_in bs o) h n
  unfolding rename
  member_stands done is s = absurd (false≢true (sym s))
  member_stands (el q m rest) is s = stands (from_found (el q m rest) is)
  member_stands (group q k ms rest) is s = stands (from_found (group q k ms rest) is)

  -- ---- an element
  module _ {q : Quantifier} {m : Bytes} {rest : Members Bytes} (is : x.found.picked ≡ el q m rest) where
    pub element_quantifier : (particle_at (part_in bs o) n).quantifier ≡ q
    unfolding rename particle_of
    element_quantifier = ap (λ (z : Deep FlatParticle). (particle_of z).quantifier) (read_there y _ _ (from_found (el q m rest) is)) ∙ quantifier_code_lem q

  -- ---- a group
  module _ {q : Quantifier} {k : GroupKind} {ms rest : Members Bytes} (is : x.found.picked ≡ group q k ms rest) where
    pub group_number : start_in bs o + n + 1 ≤ 256
    unfolding rename
    group_number = number_low (from_found (group q k ms rest) is)

    pub group_quantifier : (particle_at (part_in bs o) n).quantifier ≡ q
    unfolding rename particle_of
    group_quantifier = ap (λ (z : Deep FlatParticle). (particle_of z).quantifier) (read_there y _ _ (from_found (group q k ms rest) is)) ∙ quantifier_code_lem q

    pub group_kind : kind_in (particle_at (part_in bs o) n).what ≡ k
    unfolding rename particle_of
    group_kind = ap (λ (z : Deep FlatParticle). kind_in (particle_of z).what) (read_there y _ _ (from_found (group q k ms rest) is)) ∙ code_kind k _
