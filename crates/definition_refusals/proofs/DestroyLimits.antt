-- The limits of change 2.
use Prim.Native.Nat.{ℕ, suc, ◌+◌, ◌-◌, ◌*◌, ◌<◌, ◌≤◌}
use native.Mathlib.Omega.{arith}
use mathlib.Core.Path.{◌≡◌, refl, sym, ap, ap₂, ◌∙◌}
use mathlib.Core.Bool.{Bool, true, ◌&&◌}
use mathlib.Core.List.{List, [], ◌∷◌, ◌++◌, map}
use lib.Dec.{leb}
use lib.ListN.{length, take, drop, take-append-drop}
use borrow.Author.Tests.{le-leb}
use Rattle.rules.specs.Bytes.{Bytes, all}
use Rattle.rules.specs.Preorder.{Deep}
use Rattle.rules.specs.Layout.{value_width, header_size, definition_size, particle_size, attribute_size, row_size, FlatParticle, FlatStore, flat_bytes}
use Rattle.rules.specs.Decode.{definition_count, row_count}
use Rattle.rules.specs.WellFormed.{within_ceilings, highest_number}
use Rattle.rules.specs.Passing.{passes}
use Rattle.rules.proofs.Words.{and_both, and_split}
use Rattle.rules.proofs.BooleanLaws.{all_left, all_right, all_append}
use Rattle.rules.proofs.LayoutLaws.{length_flat_bytes}
use Rattle.layout.specs.Bodies.{width_of, WidthIn, Number}
use Rattle.lookup.specs.Bodies.{bodies_of}
use Rattle.store_laws.proofs.StoreLaws.{width_of_bodies}
use Rattle.definition_writer.specs.Bodies.{moved_particle}
use Rattle.store_laws.proofs.Encoded.{Encoded, encoded}
use Rattle.definition_removal.specs.Bodies.{lowered, cut_out, particles_up_to, CountWithin, destroyed}
use Rattle.definition_removal.proofs.Left.{definitions_left, rows_left_lem}
use Rattle.call_laws.specs.Limits.{Limit}
use Rattle.call_laws.proofs.Limits.{limit_room, limit_none}

all_mapped : {A : Type 0} (t : A → Bool) (m : A → A) → ((x : A) → t (m x) ≡ t x) → (xs : List A) → all t (map m xs) ≡ all t xs
all_mapped t m e [] = refl
all_mapped t m e (x ∷ xs) = ap₂ (λ (a b : Bool). a && b) (e x) (all_mapped t m e xs)

all_moved : {A : Type 0} (t : A → Bool) (m : A → A) → ((x : A) → t (m x) ≡ t x) → (a n : ℕ) (xs : List A) → all t xs ≡ true → all t (map m (cut_out a n xs)) ≡ true
unfolding cut_out
all_moved t m e a n xs h =
    all_mapped t m e (take a xs ++ drop (a + n) xs)
    ∙ all_append t (take a xs) (drop (a + n) xs)
    ∙ and_both
    (all_left t (take a xs) (drop a xs) (ap (all t) (take-append-drop a xs) ∙ h))
    (all_right t (take (a + n) xs) (drop (a + n) xs) (ap (all t) (take-append-drop (a + n) xs) ∙ h))

module _ (bs : Bytes) (p : passes bs ≡ true) (i : ℕ) (h : i < definition_count bs) where
  abbrev f : FlatStore
  f = bodies_of bs

  abbrev x : Encoded bs (bodies_of bs)
  x = encoded bs p

  kept_deep : all (λ (q : Deep FlatParticle). leb q.depth 4) (destroyed i f).particles ≡ true
  unfolding destroyed moved_particle
  kept_deep = all_moved (λ (q : Deep FlatParticle). leb q.depth 4) (moved_particle (lowered (suc i) 1)) (λ q. refl) (particles_up_to i f.definitions)
      (particles_up_to (suc i) f.definitions - particles_up_to i f.definitions) f.particles deep
    where
      deep : all (λ (q : Deep FlatParticle). leb q.depth 4) f.particles ≡ true
      deep = (and_split (all (λ (q : Deep FlatParticle). leb q.depth 4) f.particles) _
          (and_split (leb (length f.particles) 256) _ (and_split (leb (length f.definitions) 64) _ x.ceilings).1).1).0

  -- m, n: how many particles and attributes are left
  module _ (m n : ℕ) (cm : CountWithin (length (destroyed i f).particles) 256 m) (cn : CountWithin (length (destroyed i f).attributes) 64 n) (room : ℕ) where
    within_left : within_ceilings (destroyed i f) ≡ true
    within_left =
        and_both (le-leb (length (destroyed i f).definitions) 64 (omega (arith, definitions_left bs p i h, x.definitions, x.few_definitions)))
        (and_both (le-leb (length (destroyed i f).particles) 256 (omega (arith, cm.is, cm.most)))
        (and_both kept_deep
        (and_both (le-leb (length (destroyed i f).attributes) 64 (omega (arith, cn.is, cn.most)))
        (le-leb (length (destroyed i f).rows) 4096 (omega (arith, rows_left_lem bs p i h, x.rows, x.few_rows))))))

    next_left : (destroyed i f).next ≤ highest_number
    unfolding destroyed
    next_left = x.next

    wide : value_width (destroyed i f).version ≡ width_of bs
    unfolding destroyed
    wide = width_of_bodies bs

    -- k: the length as the code counts it
    module _ {w d r k : ℕ} (ew : WidthIn bs w) (ed : Number (definition_count bs) d) (er : Number (row_count bs) r)
        (ek : k ≡ header_size + (definition_size * (d - 1) + (particle_size * m + (attribute_size w * n + row_size w * r)))) where
      length_left : length (flat_bytes (width_of bs) (destroyed i f)) ≡ k
      length_left =
          length_flat_bytes (width_of bs) (destroyed i f)
          ∙ (λ j.
          header_size
          + (definition_size * (definitions_left bs p i h ∙ ap (λ (z : ℕ). z - 1) (sym ed.value)) j
          + (particle_size * sym cm.is j + (attribute_size (sym ew.value j) * sym cn.is j + row_size (sym ew.value j) * (rows_left_lem bs p i h ∙ sym er.value) j))))
          ∙ sym ek

      pub short_room : room < k → Limit (width_of bs) room (destroyed i f) 18
      short_room l = limit_room room (destroyed i f) wide within_left next_left (omega (arith, length_left))

      pub enough_room : k ≤ room → Limit (width_of bs) room (destroyed i f) 0
      enough_room l = limit_none room (destroyed i f) wide within_left next_left (omega (arith, length_left))
