-- The edit of the code, and what its writers ask for.
use Rattle.std.specs.Prelude.{ℕ, suc, ◌+◌, ◌-◌, ◌*◌, ◌%◌, ◌<◌, ◌≤◌, ◌≡◌, Bool, true, false, leb, length, take, drop}
use Rattle.rules.specs.Bytes.{Bytes, all}
use Rattle.rules.specs.Preorder.{Deep}
use Rattle.rules.specs.Layout.{FlatParticle, particle_size}
use Rattle.rules.specs.Edit.{Edit, insert, remove, quantify, convert, flatten}
use Rattle.rules.proofs.BooleanLaws.{Every}
use Rattle.rules.proofs.LayoutLaws.{SmallParticle}
use Rattle.model.specs.declared.place.Holder.{Holder}
use Rattle.model.specs.Members.{particles_of}
use Rattle.model.specs.Places.{Particles}
use Rattle.model_writer.specs.declared.Edit.{Edit as EditCode}
use Rattle.model_writer.specs.declared.Edit.TheVariants.{Insert, Remove, Quantify, Convert, Flatten}
use Rattle.model_writer.specs.PartAfter.{lower, tail_after, count_after, recounted, part_after}

abbrev pub edit_of : EditCode → Edit ℕ
edit_of (Insert q i) = insert q i
edit_of Remove = remove
edit_of (Quantify q) = quantify q
edit_of (Convert k n) = convert k n
edit_of Flatten = flatten

-- one deeper, or one less deep
abbrev pub shift : Bool → ℕ → ℕ
shift true n = suc n
shift false n = lower n

-- how many of n members are left to pass after a particle; inner: it is no member itself
abbrev pub passing : Bool → ℕ → ℕ
passing true n = n
passing false n = n - 1

-- all numbers of these particles are bytes
unfoldable pub Fitting : Particles → Type 0
Fitting xs = Every SmallParticle xs

-- the particles ys after an edit can be written from `at` on
pub record Tail (e : Edit ℕ) (d : ℕ) (ys : Bytes) (at : ℕ) : Type 0 where
  pub whole : length ys % particle_size ≡ 0
  pub room : at + length ys < 4611686018427387904
  pub fitting : Fitting (tail_after e d (particles_of ys))

-- the first n particles after an edit can be written from `at` on,
-- where the members of the list start at particle `first`
pub record Head (e : Edit ℕ) (first n : ℕ) (part : Bytes) (at : ℕ) : Type 0 where
  pub whole : length part % particle_size ≡ 0
  pub room : at + length part < 4611686018427387904
  pub after : first ≤ n
  pub inside : particle_size * n ≤ length part
  pub fitting : Fitting (recounted (count_after e (drop n (particles_of part))) first (take n (particles_of part)))

-- a part after an edit at particle n, in the list h
pub record Part (e : Edit ℕ) (h : Holder) (n : ℕ) (part : Bytes) : Type 0 where
  pub whole : length part % particle_size ≡ 0
  pub after : h.start ≤ n
  pub inside : particle_size * n ≤ length part
  pub fitting : Fitting (part_after e h n (particles_of part))

-- the bytes of k particles from number `first` on
abbrev pub particle_range : ℕ → ℕ → Bytes → Bytes
particle_range first k parts = take (particle_size * k) (drop (particle_size * first) parts)

-- .. which are an edit's part
pub record EditPart (e : Edit ℕ) (h : Holder) (n first k : ℕ) (parts : Bytes) : Type 0 where
  pub whole : length parts % particle_size ≡ 0
  pub inside : particle_size * (first + k) ≤ length parts
  pub part : Part e h n (particle_range first k parts)

-- ---- the ceiling of depth
unfoldable pub depths_within : Particles → Bool
depths_within xs = all (λ (x : Deep FlatParticle). leb x.depth 4) xs
