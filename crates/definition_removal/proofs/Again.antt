-- Records of a body written again with other indices.
use Prim.Native.Nat.{ℕ, zero, suc, ◌+◌, ◌-◌, ◌*◌, ◌<◌, ◌≤◌}
use native.Mathlib.Omega.{arith}
use native.Mathlib.Nat.{mul-suc, mul-zero}
use native.Mathlib.Numerals.{add-one}
use mathlib.Core.Path.{◌≡◌, refl, sym, ap, ap₂, ◌∙◌}
use mathlib.Core.List.{List, [], ◌∷◌, ◌++◌, map, append_assoc, append-nil, map-append}
use lib.ListN.{length, take, drop, length-append, length-take, length-drop, take-append-drop}
use lib.Seq.{drop-drop, take-append_seam, drop-append_seam, length-take-le, length-sets}
use Rattle.rules.specs.Bytes.{Bytes}
use Rattle.rules.specs.Preorder.{Deep}
use Rattle.rules.specs.Layout.{FlatParticle, FlatAttribute, attribute_size, particle_bytes, attribute_bytes, each}
use Rattle.rules.specs.Decode.{read_particle}
use Rattle.rules.proofs.LayoutLaws.{each_append, each_drop}
use Rattle.codec.specs.Laid.{Laid}
use Rattle.codec.proofs.Writers.{laid_none, laid_then, laid_as}
use Rattle.layout.specs.Fields.{particle_index_at, attribute_name_at}
use Rattle.layout.specs.Bodies.{Width}
use Rattle.layout.specs.RecordBytes.{indexed_bytes, owned_bytes}
use Rattle.definition_writer.specs.Bodies.{member_moved, moved_particle}
use Rattle.definition_removal.specs.Bodies.{each_record, particle_record, attribute_record, moved_attribute, cut_out}

-- no record of a form is longer, of whatever width that a byte holds
abbrev pub longest : ℕ
longest = attribute_size 256

-- ---- the loop
-- once what is left is written, all is
pub record Going (g : Bytes → Bytes) (size : ℕ) (body : Bytes) (count : ℕ) (out₀ : Bytes) (at₀ : ℕ) (out : Bytes) (at i : ℕ) : Type 0 where
  pub goes : (r : ℕ) (out'' : Bytes) → Laid (each_record g size (count - i) (drop (size * i) body)) out at r out'' → Laid (each_record g size count body) out₀ at₀ r out''
  pub small : at ≤ at₀ + longest * i
  pub inside : i ≤ count
  pub long : length out ≡ length out₀

module _ (g : Bytes → Bytes) (size : ℕ) (body : Bytes) (count : ℕ) where
  start_is : each_record g size count body ≡ each_record g size (count - 0) (drop (size * 0) body)
  start_is = let e : count ≡ count - 0 = omega arith in ap₂ (λ (j k : ℕ). each_record g size j (drop k body)) e (sym (mul-zero size))

  record_left : (i : ℕ) → i < count → each_record g size (count - i) (drop (size * i) body) ≡ g (take size (drop (size * i) body)) ++ each_record g size (count - (i + 1)) (drop (size * (i + 1)) body)
  unfolding each_record
  record_left i h =
      let e : count - i ≡ suc (count - (i + 1)) = omega arith in
      let z : size * i + size ≡ size * (i + 1) = omega (arith, mul-suc size i, ap (λ (k : ℕ). size * k) (add-one i)) in
      ap (λ (k : ℕ). each_record g size k (drop (size * i) body)) e
      ∙ ap (λ (l : Bytes). g (take size (drop (size * i) body)) ++ each_record g size (count - (i + 1)) l)
      (drop-drop size (size * i) body ∙ ap (λ (k : ℕ). drop k body) z)

module _ (g : Bytes → Bytes) (size : ℕ) (body : Bytes) (count : ℕ) {out₀ : Bytes} {at₀ : ℕ} where
  pub going_start : Going g size body count out₀ at₀ out₀ at₀ 0
  going_start = record { goes = λ r o l. laid_as (start_is g size body count) l; small = omega arith; inside = omega arith; long = refl }

  module _ {out : Bytes} {at i : ℕ} (s : Going g size body count out₀ at₀ out at i) where
    pub going_on : (rec : Bytes) {at' : ℕ} {out' : Bytes} → i < count → rec ≡ take size (drop (size * i) body) → Laid (g rec) out at at' out' → length (g rec) ≤ longest
        → Going g size body count out₀ at₀ out' at' (i + 1)
    going_on rec h e l k =
        record {
          goes = λ r o m. s.goes r o
              (laid_as (record_left g size body count i h ∙ ap (λ (x : Bytes). g x ++ each_record g size (count - (i + 1)) (drop (size * (i + 1)) body)) (sym e))
              (laid_then l m));
          small = omega (arith, s.small, l.next);
          inside = omega arith;
          long = ap length l.stored ∙ length-sets out at (g rec) ∙ s.long;
        }

    pub going_end : count ≤ i → Laid (each_record g size count body) out₀ at₀ at out
    unfolding each_record
    going_end h = let e : count - i ≡ 0 = omega arith in s.goes at out (laid_as (ap (λ (k : ℕ). each_record g size k (drop (size * i) body)) e) laid_none)

pub records_short : (g : Bytes → Bytes) (size : ℕ) → ((rec : Bytes) → length rec ≤ size → length (g rec) ≤ longest) → (count : ℕ) (body : Bytes)
    → length (each_record g size count body) ≤ longest * count
unfolding each_record
records_short g size h zero body = omega arith
records_short g size h (suc count) body =
    omega (
      arith,
      length-append (g (take size body)) (each_record g size count (drop size body)),
      h (take size body) (omega (arith, length-take size body)),
      records_short g size h count (drop size body),
    )

-- ---- the records of a list
module _ {A : Type 0} (f : A → Bytes) (size : ℕ) (sized : (x : A) → length (f x) ≡ size) where
  module _ (g : Bytes → Bytes) (m : A → A) (again : (x : A) → g (f x) ≡ f (m x)) where
    records_again : (xs : List A) (rest : Bytes) → each_record g size (length xs) (each f xs ++ rest) ≡ each f (map m xs)
    unfolding each_record
    records_again [] rest = refl
    records_again (x ∷ xs) rest =
        ap (λ (z : Bytes). g (take size z) ++ each_record g size (length xs) (drop size z)) (append_assoc (f x) (each f xs) rest)
        ∙ ap (λ (j : ℕ). g (take j (f x ++ (each f xs ++ rest))) ++ each_record g size (length xs) (drop j (f x ++ (each f xs ++ rest)))) (sym (sized x))
        ∙ ap₂ (λ (u v : Bytes). g u ++ each_record g size (length xs) v) (take-append_seam (f x) (each f xs ++ rest)) (drop-append_seam (f x) (each f xs ++ rest))
        ∙ ap₂ (λ (u v : Bytes). u ++ v) (again x) (records_again xs rest)

    -- the first a records, and those from b on
    front_again : (a : ℕ) (xs : List A) → a ≤ length xs → each_record g size a (each f xs) ≡ each f (map m (take a xs))
    front_again a xs h =
        ap₂ (λ (k : ℕ) (l : Bytes). each_record g size k l) (sym (length-take-le a xs h)) (ap (each f) (sym (take-append-drop a xs)) ∙ each_append f (take a xs) (drop a xs))
        ∙ records_again (take a xs) (each f (drop a xs))

    back_again : (b : ℕ) (xs : List A) → each_record g size (length xs - b) (drop (size * b) (each f xs)) ≡ each f (map m (drop b xs))
    back_again b xs =
        ap₂ (λ (k : ℕ) (l : Bytes). each_record g size k l) (sym (length-drop b xs)) (each_drop f size sized b xs ∙ sym (append-nil (each f (drop b xs))))
        ∙ records_again (drop b xs) []

    pub cut_again : (a b : ℕ) (xs : List A) → a ≤ b → b ≤ length xs
        → each f (map m (cut_out a (b - a) xs)) ≡ each_record g size a (each f xs) ++ each_record g size (length xs - b) (drop (size * b) (each f xs))
    unfolding cut_out
    cut_again a b xs h k =
        let z : a + (b - a) ≡ b = omega arith in
        ap (λ (j : ℕ). each f (map m (take a xs ++ drop j xs))) z
        ∙ ap (each f) (map-append m (take a xs) (drop b xs))
        ∙ each_append f (map m (take a xs)) (map m (drop b xs))
        ∙ sym (ap₂ (λ (u v : Bytes). u ++ v) (front_again a xs (omega arith)) (back_again b xs))

-- ---- the two records
module _ (g : ℕ → ℕ) where
  pub particle_again : (x : Deep FlatParticle) → particle_record g (particle_bytes x) ≡ particle_bytes (moved_particle g x)
  unfolding particle_record indexed_bytes moved_particle
  particle_again x = refl

  pub attribute_again : (w : ℕ) (x : FlatAttribute) → attribute_record g (attribute_bytes w x) ≡ attribute_bytes w (moved_attribute g x)
  unfolding attribute_record owned_bytes moved_attribute
  attribute_again w x = refl

  pub particle_short : (rec : Bytes) → length (particle_record g rec) ≤ longest
  unfolding particle_record indexed_bytes
  particle_short rec =
      omega (
        arith,
        length-append (take particle_index_at rec) (member_moved g (read_particle rec).row.sort (read_particle rec).row.index ∷ (read_particle rec).depth ∷ []),
        length-take particle_index_at rec,
      )

  pub attribute_short : (w : ℕ) (rec : Bytes) → Width w → length rec ≤ attribute_size w → length (attribute_record g rec) ≤ longest
  unfolding attribute_record owned_bytes
  attribute_short w rec h k = omega (arith, length-drop attribute_name_at rec)
