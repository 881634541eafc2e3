-- A record that fits is what its reading is written as, and what is
-- written of good fields fits, whatever the width of a value.
use Prim.Native.Nat.{ℕ, zero, suc, ◌+◌, ◌*◌, ◌-◌, ◌/◌, ◌%◌, ◌^◌, ◌≤◌, ◌<◌}
use native.Mathlib.Nat.{pow-suc, sub-add_cancel, le_of_suc-le-suc, mul-suc, mul-zero}
use native.Mathlib.Omega.{arith}
use mathlib.Core.Path.{◌≡◌, refl, ap, ap₂, ◌∙◌, sym, subst}
use mathlib.Core.Logic.{◌↔◌}
use mathlib.Core.Bool.{Bool, true, false, ◌&&◌, ◌||◌, not}
use mathlib.Core.List.{List, [], ◌∷◌, ◌++◌, append_assoc, append-nil}
use lib.Dec.{eqb, leb, ltb, lit<}
use lib.ListN.{length, take, drop, get_or, drop_of_length-le, take-append-drop, length-drop}
use lib.Seq.{get_or_at, take-take, take-nil, take_at, drop_at, drop-cons, drop-drop, drop-append-le, drop-append-add, get_or-append-add, get_or-drop, length-take-le}
use borrow.Author.Tests.{leb-true, ltb-true, eqb-true, le-leb, lt-ltb, eq-eqb}
use Rattle.rules.specs.Bytes.{Bytes}
use Rattle.rules.specs.Preorder.{Deep}
use Rattle.rules.specs.Layout.{le, field, name_width, FlatDefinition, FlatAttribute, FlatRow, definition_size, particle_size, attribute_size, row_size}
use Rattle.rules.specs.Layout.{definition_bytes, particle_bytes, attribute_bytes, row_bytes, each}
use Rattle.rules.specs.Decode.{unle, number_at, read_definition, read_particle, read_attribute, read_row, read_many, sort_of}
use Rattle.rules.specs.WellFormed.{stored_name, is_value, is_fill}
use Rattle.rules.proofs.Words.{and_both, and_split}
use Rattle.rules.proofs.BooleanLaws.{Every, every_take, every_drop}
use Rattle.rules.proofs.LayoutLaws.{Small, unle_le, length_field, take_field}
use Rattle.byte_check.specs.Zeros.{zeros}
use Rattle.layout.specs.Fields.{definition_name_at, definition_kind_at, definition_particles_at, particle_sort_at, particle_quantifier_at, particle_index_at}
use Rattle.layout.specs.Fields.{particle_depth_at, attribute_owner_at, attribute_name_at, attribute_sort_at, attribute_length_at, attribute_value_at, attribute_length}
use Rattle.layout.specs.Fields.{row_sort_at, row_depth_at, row_index_at, row_serial_at, row_length_at, row_unused_at, row_value_at, row_length, unused_fit}
use Rattle.records.specs.Records.{used, filled, name_fits, value_fits, definition_fits, attribute_fits, row_fits, each_fits}
use Rattle.rules.proofs.DecodeLaws.{value_width_lem, name_width_lem}

-- ---- bytes
abbrev IsByte : ℕ → Type 0
IsByte b = b < 256

pub small_take : (k : ℕ) {bs : Bytes} → Small bs → Small (take k bs)
small_take k {bs} a = record { small = every_take IsByte k bs a.small }

pub small_drop : (k : ℕ) {bs : Bytes} → Small bs → Small (drop k bs)
small_drop k {bs} a = record { small = every_drop IsByte k bs a.small }

small_every : (bs : Bytes) → ((i : ℕ) → get_or bs i 0 < 256) → Every IsByte bs
small_every [] h = tt
small_every (b ∷ bs) h = (h 0, small_every bs (λ i. h (suc i)))

-- the bytes of a slice
pub small_of : (bs : Bytes) → ((i : ℕ) → get_or bs i 0 < 256) → Small bs
small_of bs h = record { small = small_every bs h }

every_small : (bs : Bytes) → Every IsByte bs → (i : ℕ) → get_or bs i 0 < 256
every_small [] a i = omega arith
every_small (b ∷ bs) a zero = a.0
every_small (b ∷ bs) a (suc i) = every_small bs a.1 i

pub small_at : {bs : Bytes} → Small bs → (i : ℕ) → get_or bs i 0 < 256
small_at {bs} a = every_small bs a.small

-- ---- numbers
le_unle : (bs : Bytes) → Every IsByte bs → le (length bs) (unle bs) ≡ bs
le_unle [] a = refl
le_unle (b ∷ bs) a =
    let l : b < 256 = a.0 in
    let low : (b + 256 * unle bs) % 256 ≡ b = omega arith in
    let high : (b + 256 * unle bs) / 256 ≡ unle bs = omega arith in
    ap₂ (λ (x : ℕ) (xs : Bytes). x ∷ xs) low (ap (λ (n : ℕ). le (length bs) n) high ∙ le_unle bs a.1)

-- k bytes are the number they stand for, written in k bytes
pub number_canonical : (k : ℕ) (bs : Bytes) → Small bs → length bs ≡ k → le k (unle bs) ≡ bs
number_canonical k bs a e = ap (λ (n : ℕ). le n (unle bs)) (sym e) ∙ le_unle bs a.small

unle_bound : (bs : Bytes) → Every IsByte bs → unle bs < 256 ^ length bs
unle_bound [] a = lit< tt
unle_bound (b ∷ bs) a = let l : b < 256 = a.0 in omega (arith, unle_bound bs a.1, pow-suc 256 (length bs))

-- ---- fields
blank_whole : (w : ℕ) (xs : Bytes) → w ≤ length xs → zeros (take w xs) ≡ true → field w [] ++ drop w xs ≡ xs
blank_whole zero xs h z = refl
blank_whole (suc w) [] h z = absurd (omega arith)
blank_whole (suc w) (x ∷ xs) h z =
    let (e, r) = and_split (eqb x 0) (zeros (take w xs)) z in
    ap₂ (λ (y : ℕ) (ys : Bytes). y ∷ ys) (sym (eqb-true x 0 e)) (blank_whole w xs (le_of_suc-le-suc h) r)

-- l bytes and d zeros after them are a field of l bytes
field_whole : (d l w : ℕ) (xs : Bytes) → w ≡ d + l → w ≤ length xs → zeros (take d (drop l xs)) ≡ true → field w (take l xs) ++ drop w xs ≡ xs
field_whole d zero w xs e h z = let m : w ≡ d = omega arith in blank_whole w xs h (ap (λ (k : ℕ). zeros (take k xs)) m ∙ z)
field_whole d (suc l) zero xs e h z = refl
field_whole d (suc l) (suc w) [] e h z = absurd (omega arith)
field_whole d (suc l) (suc w) (x ∷ xs) e h z = ap (λ (ys : Bytes). x ∷ ys) (field_whole d l w xs (omega arith) (omega arith) z)

zeros_field : (w : ℕ) (v : Bytes) → zeros (drop (length v) (field w v)) ≡ true
zeros_field zero [] = refl
zeros_field zero (x ∷ xs) = refl
zeros_field (suc w) [] = zeros_field w []
zeros_field (suc w) (x ∷ xs) = zeros_field w xs

-- ---- what is written of the bytes from a place on, piece by piece
length_part : (bs : Bytes) (at k : ℕ) → at + k ≤ length bs → length (take k (drop at bs)) ≡ k
length_part bs at k h = length-take-le k (drop at bs) (omega (arith, length-drop at bs))

module _ (bs : Bytes) where
  pub byte_then : (at next x : ℕ) {t : Bytes} → x ≡ get_or bs at 0 → next ≡ suc at → at < length bs → t ≡ drop next bs → x ∷ t ≡ drop at bs
  byte_then at next x e n h q = ap₂ (λ (y : ℕ) (ys : Bytes). y ∷ ys) e (q ∙ ap (λ (k : ℕ). drop k bs) n) ∙ sym (drop-cons bs at 0 h)

  pub number_then : (at k n : ℕ) {t : Bytes} → Small bs → n ≡ number_at at k bs → at + k ≤ length bs → t ≡ drop (at + k) bs → le k n ++ t ≡ drop at bs
  number_then at k n a e h q =
      ap₂ (λ (x y : Bytes). x ++ y) (ap (λ (m : ℕ). le k m) e ∙ number_canonical k (take k (drop at bs)) (small_take k (small_drop at a)) (length_part bs at k h)) (q ∙ sym (drop-drop k at bs))
      ∙ take-append-drop k (drop at bs)

  pub length_used : (at l w : ℕ) → filled bs at l w ≡ true → at + w ≤ length bs → length (used bs at l) ≡ l
  length_used at l w f h = length_part bs at l (omega (arith, leb-true l w (and_split (leb l w) _ f).0))

  pub field_then : (at l w : ℕ) {t : Bytes} → filled bs at l w ≡ true → at + w ≤ length bs → t ≡ drop (at + w) bs → field w (used bs at l) ++ t ≡ drop at bs
  field_then at l w {t} f h q =
      let (a, z) = and_split (leb l w) (zeros (take (w - l) (drop (at + l) bs))) f in
      let m : w ≡ w - l + l = sym (sub-add_cancel (leb-true l w a)) in
      ap (λ (ys : Bytes). field w (used bs at l) ++ ys) (q ∙ sym (drop-drop w at bs))
      ∙ field_whole (w - l) l w (drop at bs) m (omega (arith, length-drop at bs)) (ap (λ (ys : Bytes). zeros (take (w - l) ys)) (drop-drop l at bs) ∙ z)

  pub all_read : (at : ℕ) → length bs ≤ at → [] ≡ drop at bs
  all_read at h = sym (drop_of_length-le bs h)

-- ---- what was written into a field
used_field : (bs v post : Bytes) (at w : ℕ) → drop at bs ≡ field w v ++ post → length v ≤ w → used bs at (length v) ≡ v
used_field bs v post at w e h = ap (λ (ys : Bytes). take (length v) ys) e ∙ take_field w v post h

filled_field : (bs v post : Bytes) (at w : ℕ) → drop at bs ≡ field w v ++ post → length v ≤ w → filled bs at (length v) w ≡ true
filled_field bs v post at w e h = and_both (le-leb _ _ h) (ap zeros tail ∙ zeros_field w v)
  where
    tail : take (w - length v) (drop (at + length v) bs) ≡ drop (length v) (field w v)
    tail =
        ap (λ (ys : Bytes). take (w - length v) ys)
        (sym (drop-drop (length v) at bs) ∙ ap (λ (ys : Bytes). drop (length v) ys) e ∙ drop-append-le (length v) (field w v) post (omega (arith, length_field w v)))
        ∙ take_at (drop (length v) (field w v)) post (w - length v) (length-drop (length v) (field w v) ∙ ap (λ (k : ℕ). k - length v) (length_field w v))

pub drop_past : (xs ys : Bytes) (k n : ℕ) → length xs ≡ k → drop (k + n) (xs ++ ys) ≡ drop n ys
drop_past xs ys k n e = ap (λ (m : ℕ). drop (m + n) (xs ++ ys)) (sym e) ∙ drop-append-add xs ys n

get_d_past : (xs ys : Bytes) (k n : ℕ) → length xs ≡ k → get_or (xs ++ ys) (k + n) 0 ≡ get_or ys n 0
get_d_past xs ys k n e = ap (λ (m : ℕ). get_or (xs ++ ys) (m + n) 0) (sym e) ∙ get_or-append-add xs ys n 0

name_fits_lem : (bs n post : Bytes) (at : ℕ) → get_or bs at 0 ≡ length n → drop (suc at) bs ≡ field name_width n ++ post → stored_name n ≡ true → name_fits bs at ≡ true
unfolding name_fits
name_fits_lem bs n post at g e s =
    ap (λ (l : ℕ). stored_name (used bs (suc at) l) && filled bs (suc at) l name_width) g
    ∙ and_both (ap stored_name (used_field bs n post (suc at) name_width e (name_width_lem n s)) ∙ s) (filled_field bs n post (suc at) name_width e (name_width_lem n s))

value_fits_lem : (w : ℕ) (bs v post : Bytes) (at l : ℕ) → l ≡ length v → drop at bs ≡ field w v ++ post → is_value w v ≡ true → value_fits w bs at l ≡ true
unfolding value_fits
value_fits_lem w bs v post at l g e s =
    ap (λ (k : ℕ). is_value w (used bs at k) && filled bs at k w) g
    ∙ and_both (ap (is_value w) (used_field bs v post at w e (value_width_lem w v s)) ∙ s) (filled_field bs v post at w e (value_width_lem w v s))

-- ---- definitions
-- what a definition's record holds
pub record FittingDefinition (d : FlatDefinition) : Type 0 where
  pub name : stored_name d.name ≡ true
  pub kind : d.kind ≤ 2
  pub none : (eqb d.kind 2 || eqb d.particles 0) ≡ true
  pub particles : d.particles < 65536

-- the fields at their places
abbrev definition_at : Bytes → FlatDefinition
definition_at bs = record { name = used bs (suc definition_name_at) (get_or bs definition_name_at 0); kind = get_or bs definition_kind_at 0; particles = number_at definition_particles_at 2 bs }

definition_at_lem : (bs : Bytes) → read_definition bs ≡ definition_at bs
definition_at_lem bs =
    λ i. record {
      name = used bs (suc definition_name_at) (get_or bs definition_name_at 0);
      kind = get_or-drop definition_kind_at bs 0 0 i;
      particles = unle (take 2 (drop-drop (definition_particles_at - definition_kind_at) definition_kind_at bs i));
    }

-- the test by them
definition_tests : (bs : Bytes) → definition_fits bs ≡ (name_fits bs definition_name_at && (leb (definition_at bs).kind 2 && (eqb (definition_at bs).kind 2 || eqb (definition_at bs).particles 0)))
unfolding definition_fits
definition_tests bs = ap (λ (d : FlatDefinition). name_fits bs definition_name_at && (leb d.kind 2 && (eqb d.kind 2 || eqb d.particles 0))) (definition_at_lem bs)

pub definition_canonical : (bs : Bytes) → Small bs → length bs ≡ definition_size → definition_fits bs ≡ true → definition_bytes (read_definition bs) ≡ bs
unfolding definition_fits name_fits
definition_canonical bs a e h =
    let (n, h₁) = and_split (name_fits bs definition_name_at) _ h in
    let (s, f) = and_split (stored_name (used bs (suc definition_name_at) (get_or bs definition_name_at 0))) _ n in
    ap definition_bytes (definition_at_lem bs)
    ∙ byte_then bs definition_name_at (suc definition_name_at) (length (used bs (suc definition_name_at) (get_or bs definition_name_at 0)))
    (length_used bs (suc definition_name_at) (get_or bs definition_name_at 0) name_width f (omega arith)) refl (omega arith)
    (field_then bs (suc definition_name_at) (get_or bs definition_name_at 0) name_width f (omega arith)
    (byte_then bs definition_kind_at definition_particles_at (get_or bs definition_kind_at 0) refl refl (omega arith)
    (number_then bs definition_particles_at 2 (number_at definition_particles_at 2 bs) a refl (omega arith) (all_read bs definition_size (omega arith)))))

pub number_bound : (k : ℕ) (bs : Bytes) (at : ℕ) → Small bs → at + k ≤ length bs → number_at at k bs < 256 ^ k
number_bound k bs at a h = rw (length_part bs at k h) at (unle_bound (take k (drop at bs)) (small_take k (small_drop at a)).small)

pub definition_fields : (bs : Bytes) → Small bs → length bs ≡ definition_size → definition_fits bs ≡ true → FittingDefinition (read_definition bs)
unfolding name_fits
definition_fields bs a e h =
    let (n, h₁) = and_split (name_fits bs definition_name_at) _ (sym (definition_tests bs) ∙ h) in
    let (k, z) = and_split (leb (get_or bs definition_kind_at 0) 2) (eqb (get_or bs definition_kind_at 0) 2 || eqb (number_at definition_particles_at 2 bs) 0) h₁ in
    subst (λ (d : FlatDefinition). FittingDefinition d) (sym (definition_at_lem bs))
    (record {
      name = (and_split (stored_name (used bs (suc definition_name_at) (get_or bs definition_name_at 0))) _ n).0;
      kind = leb-true _ _ k;
      none = z;
      particles = number_bound 2 bs definition_particles_at a (omega arith);
    })

pub definition_fits_lem : (d : FlatDefinition) → FittingDefinition d → definition_fits (definition_bytes d) ≡ true
definition_fits_lem d f =
    definition_tests (definition_bytes d)
    ∙ and_both (name_fits_lem (definition_bytes d) d.name (d.kind ∷ le 2 d.particles) definition_name_at refl refl f.name)
    (and_both (ap (λ (k : ℕ). leb k 2) kind_at ∙ le-leb _ _ f.kind) (ap₂ (λ (k p : ℕ). eqb k 2 || eqb p 0) kind_at particles_at ∙ f.none))
  where
    kind_at : get_or (definition_bytes d) definition_kind_at 0 ≡ d.kind
    kind_at = get_d_past (field name_width d.name) (d.kind ∷ le 2 d.particles) name_width 0 (length_field name_width d.name)

    particles_at : number_at definition_particles_at 2 (definition_bytes d) ≡ d.particles
    particles_at =
        ap (λ (ys : Bytes). unle (take 2 ys))
        (drop_past (field name_width d.name) (d.kind ∷ le 2 d.particles) name_width (definition_particles_at - definition_kind_at) (length_field name_width d.name))
        ∙ unle_le 2 d.particles f.particles

-- a record fits if and only if its fields are good and it is what they are written as
pub definition_test : (bs : Bytes) → Small bs → length bs ≡ definition_size → (definition_fits bs ≡ true) ↔ (FittingDefinition (read_definition bs) × (definition_bytes (read_definition bs) ≡ bs))
definition_test bs a e = (λ h. (definition_fields bs a e h, definition_canonical bs a e h), λ (f, c). ap definition_fits (sym c) ∙ definition_fits_lem (read_definition bs) f)

-- ---- particles
pub particle_canonical : (bs : Bytes) → length bs ≡ particle_size → particle_bytes (read_particle bs) ≡ bs
particle_canonical bs e =
    byte_then bs particle_sort_at particle_quantifier_at (read_particle bs).row.sort refl refl (omega arith)
    (byte_then bs particle_quantifier_at particle_index_at (read_particle bs).row.quantifier refl refl (omega arith)
    (byte_then bs particle_index_at particle_depth_at (read_particle bs).row.index refl refl (omega arith)
    (byte_then bs particle_depth_at particle_size (read_particle bs).depth refl refl (omega arith) (all_read bs particle_size (omega arith)))))

-- ---- attributes
-- what the record of an attribute holds, among n definitions
pub record FittingAttribute (w n : ℕ) (a : FlatAttribute) : Type 0 where
  pub owner : a.owner < n
  pub name : stored_name a.name ≡ true
  pub sort : a.sort ≤ 2
  pub value : is_value w a.value ≡ true
  pub fill : is_fill (sort_of a.sort) a.value ≡ true

abbrev attribute_at : Bytes → FlatAttribute
attribute_at bs =
    record {
      owner = get_or bs attribute_owner_at 0;
      name = used bs (suc attribute_name_at) (get_or bs attribute_name_at 0);
      sort = get_or bs attribute_sort_at 0;
      value = used bs attribute_value_at (attribute_length bs);
    }

attribute_at_lem : (bs : Bytes) → read_attribute bs ≡ attribute_at bs
attribute_at_lem bs =
    λ i. record {
      owner = get_or bs attribute_owner_at 0;
      name = used bs (suc attribute_name_at) (get_or bs attribute_name_at 0);
      sort = get_or-drop attribute_sort_at bs 0 0 i;
      value = take (get_or-drop attribute_sort_at bs (attribute_length_at - attribute_sort_at) 0 i) (drop-drop (attribute_value_at - attribute_sort_at) attribute_sort_at bs i);
    }

-- the test by them
attribute_tests : (w n : ℕ) (bs : Bytes)
    → attribute_fits w n bs
    ≡ (ltb (attribute_at bs).owner n
    && (name_fits bs attribute_name_at
    && (leb (attribute_at bs).sort 2 && (value_fits w bs attribute_value_at (attribute_length bs) && is_fill (sort_of (attribute_at bs).sort) (attribute_at bs).value))))
unfolding attribute_fits
attribute_tests w n bs =
    ap
    (λ (a : FlatAttribute). ltb a.owner n && (name_fits bs attribute_name_at && (leb a.sort 2 && (value_fits w bs attribute_value_at (attribute_length bs) && is_fill (sort_of a.sort) a.value))))
    (attribute_at_lem bs)

-- the parts of the test
record AttributeParts (w n : ℕ) (bs : Bytes) : Type 0 where
  owner : get_or bs attribute_owner_at 0 < n
  name : stored_name (used bs (suc attribute_name_at) (get_or bs attribute_name_at 0)) ≡ true
  name_fill : filled bs (suc attribute_name_at) (get_or bs attribute_name_at 0) name_width ≡ true
  sort : get_or bs attribute_sort_at 0 ≤ 2
  value : is_value w (used bs attribute_value_at (attribute_length bs)) ≡ true
  value_fill : filled bs attribute_value_at (attribute_length bs) w ≡ true
  fill : is_fill (sort_of (get_or bs attribute_sort_at 0)) (used bs attribute_value_at (attribute_length bs)) ≡ true

attribute_parts : (w n : ℕ) (bs : Bytes) → attribute_fits w n bs ≡ true → AttributeParts w n bs
unfolding name_fits value_fits
attribute_parts w n bs h =
    let (o, h₁) = and_split (ltb (get_or bs attribute_owner_at 0) n) _ (sym (attribute_tests w n bs) ∙ h) in
    let (m, h₂) = and_split (name_fits bs attribute_name_at) _ h₁ in
    let (s, h₃) = and_split (leb (get_or bs attribute_sort_at 0) 2) _ h₂ in
    let (v, f) = and_split (value_fits w bs attribute_value_at (attribute_length bs)) _ h₃ in
    let (m₀, m₁) = and_split (stored_name (used bs (suc attribute_name_at) (get_or bs attribute_name_at 0))) _ m in
    let (v₀, v₁) = and_split (is_value w (used bs attribute_value_at (attribute_length bs))) _ v in
    record { owner = ltb-true _ _ o; name = m₀; name_fill = m₁; sort = leb-true _ _ s; value = v₀; value_fill = v₁; fill = f }

pub attribute_canonical : (w n : ℕ) (bs : Bytes) → length bs ≡ attribute_size w → attribute_fits w n bs ≡ true → attribute_bytes w (read_attribute bs) ≡ bs
attribute_canonical w n bs e h =
    let p : AttributeParts w n bs = attribute_parts w n bs h in
    ap (attribute_bytes w) (attribute_at_lem bs)
    ∙ byte_then bs attribute_owner_at attribute_name_at (get_or bs attribute_owner_at 0) refl refl (omega arith)
    (byte_then bs attribute_name_at (suc attribute_name_at) (length (used bs (suc attribute_name_at) (get_or bs attribute_name_at 0)))
    (length_used bs (suc attribute_name_at) (get_or bs attribute_name_at 0) name_width p.name_fill (omega arith)) refl (omega arith)
    (field_then bs (suc attribute_name_at) (get_or bs attribute_name_at 0) name_width p.name_fill (omega arith)
    (byte_then bs attribute_sort_at attribute_length_at (get_or bs attribute_sort_at 0) refl refl (omega arith)
    (byte_then bs attribute_length_at attribute_value_at (length (used bs attribute_value_at (attribute_length bs)))
    (length_used bs attribute_value_at (attribute_length bs) w p.value_fill (omega arith)) refl (omega arith)
    (sym (append-nil (field w (used bs attribute_value_at (attribute_length bs))))
    ∙ field_then bs attribute_value_at (attribute_length bs) w p.value_fill (omega arith) (all_read bs (attribute_size w) (omega arith)))))))

pub attribute_fields : (w n : ℕ) (bs : Bytes) → attribute_fits w n bs ≡ true → FittingAttribute w n (read_attribute bs)
attribute_fields w n bs h =
    let p : AttributeParts w n bs = attribute_parts w n bs h in
    subst (λ (a : FlatAttribute). FittingAttribute w n a) (sym (attribute_at_lem bs)) (record { owner = p.owner; name = p.name; sort = p.sort; value = p.value; fill = p.fill })

pub attribute_fits_lem : (w n : ℕ) (a : FlatAttribute) → FittingAttribute w n a → attribute_fits w n (attribute_bytes w a) ≡ true
attribute_fits_lem w n a f =
    attribute_tests w n (attribute_bytes w a)
    ∙ and_both (lt-ltb _ _ f.owner)
    (and_both (name_fits_lem (attribute_bytes w a) a.name rest attribute_name_at refl refl f.name)
    (and_both (ap (λ (k : ℕ). leb k 2) sort_at ∙ le-leb _ _ f.sort)
    (and_both (value_fits_lem w (attribute_bytes w a) a.value [] attribute_value_at _ length_at value_at f.value) (ap₂ (λ (k : ℕ) (v : Bytes). is_fill (sort_of k) v) sort_at used_at ∙ f.fill))))
  where
    rest : Bytes
    rest = a.sort ∷ length a.value ∷ field w a.value

    sort_at : get_or (attribute_bytes w a) attribute_sort_at 0 ≡ a.sort
    sort_at = get_d_past (field name_width a.name) rest name_width 0 (length_field name_width a.name)

    length_at : attribute_length (attribute_bytes w a) ≡ length a.value
    length_at = get_d_past (field name_width a.name) rest name_width 1 (length_field name_width a.name)

    value_at : drop attribute_value_at (attribute_bytes w a) ≡ field w a.value ++ []
    value_at = drop_past (field name_width a.name) rest name_width 2 (length_field name_width a.name) ∙ sym (append-nil (field w a.value))

    used_at : used (attribute_bytes w a) attribute_value_at (attribute_length (attribute_bytes w a)) ≡ a.value
    used_at = ap (λ (l : ℕ). used (attribute_bytes w a) attribute_value_at l) length_at ∙ used_field (attribute_bytes w a) a.value [] attribute_value_at w value_at (value_width_lem w a.value f.value)

pub attribute_test : (w n : ℕ) (bs : Bytes) → length bs ≡ attribute_size w → (attribute_fits w n bs ≡ true) ↔ (FittingAttribute w n (read_attribute bs) × (attribute_bytes w (read_attribute bs) ≡ bs))
attribute_test w n bs e = (λ h. (attribute_fields w n bs h, attribute_canonical w n bs e h), λ (f, c). ap (attribute_fits w n) (sym c) ∙ attribute_fits_lem w n (read_attribute bs) f)

-- ---- rows
-- what a row's record holds, apart from its depth
pub record FittingRow (w : ℕ) (r : Deep FlatRow) : Type 0 where
  pub least : 1 ≤ r.row.sort
  pub most : r.row.sort ≤ 3
  pub value : is_value w r.row.value ≡ true
  pub element : r.row.sort ≡ 1 → r.row.value ≡ []
  pub text : r.row.sort ≡ 3 → r.row.index ≡ 0
  pub index : r.row.index < 65536
  pub serial : r.row.serial < 4294967296

unless_true : (a : ℕ) (k : ℕ) (b : Bool) → (not (eqb a k) || b) ≡ true → a ≡ k → b ≡ true
unless_true a k b h e = sym (ap (λ (t : Bool). not t || b) (eq-eqb a k e)) ∙ h

unless_of : (a : ℕ) (k : ℕ) (b : Bool) → (a ≡ k → b ≡ true) → (not (eqb a k) || b) ≡ true
unless_of a k b f = by (eqb a k) refl
  where
    by : (t : Bool) → eqb a k ≡ t → (not t || b) ≡ true
    by true q = f (eqb-true a k q)
    by false q = refl

-- the parts of the test
pub record RowParts (w : ℕ) (bs : Bytes) : Type 0 where
  pub least : 1 ≤ (read_row bs).row.sort
  pub most : (read_row bs).row.sort ≤ 3
  pub value : is_value w (used bs row_value_at (row_length bs)) ≡ true
  pub value_fill : filled bs row_value_at (row_length bs) w ≡ true
  pub element : (read_row bs).row.sort ≡ 1 → row_length bs ≡ 0
  pub text : (read_row bs).row.sort ≡ 3 → (read_row bs).row.index ≡ 0
  pub unused₀ : get_or bs row_unused_at 0 ≡ 0
  pub unused₁ : get_or bs (row_value_at + w) 0 ≡ 0
  pub unused₂ : get_or bs (row_value_at + 1 + w) 0 ≡ 0

pub row_parts : (w : ℕ) (bs : Bytes) → row_fits w bs ≡ true → RowParts w bs
unfolding row_fits value_fits unused_fit
row_parts w bs h =
    let (s, h₁) = and_split (leb 1 (read_row bs).row.sort && leb (read_row bs).row.sort 3) _ h in
    let (s₀, s₁) = and_split (leb 1 (read_row bs).row.sort) (leb (read_row bs).row.sort 3) s in
    let (v, h₂) = and_split (value_fits w bs row_value_at (row_length bs)) _ h₁ in
    let (v₀, v₁) = and_split (is_value w (used bs row_value_at (row_length bs))) _ v in
    let (e, h₃) = and_split (not (eqb (read_row bs).row.sort 1) || eqb (row_length bs) 0) _ h₂ in
    let (t, h₄) = and_split (not (eqb (read_row bs).row.sort 3) || eqb (read_row bs).row.index 0) _ h₃ in
    let (u₀, h₅) = and_split (eqb (get_or bs row_unused_at 0) 0) _ h₄ in
    let (u₁, u₂) = and_split (eqb (get_or bs (row_value_at + w) 0) 0) (eqb (get_or bs (row_value_at + 1 + w) 0) 0) h₅ in
    record {
      least = leb-true _ _ s₀;
      most = leb-true _ _ s₁;
      value = v₀;
      value_fill = v₁;
      element = λ q. eqb-true _ _ (unless_true (read_row bs).row.sort 1 (eqb (row_length bs) 0) e q);
      text = λ q. eqb-true _ _ (unless_true (read_row bs).row.sort 3 (eqb (read_row bs).row.index 0) t q);
      unused₀ = eqb-true _ _ u₀;
      unused₁ = eqb-true _ _ u₁;
      unused₂ = eqb-true _ _ u₂;
    }

pub row_canonical : (w : ℕ) (bs : Bytes) → Small bs → length bs ≡ row_size w → row_fits w bs ≡ true → row_bytes w (read_row bs) ≡ bs
row_canonical w bs a e h =
    let p : RowParts w bs = row_parts w bs h in
    byte_then bs row_sort_at row_depth_at (read_row bs).row.sort refl refl (omega arith)
    (byte_then bs row_depth_at row_index_at (read_row bs).depth refl refl (omega arith)
    (number_then bs row_index_at 2 (read_row bs).row.index a refl (omega arith)
    (number_then bs row_serial_at 4 (read_row bs).row.serial a refl (omega arith)
    (byte_then bs row_length_at row_unused_at (length (used bs row_value_at (row_length bs))) (length_used bs row_value_at (row_length bs) w p.value_fill (omega arith)) refl (omega arith)
    (byte_then bs row_unused_at row_value_at 0 (sym p.unused₀) refl (omega arith)
    (field_then bs row_value_at (row_length bs) w p.value_fill (omega arith)
    (byte_then bs (row_value_at + w) (row_value_at + 1 + w) 0 (sym p.unused₁) (omega arith) (omega arith)
    (byte_then bs (row_value_at + 1 + w) (row_size w) 0 (sym p.unused₂) (omega arith) (omega arith) (all_read bs (row_size w) (omega arith))))))))))

pub row_fields : (w : ℕ) (bs : Bytes) → Small bs → length bs ≡ row_size w → row_fits w bs ≡ true → FittingRow w (read_row bs)
row_fields w bs a e h =
    let p : RowParts w bs = row_parts w bs h in
    record {
      least = p.least;
      most = p.most;
      value = p.value;
      element = λ q. ap (λ (l : ℕ). used bs row_value_at l) (p.element q);
      text = p.text;
      index = number_bound 2 bs row_index_at a (omega arith);
      serial = number_bound 4 bs row_serial_at a (omega arith);
    }

pub row_fits_lem : (w : ℕ) (r : Deep FlatRow) → FittingRow w r → row_fits w (row_bytes w r) ≡ true
unfolding row_fits unused_fit
row_fits_lem w r f =
    and_both (and_both (le-leb _ _ f.least) (le-leb _ _ f.most))
    (and_both (value_fits_lem w (row_bytes w r) v (0 ∷ 0 ∷ []) row_value_at (length v) refl refl f.value)
    (and_both (unless_of r.row.sort 1 (eqb (length v) 0) (λ q. eq-eqb _ _ (ap length (f.element q))))
    (and_both (unless_of r.row.sort 3 (eqb (read_row (row_bytes w r)).row.index 0) (λ q. eq-eqb _ _ (unle_le 2 r.row.index f.index ∙ f.text q)))
    (and_both (eq-eqb 0 0 refl) (and_both (eq-eqb _ _ first) (eq-eqb _ _ second))))))
  where
    v : Bytes
    v = r.row.value

    first : get_or (row_bytes w r) (row_value_at + w) 0 ≡ 0
    first = sym (get_or-drop row_value_at (row_bytes w r) w 0) ∙ get_or_at (field w v) 0 (0 ∷ []) 0 w (length_field w v)

    second : get_or (row_bytes w r) (row_value_at + 1 + w) 0 ≡ 0
    second =
        let e : row_value_at + 1 + w ≡ row_value_at + (w + 1) = omega arith in
        ap (λ (k : ℕ). get_or (row_bytes w r) k 0) e ∙ sym (get_or-drop row_value_at (row_bytes w r) (w + 1) 0) ∙ get_d_past (field w v) (0 ∷ 0 ∷ []) w 1 (length_field w v)

pub row_test : (w : ℕ) (bs : Bytes) → Small bs → length bs ≡ row_size w → (row_fits w bs ≡ true) ↔ (FittingRow w (read_row bs) × (row_bytes w (read_row bs) ≡ bs))
row_test w bs a e = (λ h. (row_fields w bs a e h, row_canonical w bs a e h), λ (f, c). ap (row_fits w) (sym c) ∙ row_fits_lem w (read_row bs) f)

-- ---- bodies
pub drop_take : (k m : ℕ) (xs : Bytes) → k ≤ m → drop k (take m xs) ≡ take (m - k) (drop k xs)
drop_take zero m xs h = let e : m ≡ m - 0 = omega arith in ap (λ (n : ℕ). take n xs) e
drop_take (suc k) zero xs h = absurd (omega arith)
drop_take (suc k) (suc m) [] h = sym (take-nil (suc m - suc k))
drop_take (suc k) (suc m) (x ∷ xs) h = let e : suc m - suc k ≡ m - k = omega arith in drop_take k m xs (omega arith) ∙ ap (λ (n : ℕ). take n (drop k xs)) (sym e)

-- only the records count: what stands after them may be cut off
pub each_fits_cut : (p : Bytes → Bool) (size count n : ℕ) (bs : Bytes) → size * count ≤ n → each_fits p size count (take n bs) ≡ each_fits p size count bs
unfolding each_fits
each_fits_cut p size zero n bs h = refl
each_fits_cut p size (suc count) n bs h =
    let l : size ≤ n = omega (arith, mul-suc size count) in
    ap₂ (λ (a b : Bool). a && b) (ap p (take-take size n bs l))
    (ap (each_fits p size count) (drop_take size n bs l) ∙ each_fits_cut p size count (n - size) (drop size bs) (omega (arith, mul-suc size count)))

module _ {A : Type 0} (f : Bytes → A) (g : A → Bytes) (p : Bytes → Bool) (size : ℕ) where
  -- the records that fit, and what follows them
  pub body_then : ((x : Bytes) → Small x → length x ≡ size → p x ≡ true → g (f x) ≡ x) → (count : ℕ) (bs : Bytes) → Small bs → size * count ≤ length bs → each_fits p size count bs ≡ true
      → each g (read_many f size count bs) ++ drop (size * count) bs ≡ bs
  unfolding each_fits
  body_then canonical zero bs a h fit = ap (λ (k : ℕ). drop k bs) (mul-zero size)
  body_then canonical (suc count) bs a h fit =
      let m : size * suc count ≡ size + size * count = omega (arith, mul-suc size count) in
      let (here, there) = and_split (p (take size bs)) (each_fits p size count (drop size bs)) fit in
      append_assoc (g (f (take size bs))) (each g (read_many f size count (drop size bs))) (drop (size * suc count) bs)
      ∙ ap₂ (λ (x y : Bytes). x ++ y) (canonical (take size bs) (small_take size a) (length-take-le size bs (omega arith)) here)
      (ap (λ (ys : Bytes). each g (read_many f size count (drop size bs)) ++ ys) (ap (λ (k : ℕ). drop k bs) m ∙ sym (drop-drop (size * count) size bs))
      ∙ body_then canonical count (drop size bs) (small_drop size a) (omega (arith, length-drop size bs)) there)
      ∙ take-append-drop size bs

  pub body_canonical : ((x : Bytes) → Small x → length x ≡ size → p x ≡ true → g (f x) ≡ x) → (count : ℕ) (bs : Bytes) → Small bs → length bs ≡ size * count → each_fits p size count bs ≡ true
      → each g (read_many f size count bs) ≡ bs
  body_canonical canonical count bs a e fit =
      sym (append-nil (each g (read_many f size count bs)))
      ∙ ap (λ (ys : Bytes). each g (read_many f size count bs) ++ ys) (all_read bs (size * count) (omega arith))
      ∙ body_then canonical count bs a (omega arith) fit

  -- what a test says of each record holds of all
  pub body_fields : (P : A → Type 0) → ((x : Bytes) → Small x → length x ≡ size → p x ≡ true → P (f x)) → (count : ℕ) (bs : Bytes) → Small bs
      → size * count ≤ length bs → each_fits p size count bs ≡ true
      → Every P (read_many f size count bs)
  unfolding each_fits
  body_fields P says zero bs a h fit = tt
  body_fields P says (suc count) bs a h fit =
      let m : size * suc count ≡ size + size * count = omega (arith, mul-suc size count) in
      let (here, there) = and_split (p (take size bs)) (each_fits p size count (drop size bs)) fit in
      (says (take size bs) (small_take size a) (length-take-le size bs (omega arith)) here, body_fields P says count (drop size bs) (small_drop size a) (omega (arith, length-drop size bs)) there)

  -- records that fit, one after another, and anything after them
  pub body_fits : ((x : A) → length (g x) ≡ size) → (xs : List A) (rest : Bytes) → Every (λ x. p (g x) ≡ true) xs → each_fits p size (length xs) (each g xs ++ rest) ≡ true
  unfolding each_fits
  body_fits l [] rest a = refl
  body_fits l (x ∷ xs) rest a =
      rw (append_assoc (g x) (each g xs) rest, take_at (g x) (each g xs ++ rest) size (l x), drop_at (g x) (each g xs ++ rest) size (l x)) (and_both a.0 (body_fits l xs rest a.1))

  pub body_fits_whole : ((x : A) → length (g x) ≡ size) → (xs : List A) → Every (λ x. p (g x) ≡ true) xs → each_fits p size (length xs) (each g xs) ≡ true
  body_fits_whole l xs a = ap (each_fits p size (length xs)) (sym (append-nil (each g xs))) ∙ body_fits l xs [] a
