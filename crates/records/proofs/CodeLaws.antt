-- What the calls of a test give together; what a loop over records has left.
use Prim.Native.Nat.{ℕ, zero, suc, min, ◌+◌, ◌*◌, ◌-◌, ◌≤◌, ◌<◌}
use native.Mathlib.Nat.{min-eq_left, min-eq_right}
use native.Mathlib.Numerals.{add-one}
use native.Mathlib.Omega.{arith}
use mathlib.Core.Path.{◌≡◌, refl, sym, ap, ap₂, ◌∙◌}
use mathlib.Core.Bool.{Bool, true, false, ◌&&◌, ◌||◌, not, false≢true}
use mathlib.Core.List.{[], ◌∷◌}
use lib.Dec.{eqb, leb, ltb, eqb-suc-zero}
use lib.ListN.{length, take, drop, get_or, drop_of_length-le, get_or-eq_default}
use lib.Seq.{drop-drop}
use borrow.Author.Tests.{le-leb, lt-leb, leb-true, leb-false, ne_eqb}
use Rattle.rules.specs.declared.AttributeSort.{AttributeSort}
use Rattle.rules.specs.Bytes.{Bytes, all}
use Rattle.rules.specs.Layout.{name_width, header_size, definition_size, particle_size, attribute_size, row_size}
use Rattle.rules.specs.WellFormed.{starts_name, in_name, stored_name, is_value, is_fill}
use Rattle.rules.specs.Decode.{number_at, read_definition, read_attribute, read_row, definition_count, particle_count, attribute_count, row_count, sized, sort_of}
use Rattle.rules.specs.Passing.{known_version}
use Rattle.byte_check.specs.Zeros.{zeros}
use Rattle.layout.specs.Fields.{definition_entry_at, particle_entry_at, attribute_entry_at, row_entry_at, version_at, next_at, definition_name_at, attribute_name_at}
use Rattle.layout.specs.Fields.{attribute_value_at, attribute_length, row_value_at, row_length, unused_fit}
use Rattle.layout.specs.Bodies.{Place}
use Rattle.records.specs.Records.{used, filled, name_fits, value_fits, definition_fits, attribute_fits, row_fits, each_fits, counts_fit, offsets_fit, header_fits}
use Rattle.records.proofs.RecordLaws.{drop_take}

-- ---- names, values, fields
pub name_none : (bs : Bytes) → length bs ≡ 0 → stored_name bs ≡ false
name_none [] e = refl
name_none (x ∷ xs) e = absurd (omega arith)

pub name_some : (bs : Bytes) → (length bs ≡ 0 → ⊥) → stored_name bs ≡ (starts_name (get_or bs 0 0) && all in_name (drop 1 bs) && leb (length bs) name_width)
name_some [] h = absurd (h refl)
name_some (x ∷ xs) h = refl

pub filled_wide : (bs : Bytes) (at l width : ℕ) → width < l → filled bs at l width ≡ false
filled_wide bs at l width h = rw (lt-leb l width h)

-- the zeros after the used bytes, cut out of the field
pub filled_narrow : (bs : Bytes) (at l width : ℕ) → l ≤ width → filled bs at l width ≡ zeros (drop l (take width (drop at bs)))
filled_narrow bs at l width h = rw (le-leb l width h) (ap zeros (ap (take (width - l)) (sym (drop-drop l at bs)) ∙ sym (drop_take l width (drop at bs) h)))

-- past the end there is no name
pub name_past : (bs : Bytes) (at : ℕ) → length bs ≤ at → name_fits bs at ≡ false
unfolding name_fits
name_past bs at h = rw (get_or-eq_default bs 0 h)

-- ---- what the calls of a function give together
pub name_of_lem : (bs rest : Bytes) {a b : Bool} → (length bs ≡ 0 → ⊥) → a ≡ starts_name (get_or bs 0 0) → rest ≡ drop 1 bs → b ≡ all in_name rest → (a && b && leb (length bs) name_width) ≡ stored_name bs
name_of_lem bs rest h a r b = ap₂ (λ (x y : Bool). x && y && leb (length bs) name_width) a (b ∙ ap (all in_name) r) ∙ sym (name_some bs h)

pub filled_of : (bs : Bytes) (at l width : ℕ) (rest field tail : Bytes) {b : Bool} → l ≤ width → rest ≡ drop at bs → field ≡ take width rest
    → tail ≡ drop l field → b ≡ zeros tail → b ≡ filled bs at l width
filled_of bs at l width rest field tail h r f t z = z ∙ ap zeros (t ∙ ap (drop l) (f ∙ ap (take width) r)) ∙ sym (filled_narrow bs at l width h)

pub name_fits_of : (bs : Bytes) (at l : ℕ) (rest part : Bytes) {a b : Bool} → l ≡ get_or bs at 0 → rest ≡ drop (at + 1) bs → part ≡ take l rest
    → a ≡ stored_name part → b ≡ filled bs (at + 1) l name_width → (a && b) ≡ name_fits bs at
unfolding name_fits
name_fits_of bs at l rest part e r p a b =
    ap₂ (λ (x y : Bool). x && y) (a ∙ ap stored_name (p ∙ ap (take l) r)) b
    ∙ ap₂ (λ (k n : ℕ). stored_name (used bs k n) && filled bs k n name_width) (add-one at) e

pub value_fits_of : (w : ℕ) (bs : Bytes) (at l : ℕ) (rest part : Bytes) {a b : Bool} → rest ≡ drop at bs → part ≡ take l rest → a ≡ is_value w part
    → b ≡ filled bs at l w → (a && b) ≡ value_fits w bs at l
unfolding value_fits
value_fits_of w bs at l rest part r p a b = ap₂ (λ (x y : Bool). x && y) (a ∙ ap (is_value w) (p ∙ ap (take l) r)) b

pub definition_of_lem : (bs : Bytes) (kind particles : ℕ) {a : Bool} → kind ≡ (read_definition bs).kind → particles ≡ (read_definition bs).particles → a ≡ name_fits bs definition_name_at
    → (a && (leb kind 2 && (eqb kind 2 || eqb particles 0))) ≡ definition_fits bs
unfolding definition_fits
definition_of_lem bs kind particles k p a = λ i. a i && (leb (k i) 2 && (eqb (k i) 2 || eqb (p i) 0))

pub attribute_of_lem : (w n : ℕ) (bs : Bytes) (owner sort l : ℕ) (value : Bytes) (read : AttributeSort) {a b c : Bool}
    → owner ≡ (read_attribute bs).owner → sort ≡ (read_attribute bs).sort → l ≡ attribute_length bs → value ≡ (read_attribute bs).value → read ≡ sort_of sort
    → a ≡ name_fits bs attribute_name_at → b ≡ value_fits w bs attribute_value_at l → c ≡ is_fill read value → (ltb owner n && (a && (leb sort 2 && (b && c)))) ≡ attribute_fits w n bs
unfolding attribute_fits
attribute_of_lem w n bs owner sort l value read o s u v r a b c =
    (λ i. ltb owner n && (a i && (leb sort 2 && (b i && (c ∙ ap (λ (k : AttributeSort). is_fill k value) r) i))))
    ∙ (λ i. ltb (o i) n && (name_fits bs attribute_name_at && (leb (s i) 2 && (value_fits w bs attribute_value_at (u i) && is_fill (sort_of (s i)) (v i)))))

-- ---- a row's tests, in the code's order: by its sort, its value's length and its index; whether its value fits, and
-- its unused bytes do
abbrev row_tests : ℕ → ℕ → ℕ → Bool → Bool → Bool
row_tests s l i v u = (leb 1 s && leb s 3) && (v && ((not (eqb s 1) || eqb l 0) && ((not (eqb s 3) || eqb i 0) && u)))

-- an attribute's, or a text's with index 0
abbrev pub bears_value : ℕ → ℕ → Bool
bears_value s i = eqb s 2 || (eqb s 3 && eqb i 0)

last_false : (a b c d : Bool) → false ≡ (a && (b && (c && (d && false))))
last_false true true true true = refl
last_false true true true false = refl
last_false true true false d = refl
last_false true false c d = refl
last_false false b c d = refl

element_long : (l i : ℕ) (v u : Bool) → (l ≡ 0 → ⊥) → false ≡ row_tests 1 l i v u
element_long zero i v u h = absurd (h refl)
element_long (suc l) i true u h = rw (eqb-suc-zero l)
element_long (suc l) i false u h = refl

element_none : (i : ℕ) (v : Bool) → v ≡ row_tests 1 0 i v true
element_none i true = refl
element_none i false = refl

bears_none : (s l i : ℕ) (v u : Bool) → (s ≡ 1 → ⊥) → bears_value s i ≡ false → false ≡ row_tests s l i v u
bears_none zero l i v u h e = refl
bears_none (suc zero) l i v u h e = absurd (h refl)
bears_none (suc (suc zero)) l i v u h e = absurd (false≢true (sym e))
bears_none (suc (suc (suc zero))) l i true u h e = rw e
bears_none (suc (suc (suc zero))) l i false u h e = refl
bears_none (suc (suc (suc (suc s)))) l i v u h e = rw (le-leb 1 (suc (suc (suc (suc s)))) (omega arith), lt-leb (suc (suc (suc (suc s)))) 3 (omega arith))

bears_some : (s l i : ℕ) (v : Bool) → (s ≡ 1 → ⊥) → bears_value s i ≡ true → v ≡ row_tests s l i v true
bears_some zero l i v h e = absurd (false≢true e)
bears_some (suc zero) l i v h e = absurd (h refl)
bears_some (suc (suc zero)) l i true h e = refl
bears_some (suc (suc zero)) l i false h e = refl
bears_some (suc (suc (suc zero))) l i true h e = rw e
bears_some (suc (suc (suc zero))) l i false h e = refl
bears_some (suc (suc (suc (suc s)))) l i v h e =
    let two : eqb (suc (suc (suc (suc s)))) 2 ≡ false = ne_eqb (suc (suc (suc (suc s)))) 2 (λ q. omega arith) in
    let three : eqb (suc (suc (suc (suc s)))) 3 ≡ false = ne_eqb (suc (suc (suc (suc s)))) 3 (λ q. omega arith) in
    absurd (false≢true (ap₂ (λ (x y : Bool). x || (y && eqb i 0)) (sym two) (sym three) ∙ e))

module _ (w : ℕ) (bs : Bytes) {u : Bool} (unused : u ≡ unused_fit w bs) where
  pub row_used : u ≡ false → false ≡ row_fits w bs
  unfolding row_fits
  row_used e =
      last_false (leb 1 (read_row bs).row.sort && leb (read_row bs).row.sort 3) (value_fits w bs row_value_at (row_length bs)) (not (eqb (read_row bs).row.sort 1) || eqb (row_length bs) 0)
      (not (eqb (read_row bs).row.sort 3) || eqb (read_row bs).row.index 0)
      ∙ ap (λ (z : Bool). row_tests (read_row bs).row.sort (row_length bs) (read_row bs).row.index (value_fits w bs row_value_at (row_length bs)) z) (sym e ∙ unused)

  module _ (sort l : ℕ) (sorted : sort ≡ (read_row bs).row.sort) (sized : l ≡ row_length bs) where
    tested : (index : ℕ) → index ≡ (read_row bs).row.index → row_tests sort l index (value_fits w bs row_value_at l) u ≡ row_fits w bs
    unfolding row_fits
    tested index e = λ i. row_tests (sorted i) (sized i) (e i) (value_fits w bs row_value_at (sized i)) (unused i)

    -- an element has no value
    pub row_valued : sort ≡ 1 → (l ≡ 0 → ⊥) → false ≡ row_fits w bs
    row_valued e h =
        element_long l (read_row bs).row.index (value_fits w bs row_value_at l) u h
        ∙ ap (λ (s : ℕ). row_tests s l (read_row bs).row.index (value_fits w bs row_value_at l) u) (sym e)
        ∙ tested _ refl

    pub row_bare : u ≡ true → sort ≡ 1 → l ≡ 0 → {b : Bool} → b ≡ filled bs row_value_at 0 w → b ≡ row_fits w bs
    unfolding value_fits
    row_bare q e z f =
        f
        ∙ ap (λ (x : Bool). (x && true) && filled bs row_value_at 0 w) (sym (le-leb 0 w (omega arith)))
        ∙ element_none (read_row bs).row.index (value_fits w bs row_value_at 0)
        ∙ (λ i. row_tests (sym e i) (sym z i) (read_row bs).row.index (value_fits w bs row_value_at (sym z i)) (sym q i))
        ∙ tested _ refl

    module _ (index : ℕ) (indexed : index ≡ (read_row bs).row.index) (other : sort ≡ 1 → ⊥) where
      pub row_neither : bears_value sort index ≡ false → false ≡ row_fits w bs
      row_neither e = bears_none sort l index (value_fits w bs row_value_at l) u other e ∙ tested index indexed

      module _ (q : u ≡ true) (e : bears_value sort index ≡ true) (rest part : Bytes) {a : Bool} (r : rest ≡ drop row_value_at bs) (p : part ≡ take l rest) (v : a ≡ is_value w part) where
        valued : (b : Bool) → b ≡ filled bs row_value_at l w → (a && b) ≡ row_fits w bs
        valued b f =
            value_fits_of w bs row_value_at l rest part r p v f
            ∙ bears_some sort l index (value_fits w bs row_value_at l) other e
            ∙ ap (row_tests sort l index (value_fits w bs row_value_at l)) (sym q)
            ∙ tested index indexed

        pub row_no_value : a ≡ false → false ≡ row_fits w bs
        row_no_value n = ap (λ (x : Bool). x && filled bs row_value_at l w) (sym n) ∙ valued _ refl

        pub row_value : a ≡ true → {b : Bool} → b ≡ filled bs row_value_at l w → b ≡ row_fits w bs
        row_value y {b} f = ap (λ (x : Bool). x && b) (sym y) ∙ valued b f

pub counts_of : (bs : Bytes) (d p a r : ℕ) → d ≡ definition_count bs → p ≡ particle_count bs → a ≡ attribute_count bs → r ≡ row_count bs
    → (leb d 64 && (leb p 256 && (leb a 64 && leb r 4096))) ≡ counts_fit bs
unfolding counts_fit
counts_of bs d p a r e f g h = λ i. leb (e i) 64 && (leb (f i) 256 && (leb (g i) 64 && leb (h i) 4096))

module _ (w : ℕ) (bs : Bytes) (d p a : ℕ) (e : d ≡ definition_count bs) (f : p ≡ particle_count bs) (g : a ≡ attribute_count bs) where
  -- the places are those that the counts give, and the offsets are tested against them
  pub offsets_of : {h x y z : ℕ} → Place header_size h → Place (header_size + definition_size * d) x → Place (header_size + definition_size * d + particle_size * p) y
      → Place (header_size + definition_size * d + particle_size * p + attribute_size w * a) z
      → (k l m n : ℕ) → k ≡ number_at definition_entry_at 4 bs → l ≡ number_at particle_entry_at 4 bs → m ≡ number_at attribute_entry_at 4 bs → n ≡ number_at row_entry_at 4 bs
      → (eqb k h && (eqb l x && (eqb m y && eqb n z))) ≡ offsets_fit w bs
  unfolding offsets_fit
  offsets_of q r s t k l m n u v x y =
      (λ i. eqb (u i) (q.value i) && (eqb (v i) (r.value i) && (eqb (x i) (s.value i) && eqb (y i) (t.value i))))
      ∙ (λ i.
      eqb (number_at definition_entry_at 4 bs) header_size
      && (eqb (number_at particle_entry_at 4 bs) (header_size + definition_size * e i)
      && (eqb (number_at attribute_entry_at 4 bs) (header_size + definition_size * e i + particle_size * f i)
      && eqb (number_at row_entry_at 4 bs) (header_size + definition_size * e i + particle_size * f i + attribute_size w * g i))))

  pub sized_of : (r n : ℕ) → r ≡ row_count bs → n ≡ header_size + (definition_size * d + (particle_size * p + (attribute_size w * a + row_size w * r))) → eqb (length bs) n ≡ sized w bs
  sized_of r n h q = ap (eqb (length bs)) q ∙ (λ i. eqb (length bs) (header_size + (definition_size * e i + (particle_size * f i + (attribute_size w * g i + row_size w * h i)))))

pub header_of : (w : ℕ) (bs : Bytes) (h version next : ℕ) {c o s : Bool} → h ≡ header_size → version ≡ number_at version_at 4 bs → next ≡ number_at next_at 4 bs
    → c ≡ counts_fit bs → o ≡ offsets_fit w bs → s ≡ sized w bs
    → (leb h (length bs) && (known_version version && (c && (o && (s && leb 1 next))))) ≡ header_fits w bs
unfolding header_fits
header_of w bs h version next q v n c o s = λ i. leb (q i) (length bs) && (known_version (v i) && (c i && (o i && (s i && leb 1 (n i)))))

-- ---- what a loop over records has left: `left` records of `rest`
drop_least : (n : ℕ) (bs : Bytes) → drop (min n (length bs)) bs ≡ drop n bs
drop_least n bs = by (leb n (length bs)) refl
  where
    by : (t : Bool) → leb n (length bs) ≡ t → drop (min n (length bs)) bs ≡ drop n bs
    by true q = ap (λ (k : ℕ). drop k bs) (min-eq_left (leb-true n (length bs) q))
    by false q =
        let h : length bs ≤ n = omega (arith, leb-false n (length bs) q) in
        let g : length bs ≤ min n (length bs) = omega (arith, min-eq_right h) in
        drop_of_length-le bs g ∙ sym (drop_of_length-le bs h)

-- what a loop over records has left: `count` of them, less the i that have passed
module _ (p : Bytes → Bool) (size count : ℕ) where
  pub each_start : (bs : Bytes) → each_fits p size count bs ≡ each_fits p size (count - 0) bs
  each_start bs = let e : count ≡ count - 0 = omega arith in ap (λ (n : ℕ). each_fits p size n bs) e

  module _ (i : ℕ) (rest : Bytes) where
    pub each_next : i < count → each_fits p size (count - i) rest ≡ (p (take size rest) && each_fits p size (count - (i + 1)) (drop size rest))
    unfolding each_fits
    each_next h = let e : count - i ≡ suc (count - (i + 1)) = omega arith in ap (λ (n : ℕ). each_fits p size n rest) e

    pub each_end : count ≤ i → each_fits p size (count - i) rest ≡ true
    unfolding each_fits
    each_end h = let e : count - i ≡ zero = omega arith in ap (λ (n : ℕ). each_fits p size n rest) e
