-- The filling of particles and of definitions, one step on; and the rows that are written of it.
use Prim.Native.Nat.{ℕ, zero, suc, ◌+◌, ◌-◌, ◌*◌, ◌<◌, ◌≤◌}
use native.Mathlib.Omega.{arith}
use native.Mathlib.Numerals.{add-one}
use borrow.Author.Tests.{ltb-true, ltb-false}
use mathlib.Core.Path.{◌≡◌, refl, sym, ap, ap₂, subst, ◌∙◌}
use mathlib.Core.Bool.{Bool, true, false, ◌&&◌, ◌||◌, false≢true}
use mathlib.Core.List.{List, [], ◌∷◌, ◌++◌, append_assoc, append-nil}
use lib.Dec.{eqb, ltb}
use lib.ListN.{length, take, drop, get_or, length-take, length-drop}
use Rattle.std.specs.Prelude.{Option, None, Some, is_some, unwrap_or}
use Rattle.rules.specs.Codes.{read_group}
use Rattle.rules.specs.declared.GroupKind.{GroupKind}
use Rattle.rules.specs.contracts.GroupKind.{the_type}
use denote.Enum.Bare.{sameb}
use Rattle.rules.specs.declared.GroupKind.TheVariants.{Sequence, Choice}
use Rattle.rules.specs.declared.Quantifier.{Quantifier}
use Rattle.rules.specs.declared.AttributeSort.{AttributeSort}
use Rattle.rules.specs.Bytes.{Bytes}
use Rattle.rules.specs.Model.{Members, done, el, group, skips, both, neutral, nothing, unless, beside, filling}
use Rattle.rules.specs.Preorder.{Deep}
use Rattle.rules.specs.Layout.{attribute_size, FlatRow}
use Rattle.rules.specs.Decode.{quantifier_of, group_of, read_particle, read_attribute, sort_of}
use Rattle.rules.specs.Conforming.{must_be_present}
use Rattle.rules.specs.Filling.{created_value}
use Rattle.codec.proofs.Writers.{tail_seen}
use Rattle.model.specs.declared.What.{What}
use Rattle.model.specs.declared.What.TheVariants.{Element, Group}
use Rattle.model.specs.declared.Particle.{Particle}
use Rattle.model.specs.Particle.{what_of, particle_of}
use Rattle.model.specs.Members.{index_member, members_from, all_members}
use Rattle.model.proofs.MembersLaws.{members_few, members_deeper, members_stop, members_here}
use Rattle.form_index.specs.Indices.{IndexForm}
use Rattle.layout.specs.Bodies.{record_at}
use Rattle.layout.proofs.LayoutLaws.{attribute_value_short}
use Rattle.form_index.specs.Reading.{definition_in, attribute_in, particles_before, model_part}
use Rattle.row_writer.specs.declared.Cursor.{Cursor}
use Rattle.row_writer.specs.Written.{Written, Room, new_row}
use Rattle.row_writer.proofs.WrittenLaws.{written_none, written_then, written_as, written_room, written_long}
use Rattle.filling.proofs.NeededLaws.{unless_none}
use Rattle.filling.specs.declared.Filling.{Filling}
use Rattle.filling.specs.declared.Filling.TheVariants.{Nothing, Definition, Attribute, Particles}
use Rattle.filling.specs.Fillings.{new_element, new_attribute_row, required_rows, fillings_of, content_rows, fill_index, group_filled}
use Rattle.filling.specs.Parts.{left_out, passed, settled, sort_nothing, member_nothing, what_filling, member_filling, value_in, required_at, required_in}
use Rattle.filling.specs.Parts.{index_form_in, values_in, definition_rows, member_rows, below_rows, members_read_at, fill_with, Indexed}
use Rattle.layout.specs.declared.Form.{Form}
use Rattle.layout.specs.Fields.{particle_depth_at, particle_index_at, particle_quantifier_at, particle_sort_at}
use Rattle.rules.specs.Layout.{particle_size}

-- ---- the kind of a particle that is a group, by the code of its sort
pub no_kind : (sort : ℕ) → None ≡ read_group sort → sort ≡ 0
no_kind zero e = refl
no_kind (suc k) e = absurd (false≢true (ap is_some e))

pub kind_there : (sort : ℕ) (k : GroupKind) → Some k ≡ read_group sort → (sort ≡ 0 → ⊥) × (k ≡ group_of sort)
kind_there zero k e = absurd (false≢true (sym (ap is_some e)))
kind_there (suc n) k e = (λ z. omega arith, ap (λ (o : Option GroupKind). unwrap_or o k) e)

-- ---- readers
-- a created value is no longer than the fill
created_short : (sort : AttributeSort) (fill : Bytes) → length (created_value sort fill) ≤ length fill
created_short sort fill = omega arith

-- b: the record of attribute j, k: the code of its sort, q: its sort, u: its fill
pub created_told : (w : ℕ) (attrs : Bytes) (j : ℕ) (b : Bytes) (k : ℕ) (q : AttributeSort) (u v : Bytes) → b ≡ record_at (attribute_size w) j attrs
    → k ≡ (read_attribute b).sort → q ≡ sort_of k → u ≡ (read_attribute b).value → v ≡ created_value q u → (v ≡ value_in w attrs j) × (length v ≤ w)
created_told w attrs j b k q u v e s r t x =
    let long : length b ≤ attribute_size w = omega (arith, ap length e, length-take (attribute_size w) (drop (attribute_size w * j) attrs)) in (
      x ∙ ap (λ (y : AttributeSort). created_value y u) r
          ∙ ap₂ (λ (y : ℕ) (z : Bytes). created_value (sort_of y) z) (s ∙ ap (λ (z : Bytes). (read_attribute z).sort) e) (t ∙ ap (λ (z : Bytes). (read_attribute z).value) e),
      omega (arith, ap length x, created_short q u, ap length t, attribute_value_short b w long),
    )

-- ---- a new row of sort m, written with the code k that the sort is converted to
pub sort_written : {w k m d j : ℕ} {v : Bytes} {c r : Cursor} {out out' : Bytes} → k ≡ m → Written w (new_row k d j v ∷ []) c out r out' → Written w (new_row m d j v ∷ []) c out r out'
sort_written {d = d} {j = j} {v = v} e p = written_as (ap (λ (s : ℕ). new_row s d j v ∷ []) (sym e)) p

-- ---- attributes
module _ (F : IndexForm) (value : ℕ → Bytes) (d i : ℕ) where
  required_last : (j n : ℕ) → required_rows F value d i j (suc n) ≡ required_rows F value d i j n ++ required_rows F value d i (j + n) 1
  unfolding required_rows
  required_last j zero = let e : j + 0 ≡ j = omega arith in rw e
  required_last j (suc n) =
      let e : suc j + n ≡ j + suc n = omega arith in
      by (eqb (F.owner j) i && F.needed j) (required_last (suc j) n ∙ ap (λ (k : ℕ). required_rows F value d i (suc j) n ++ required_rows F value d i k 1) e)
    where
      L : List (Deep FlatRow)
      L = required_rows F value d i (suc j) (suc n)

      M : List (Deep FlatRow)
      M = required_rows F value d i (suc j) n

      R : List (Deep FlatRow)
      R = required_rows F value d i (j + suc n) 1

      by : (b : Bool) → L ≡ M ++ R
          → elim b as (λ z. List (Deep FlatRow)) [ true ↦ new_attribute_row d j (value j) ∷ L | false ↦ L ]
          ≡ (elim b as (λ z. List (Deep FlatRow)) [ true ↦ new_attribute_row d j (value j) ∷ M | false ↦ M ]) ++ R
      by true e = ap (λ (z : List (Deep FlatRow)). new_attribute_row d j (value j) ∷ z) e
      by false e = e

module _ (F : Form) (d i : ℕ) where
  abbrev row_if : Bool → Deep FlatRow → List (Deep FlatRow)
  row_if true x = x ∷ []
  row_if false x = []

  required_at_lem : (j : ℕ) {b : Bool} → b ≡ (eqb (attribute_in F.width F.attributes.now j).owner i && must_be_present F.version (sort_of (attribute_in F.width F.attributes.now j).sort))
      → required_at F d i j ≡ row_if b (new_attribute_row d j (values_in F j))
  unfolding required_at required_rows
  required_at_lem j {b} e =
      by (eqb (attribute_in F.width F.attributes.now j).owner i && must_be_present F.version (sort_of (attribute_in F.width F.attributes.now j).sort))
      ∙ ap (λ (z : Bool). row_if z (new_attribute_row d j (values_in F j))) (sym e)
    where
      by : (c : Bool) → elim c as (λ z. List (Deep FlatRow)) [ true ↦ new_attribute_row d j (values_in F j) ∷ [] | false ↦ [] ] ≡ row_if c (new_attribute_row d j (values_in F j))
      by true = refl
      by false = refl

  pub spare_written : (j : ℕ) {b : Bool} {c : Cursor} {out : Bytes}
      → b ≡ (eqb (attribute_in F.width F.attributes.now j).owner i && must_be_present F.version (sort_of (attribute_in F.width F.attributes.now j).sort)) → b ≡ false
      → Written F.width (required_at F d i j) c out c out
  spare_written j e f = written_as (required_at_lem j e ∙ ap (λ (z : Bool). row_if z (new_attribute_row d j (values_in F j))) f) written_none

  -- the code of a sort, as its conversion gives it
  pub needed_written : (j : ℕ) {b : Bool} {v : Bytes} {c r : Cursor} {out out' : Bytes}
      → b ≡ (eqb (attribute_in F.width F.attributes.now j).owner i && must_be_present F.version (sort_of (attribute_in F.width F.attributes.now j).sort)) → b ≡ true → v ≡ values_in F j
      → Written F.width (new_row 2 d j v ∷ []) c out r out'
      → Written F.width (required_at F d i j) c out r out'
  needed_written j e t m p = written_as (required_at_lem j e ∙ ap (λ (z : Bool). row_if z (new_attribute_row d j (values_in F j))) t ∙ ap (λ (z : Bytes). new_attribute_row d j z ∷ []) (sym m)) p

  pub required_none : {c : Cursor} {out : Bytes} → Written F.width (required_in F d i 0) c out c out
  unfolding required_in required_rows
  required_none = written_none

  pub required_on : (j : ℕ) {c r r' : Cursor} {out out' out'' : Bytes} → Written F.width (required_in F d i j) c out r out'
      → Written F.width (required_at F d i j) r out' r' out'' → Written F.width (required_in F d i (j + 1)) c out r' out''
  unfolding required_in required_at
  required_on j p q =
      let e : 0 + j ≡ j = omega arith in
      rw (add-one j) (written_as (required_last (index_form_in F) (values_in F) d i 0 j) (written_then p (rw e q)))

-- ---- the members of depth d that s begins with
module _ (d : ℕ) (k : GroupKind) (s : Bytes) where
  pub group_few : length s < particle_size → filling k (members_from d s) ≡ []
  unfolding filling
  group_few h = rw (members_few d s h)

  module _ (own : ℕ) (h : particle_size ≤ length s) (g : own ≡ get_or s particle_depth_at 0) where
    pub group_deeper : d < own → filling k (members_from d s) ≡ filling k (members_from d (take (length s - particle_size) (drop particle_size s)))
    group_deeper l = rw (tail_seen s particle_size, members_deeper d s h (omega arith))

    pub group_stop : own < d → filling k (members_from d s) ≡ []
    unfolding filling
    group_stop l = rw (members_stop d s h (omega arith))

    pub group_here_lem : own ≤ d → d ≤ own → filling k (members_from d s) ≡ beside k (member_filling d s) (filling k (members_from d (take (length s - particle_size) (drop particle_size s))))
    unfolding filling member_filling particle_of
    group_here_lem l m = rw (tail_seen s particle_size, members_here d s h (omega arith)) (by (get_or s particle_sort_at 0))
      where
        by : (sort : ℕ)
            → filling k (index_member (read_particle s).row sort (members_from (suc d) (drop particle_size s)) (members_from d (drop particle_size s)))
            ≡ beside k
            (what_filling (particle_of (read_particle s)).quantifier (what_of sort (get_or s particle_index_at 0)) (members_from (suc d) (drop particle_size s)))
            (filling k (members_from d (drop particle_size s)))
        by zero = refl
        by (suc n) = refl

    left_out_lem : own ≤ d → d ≤ own → left_out k (quantifier_of (get_or s particle_quantifier_at 0)) ≡ true
        → filling k (members_from d s) ≡ filling k (members_from d (take (length s - particle_size) (drop particle_size s)))
    unfolding member_filling particle_of
    left_out_lem l m z = group_here_lem l m ∙ by k (what_of (get_or s particle_sort_at 0) (get_or s particle_index_at 0)) z
      where
        rest : List ℕ
        rest = filling k (members_from d (take (length s - particle_size) (drop particle_size s)))

        by : (j : GroupKind) (x : What) → left_out j (quantifier_of (get_or s particle_quantifier_at 0)) ≡ true
            → beside j (what_filling (quantifier_of (get_or s particle_quantifier_at 0)) x (members_from (suc d) (drop particle_size s))) rest ≡ rest
        by Sequence (Element i) z = rw z
        by Sequence (Group g n) z = rw z
        by Choice x z = absurd (false≢true z)

    -- the particle that s begins with is one that the group goes past
    pub group_past : d ≤ own → passed d k own (quantifier_of (get_or s particle_quantifier_at 0)) ≡ true
        → filling k (members_from d s) ≡ filling k (members_from d (take (length s - particle_size) (drop particle_size s)))
    group_past m z = by (ltb d own) refl z
      where
        by : (b : Bool) → ltb d own ≡ b → (b || left_out k (quantifier_of (get_or s particle_quantifier_at 0))) ≡ true
            → filling k (members_from d s) ≡ filling k (members_from d (take (length s - particle_size) (drop particle_size s)))
        by true q z = group_deeper (ltb-true d own q)
        by false q z = left_out_lem (ltb-false d own q) m z

not_passed : (d : ℕ) (k : GroupKind) (own : ℕ) (q : Quantifier) → passed d k own q ≡ false → own ≤ d
not_passed d k own q z = by (ltb d own) refl z
  where
    by : (b : Bool) → ltb d own ≡ b → (b || left_out k q) ≡ false → own ≤ d
    by true e z = absurd (false≢true (sym z))
    by false e z = ltb-false d own e

-- ---- whether they accept nothing
-- a member that settles it, and one that does not
settled_by : (k : GroupKind) (b x : Bool) → settled k b ≡ true → b ≡ both k b x
settled_by Sequence true x z = absurd (false≢true z)
settled_by Sequence false x z = refl
settled_by Choice true x z = refl
settled_by Choice false x z = absurd (false≢true z)

settled_later : (k : GroupKind) (b x : Bool) → settled k b ≡ false → both k b x ≡ x
settled_later Sequence true x z = refl
settled_later Sequence false x z = absurd (false≢true (sym z))
settled_later Choice true x z = absurd (false≢true (sym z))
settled_later Choice false x z = refl

module _ (d : ℕ) (k : GroupKind) (s : Bytes) (own : ℕ) (h : particle_size ≤ length s) (g : own ≡ get_or s particle_depth_at 0) where
  nothing_here : own ≤ d → d ≤ own → nothing k (members_from d s) ≡ both k (member_nothing d s) (nothing k (members_from d (take (length s - particle_size) (drop particle_size s))))
  unfolding nothing member_nothing
  nothing_here l m = rw (tail_seen s particle_size, members_here d s h (omega arith)) (by (get_or s particle_sort_at 0))
    where
      by : (sort : ℕ)
          → nothing k (index_member (read_particle s).row sort (members_from (suc d) (drop particle_size s)) (members_from d (drop particle_size s)))
          ≡ both k (sort_nothing (quantifier_of (get_or s particle_quantifier_at 0)) sort (members_from (suc d) (drop particle_size s))) (nothing k (members_from d (drop particle_size s)))
      by zero = refl
      by (suc n) = refl

  nothing_left_out : own ≤ d → d ≤ own → left_out k (quantifier_of (get_or s particle_quantifier_at 0)) ≡ true
      → nothing k (members_from d s) ≡ nothing k (members_from d (take (length s - particle_size) (drop particle_size s)))
  unfolding member_nothing
  nothing_left_out l m z = nothing_here l m ∙ by k (get_or s particle_sort_at 0) z
    where
      rest : Bool
      rest = nothing k (members_from d (take (length s - particle_size) (drop particle_size s)))

      by : (j : GroupKind) (sort : ℕ) → left_out j (quantifier_of (get_or s particle_quantifier_at 0)) ≡ true
          → both j (sort_nothing (quantifier_of (get_or s particle_quantifier_at 0)) sort (members_from (suc d) (drop particle_size s))) rest ≡ rest
      by Sequence zero z = rw z
      by Sequence (suc n) z = rw z
      by Choice sort z = absurd (false≢true z)

  nothing_past : d ≤ own → passed d k own (quantifier_of (get_or s particle_quantifier_at 0)) ≡ true
      → nothing k (members_from d s) ≡ nothing k (members_from d (take (length s - particle_size) (drop particle_size s)))
  nothing_past m z = by (ltb d own) refl z
    where
      deeper : d < own → nothing k (members_from d s) ≡ nothing k (members_from d (take (length s - particle_size) (drop particle_size s)))
      deeper l = rw (tail_seen s particle_size, members_deeper d s h (omega arith))

      by : (b : Bool) → ltb d own ≡ b → (b || left_out k (quantifier_of (get_or s particle_quantifier_at 0))) ≡ true
          → nothing k (members_from d s) ≡ nothing k (members_from d (take (length s - particle_size) (drop particle_size s)))
      by true q z = deeper (ltb-true d own q)
      by false q z = nothing_left_out (ltb-false d own q) m z

-- the members from t on accept nothing if and only if those from s on do
pub record Unsettled (k : GroupKind) (d : ℕ) (s t : Bytes) : Type 0 where
  pub same : nothing k (members_from d s) ≡ nothing k (members_from d t)
  pub short : length t ≤ length s

pub unsettled_starts : (k : GroupKind) (d : ℕ) (s : Bytes) → Unsettled k d s s
unsettled_starts k d s = record { same = refl; short = omega arith }

module _ {k : GroupKind} {d : ℕ} {s t : Bytes} (i : Unsettled k d s t) where
  -- there is no particle more
  pub unsettled_ends : {b : Bool} → length t < particle_size → b ≡ neutral k → b ≡ nothing k (members_from d s)
  unfolding nothing
  unsettled_ends l e = e ∙ sym (ap (λ (ms : Members ℕ). nothing k ms) (members_few d t l)) ∙ sym i.same

  module _ (l : particle_size ≤ length t) (own : ℕ) (g : own ≡ get_or t particle_depth_at 0) where
    unsettled_next : length (take (length t - particle_size) (drop particle_size t)) ≤ length s
    unsettled_next = omega (arith, i.short, length-take (length t - particle_size) (drop particle_size t), length-drop particle_size t)

    -- the particle that t begins with stands outside the group
    pub unsettled_over : {b : Bool} → own < d → b ≡ neutral k → b ≡ nothing k (members_from d s)
    unfolding nothing
    unsettled_over m e = e ∙ sym (ap (λ (ms : Members ℕ). nothing k ms) (members_stop d t l (omega arith))) ∙ sym i.same

    -- u: the group goes past it
    module _ (m : d ≤ own) (u : Bool) (o : u ≡ passed d k own (quantifier_of (get_or t particle_quantifier_at 0))) where
      pub unsettled_past : u ≡ true → Unsettled k d s (take (length t - particle_size) (drop particle_size t))
      unsettled_past y = record { same = i.same ∙ nothing_past d k t own l g m (sym o ∙ y); short = unsettled_next }

      pub unsettled_here : u ≡ false → own ≤ d
      unsettled_here n = not_passed d k own (quantifier_of (get_or t particle_quantifier_at 0)) (sym o ∙ n)

      -- b: it is a member, and accepts nothing; z: it settles the group
      module _ (n : u ≡ false) (b : Bool) (e : b ≡ member_nothing d t) (z : Bool) (f : z ≡ settled k b) where
        told_here : nothing k (members_from d t) ≡ both k b (nothing k (members_from d (take (length t - particle_size) (drop particle_size t))))
        told_here = nothing_here d k t own l g (unsettled_here n) m ∙ ap (λ (y : Bool). both k y (nothing k (members_from d (take (length t - particle_size) (drop particle_size t))))) (sym e)

        pub unsettled_by : z ≡ true → b ≡ nothing k (members_from d s)
        unsettled_by q = settled_by k b (nothing k (members_from d (take (length t - particle_size) (drop particle_size t)))) (sym f ∙ q) ∙ sym told_here ∙ sym i.same

        pub unsettled_on : z ≡ false → Unsettled k d s (take (length t - particle_size) (drop particle_size t))
        unsettled_on q =
            record {
              same = i.same ∙ told_here ∙ settled_later k b (nothing k (members_from d (take (length t - particle_size) (drop particle_size t)))) (sym f ∙ q);
              short = unsettled_next;
            }

-- the particle of depth d that s begins with; b: its quantifier lets it be absent, sort: its sort
module _ (d : ℕ) (s : Bytes) (b : Bool) (e : b ≡ skips (quantifier_of (get_or s particle_quantifier_at 0))) where
  pub absent_skips : b ≡ true → true ≡ member_nothing d s
  unfolding member_nothing
  absent_skips q = let z : skips (quantifier_of (get_or s particle_quantifier_at 0)) ≡ true = sym e ∙ q in by (get_or s particle_sort_at 0) z
    where
      by : (sort : ℕ) → skips (quantifier_of (get_or s particle_quantifier_at 0)) ≡ true → true ≡ sort_nothing (quantifier_of (get_or s particle_quantifier_at 0)) sort (members_from (suc d) (drop particle_size s))
      by zero z = sym z
      by (suc n) z = rw z

  module _ (q : b ≡ false) (sort : ℕ) (t : sort ≡ get_or s particle_sort_at 0) where
    by_sort : member_nothing d s ≡ sort_nothing (quantifier_of (get_or s particle_quantifier_at 0)) sort (members_from (suc d) (drop particle_size s))
    unfolding member_nothing
    by_sort = ap (λ (n : ℕ). sort_nothing (quantifier_of (get_or s particle_quantifier_at 0)) n (members_from (suc d) (drop particle_size s))) (sym t)

    pub absent_element : sort ≡ 0 → false ≡ member_nothing d s
    absent_element x = let z : skips (quantifier_of (get_or s particle_quantifier_at 0)) ≡ false = sym e ∙ q in sym (by_sort ∙ rw x z)

    module _ (u : Bool) where
      inside_told : (k : GroupKind) → u ≡ nothing k (members_from (d + 1) (take (length s - particle_size) (drop particle_size s)))
          → u ≡ (skips (quantifier_of (get_or s particle_quantifier_at 0)) || nothing k (members_from (suc d) (drop particle_size s)))
      inside_told k x = let z : skips (quantifier_of (get_or s particle_quantifier_at 0)) ≡ false = sym e ∙ q in
          rw z (x ∙ ap₂ (λ (n : ℕ) (y : Bytes). nothing k (members_from n y)) (add-one d) (tail_seen s particle_size))

      pub absent_group : (k : GroupKind) → (sort ≡ 0 → ⊥) → k ≡ group_of sort → u ≡ nothing k (members_from (d + 1) (take (length s - particle_size) (drop particle_size s))) → u ≡ member_nothing d s
      absent_group k x g p = by sort x g by_sort
        where
          by : (n : ℕ) → (n ≡ 0 → ⊥) → k ≡ group_of n
              → member_nothing d s ≡ sort_nothing (quantifier_of (get_or s particle_quantifier_at 0)) n (members_from (suc d) (drop particle_size s))
              → u ≡ member_nothing d s
          by zero x g r = absurd (x refl)
          by (suc n) x g r = inside_told (group_of (suc n)) (p ∙ ap (λ (z : GroupKind). nothing z (members_from (d + 1) (take (length s - particle_size) (drop particle_size s)))) g) ∙ sym r

-- ---- one particle, p, and its members
module _ (d : ℕ) (s : Bytes) (p : Particle) (e : p ≡ particle_of (read_particle s)) where
  told : member_filling d s ≡ what_filling p.quantifier p.what (members_from (suc d) (drop particle_size s))
  unfolding member_filling
  told = ap (λ (z : Particle). what_filling z.quantifier z.what (members_from (suc d) (drop particle_size s))) (sym e)

  module _ (b : Bool) (q : b ≡ skips p.quantifier) where
    pub member_skips : b ≡ true → member_filling d s ≡ []
    member_skips t = told ∙ by p.what
      where
        z : skips p.quantifier ≡ true
        z = sym q ∙ t

        by : (w : What) → what_filling p.quantifier w (members_from (suc d) (drop particle_size s)) ≡ []
        by (Element i) = rw z
        by (Group k n) = rw z

    module _ (f : b ≡ false) where
      pub member_element : (i : ℕ) → p.what ≡ Element i → member_filling d s ≡ i ∷ []
      member_element i w = let z : skips p.quantifier ≡ false = sym q ∙ f in told ∙ rw (w, z)

      module _ (k : GroupKind) (n : ℕ) (w : p.what ≡ Group k n) (t : Bytes) (et : t ≡ take (length s - particle_size) (drop particle_size s)) where
        at_tail : members_from (d + 1) t ≡ members_from (suc d) (drop particle_size s)
        at_tail = ap₂ (λ (x : ℕ) (y : Bytes). members_from x y) (add-one d) (et ∙ tail_seen s particle_size)

        inside : member_filling d s ≡ group_filled k (members_from (d + 1) t)
        unfolding group_filled
        inside =
            let z : skips p.quantifier ≡ false = sym q ∙ f in
            told ∙ rw (w, z, ← at_tail)

        -- its members fill with nothing
        pub member_empty : filling k (members_from (d + 1) t) ≡ [] → member_filling d s ≡ []
        unfolding group_filled
        member_empty h = inside ∙ unless_none (nothing k (members_from (d + 1) t)) (filling k (members_from (d + 1) t)) h

        -- u: it fills with nothing, whatever its members do
        module _ (u : Bool) (eu : group_filled k (members_from (d + 1) t) ≡ unless u (filling k (members_from (d + 1) t))) where
          pub member_nothing_lem : u ≡ true → member_filling d s ≡ []
          member_nothing_lem h = inside ∙ eu ∙ rw h

          pub member_group : u ≡ false → member_filling d s ≡ filling k (members_from (d + 1) t)
          member_group h = inside ∙ eu ∙ rw h

-- ---- definitions
module _ (F : Form) (txt : Bytes) where
  module _ (h d : ℕ) where
    definition_more : (i : ℕ)
        → definition_rows F txt (suc h) d i
        ≡ new_element d i ∷ (required_in F (suc d) i F.attribute_count ++ below_rows F txt h (suc d) i)
    unfolding definition_rows below_rows required_in fill_index
    definition_more i = refl

  module _ (h d : ℕ) where
    -- ---- a definition
    pub definition_low : (i : ℕ) {c : Cursor} {out : Bytes} → h ≡ 0 → Written F.width (definition_rows F txt h d i) c out c out
    unfolding definition_rows fill_index
    definition_low i e = rw e written_none

    pub definition_written : (i : ℕ) {c e r r' : Cursor} {out out₁ out₂ out' : Bytes} → (h ≡ 0 → ⊥) → Written F.width (new_row 1 d i [] ∷ []) c out e out₁
        → Written F.width (required_in F (d + 1) i F.attribute_count) e out₁ r out₂
        → Written F.width (below_rows F txt (h - 1) (d + 1) i) r out₂ r' out' → Written F.width (definition_rows F txt h d i) c out r' out'
    definition_written i {c} {e} {r} {r'} {out} {out₁} {out₂} {out'} n p q s = written_as (by h n) (written_then p (written_then q s))
      where
        by : (k : ℕ) → (k ≡ 0 → ⊥)
            → definition_rows F txt k d i
            ≡ new_element d i ∷ (required_in F (d + 1) i F.attribute_count ++ below_rows F txt (k - 1) (d + 1) i)
        by zero x = absurd (x refl)
        by (suc k) x =
            let m : suc k - 1 ≡ k = omega arith in
            rw (m, add-one d) (definition_more k d i)

    -- ---- what stands below an element of definition i, whose kind is k
    module _ (i k : ℕ) (e : k ≡ (definition_in F.definitions.now i).kind) where
      kind_told : below_rows F txt h d i
          ≡ content_rows (index_form_in F) (values_in F) (λ j. definition_rows F txt h d j) txt d
          (all_members (model_part F.definitions.now F.particles.now i)) k
      unfolding below_rows
      kind_told = ap
          (λ (z : ℕ). content_rows (index_form_in F) (values_in F) (λ j. definition_rows F txt h d j) txt
          d (all_members (model_part F.definitions.now F.particles.now i)) z)
          (sym e)

      pub below_none : {c : Cursor} {out : Bytes} → k ≡ 0 → Written F.width (below_rows F txt h d i) c out c out
      unfolding content_rows
      below_none z = written_as (kind_told ∙ rw z) written_none

      pub below_text : {c r : Cursor} {out out' : Bytes} → k ≡ 1 → Written F.width (new_row 3 d 0 txt ∷ []) c out r out' → Written F.width (below_rows F txt h d i) c out r out'
      unfolding content_rows
      below_text z p = written_as (kind_told ∙ rw z) p

      pub below_group : (s : Bytes) {c r : Cursor} {out out' : Bytes} → (k ≡ 0 → ⊥) → (k ≡ 1 → ⊥) → s ≡ model_part F.definitions.now F.particles.now i
          → Written F.width (member_rows F txt h d (filling Sequence (members_from 0 s))) c out r out'
          → Written F.width (below_rows F txt h d i) c out r out'
      unfolding content_rows member_rows
      below_group s n m q p = written_as (kind_told ∙ by k n m ∙ ap (λ (z : Bytes). member_rows F txt h d (filling Sequence (members_from 0 z))) (sym q)) p
        where
          by : (k : ℕ) → (k ≡ 0 → ⊥) → (k ≡ 1 → ⊥)
              → content_rows (index_form_in F) (values_in F) (λ j. definition_rows F txt h d j) txt d (all_members (model_part F.definitions.now F.particles.now i)) k
              ≡ member_rows F txt h d (filling Sequence (members_from 0 (model_part F.definitions.now F.particles.now i)))
          by zero n m = absurd (n refl)
          by (suc zero) n m = absurd (m refl)
          by (suc (suc k)) n m = refl

      pub below_nothing : (s : Bytes) {c : Cursor} {out : Bytes} → (k ≡ 0 → ⊥) → (k ≡ 1 → ⊥) → s ≡ model_part F.definitions.now F.particles.now i → filling Sequence (members_from 0 s) ≡ []
          → Written F.width (below_rows F txt h d i) c out c out
      unfolding member_rows fillings_of
      below_nothing s n m q z =
          below_group s n m q (written_as (ap (λ (f : List ℕ). member_rows F txt h d f) z) written_none)

    -- ---- members; f: the definitions that they fill with
    members_more : (u v : List ℕ) → member_rows F txt h d (u ++ v) ≡ member_rows F txt h d u ++ member_rows F txt h d v
    unfolding member_rows fillings_of
    members_more [] v = refl
    members_more (i ∷ u) v =
        ap (λ (z : List (Deep FlatRow)). definition_rows F txt h d i ++ z) (members_more u v)
        ∙ sym (append_assoc (definition_rows F txt h d i) (member_rows F txt h d u) (member_rows F txt h d v))

    module _ (f : List ℕ) where
      pub none_written : {c : Cursor} {out : Bytes} → f ≡ [] → Written F.width (member_rows F txt h d f) c out c out
      unfolding member_rows fillings_of
      none_written e = rw e written_none

      pub one_written : (i : ℕ) {c r : Cursor} {out out' : Bytes} → f ≡ i ∷ [] → Written F.width (definition_rows F txt h d i) c out r out'
          → Written F.width (member_rows F txt h d f) c out r out'
      unfolding member_rows fillings_of
      one_written i e p = written_as (ap (λ (z : List ℕ). member_rows F txt h d z) e ∙ append-nil (definition_rows F txt h d i)) p

      pub same_written : (g : List ℕ) {c r : Cursor} {out out' : Bytes} → f ≡ g → Written F.width (member_rows F txt h d g) c out r out'
          → Written F.width (member_rows F txt h d f) c out r out'
      same_written g e p = written_as (ap (λ (z : List ℕ). member_rows F txt h d z) e) p

      -- of a group's first member, u, and of the others, v
      module _ (k : GroupKind) (u v : List ℕ) (e : f ≡ beside k u v) where
        pub list_written : {c r r' : Cursor} {out out' out'' : Bytes} → k ≡ Sequence → Written F.width (member_rows F txt h d u) c out r out'
            → Written F.width (member_rows F txt h d v) r out' r' out''
            → Written F.width (member_rows F txt h d f) c out r' out''
        list_written q p s = written_as (ap (λ (z : List ℕ). member_rows F txt h d z) (e ∙ ap (λ (z : GroupKind). beside z u v) q) ∙ members_more u v) (written_then p s)

        pub first_written : {c r : Cursor} {out out' : Bytes} → k ≡ Choice → Written F.width (member_rows F txt h d u) c out r out'
            → Written F.width (member_rows F txt h d f) c out r out'
        first_written q p = same_written u (e ∙ ap (λ (z : GroupKind). beside z u v) q) p

-- ---- the members of a group, one after the other
-- the members of depth e from t on are still to be written; once they are, all from s on are
pub record Rest (F : Form) (txt : Bytes) (h d : ℕ) (k : GroupKind) (e : ℕ) (s : Bytes) (c : Cursor) (out t : Bytes) (r : Cursor) (out' : Bytes) : Type 0 where
  pub rest : {r' : Cursor} {out'' : Bytes} → Written F.width (member_rows F txt h d (filling k (members_from e t))) r out' r' out''
      → Written F.width (member_rows F txt h d (filling k (members_from e s))) c out r' out''
  pub room : Room F.width r
  pub short : length t ≤ length s
  pub long : length out' ≡ length out

module _ {F : Form} {txt : Bytes} {h d : ℕ} {k : GroupKind} {e : ℕ} {s : Bytes} {c : Cursor} {out : Bytes} where
  pub rest_starts : Room F.width c → Rest F txt h d k e s c out s c out
  rest_starts m = record { rest = λ p. p; room = m; short = omega arith; long = refl }

  -- after the particle that t begins with, whose depth is own
  module _ {t : Bytes} {r : Cursor} {out' : Bytes} (i : Rest F txt h d k e s c out t r out') (l : particle_size ≤ length t) (own : ℕ)
      (g : own ≡ get_or t particle_depth_at 0) where
    next_short : length (take (length t - particle_size) (drop particle_size t)) ≤ length s
    next_short = omega (arith, i.short, length-take (length t - particle_size) (drop particle_size t), length-drop particle_size t)

    -- it is deeper, so it belongs to another member, or it is a member of a LIST that may be left out
    module _ (b : Bool) (o : b ≡ passed e k own (quantifier_of (get_or t particle_quantifier_at 0))) where
      pub rest_past : e ≤ own → b ≡ true → Rest F txt h d k e s c out (take (length t - particle_size) (drop particle_size t)) r out'
      rest_past m y =
          record {
            rest = λ p. i.rest (same_written F txt h d (filling k (members_from e t)) _ (group_past e k t own l g m (sym o ∙ y)) p);
            room = i.room;
            short = next_short;
            long = i.long;
          }

      pub rest_here : b ≡ false → own ≤ e
      rest_here z = not_passed e k own (quantifier_of (get_or t particle_quantifier_at 0)) (sym o ∙ z)

    module _ (m : own ≤ e) (n : e ≤ own) {r' : Cursor} {out'' : Bytes} (p : Written F.width (member_rows F txt h d (member_filling e t)) r out' r' out'') where
      -- it is a member of a LIST, and was written
      pub rest_on : k ≡ Sequence → Rest F txt h d k e s c out (take (length t - particle_size) (drop particle_size t)) r' out''
      rest_on q =
          record {
            rest = λ x. i.rest
                (list_written F txt h d (filling k (members_from e t)) k (member_filling e t)
                (filling k (members_from e (take (length t - particle_size) (drop particle_size t)))) (group_here_lem e k t own l g m n) q p x);
            room = written_room p i.room;
            short = next_short;
            long = written_long p ∙ i.long;
          }

      -- it is the first member of a CHOICE
      pub rest_first : k ≡ Choice → Written F.width (member_rows F txt h d (filling k (members_from e s))) c out r' out''
      rest_first q =
          i.rest
          (first_written F txt h d (filling k (members_from e t)) k (member_filling e t)
          (filling k (members_from e (take (length t - particle_size) (drop particle_size t)))) (group_here_lem e k t own l g m n) q p)

    -- it stands outside the group
    pub rest_over : own < e → Written F.width (member_rows F txt h d (filling k (members_from e s))) c out r out'
    rest_over m = i.rest (none_written F txt h d (filling k (members_from e t)) (group_stop e k t own l g m))

  -- there is no particle more
  pub rest_ends : {t : Bytes} {r : Cursor} {out' : Bytes} → Rest F txt h d k e s c out t r out' → length t < particle_size
      → Written F.width (member_rows F txt h d (filling k (members_from e s))) c out r out'
  rest_ends {t} i l = i.rest (none_written F txt h d (filling k (members_from e t)) (group_few e k t l))

-- ---- an index in a particle is a byte
abbrev element_in : What → ℕ
element_in (Element i) = i
element_in (Group k n) = 0

pub index_small : (s : Bytes) (p : Particle) (i : ℕ) → p ≡ particle_of (read_particle s) → p.what ≡ Element i → get_or s particle_index_at 0 < 256 → i < 256
unfolding particle_of
index_small s p i e w l = by (get_or s particle_sort_at 0) (ap (λ (z : Particle). element_in z.what) (sym e) ∙ ap element_in w)
  where
    by : (sort : ℕ) → element_in (what_of sort (get_or s particle_index_at 0)) ≡ i → i < 256
    by zero q = omega arith
    by (suc k) q = omega arith

-- ---- what falls: the height, then the particles. A part is shorter than a slice can be, 2 ^ 64.
unfoldable pub top : ℕ
top = 147573952589676412927

unfoldable pub rank : ℕ → ℕ → ℕ
rank h n = 147573952589676412928 * h + n

pub rank_particles : (h m n : ℕ) → m < n → rank h m < rank h n
unfolding rank
rank_particles h m n l = omega arith

pub rank_part : (h l : ℕ) → l < 18446744073709551616 → rank h (4 * l + 1) < rank h top
unfolding rank top
rank_part h l m = omega arith

pub rank_height : (h : ℕ) → (h ≡ 0 → ⊥) → rank (h - 1) top < rank h 0
unfolding rank top
rank_height zero n = absurd (n refl)
rank_height (suc h) n = let e : suc h - 1 ≡ h = omega arith in rw e (omega arith)

pub part_short : (defs parts : Bytes) (i : ℕ) (s : Bytes) → s ≡ model_part defs parts i → length s ≤ length parts
unfolding model_part
part_short defs parts i s e =
    let n : ℕ = particle_size * (definition_in defs i).particles in
    let m : ℕ = particle_size * particles_before defs i in
    omega (arith, ap length e, length-take n (drop m parts), length-drop m parts)

-- ---- what a change fills with
module _ (F : Form) (what : Filling) (txt : Bytes) (d : ℕ) where
  pub nothing_filled : {c : Cursor} {out : Bytes} → what ≡ Nothing → Written F.width (fill_with F what txt d) c out c out
  nothing_filled e = written_as (ap (λ (x : Filling). fill_with F x txt d) e) written_none

  pub definition_filled : (i : ℕ) {c r : Cursor} {out out' : Bytes} → what ≡ Definition i
      → Written F.width (definition_rows F txt F.definition_count d i) c out r out' → Written F.width (fill_with F what txt d) c out r out'
  unfolding definition_rows
  definition_filled i e p = written_as (ap (λ (x : Filling). fill_with F x txt d) e) p

  pub attribute_filled : (j : ℕ) {c r : Cursor} {out out' : Bytes} → what ≡ Attribute j → Written F.width (new_row 2 d j txt ∷ []) c out r out' → Written F.width (fill_with F what txt d) c out r out'
  attribute_filled j e p = written_as (ap (λ (x : Filling). fill_with F x txt d) e) p

  pub particles_filled : (g : GroupKind) (k e : ℕ) {c r : Cursor} {out out' : Bytes} → what ≡ Particles g k e
      → Written F.width (member_rows F txt F.definition_count d (group_filled g (members_read_at F.particles.now k e))) c out r out'
      → Written F.width (fill_with F what txt d) c out r out'
  unfolding member_rows definition_rows
  particles_filled g k e q p = written_as (ap (λ (x : Filling). fill_with F x txt d) q) p

-- ---- a group's filling, where its quantifier needs it
unless_both : (b r : Bool) (u v : List ℕ) → (b && r) ≡ true → (r ≡ true → v ≡ []) → unless b u ++ v ≡ []
unless_both true r u v e f = f e
unless_both false r u v e f = absurd (false≢true e)

-- a LIST that accepts nothing fills with nothing
list_nothing : (ms : Members ℕ) → nothing Sequence ms ≡ true → filling Sequence ms ≡ []
unfolding nothing filling
list_nothing done e = refl
list_nothing (el q n rest) e = unless_both (skips q) (nothing Sequence rest) (n ∷ []) (filling Sequence rest) e (λ r. list_nothing rest r)
list_nothing (group q j ms rest) e = unless_both (skips q || nothing j ms) (nothing Sequence rest) (filling j ms) (filling Sequence rest) e (λ r. list_nothing rest r)

list_filled : (ms : Members ℕ) → group_filled Sequence ms ≡ filling Sequence ms
unfolding group_filled
list_filled ms = by (nothing Sequence ms) refl
  where
    by : (b : Bool) → nothing Sequence ms ≡ b → unless b (filling Sequence ms) ≡ filling Sequence ms
    by true e = sym (list_nothing ms e)
    by false e = refl

-- a kind by the answer of `==`
pub kind_choice : (k : GroupKind) → true ≡ sameb the_type k Choice → k ≡ Choice
kind_choice Sequence e = absurd (false≢true (sym e))
kind_choice Choice e = refl

pub kind_list : (k : GroupKind) → false ≡ sameb the_type k Choice → k ≡ Sequence
kind_list Sequence e = refl
kind_list Choice e = absurd (false≢true e)

module _ (k : GroupKind) (ms : Members ℕ) where
  pub filled_list : k ≡ Sequence → group_filled k ms ≡ unless false (filling k ms)
  filled_list e = subst (λ (z : GroupKind). group_filled z ms ≡ filling z ms) (sym e) (list_filled ms)

  pub filled_choice : {b : Bool} → k ≡ Choice → b ≡ nothing Choice ms → group_filled k ms ≡ unless b (filling k ms)
  unfolding group_filled
  filled_choice {b} e t =
      let told : nothing k ms ≡ b = ap (λ (z : GroupKind). nothing z ms) e ∙ sym t in
      ap (λ (z : Bool). unless z (filling k ms)) told

-- s: the particles from number k on; b: whether the group fills with nothing
module _ (parts s : Bytes) (k e : ℕ) (t : s ≡ drop (particle_size * k) parts) (g : GroupKind) (b : Bool) (told : group_filled g (members_from e s) ≡ unless b (filling g (members_from e s))) where
  here : group_filled g (members_read_at parts k e) ≡ unless b (filling g (members_from e s))
  unfolding members_read_at
  here = ap (λ (u : Bytes). group_filled g (members_from e u)) (sym t) ∙ told

  pub group_empty : b ≡ true → group_filled g (members_read_at parts k e) ≡ []
  group_empty q = here ∙ ap (λ (z : Bool). unless z (filling g (members_from e s))) q

  pub group_full : b ≡ false → group_filled g (members_read_at parts k e) ≡ filling g (members_from e s)
  group_full q = here ∙ ap (λ (z : Bool). unless z (filling g (members_from e s))) q

pub filled_particles : (what : Filling) (g : GroupKind) (k e : ℕ) → what ≡ Particles g k e → Indexed what → (k ≤ 256) × (e ≤ 256)
filled_particles what g k e q x = subst Indexed q x

pub filled_definition : (what : Filling) (i : ℕ) → what ≡ Definition i → Indexed what → i ≤ 256
filled_definition what i e x = subst Indexed e x

pub filled_attribute : (what : Filling) (j : ℕ) → what ≡ Attribute j → Indexed what → j < 65536
filled_attribute what j e x = subst Indexed e x
