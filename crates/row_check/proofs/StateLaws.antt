-- The state of the walk stands for the levels of the machine: what a row finds there and leaves there is the same.
use Prim.Native.Nat.{ℕ, zero, suc, ◌+◌, ◌*◌, ◌-◌, ◌≤◌, ◌<◌}
use native.Mathlib.Omega.{arith}
use native.Mathlib.Numerals.{add-one}
use mathlib.Core.Path.{◌≡◌, refl, ap, ap₂, sym, ◌∙◌}
use mathlib.Core.Logic.{◌⊎◌, inl, inr}
use mathlib.Core.Bool.{Bool, true, false, ◌&&◌}
use mathlib.Core.List.{List}
use lib.Dec.{eqb, leb, ltb}
use lib.ListN.{length, get_or, set, length-set}
use lib.Seq.{get_or-set_same, get_or-set_other}
use borrow.Author.Tests.{lt-ltb, le-ltb, ltb-true, leb-true, leb-false, eq-eqb, ne_eqb, eqb-true, eqb-false}
use Rattle.rules.specs.Bytes.{Bytes}
use Rattle.rules.specs.Preorder.{Deep}
use Rattle.rules.specs.Layout.{FlatRow}
use Rattle.form_index.specs.Indices.{IndexForm}
use Rattle.form_table.specs.Every.{every}
use Rattle.form_table.proofs.Numbers.{every_same, every_step, Side, below, at, above, side}
use Rattle.next_row.specs.declared.Level.{Level}
use Rattle.next_row.specs.declared.Level.TheVariants.{Element}
use Rattle.next_row.specs.Judge.{may, ends, level_after, entered, ground_level, judge}
use Rattle.row_state.specs.State.{open_elements, StateFits, seen_at, level_at, with_attribute, with_child, with_text, with_element, stepped, RoomFor}
use Rattle.open_levels.specs.Open.{open_end}
use Rattle.row_step.specs.Steps.{comes_next}
use Rattle.row_state.proofs.LevelLaws.{seen_inner, seen_outer}
use Rattle.row_state.proofs.TakenLaws.{stepped_element, stepped_attribute, stepped_text, stepped_fits}
use Rattle.row_check.specs.Machine.{levels_end, opened}
use Rattle.row_check.proofs.MachineLaws.{at_below, at_row, at_inside, still}

-- a level below a row that holds nothing
abbrev no_level : Level
no_level = entered false 0

-- the levels are those of the state, and may have one more, below an attribute or a text
pub record StandsFor (s : Bytes) (l : List Level) (n : ℕ) : Type 0 where
  pub fits : StateFits s
  pub many : length l ≡ 257
  pub ground : get_or l 0 ground_level ≡ ground_level
  pub inside : (k : ℕ) → suc k ≤ open_elements s → get_or l (suc k) ground_level ≡ level_at s (suc k)
  pub live : (n ≡ suc (open_elements s)) ⊎ ((n ≡ suc (suc (open_elements s))) × (get_or l (suc (open_elements s)) ground_level ≡ no_level))

-- ---- the tests of a row
module _ (f : IndexForm) {s : Bytes} {l : List Level} {n : ℕ} (p : StandsFor s l n) where
  ends_alike : (k : ℕ) → k ≤ open_elements s → (judge f).ends (get_or l k ground_level) ≡ (judge f).ends (level_at s k)
  ends_alike zero h = ap (ends f) p.ground
  ends_alike (suc k) h = ap (ends f) (p.inside k h)

  may_alike : (r : FlatRow) (k : ℕ) → k ≤ open_elements s → (judge f).may (get_or l k ground_level) r ≡ (judge f).may (level_at s k) r
  may_alike r zero h = ap (λ (x : Level). may f x r) p.ground
  may_alike r (suc k) h = ap (λ (x : Level). may f x r) (p.inside k h)

  abbrev of_levels : ℕ → Bool
  of_levels k = (judge f).ends (get_or l k ground_level)

  abbrev Live : Type 0
  Live = (n ≡ suc (open_elements s)) ⊎ ((n ≡ suc (suc (open_elements s))) × (get_or l (suc (open_elements s)) ground_level ≡ no_level))

  -- the test of the levels from a on
  pub shut_alike : (a : ℕ) → a ≤ suc (open_elements s) → levels_end (judge f) ground_level l n a ≡ open_end f s a
  unfolding levels_end open_end
  shut_alike a h = by p.live
    where
      same : every of_levels (suc (open_elements s)) a ≡ every (λ k. (judge f).ends (level_at s k)) (open_elements s + 1) a
      same =
          every_same of_levels (λ k. (judge f).ends (level_at s k)) (suc (open_elements s)) a (λ k g. ends_alike k (omega arith))
          ∙ ap (λ (m : ℕ). every (λ k. (judge f).ends (level_at s k)) m a) (sym (add-one (open_elements s)))

      by : Live → every of_levels n a ≡ every (λ k. (judge f).ends (level_at s k)) (open_elements s + 1) a
      by (inl e) = ap (λ (m : ℕ). every of_levels m a) e ∙ same
      by (inr (e, q)) =
          let one : suc (suc (open_elements s)) - 1 ≡ suc (open_elements s) = omega arith in
          ap (λ (m : ℕ). every of_levels m a) e
          ∙ every_step of_levels a (suc (suc (open_elements s))) (omega arith)
          ∙ ap (λ (m : ℕ). of_levels m && every of_levels m a) one
          ∙ ap (λ (x : Level). ends f x && every of_levels (suc (open_elements s)) a) q
          ∙ same

  abbrev of_machine : Deep FlatRow → Bool
  of_machine x = ltb x.depth n && (levels_end (judge f) ground_level l n (suc x.depth) && (judge f).may (get_or l x.depth ground_level) x.row)

  pub comes_alike : (x : Deep FlatRow) → of_machine x ≡ comes_next f s x
  comes_alike x = by (leb x.depth (open_elements s)) refl
    where
      live_least : suc (open_elements s) ≤ n
      live_least = least p.live
        where
          least : Live → suc (open_elements s) ≤ n
          least (inl e) = omega arith
          least (inr (e, q)) = omega arith

      -- below a row that holds nothing no row comes
      deeper : open_elements s < x.depth → Live → of_machine x ≡ false
      deeper h (inl e) = rw (le-ltb x.depth n (omega arith))
      deeper h (inr (e, q)) = at_leaf (ltb x.depth n) refl
        where
          none_comes : (a b : Bool) → (a && (b && false)) ≡ false
          none_comes true true = refl
          none_comes true false = refl
          none_comes false b = refl

          at_leaf : (b : Bool) → ltb x.depth n ≡ b → of_machine x ≡ false
          at_leaf false z = rw z
          at_leaf true z =
              let d : x.depth ≡ suc (open_elements s) = omega (arith, ltb-true x.depth n z) in
              let level : get_or l x.depth ground_level ≡ no_level = ap (λ (k : ℕ). get_or l k ground_level) d ∙ q in
              ap (λ (y : Level). ltb x.depth n && (levels_end (judge f) ground_level l n (suc x.depth) && may f y x.row)) level
              ∙ none_comes (ltb x.depth n) (levels_end (judge f) ground_level l n (suc x.depth))

      by : (b : Bool) → leb x.depth (open_elements s) ≡ b → of_machine x ≡ comes_next f s x
      by true e =
          let h : x.depth ≤ open_elements s = leb-true x.depth (open_elements s) e in
          let shut : levels_end (judge f) ground_level l n (suc x.depth) ≡ open_end f s (x.depth + 1) =
          shut_alike (suc x.depth) (omega arith) ∙ ap (open_end f s) (sym (add-one x.depth)) in
          ap₂ (λ (a b : Bool). a && b) (lt-ltb x.depth n (omega (arith, live_least)) ∙ sym e)
          (ap₂ (λ (a b : Bool). a && b) shut (may_alike x.row x.depth h))
      by false e = deeper (omega (arith, leb-false x.depth (open_elements s) e)) p.live ∙ sym (rw e)

-- ---- the state after a row
-- the first two bytes, set last
module _ (t : Bytes) (v k : ℕ) (long : length t ≡ 130) where
  head_open : get_or (set (set t 1 v) 0 k) 0 0 ≡ k
  head_open = get_or-set_same (set t 1 v) 0 k 0 (omega (arith, length-set t 1 v))

  head_seen : get_or (set (set t 1 v) 0 k) 1 0 ≡ v
  head_seen = get_or-set_other (set t 1 v) 0 1 k 0 (λ e. omega arith) ∙ get_or-set_same t 1 v 0 (omega arith)

  past_head : (j : ℕ) → 2 ≤ j → get_or (set (set t 1 v) 0 k) j 0 ≡ get_or t j 0
  past_head j h = get_or-set_other (set t 1 v) 0 j k 0 (λ e. omega arith) ∙ get_or-set_other t 1 j v 0 (λ e. omega arith)

-- a level by its bytes
level_by : (s : Bytes) (k : ℕ) {i v t : ℕ} → get_or s (2 * suc k) 0 ≡ i → seen_at s (suc k) ≡ v → get_or s (2 * suc k + 1) 0 ≡ t
    → level_at s (suc k) ≡ Element (record { index = i; seen = v; last = t })
level_by s k a b c = λ j. Element (record { index = a j; seen = b j; last = c j })

-- the innermost element has the attributes of the state, any other none
seen_of : (s : Bytes) (k : ℕ) {o v : ℕ} → open_elements s ≡ o → k ≡ o → get_or s 1 0 ≡ v → seen_at s k ≡ v
seen_of s k e h q = sym (seen_inner s k (h ∙ sym e)) ∙ q

seen_none : (s : Bytes) (k : ℕ) {o : ℕ} → open_elements s ≡ o → k < o → seen_at s k ≡ 0
seen_none s k e h = sym (seen_outer s k (λ z. omega arith))

module _ (f : IndexForm) {s : Bytes} {l : List Level} {n : ℕ} (p : StandsFor s l n) (x : Deep FlatRow) (h : x.depth ≤ open_elements s) (room : RoomFor x) where
  abbrev d : ℕ
  d = x.depth

  abbrev after : List Level
  after = opened (judge f) ground_level l d x.row

  long : length s ≡ 130
  long = p.fits.long

  deep : d < 256
  deep = omega (arith, room.depth)

  -- levels around the row's own stay: a state with their bytes, in which one further in is the innermost
  around : (t : Bytes) {o : ℕ} → open_elements t ≡ o → d ≤ o → (k : ℕ) → suc k < d → get_or t (2 * suc k) 0 ≡ get_or s (2 * suc k) 0
      → get_or t (2 * suc k + 1) 0 ≡ get_or s (2 * suc k + 1) 0 → get_or after (suc k) ground_level ≡ level_at t (suc k)
  around t e g k q a b =
      at_below (judge f) ground_level 256 x l p.many deep (suc k) q
      ∙ p.inside k (omega arith)
      ∙ sym (level_by t k a (seen_none t (suc k) e (omega arith) ∙ sym (seen_none s (suc k) refl (omega arith))) b)

  -- the ground is the place of the documents still
  ground_after : get_or after 0 ground_level ≡ ground_level
  ground_after = by d refl
    where
      by : (k : ℕ) → d ≡ k → get_or after 0 ground_level ≡ ground_level
      by zero e =
          ap (λ (k : ℕ). get_or after k ground_level) (sym e)
          ∙ at_row (judge f) ground_level 256 x l p.many deep
          ∙ ap (λ (k : ℕ). level_after (eqb x.row.sort 2) (get_or l k ground_level) x.row.index) e
          ∙ ap (λ (y : Level). level_after (eqb x.row.sort 2) y x.row.index) p.ground
      by (suc k) e = at_below (judge f) ground_level 256 x l p.many deep 0 (omega arith) ∙ p.ground

  -- the row's own level
  own : (b : Bool) → eqb x.row.sort 2 ≡ b → (k : ℕ) → suc k ≡ d → get_or after (suc k) ground_level ≡ level_after b (level_at s (suc k)) x.row.index
  own b e k q =
      ap (λ (j : ℕ). get_or after j ground_level) q
      ∙ at_row (judge f) ground_level 256 x l p.many deep
      ∙ ap₂ (λ (c : Bool) (j : ℕ). level_after c (get_or l j ground_level) x.row.index) e (sym q)
      ∙ ap (λ (y : Level). level_after b y x.row.index) (p.inside k (omega arith))

  -- the level below it
  below_row : (b : Bool) → eqb x.row.sort 1 ≡ b → get_or after (suc d) ground_level ≡ entered b x.row.index
  below_row b e = at_inside (judge f) ground_level 256 x l p.many deep ∙ ap (λ (c : Bool). entered c x.row.index) e

  module _ (t : Bytes) (same : stepped s x ≡ t) (inside : (k : ℕ) → suc k ≤ open_elements t → get_or after (suc k) ground_level ≡ level_at t (suc k)) where
    stands_after : (suc (suc d) ≡ suc (open_elements t)) ⊎ ((suc (suc d) ≡ suc (suc (open_elements t))) × (get_or after (suc (open_elements t)) ground_level ≡ no_level))
        → StandsFor (stepped s x) after (suc (suc d))
    stands_after live =
        rw same
        (record {
          fits = rw same at (stepped_fits s x long room);
          many = still (judge f) ground_level 256 x l p.many deep;
          ground = ground_after;
          inside = inside;
          live = live;
        })

  child_other : (j : ℕ) → (j ≡ 2 * d + 1 → ⊥) → get_or (with_child s d x.row.index) j 0 ≡ get_or s j 0
  child_other j g = get_or-set_other s (2 * d + 1) j (x.row.index + 1) 0 g

  child_same : get_or (with_child s d x.row.index) (2 * d + 1) 0 ≡ x.row.index + 1
  child_same = get_or-set_same s (2 * d + 1) (x.row.index + 1) 0 (omega (arith, room.depth))

  child_long : length (with_child s d x.row.index) ≡ 130
  child_long = length-set s (2 * d + 1) (x.row.index + 1) ∙ long

  -- ---- an attribute's row
  module _ (e : x.row.sort ≡ 2) where
    abbrev attributed : Bytes
    attributed = with_attribute s d x.row.index

    attribute_open : open_elements attributed ≡ d
    attribute_open = head_open s (x.row.index + 2) d long

    attribute_inside : (k : ℕ) → suc k ≤ open_elements attributed → get_or after (suc k) ground_level ≡ level_at attributed (suc k)
    attribute_inside k g = by (side (suc k) d)
      where
        stays : (j : ℕ) → 2 ≤ j → get_or attributed j 0 ≡ get_or s j 0
        stays = past_head s (x.row.index + 2) d long

        by : Side (suc k) d → get_or after (suc k) ground_level ≡ level_at attributed (suc k)
        by (below q) = around attributed attribute_open (omega arith) k q (stays (2 * suc k) (omega arith)) (stays (2 * suc k + 1) (omega arith))
        by (at q) =
            let two : x.row.index + 2 ≡ suc (suc x.row.index) = omega arith in
            own true (eq-eqb x.row.sort 2 e) k q
            ∙ sym
            (level_by attributed k (stays (2 * suc k) (omega arith))
            (seen_of attributed (suc k) attribute_open q (head_seen s (x.row.index + 2) d long ∙ two)) (stays (2 * suc k + 1) (omega arith)))
        by (above q) = absurd (omega (arith, attribute_open))

    pub attribute_stands : StandsFor (stepped s x) after (suc (suc d))
    attribute_stands =
        stands_after attributed (stepped_attribute s x e) attribute_inside
        (inr (
          omega (arith, attribute_open),
          ap (λ (j : ℕ). get_or after (suc j) ground_level) attribute_open ∙ below_row false (ne_eqb x.row.sort 1 (λ z. omega arith)),
        ))

  -- ---- a text's
  module _ (n₁ : x.row.sort ≡ 1 → ⊥) (n₂ : x.row.sort ≡ 2 → ⊥) where
    abbrev texted : Bytes
    texted = with_text s d x.row.index

    text_open : open_elements texted ≡ d
    text_open = head_open (with_child s d x.row.index) 0 d child_long

    text_inside : (k : ℕ) → suc k ≤ open_elements texted → get_or after (suc k) ground_level ≡ level_at texted (suc k)
    text_inside k g = by (side (suc k) d)
      where
        stays : (j : ℕ) → 2 ≤ j → (j ≡ 2 * d + 1 → ⊥) → get_or texted j 0 ≡ get_or s j 0
        stays j l q = past_head (with_child s d x.row.index) 0 d child_long j l ∙ child_other j q

        by : Side (suc k) d → get_or after (suc k) ground_level ≡ level_at texted (suc k)
        by (below q) =
            around texted text_open (omega arith) k q (stays (2 * suc k) (omega arith) (λ z. omega arith)) (stays (2 * suc k + 1) (omega arith) (λ z. omega arith))
        by (at q) =
            let place : 2 * suc k + 1 ≡ 2 * d + 1 = omega arith in
            own false (ne_eqb x.row.sort 2 n₂) k q
            ∙ sym
            (level_by texted k (stays (2 * suc k) (omega arith) (λ z. omega arith))
            (seen_of texted (suc k) text_open q (head_seen (with_child s d x.row.index) 0 d child_long))
            (past_head (with_child s d x.row.index) 0 d child_long (2 * suc k + 1) (omega arith)
            ∙ ap (λ (j : ℕ). get_or (with_child s d x.row.index) j 0) place
            ∙ child_same
            ∙ add-one x.row.index))
        by (above q) = absurd (omega (arith, text_open))

    pub text_stands : StandsFor (stepped s x) after (suc (suc d))
    text_stands =
        stands_after texted (stepped_text s x n₁ n₂) text_inside
        (inr (
          omega (arith, text_open),
          ap (λ (j : ℕ). get_or after (suc j) ground_level) text_open ∙ below_row false (ne_eqb x.row.sort 1 n₁),
        ))

  -- ---- an element's
  module _ (e : x.row.sort ≡ 1) where
    abbrev noted : Bytes
    noted = set (set (with_child s d x.row.index) (2 * (d + 1)) x.row.index) (2 * (d + 1) + 1) 0

    abbrev nested : Bytes
    nested = with_element s d x.row.index

    noted_long : length noted ≡ 130
    noted_long =
        length-set (set (with_child s d x.row.index) (2 * (d + 1)) x.row.index) (2 * (d + 1) + 1) 0
        ∙ length-set (with_child s d x.row.index) (2 * (d + 1)) x.row.index
        ∙ child_long

    element_open : open_elements nested ≡ d + 1
    element_open = head_open noted 1 (d + 1) noted_long

    element_inside : (k : ℕ) → suc k ≤ open_elements nested → get_or after (suc k) ground_level ≡ level_at nested (suc k)
    element_inside k g = by (side (suc k) d)
      where
        -- a byte that is not of the new element
        outside : (j : ℕ) → 2 ≤ j → j < 2 * (d + 1) → get_or nested j 0 ≡ get_or (with_child s d x.row.index) j 0
        outside j l q =
            past_head noted 1 (d + 1) noted_long j l
            ∙ get_or-set_other (set (with_child s d x.row.index) (2 * (d + 1)) x.row.index) (2 * (d + 1) + 1) j 0 0 (λ z. omega arith)
            ∙ get_or-set_other (with_child s d x.row.index) (2 * (d + 1)) j x.row.index 0 (λ z. omega arith)

        stays : (j : ℕ) → 2 ≤ j → j < 2 * (d + 1) → (j ≡ 2 * d + 1 → ⊥) → get_or nested j 0 ≡ get_or s j 0
        stays j l q z = outside j l q ∙ child_other j z

        definition_there : get_or nested (2 * (d + 1)) 0 ≡ x.row.index
        definition_there =
            past_head noted 1 (d + 1) noted_long (2 * (d + 1)) (omega arith)
            ∙ get_or-set_other (set (with_child s d x.row.index) (2 * (d + 1)) x.row.index) (2 * (d + 1) + 1) (2 * (d + 1)) 0 0 (λ z. omega arith)
            ∙ get_or-set_same (with_child s d x.row.index) (2 * (d + 1)) x.row.index 0 (omega (arith, child_long, room.element e))

        no_child : get_or nested (2 * (d + 1) + 1) 0 ≡ 0
        no_child =
            past_head noted 1 (d + 1) noted_long (2 * (d + 1) + 1) (omega arith)
            ∙ get_or-set_same (set (with_child s d x.row.index) (2 * (d + 1)) x.row.index) (2 * (d + 1) + 1) 0 0
            (omega (arith, length-set (with_child s d x.row.index) (2 * (d + 1)) x.row.index, child_long, room.element e))

        by : Side (suc k) d → get_or after (suc k) ground_level ≡ level_at nested (suc k)
        by (below q) =
            around nested element_open (omega arith) k q (stays (2 * suc k) (omega arith) (omega arith) (λ z. omega arith))
            (stays (2 * suc k + 1) (omega arith) (omega arith) (λ z. omega arith))
        by (at q) =
            let place : 2 * suc k + 1 ≡ 2 * d + 1 = omega arith in
            own false (ne_eqb x.row.sort 2 (λ z. omega arith)) k q
            ∙ sym
            (level_by nested k (stays (2 * suc k) (omega arith) (omega arith) (λ z. omega arith)) (seen_none nested (suc k) element_open (omega arith))
            (outside (2 * suc k + 1) (omega arith) (omega arith)
            ∙ ap (λ (j : ℕ). get_or (with_child s d x.row.index) j 0) place
            ∙ child_same
            ∙ add-one x.row.index))
        by (above q) =
            let here : suc k ≡ d + 1 = omega (arith, element_open) in
            let last-place : 2 * suc k + 1 ≡ 2 * (d + 1) + 1 = omega arith in
            ap (λ (j : ℕ). get_or after j ground_level) (here ∙ add-one d)
            ∙ below_row true (eq-eqb x.row.sort 1 e)
            ∙ sym
            (level_by nested k (ap (λ (j : ℕ). get_or nested (2 * j) 0) here ∙ definition_there)
            (seen_of nested (suc k) element_open here (head_seen noted 1 (d + 1) noted_long)) (ap (λ (j : ℕ). get_or nested j 0) last-place ∙ no_child))

    pub element_stands : StandsFor (stepped s x) after (suc (suc d))
    element_stands = stands_after nested (stepped_element s x e) element_inside (inl (omega (arith, element_open)))

  -- THE STEP on the levels is the step on the state
  pub stands_stepped : StandsFor (stepped s x) after (suc (suc d))
  stands_stepped = by (eqb x.row.sort 1) refl (eqb x.row.sort 2) refl
    where
      by : (a : Bool) → eqb x.row.sort 1 ≡ a → (b : Bool) → eqb x.row.sort 2 ≡ b → StandsFor (stepped s x) after (suc (suc d))
      by true e b q = element_stands (eqb-true x.row.sort 1 e)
      by false e true q = attribute_stands (eqb-true x.row.sort 2 q)
      by false e false q = text_stands (eqb-false x.row.sort 1 e) (eqb-false x.row.sort 2 q)
