-- A plan that does one thing follows a plan of the rules that does it: what is to be shown at each row.
use Prim.Native.Nat.{ℕ, ◌+◌, ◌-◌}
use native.Mathlib.Omega.{arith}
use mathlib.Core.Path.{◌≡◌, refl, sym, ap, ◌∙◌}
use mathlib.Core.Logic.{◌⊎◌, inl, inr}
use mathlib.Core.Bool.{Bool, true, false, ◌&&◌, ◌||◌, and-true, and-false, false≢true}
use mathlib.Core.List.{List, []}
use lib.Dec.{eqb, leb}
use Rattle.rules.specs.Bytes.{Bytes, numbers}
use Rattle.rules.specs.Store.{Form, RowSort, element, attribute, text, Row, Forest, bare, tree}
use Rattle.rules.specs.Preorder.{Deep}
use Rattle.rules.specs.Layout.{FlatRow, row_code, index_of, attribute_index, row_index}
use Rattle.rules.specs.Conforming.{is_element, is_attribute}
use Rattle.rules.specs.Lines.{ground, element_with}
use Rattle.rules.specs.Change.{making, taking, setting}
use Rattle.rules.specs.Change as change
use Rattle.rules.proofs.Words.{either}
use Rattle.rules.proofs.Apart.{differs}
use Rattle.change_laws.proofs.RowEdits.{revalued}
use Rattle.change_laws.proofs.Rowwise.{Standing}
use Rattle.store_check.proofs.AttributeRows.{row_written}
use Rattle.filling.specs.declared.Filling.{Filling}
use Rattle.row_walk.specs.declared.Which.{Which}
use Rattle.row_walk.specs.declared.Which.TheVariants.{Serial}
use Rattle.row_walk.specs.declared.Later.{Later}
use Rattle.row_walk.specs.declared.Shift.{Shift}
use Rattle.row_walk.specs.declared.Plan.{Plan}
use Rattle.row_walk.specs.Walk.{matches, is_everything, names_ground, is_later, shifted, moved_index}
use Rattle.plans.specs.Following.{Fills, RowFollows, Follows}
use Rattle.plans.specs.Kept.{EachBelow, BothTake, FollowsKept}
use Rattle.plans.specs.CallPlans.{unmoved, unmarked, filling_plan, taking_plan, setting_plan}

-- ---- rows by sort
pub element_code : (s : RowSort) → eqb (row_code s) 1 ≡ is_element s
element_code element = refl
element_code attribute = refl
element_code text = refl

pub serial_test : (form : Form) (owner : Bytes) (k : ℕ) (r : Row) → matches (Serial k) (row_written form owner r) ≡ element_with k r
serial_test form owner k r = ap (λ (c : Bool). c && eqb r.serial k) (element_code r.sort)

-- ---- indices that do not move
pub shifted_same : (i : ℕ) → shifted unmoved i ≡ i
shifted_same i = by (leb 0 i)
  where
    by : (c : Bool) → ◌≡◌ {A = ℕ} (elim c [ true ↦ i + 0 - 0 | false ↦ i ]) i
    by true = omega arith
    by false = refl

pub index_same : (p : Plan) → p.definitions ≡ unmoved → p.attributes ≡ unmoved → (x : FlatRow) → moved_index p x ≡ x.index
index_same p e f x = by (eqb x.sort 1) (eqb x.sort 2)
  where
    by : (a c : Bool) → ◌≡◌ {A = ℕ} (elim a [ true ↦ shifted p.definitions x.index | false ↦ elim c [ true ↦ shifted p.attributes x.index | false ↦ x.index ] ]) x.index
    by true c = rw e (shifted_same x.index)
    by false true = rw f (shifted_same x.index)
    by false false = refl

-- definitions stay where they are, and attributes move as the plan says
pub index_moved : (form new : Form) (p : Plan) (owner : Bytes) (r : Row) → p.definitions ≡ unmoved → index_of r.name new ≡ index_of r.name form
    → (is_attribute r.sort ≡ true → shifted p.attributes (attribute_index owner r.name form) ≡ attribute_index owner r.name new)
    → moved_index p (row_written form owner r) ≡ row_index new owner r
index_moved form new p owner r e f h = by r.sort refl
  where
    by : (t : RowSort) → r.sort ≡ t → moved_index p (row_written form owner r) ≡ row_index new owner r
    by element q = rw q (ap (λ (s : Shift). shifted s (index_of r.name form)) e ∙ shifted_same (index_of r.name form) ∙ sym f)
    by attribute q = rw q (h (ap is_attribute q))
    by text q = rw q

-- ---- no row has serial 0
pub value_same : (r : Row) (w : Bytes) → (r.serial ≡ 0 → ⊥) → ◌≡◌ {A = Bytes} r.value (elim (eqb r.serial 0) [ true ↦ w | false ↦ r.value ])
value_same r w f = rw (differs numbers r.serial 0 f)

-- ---- row by row; S: what is known of a row above, which is one of `above` or not
module _ (form new : Form) (q : change.Plan) (p : Plan) (v : Bytes) (fill : ℕ → List (Deep FlatRow)) (docs : Forest Row) (S : Bool → Row → Type 0)
    (step : (sel : Bool) (w u r : Row) (b : Forest Row) → S sel u → Standing docs r b → RowFollows form new q p v fill sel w u r × S (matches p.above (row_written form u.name r)) r) where
  follows_in : (sel : Bool) (w u : Row) (f : Forest Row) → S sel u → ((r : Row) (b : Forest Row) → Standing f r b → Standing docs r b) → Follows form new q p v fill sel w u f
  follows_in sel w u bare k i = tt
  follows_in sel w u (tree r b t) k i =
      let (h, n) = step sel w u r b k (i r b (inl (refl, refl))) in
      (h, follows_in (matches p.above (row_written form u.name r)) (revalued q r) r b n (λ s c j. i s c (inr (inl j))), follows_in sel w u t k (λ s c j. i s c (inr (inr j))))

  pub follows_all : S (names_ground p.above) ground → Follows form new q p v fill (names_ground p.above) ground ground docs
  follows_all k = follows_in (names_ground p.above) ground ground docs k (λ r b j. j)

-- the same where rows may be taken; P: what is known of a row and the row right above it
module _ (form new : Form) (q : change.Plan) (p : Plan) (v : Bytes) (fill : ℕ → List (Deep FlatRow)) (docs : Forest Row) (S : Bool → Row → Type 0) (P : Row → Row → Type 0)
    (step : (sel : Bool) (w u r : Row) (b : Forest Row) → S sel u → P u r → Standing docs r b
    → BothTake form new q p v fill sel u r ⊎ (RowFollows form new q p v fill sel w u r × S (matches p.above (row_written form u.name r)) r)) where
  kept_in : (sel : Bool) (w u : Row) (f : Forest Row) → S sel u → EachBelow P u f → ((r : Row) (b : Forest Row) → Standing f r b → Standing docs r b) → FollowsKept form new q p v fill sel w u f
  kept_in sel w u bare k e i = tt
  kept_in sel w u (tree r b t) k (e, eb, et) i = (
    either (λ h. h) (λ (h, n). (h, kept_in (matches p.above (row_written form u.name r)) (revalued q r) r b n eb (λ s c j. i s c (inr (inl j)))))
        (step sel w u r b k e (i r b (inl (refl, refl)))),
    kept_in sel w u t k et (λ s c j. i s c (inr (inr j))),
  )

  pub kept_all : S (names_ground p.above) ground → EachBelow P ground docs → FollowsKept form new q p v fill (names_ground p.above) ground ground docs
  kept_all k e = kept_in (names_ground p.above) ground ground docs k e (λ r b j. j)

-- ---- the three kinds of plans, at row r below row u
module _ (form : Form) (v : Bytes) (fill : ℕ → List (Deep FlatRow)) (sel : Bool) (w u r : Row) where
  pub fills_follow : (f : Row → Bool) (l : Row → Row → Bool) (rows : Forest Row) (above : Which) (later : Later) (what : Filling) → (r.serial ≡ 0 → ⊥)
      → (sel ≡ true → is_later unmarked later (row_written form u.name r) ≡ l w (revalued (making f l rows) r))
      → matches above (row_written form u.name r) ≡ f (revalued (making f l rows) r)
      → (f (revalued (making f l rows) r) ≡ true → Fills form form (making f l rows) (filling_plan above later what) v fill r.name)
      → RowFollows form form (making f l rows) (filling_plan above later what) v fill sel w u r
  fills_follow f l rows above later what n h m g =
      record {
        takes = and-false (is_everything above || sel);
        later = λ e f. h e;
        index = index_same (filling_plan above later what) refl refl (row_written form u.name r);
        value = value_same r [] n;
        fills = and-true (matches above (row_written form u.name r)) ∙ m;
        filling = g;
      }

  pub takes_follow : (t : Row → Row → Bool) (above takes : Which) → (r.serial ≡ 0 → ⊥) → ((is_everything above || sel) && matches takes (row_written form u.name r)) ≡ t u r
      → RowFollows form form (taking t) (taking_plan above takes) v fill sel w u r
  takes_follow t above takes n h =
      record {
        takes = h;
        later = λ e f. refl;
        index = index_same (taking_plan above takes) refl refl (row_written form u.name r);
        value = value_same r [] n;
        fills = and-false (matches above (row_written form u.name r));
        filling = λ e. absurd (false≢true e);
      }

  pub sets_follow : (m : ℕ) → RowFollows form form (setting m v) (setting_plan m) v fill sel w u r
  sets_follow m =
      record {
        takes = and-false sel;
        later = λ e f. refl;
        index = index_same (setting_plan m) refl refl (row_written form u.name r);
        value = refl;
        fills = refl;
        filling = λ e. absurd (false≢true e);
      }
