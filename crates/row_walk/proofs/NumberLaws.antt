-- A plan by numbers, and the plan that says the same of one row.
use Prim.Native.Nat.{ℕ, zero, suc}
use native.Mathlib.Omega.{arith}
use mathlib.Core.Path.{◌≡◌, refl, sym, ap, ◌∙◌}
use mathlib.Core.Bool.{Bool, true, false, not, ◌&&◌, ◌||◌, and-false}
use mathlib.Core.List.{List}
use borrow.Author.Tests.{ne_eqb, le-ltb}
use lib.Dec.{eqb, ltb}
use lib.ListN.{get_or}
use Rattle.std.specs.Prelude.{Option, None}
use Rattle.rules.specs.Bytes.{Bytes}
use Rattle.rules.specs.Layout.{FlatRow}
use Rattle.row_walk.specs.declared.Which.{Which}
use Rattle.row_walk.specs.declared.Which.TheVariants.{Serial}
use Rattle.row_walk.specs.declared.Later.{Later}
use Rattle.row_walk.specs.declared.Later.TheVariants.{Unmarked}
use Rattle.row_walk.specs.declared.Shift.{Shift}
use Rattle.row_walk.specs.declared.Plan.{Plan}
use Rattle.row_walk.specs.declared.Open.{Open}
use Rattle.row_walk.specs.declared.Head.{Head}
use Rattle.row_walk.specs.Walk.{matches, is_everything, is_later, shifted, moved_index, is_set, is_below_taken, closes, closed, is_below}
use Rattle.row_walk.specs.Lent.{which_in, later_in, shift_in, plan_in, every_if, later_if}
use Rattle.row_walk.specs.Step.{valueless, is_plain}

-- ---- by the number of a variant, k
pub which_serial : (k n : ℕ) → (k ≡ 0 → ⊥) → (k ≡ 1 → ⊥) → (k ≡ 2 → ⊥) → (k ≡ 3 → ⊥) → (k ≡ 4 → ⊥) → which_in k n ≡ Serial n
which_serial zero n a b c d e = absurd (a refl)
which_serial (suc zero) n a b c d e = absurd (b refl)
which_serial (suc (suc zero)) n a b c d e = absurd (c refl)
which_serial (suc (suc (suc zero))) n a b c d e = absurd (d refl)
which_serial (suc (suc (suc (suc zero)))) n a b c d e = absurd (e refl)
which_serial (suc (suc (suc (suc (suc k))))) n a b c d e = refl

pub later_unmarked : (k n : ℕ) → (k ≡ 0 → ⊥) → (k ≡ 1 → ⊥) → (k ≡ 2 → ⊥) → later_in k n ≡ Unmarked
later_unmarked zero n a b c = absurd (a refl)
later_unmarked (suc zero) n a b c = absurd (b refl)
later_unmarked (suc (suc zero)) n a b c = absurd (c refl)
later_unmarked (suc (suc (suc k))) n a b c = refl

everything_is : (k n : ℕ) → eqb k 1 ≡ is_everything (which_in k n)
everything_is zero n = refl
everything_is (suc zero) n = refl
everything_is (suc (suc zero)) n = refl
everything_is (suc (suc (suc zero))) n = refl
everything_is (suc (suc (suc (suc zero)))) n = refl
everything_is (suc (suc (suc (suc (suc k))))) n = ne_eqb (suc (suc (suc (suc (suc k))))) 1 (λ e. omega arith)

-- ---- by the answer of a test
every_is : (b : Bool) → is_everything (every_if b) ≡ b
every_is true = refl
every_is false = refl

every_matches : (b : Bool) (r : FlatRow) → matches (every_if b) r ≡ b
every_matches true r = refl
every_matches false r = refl

later_is : (b : Bool) (marks : Bytes) (r : FlatRow) → is_later marks (later_if b) r ≡ b
later_is true marks r =
    let none : ltb r.index 0 ≡ false = le-ltb r.index 0 (omega arith) in
    ap (λ (z : Bool). not (eqb r.sort 2 && z)) none ∙ ap not (and-false (eqb r.sort 2))
later_is false marks r = refl

-- ---- the index of a row after the change, by how indices move
abbrev moved_by : Shift → Shift → FlatRow → ℕ
moved_by d t r = elim (eqb r.sort 1) [ true ↦ shifted d r.index | false ↦ elim (eqb r.sort 2) [ true ↦ shifted t r.index | false ↦ r.index ] ]

-- ---- the test of a row that stays as it is, by what a plan says of it
abbrev told : Open → Head → Bool → Bool → Bool → Bool → ℕ → Bool → Bool
told o h all takes later keeps index set =
    let x = valueless h in
    let q = closed o x in
    (not (is_below_taken o x) && not ((closes o x && o.due) || ((q.due && is_below q x) && later)))
    && (not (((all || is_below q x) && takes) && not (keeps && q.due)) && (eqb index h.index && not set))

told_plain : (p : Plan) (o : Open) (h : Head)
    → told o h (is_everything p.above) (matches p.takes (valueless h).row) (is_later p.marks p.later (valueless h).row) p.keeps (moved_index p (valueless h).row) (is_set p.set h.serial)
    ≡ is_plain p o (valueless h)
unfolding is_plain
told_plain p o h = refl

-- a row that gets the call's value does not stay as it is
told_set : (o : Open) (h : Head) (a m l k : Bool) (i : ℕ) (s : Bool) → (not s && told o h a m l k i false) ≡ told o h a m l k i s
told_set o h a m l k i true =
    let x = valueless h in
    let q = closed o x in
    let early = not (is_below_taken o x) && not ((closes o x && o.due) || ((q.due && is_below q x) && l)) in
    let stays = not (((a || is_below q x) && m) && not (k && q.due)) in
    sym (ap (λ (z : Bool). early && (stays && z)) (and-false (eqb i h.index)) ∙ ap (λ (z : Bool). early && z) (and-false stays) ∙ and-false early)
told_set o h a m l k i false = refl

-- a plan that says of the row what the numbers say, and sets none
pub plain_numbers : (ks : List ℕ) (marks : Bytes) (o : Open) (h : Head) (q : Plan)
    → q.above ≡ every_if (eqb (get_or ks 0 0) 1)
    → q.takes ≡ every_if (matches (which_in (get_or ks 2 0) (get_or ks 3 0)) (valueless h).row)
    → q.later ≡ later_if (is_later marks (later_in (get_or ks 4 0) (get_or ks 5 0)) (valueless h).row)
    → q.keeps ≡ eqb (get_or ks 7 0) 1
    → q.definitions ≡ shift_in (get_or ks 10 0) (get_or ks 11 0) (get_or ks 12 0)
    → q.attributes ≡ shift_in (get_or ks 13 0) (get_or ks 14 0) (get_or ks 15 0)
    → q.set ≡ None
    → (b : Bool) → b ≡ is_plain q o (valueless h) → (not (eqb h.serial (get_or ks 9 0)) && b) ≡ is_plain (plan_in ks marks) o (valueless h)
plain_numbers ks marks o h q ea em el ek ed et es b e =
    let r = (valueless h).row in
    let p = plan_in ks marks in
    let valued = eqb h.serial (get_or ks 9 0) in
    let all = ap is_everything ea ∙ every_is (eqb (get_or ks 0 0) 1) ∙ everything_is (get_or ks 0 0) (get_or ks 1 0) in
    let takes = ap (λ (z : Which). matches z r) em ∙ every_matches (matches p.takes r) r in
    let later = ap (λ (z : Later). is_later q.marks z r) el ∙ later_is (is_later marks p.later r) q.marks r in
    let index : moved_index q r ≡ moved_index p r = λ i. moved_by (ed i) (et i) r in
    let set = ap (λ (z : Option ℕ). is_set z h.serial) es in
    ap (λ (z : Bool). not valued && z) (e ∙ sym (told_plain q o h) ∙ (λ i. told o h (all i) (takes i) (later i) (ek i) (index i) (set i)))
    ∙ told_set o h (is_everything p.above) (matches p.takes r) (is_later marks p.later r) p.keeps (moved_index p r) valued
    ∙ told_plain p o h
