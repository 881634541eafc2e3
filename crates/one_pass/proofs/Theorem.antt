-- The walk over the rows can be resumed after any row, its state is 130 bytes, and the check is the walk and a
-- comparison of serials.
use Prim.Native.Nat.{ℕ, zero, suc, ◌+◌, ◌*◌, ◌<◌, ◌≤◌}
use native.Mathlib.Omega.{arith}
use mathlib.Core.Path.{◌≡◌, refl, ap, sym, ◌∙◌, subst}
use mathlib.Core.Bool.{Bool, true, false, false≢true}
use mathlib.Core.Option.{Option, none, some}
use mathlib.Core.List.{[], ◌∷◌}
use lib.Dec.{eqb}
use lib.ListN.{get_or, set, take, drop}
use borrow.Author.Tests.{eqb-true, eqb-false}
use Rattle.rules.specs.Bytes.{Bytes}
use Rattle.rules.specs.Preorder.{Deep}
use Rattle.rules.specs.Layout.{row_size, FlatRow}
use Rattle.rules.specs.Decode.{read_row, row_count}
use Rattle.layout.specs.Bodies.{width_of, tree_rows_in}
use Rattle.codec.proofs.Numbers.{zeros_read}
use Rattle.records.specs.Records.{header_fits}
use Rattle.records.proofs.RecordLaws.{small_of}
use Rattle.row_state.specs.State.{StateFits, start_state, with_child, stepped, RoomFor}
use Rattle.row_step.specs.Steps.{Before, may_step, walk, state_ends}
use Rattle.row_state.proofs.TakenLaws.{stepped_element, stepped_attribute, stepped_text, stepped_fits}
use Rattle.row_check.specs.Verdict.{answer_from, verdict}
use Rattle.row_check.specs.Walking.{bytes_before, before_in, FewIn}
use Rattle.row_check.proofs.WalkLaws.{walk_none, walk_split, came, came_room}
use Rattle.row_check.proofs.PassLaws.{start_fits}
use Rattle.row_check.proofs.BeforeLaws.{width_before, few_before}
use Rattle.store_check.specs.Check.{walk_answer}
use Rattle.store_check.proofs.StringChecks.{Headed, header, passes_header}
use Rattle.store_check.proofs.CallLaws.{check_says}
use Rattle.one_pass.specs.OnePass.{AreBytes, state_after, rows_left, OnePass}

-- ---- the state is bytes
set_byte : (s : Bytes) (k v : ℕ) → v < 256 → ((i : ℕ) → get_or s i 0 < 256) → (i : ℕ) → get_or (set s k v) i 0 < 256
set_byte [] k v l h i = h i
set_byte (x ∷ s) zero v l h zero = l
set_byte (x ∷ s) zero v l h (suc i) = h (suc i)
set_byte (x ∷ s) (suc k) v l h zero = h 0
set_byte (x ∷ s) (suc k) v l h (suc i) = set_byte s k v l (λ j. h (suc j)) i

bytes_set : {s : Bytes} (k v : ℕ) → v < 256 → AreBytes s → AreBytes (set s k v)
bytes_set {s} k v l h = record { each = set_byte s k v l h.each }

bytes_stepped : (s : Bytes) (x : Deep FlatRow) → RoomFor x → AreBytes s → AreBytes (stepped s x)
bytes_stepped s x room h = by (eqb x.row.sort 1) refl (eqb x.row.sort 2) refl
  where
    child : AreBytes (with_child s x.depth x.row.index)
    child = bytes_set (2 * x.depth + 1) (x.row.index + 1) (omega (arith, room.index)) h

    by : (a : Bool) → eqb x.row.sort 1 ≡ a → (b : Bool) → eqb x.row.sort 2 ≡ b → AreBytes (stepped s x)
    by true e b q =
        rw (stepped_element s x (eqb-true x.row.sort 1 e))
        (bytes_set 0 (x.depth + 1) (omega (arith, room.depth))
        (bytes_set 1 1 (omega arith) (bytes_set (2 * (x.depth + 1) + 1) 0 (omega arith) (bytes_set (2 * (x.depth + 1)) x.row.index (omega (arith, room.index)) child))))
    by false e true q =
        rw (stepped_attribute s x (eqb-true x.row.sort 2 q))
        (bytes_set 0 x.depth (omega (arith, room.depth)) (bytes_set 1 (x.row.index + 2) (omega (arith, room.index)) h))
    by false e false q =
        rw (stepped_text s x (eqb-false x.row.sort 1 e) (eqb-false x.row.sort 2 q))
        (bytes_set 0 x.depth (omega (arith, room.depth)) (bytes_set 1 0 (omega arith) child))

-- a state of the walk, or a refusal
record Reached (s : Bytes) : Type 0 where
  fits : StateFits s
  bytes : AreBytes s

start_reached : Reached start_state
unfolding start_state
start_reached = record { fits = start_fits; bytes = record { each = λ i. omega (arith, zeros_read 130 i) } }

module _ (b : Before) (few : b.form.size ≤ 64) (some-few : b.form.attributes ≤ 64) where
  walk_reached : (count : ℕ) (bs s t : Bytes) → Reached s → walk b count bs (some s) ≡ some t → Reached t
  unfolding walk
  walk_reached zero bs s t r e = let z : s ≡ t = cc e in subst Reached z r
  walk_reached (suc count) bs s t r e = by (may_step b s (take (row_size b.width) bs)) refl e (λ u. walk_reached count (drop (row_size b.width) bs) u t)
    where
      row : Bytes
      row = take (row_size b.width) bs

      by : (c : Bool) → may_step b s (take (row_size b.width) bs) ≡ c
          → walk b count (drop (row_size b.width) bs) (elim c [ true ↦ some (stepped s (read_row (take (row_size b.width) bs))) | false ↦ none ]) ≡ some t
          → ((u : Bytes) → Reached u → walk b count (drop (row_size b.width) bs) (some u) ≡ some t → Reached t) → Reached t
      by true q w more =
          let room = came_room b few some-few r.fits (came b s (take (row_size b.width) bs) q) in
          more (stepped s (read_row (take (row_size b.width) bs)))
          (record { fits = stepped_fits s (read_row (take (row_size b.width) bs)) r.fits.long room; bytes = bytes_stepped s (read_row (take (row_size b.width) bs)) room r.bytes }) w
      by false q w more = let z : none ≡ some t = sym (walk_none b count (drop (row_size b.width) bs)) ∙ w in absurd (let y : false ≡ true = cc z in false≢true y)

-- ---- THE THEOREM
module _ (bs : Bytes) where
  abbrev before : Before
  before = before_in (bytes_before bs)

  -- the whole walk, by the state after the first m rows
  split_at : (m n : ℕ) → m + n ≡ row_count bs → walk_answer bs ≡ state_ends before.form (walk before n (rows_left bs m) (state_after bs m))
  unfolding walk_answer verdict answer_from
  split_at m n e =
      let left : drop (row_size before.width * m) (tree_rows_in bs) ≡ rows_left bs m = ap (λ (w : ℕ). drop (row_size w * m) (tree_rows_in bs)) (width_before bs) in
      ap (λ (k : ℕ). state_ends before.form (walk before k (tree_rows_in bs) (some start_state))) (sym e)
      ∙ ap (state_ends before.form) (walk_split before m n (tree_rows_in bs) (some start_state))
      ∙ ap (λ (t : Bytes). state_ends before.form (walk before n t (state_after bs m))) left

  pub one_pass : AreBytes bs → OnePass bs
  one_pass small =
      record {
        check = (
          λ e. let (form, walked, apart) = (check_says (headed (passes_header bs e))).0 e in (passes_header bs e, form, walked, apart),
          λ (h, form, walked, apart). (check_says (headed h)).1 (form, walked, apart),
        );
        state = λ h m s e. let r = walk_reached before (few h).definitions (few h).attributes m (tree_rows_in bs) start_state s start_reached e in (r.fits.long, r.bytes);
        resumes = λ m n e s q. split_at m n e ∙ resumed m n s q;
        refused = λ m n e q.
            split_at m n e
            ∙ ap (λ (o : Option Bytes). state_ends before.form (walk before n (rows_left bs m) o)) q
            ∙ ap (state_ends before.form) (walk_none before n (rows_left bs m));
      }
    where
      headed : header_fits (width_of bs) bs ≡ true → Headed bs
      headed h = record { small = small_of bs small.each; header = h }

      few : header_fits (width_of bs) bs ≡ true → FewIn (bytes_before bs)
      few h = few_before bs (header (headed h)).few_definitions (header (headed h)).few_attributes

      resumed : (m n : ℕ) (s : Bytes) → state_after bs m ≡ some s → state_ends before.form (walk before n (rows_left bs m) (state_after bs m)) ≡ answer_from before s n (rows_left bs m)
      resumed m n s q = ap (λ (o : Option Bytes). state_ends before.form (walk before n (rows_left bs m) o)) q ∙ sym (unfold answer_from in refl)
