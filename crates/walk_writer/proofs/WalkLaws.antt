-- The walk from row to row: once what is left is written, all is.
use Prim.Native.Nat.{ℕ, zero, suc, ◌+◌, ◌*◌, ◌-◌, ◌≤◌, ◌<◌}
use native.Mathlib.Omega.{arith}
use native.Mathlib.Nat.{mul-zero, mul-suc}
use native.Mathlib.Numerals.{add-one, sub-one}
use mathlib.Core.Path.{◌≡◌, refl, ap, ap₂, sym, subst, ◌∙◌}
use mathlib.Core.Bool.{Bool, true, false, ◌&&◌}
use mathlib.Core.List.{List, [], ◌∷◌, ◌++◌, append_assoc}
use lib.ListN.{length, take, drop, length-drop, take-append-drop}
use lib.Seq.{drop-drop}
use Rattle.rules.specs.Bytes.{Bytes}
use Rattle.rules.specs.Preorder.{Deep}
use Rattle.rules.specs.Layout.{FlatRow, row_size}
use Rattle.rules.specs.Decode.{read_row, read_many}
use Rattle.codec.proofs.Records.{many_take, many_drop}
use Rattle.layout.proofs.RowLaws.{size_more}
use Rattle.row_writer.specs.declared.Cursor.{Cursor}
use Rattle.row_writer.specs.Written.{Written, Room, OldRows}
use Rattle.row_writer.proofs.WrittenLaws.{written_stop, written_then, written_as}
use Rattle.row_writer.proofs.BlockLaws.{size_split}
use Rattle.row_walk.specs.declared.Plan.{Plan}
use Rattle.row_walk.specs.declared.Open.{Open}
use Rattle.walk_writer.specs.declared.Run.{Run}
use Rattle.row_walk.specs.Walk.{is_below_taken, closes, closed, owed, row_depth, emitted, next_open, walked, at_first, names_ground}
use Rattle.walk_writer.specs.Step.{step_rows, step_open, Came, Near, WalkRow, WalkRows, PlainRows, WalkOn, Advances}
use Rattle.walk_writer.proofs.StepLaws.{near_if, near_step}

-- ---- rows
module _ (w : ℕ) where
  pub rows_first : (m : ℕ) (t : Bytes) → 0 < m → WalkRows w m t → WalkRow w (take (row_size w) t)
  unfolding WalkRows
  rows_first zero t h x = absurd (omega arith)
  rows_first (suc m) t h x = x.0

  pub rows_rest : (m : ℕ) (t : Bytes) → 0 < m → WalkRows w m t → WalkRows w (m - 1) (drop (row_size w) t)
  unfolding WalkRows
  rows_rest zero t h x = absurd (omega arith)
  rows_rest (suc m) t h x = rw sub-one x.1

  rows_as : (i j : ℕ) (s t : Bytes) → i ≡ j → s ≡ t → WalkRows w j t → WalkRows w i s
  rows_as i j s t e f x = rw (e, f) x

  -- after the first k
  rows_after_lem : (k m : ℕ) (t : Bytes) → k ≤ m → WalkRows w m t → WalkRows w (m - k) (drop (row_size w * k) t)
  unfolding WalkRows
  rows_after_lem zero m t h x = rows_as (m - 0) m (drop (row_size w * 0) t) t (omega arith) (ap (λ (n : ℕ). drop n t) (mul-zero (row_size w))) x
  rows_after_lem (suc k) zero t h x = absurd (omega arith)
  rows_after_lem (suc k) (suc m) t h x =
      let n : row_size w * suc k ≡ row_size w + row_size w * k = omega (arith, mul-suc (row_size w) k) in
      rows_as (suc m - suc k) (m - k) (drop (row_size w * suc k) t) (drop (row_size w * k) (drop (row_size w) t)) (omega arith)
      (ap (λ (i : ℕ). drop i t) n ∙ sym (drop-drop (row_size w * k) (row_size w) t)) (rows_after_lem k m (drop (row_size w) t) (omega arith) x.1)

  -- the bytes of the row after them
  row_after : (k : ℕ) (t : Bytes) {size start : ℕ} {row : Bytes} → size ≡ row_size w → start ≡ size * k → row ≡ take size (drop start t)
      → row ≡ take (row_size w) (drop (row_size w * k) t)
  row_after k t es ea er = er ∙ ap₂ (λ (i j : ℕ). take i (drop j t)) es (ea ∙ ap (λ (i : ℕ). i * k) es)

  pub rows_at : (k m : ℕ) (t : Bytes) → k < m → WalkRows w m t → {size start : ℕ} {row : Bytes} → size ≡ row_size w → start ≡ size * k → row ≡ take size (drop start t) → WalkRow w row
  rows_at k m t h x es ea er = rw (row_after k t es ea er) (rows_first (m - k) (drop (row_size w * k) t) (omega arith) (rows_after_lem k m t (omega arith) x))

  -- the first k
  pub rows_within : (k m : ℕ) (t : Bytes) → k ≤ m → WalkRows w m t → WalkRows w k t
  unfolding WalkRows
  rows_within zero m t h x = tt
  rows_within (suc k) zero t h x = absurd (omega arith)
  rows_within (suc k) (suc m) t h x = (x.0, rows_within k m (drop (row_size w) t) (omega arith) x.1)

  pub rows_old : (k : ℕ) (t : Bytes) → WalkRows w k t → OldRows w k t
  unfolding WalkRows OldRows
  rows_old zero t x = tt
  rows_old (suc k) t x = (x.0.old, rows_old k (drop (row_size w) t) x.1)

  rows_split : (k m : ℕ) (t : Bytes) → k ≤ m
      → read_many read_row (row_size w) m t ≡ read_many read_row (row_size w) k t ++ read_many read_row (row_size w) (m - k) (drop (row_size w * k) t)
  rows_split k m t h =
      sym (take-append-drop k (read_many read_row (row_size w) m t))
      ∙ ap₂ (λ (xs ys : List (Deep FlatRow)). xs ++ ys) (many_take read_row (row_size w) k m t h) (many_drop read_row (row_size w) k m t)

  pub rows_step : (m : ℕ) (t : Bytes) → 0 < m → read_many read_row (row_size w) m t ≡ read_row (take (row_size w) t) ∷ read_many read_row (row_size w) (m - 1) (drop (row_size w) t)
  rows_step zero t h = absurd (omega arith)
  rows_step (suc m) t h = rw sub-one

module _ (p : Plan) (v : Bytes) (fill : ℕ → List (Deep FlatRow)) where
  pub walked_cons : (o : Open) (x : Deep FlatRow) (xs : List (Deep FlatRow)) → walked p v fill o (x ∷ xs) ≡ step_rows p v fill o x ++ walked p v fill (step_open p v fill o x) xs
  unfolding walked step_rows step_open
  walked_cons o x xs = by (is_below_taken o x)
    where
      by : (b : Bool) → elim b [
        | true ↦ walked p v fill o xs
        | false ↦ owed (closes o x && o.due) (fill (row_depth o)) ++
            (emitted p v fill (closed o x) x ++ walked p v fill (next_open p v fill (closed o x) x) xs)
      ]
          ≡ elim b [ true ↦ [] | false ↦ owed (closes o x && o.due) (fill (row_depth o)) ++ emitted p v fill (closed o x) x ] ++ walked p v fill
          (elim b [ true ↦ o | false ↦ next_open p v fill (closed o x) x ]) xs
      by true = refl
      by false = sym (append_assoc (owed (closes o x && o.due) (fill (row_depth o))) (emitted p v fill (closed o x) x) (walked p v fill (next_open p v fill (closed o x) x) xs))

  pub walked_none : (o : Open) → walked p v fill o [] ≡ owed o.due (fill (row_depth o))
  unfolding walked
  walked_none o = refl

-- ---- the loop
near_first : (p : Plan) → Near (at_first p)
near_first p = near_if (names_ground p.above) (record { below = omega arith }) (record { below = omega arith })

module _ {w : ℕ} {p : Plan} {v : Bytes} {fill : ℕ → List (Deep FlatRow)} where
  pub going_start : {c : Cursor} {out t : Bytes} {m : ℕ} {o : Open} → WalkRows w m t → row_size w * m ≤ length t → Room w c → o ≡ at_first p
      → WalkOn w p v fill (walked p v fill (at_first p) (read_many read_row (row_size w) m t)) c out t m c o out
  going_start {t = t} {m = m} x h r e = record {
    goes = λ r' out'' k. written_as (ap (λ (z : Open). walked p v fill z (read_many read_row (row_size w) m t)) (sym e)) k;
    near = rw e (near_first p);
    room = r;
    rows = x;
    size = h;
    long = refl;
  }

  going_as : {whole : List (Deep FlatRow)} {c at : Cursor} {out t t₁ out' : Bytes} {m m₁ : ℕ} {o : Open} → t ≡ t₁ → m ≡ m₁ → WalkOn w p v fill whole c out t m at o out'
      → WalkOn w p v fill whole c out t₁ m₁ at o out'
  going_as et em g = rw (← et, ← em) g

  module _ {whole : List (Deep FlatRow)} {c : Cursor} {out t : Bytes} {m : ℕ} {at : Cursor} {o : Open} {out' : Bytes} (g : WalkOn w p v fill whole c out t m at o out') where
    pub going_stop : at.left ≡ 0 → Written w whole c out at out'
    going_stop e = g.goes at out' (written_stop e)

    pub going_step : 0 < m → {r : Cursor} {o₁ : Open} {out₁ : Bytes} → Came w (step_rows p v fill o (read_row (take (row_size w) t))) (step_open p v fill o (read_row (take (row_size w) t))) at out' r o₁ out₁
        → WalkOn w p v fill whole c out (drop (row_size w) t) (m - 1) r o₁ out₁
    going_step h y =
        record {
          goes = λ r' out'' z. g.goes r' out''
              (written_as (after ∙ ap (λ (u : Open). step_rows p v fill o (read_row (take (row_size w) t)) ++ walked p v fill u (read_many read_row (row_size w) (m - 1) (drop (row_size w) t)))
              (sym y.opens)) (written_then y.written z));
          near = rw y.opens (near_step p v fill o (read_row (take (row_size w) t)) g.near (rows_first w m t h g.rows).depth);
          room = y.written.room g.room;
          rows = rows_rest w m t h g.rows;
          size = omega (arith, g.size, length-drop (row_size w) t, size_more (row_size w) m (λ e. omega arith));
          long = y.written.long ∙ g.long;
        }
      where
        after : walked p v fill o (read_many read_row (row_size w) m t) ≡ step_rows p v fill o (read_row (take (row_size w) t)) ++ walked p v fill
            (step_open p v fill o (read_row (take (row_size w) t))) (read_many read_row (row_size w) (m - 1) (drop (row_size w) t))
        after = ap (walked p v fill o) (rows_step w m t h) ∙ walked_cons p v fill o (read_row (take (row_size w) t)) (read_many read_row (row_size w) (m - 1) (drop (row_size w) t))

    pub going_end : m ≡ 0 → (k : ℕ) → k ≡ row_depth o → {r : Cursor} {out'' : Bytes} → Written w (owed o.due (fill k)) at out' r out'' → Written w whole c out r out''
    going_end e k ek {r} {out''} x =
        g.goes r out'' (written_as (ap (λ (n : ℕ). walked p v fill o (read_many read_row (row_size w) n t)) e ∙ walked_none p v fill o ∙ ap (λ (n : ℕ). owed o.due (fill n)) (sym ek)) x)

-- ---- a block, and the row after it
module _ {w : ℕ} {p : Plan} {v : Bytes} {fill : ℕ → List (Deep FlatRow)} {t : Bytes} {m most : ℕ} {o : Open} {c at : Cursor} {out out₁ : Bytes} {run : Run}
    (b : PlainRows w p t most o run) (x : WalkRows w m t) (h : row_size w * m ≤ length t) (r : Room w c) (l : most ≤ m)
    (y : Written w (read_many read_row (row_size w) run.count t) c out at out₁) where
  -- after the block
  going_block : WalkOn w p v fill (walked p v fill o (read_many read_row (row_size w) m t)) c out (drop (row_size w * run.count) t) (m - run.count) at run.opened out₁
  going_block =
      let k : run.count ≤ m = omega (arith, b.few) in
      let left : List (Deep FlatRow) = read_many read_row (row_size w) (m - run.count) (drop (row_size w * run.count) t) in
      record {
        goes = λ r' out'' z. written_as (ap (walked p v fill o) (rows_split w run.count m t k) ∙ b.same v fill left) (written_then y z);
        near = b.near;
        room = y.room r;
        rows = rows_after_lem w run.count m t k x;
        size = omega (arith, length-drop (row_size w * run.count) t, size_split (row_size w) run.count m k);
        long = y.long;
      }

  -- all that may be written stay as they are
  pub passes_block : 0 < most → most ≤ c.left → run.count ≡ most → Advances w p v fill t m o c out at run out₁
  passes_block s z e = record { further = omega (arith, e); few = omega (arith, l, e); within = omega (arith, z, e); going = going_block }

  -- the row after the block
  pub passes_row : most ≤ c.left → (run.count ≡ most → ⊥) → {size start : ℕ} {row : Bytes} → size ≡ row_size w → start ≡ size * run.count → row ≡ take size (drop start t)
      → {r₂ : Cursor} {o₂ : Open} {out₂ : Bytes} → Came w (step_rows p v fill run.opened (read_row row)) (step_open p v fill run.opened (read_row row)) at out₁ r₂ o₂ out₂
      → Advances w p v fill t m o c out r₂ (record { count = run.count + 1; opened = o₂ }) out₂
  passes_row z e es ea er {r₂} {o₂} {out₂} q =
      let is = row_after w run.count t es ea er in
      let came = subst (λ (i : Bytes). Came w (step_rows p v fill run.opened (read_row i)) (step_open p v fill run.opened (read_row i)) at out₁ r₂ o₂ out₂) is q in
      let long : row_size w * run.count + row_size w ≡ row_size w * (run.count + 1) = sym (ap (λ (i : ℕ). row_size w * i) (add-one run.count) ∙ mul-suc (row_size w) run.count) in
      let rest : m - run.count - 1 ≡ m - (run.count + 1) = omega arith in
      record {
        further = omega arith;
        few = omega (arith, b.few);
        within = omega (arith, b.few);
        going = going_as (drop-drop (row_size w) (row_size w * run.count) t ∙ ap (λ (i : ℕ). drop i t) long) rest (going_step going_block (omega (arith, b.few)) came);
      }
