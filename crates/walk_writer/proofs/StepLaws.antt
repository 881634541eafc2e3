-- One step of the walk, from what its parts write.
use Prim.Native.Nat.{ℕ, suc, ◌≤◌}
use native.Mathlib.Omega.{arith}
use mathlib.Core.Path.{◌≡◌, refl, ap, ap₂, sym, ◌∙◌}
use mathlib.Core.Bool.{Bool, true, false, not, ◌&&◌, ◌||◌, false≢true}
use mathlib.Core.List.{List, [], ◌∷◌, ◌++◌}
use Rattle.std.specs.Prelude.{None, Some}
use Rattle.rules.specs.Bytes.{Bytes}
use Rattle.rules.specs.Preorder.{Deep}
use Rattle.rules.specs.Layout.{FlatRow}
use Rattle.rules.specs.Decode.{read_row}
use Rattle.row_writer.specs.declared.Cursor.{Cursor}
use Rattle.layout.specs.RowBytes.{valued_row}
use Rattle.row_writer.specs.Written.{Written}
use Rattle.row_writer.proofs.WrittenLaws.{written_none, written_then, written_as}
use Rattle.row_walk.specs.declared.Which.{Which}
use Rattle.row_walk.specs.declared.Which.TheVariants.{Nothing, Everything, Ground, Elements, Attributes, Serial}
use Rattle.row_walk.specs.declared.Later.{Later}
use Rattle.row_walk.specs.declared.Later.TheVariants.{Never, Row, Past, Unmarked}
use Rattle.row_walk.specs.declared.Plan.{Plan}
use Rattle.row_walk.specs.declared.Open.{Open}
use Rattle.row_walk.specs.declared.Head.{Head}
use Rattle.row_walk.specs.Walk.{matches, is_everything, is_later, spared, moved_index, is_set, kept_row, is_below_taken, closes, closed, is_below, is_taken, is_filled}
use Rattle.row_walk.specs.Walk.{after_taken, after_kept, owed, row_depth, emitted, next_open}
use Rattle.row_walk.specs.Step.{row_of_head, valueless, stays_due, kept_with}
use Rattle.walk_writer.specs.Step.{step_rows, step_open, Came, Near, WalkRow, Seen}

-- ---- what is due after a row that opens nothing
pub due_stays : (d b l : Bool) → ((d && b) && l) ≡ false → d ≡ (d && not (b && l))
due_stays false b l e = refl
due_stays true false l e = refl
due_stays true true false e = refl
due_stays true true true e = absurd (false≢true (sym e))

-- what is due ends only where it is due
pub due_ended : (d b l : Bool) → (d && not ((d && b) && l)) ≡ (d && not (b && l))
due_ended true b l = refl
due_ended false b l = refl

pub kept_due : (p : Plan) (o : Open) (h : Head) {d : Bool} {k : Open} → k ≡ kept_with p d o (valueless h) → d ≡ stays_due p o (valueless h) → k ≡ after_kept p o (valueless h)
kept_due p o h e ed = e ∙ ap (λ (d : Bool). kept_with p d o (valueless h)) ed

-- ---- no test looks at a row's value
pub matches_any : (w : Which) (h : Head) (u : Bytes) → matches w (row_of_head h u).row ≡ matches w (valueless h).row
matches_any Nothing h u = refl
matches_any Everything h u = refl
matches_any Ground h u = refl
matches_any (Elements i) h u = refl
matches_any (Attributes j) h u = refl
matches_any (Serial k) h u = refl

later_any : (m : Bytes) (l : Later) (h : Head) (u : Bytes) → is_later m l (row_of_head h u).row ≡ is_later m l (valueless h).row
later_any m Never h u = refl
later_any m (Row k) h u = refl
later_any m (Past j) h u = refl
later_any m Unmarked h u = refl

module _ (p : Plan) (o : Open) (h : Head) (u : Bytes) where
  pub taken_any : is_taken p o (row_of_head h u) ≡ is_taken p o (valueless h)
  taken_any = ap (λ (b : Bool). ((is_everything p.above || is_below o (valueless h)) && b) && not (p.keeps && o.due)) (matches_any p.takes h u)

  pub filled_any : is_filled p o (row_of_head h u) ≡ is_filled p o (valueless h)
  filled_any = ap (λ (b : Bool). (o.due && is_below o (valueless h)) && (b && not (spared p (valueless h).row))) (later_any p.marks p.later h u)

  pub kept_any : after_kept p o (row_of_head h u) ≡ after_kept p o (valueless h)
  kept_any = ap₂ opened (matches_any p.above h u) (later_any p.marks p.later h u)
    where
      opened : Bool → Bool → Open
      opened b f = elim b [
        | true ↦ record { taking = None; below = Some (suc h.depth); due = p.fills }
        | false ↦ record {
          taking = None;
          below = o.below;
          due = o.due && not
              (is_below o (valueless h) && f);
        }
      ]

-- ---- a filling that is due, and one that is not
module _ {w : ℕ} {due : Bool} {c : Cursor} {out : Bytes} where
  pub owed_none : (xs : List (Deep FlatRow)) → due ≡ false → Written w (owed due xs) c out c out
  owed_none xs e = written_as (ap (λ (b : Bool). owed b xs) e) written_none

-- ---- a row that is kept
module _ {w : ℕ} (p : Plan) (v : Bytes) (h : Head) (row : Bytes) (s : Seen w h row) (index : ℕ) (e : index ≡ moved_index p (valueless h).row) where
  moved_as : index ≡ moved_index p (read_row row).row
  moved_as = e ∙ ap (λ (x : Deep FlatRow). moved_index p x.row) s.is

  serial_as : h.serial ≡ (read_row row).row.serial
  serial_as = ap (λ (x : Deep FlatRow). x.row.serial) s.is

  row_as : (b : Bool) → is_set p.set (read_row row).row.serial ≡ b → kept_row p v (read_row row) ≡ valued_row index (elim b [ true ↦ v | false ↦ (read_row row).row.value ]) row
  unfolding kept_row
  row_as b t =
      ap₂ (λ (j : ℕ) (u : Bytes). valued_row j u row) (sym moved_as) (ap (λ (z : Bool). elim z [ true ↦ v | false ↦ (read_row row).row.value ]) t)

  -- b: it gets the value
  pub row_kept : (b : Bool) → b ≡ is_set p.set h.serial → {c r : Cursor} {out out' : Bytes}
      → Written w (valued_row index (elim b [ true ↦ v | false ↦ (read_row row).row.value ]) row ∷ []) c out r out' → Written w (kept_row p v (read_row row) ∷ []) c out r out'
  row_kept b eb x = written_as (ap (λ (x : Deep FlatRow). x ∷ []) (row_as b (ap (is_set p.set) (sym serial_as) ∙ sym eb))) x

pub seen : {w : ℕ} {h : Head} {row : Bytes} → WalkRow w row → row_of_head h (read_row row).row.value ≡ read_row row → Seen w h row
seen r e =
    record {
      is = e;
      old = r.old;
      fair = record { depth = omega (arith, r.depth, ap (λ (x : Deep FlatRow). x.depth) e); index = omega (arith, r.index, ap (λ (x : Deep FlatRow). x.row.index) e) };
    }

-- ---- what comes of a row
module _ {w : ℕ} (p : Plan) (v : Bytes) (fill : ℕ → List (Deep FlatRow)) (o : Open) (h : Head) (row : Bytes) (s : Seen w h row) where
  module _ (b : Bool) (e : b ≡ is_taken p o (valueless h)) where
    is_taken_lem : is_taken p o (read_row row) ≡ b
    is_taken_lem = ap (is_taken p o) (sym s.is) ∙ taken_any p o h (read_row row).row.value ∙ sym e

    pub came_taken : {c : Cursor} {out : Bytes} → b ≡ true → (t : Open) → t ≡ after_taken o (valueless h)
        → Came w (emitted p v fill o (read_row row)) (next_open p v fill o (read_row row)) c out c t out
    unfolding emitted next_open
    came_taken q t g =
        record {
          written = written_as (ap (λ (z : Bool). elim z [ true ↦ [] | false ↦ owed (is_filled p o (read_row row)) (fill (read_row row).depth) ++ kept_row p v (read_row row) ∷ [] ])
              (is_taken_lem ∙ q)) written_none;
          opens = g ∙ ap (after_taken o) s.is ∙ ap (λ (z : Bool). elim z [ true ↦ after_taken o (read_row row) | false ↦ after_kept p o (read_row row) ]) (sym (is_taken_lem ∙ q));
        }

    pub came_kept : {c d r : Cursor} {out out₁ out' : Bytes} → b ≡ false → (f : Bool) → f ≡ is_filled p o (valueless h) → Written w (owed f (fill h.depth)) c out d out₁
        → Written w (kept_row p v (read_row row) ∷ []) d out₁ r out' → (k : Open) → k ≡ after_kept p o (valueless h)
        → Came w (emitted p v fill o (read_row row)) (next_open p v fill o (read_row row)) c out r k out'
    unfolding emitted next_open
    came_kept q f ef w₁ w₂ k g =
        let filled : is_filled p o (read_row row) ≡ f = ap (is_filled p o) (sym s.is) ∙ filled_any p o h (read_row row).row.value ∙ sym ef in
        let deep : (read_row row).depth ≡ h.depth = ap (λ (x : Deep FlatRow). x.depth) (sym s.is) in
        record {
          written =
              written_as
              (ap (λ (z : Bool). elim z [ true ↦ [] | false ↦ owed (is_filled p o (read_row row)) (fill (read_row row).depth) ++ kept_row p v (read_row row) ∷ [] ]) (is_taken_lem ∙ q)
              ∙ ap₂ (λ (z : Bool) (d : ℕ). owed z (fill d) ++ kept_row p v (read_row row) ∷ []) filled deep)
              (written_then w₁ w₂);
          opens = g ∙ sym (kept_any p o h (read_row row).row.value) ∙ ap (after_kept p o) s.is
              ∙ ap (λ (z : Bool). elim z [ true ↦ after_taken o (read_row row) | false ↦ after_kept p o (read_row row) ])
              (sym (is_taken_lem ∙ q));
        }

  module _ (g : Bool) (e : g ≡ is_below_taken o (valueless h)) where
    is_gone : is_below_taken o (read_row row) ≡ g
    is_gone = ap (is_below_taken o) (sym s.is) ∙ sym e

    pub step_gone : {c : Cursor} {out : Bytes} → g ≡ true → Came w (step_rows p v fill o (read_row row)) (step_open p v fill o (read_row row)) c out c o out
    unfolding step_rows step_open
    step_gone q =
        record {
          written = written_as (ap
              (λ (z : Bool). elim z [ true ↦ [] | false ↦ owed (closes o (read_row row) && o.due) (fill (row_depth o)) ++ emitted p v fill (closed o (read_row row)) (read_row row) ])
              (is_gone ∙ q)) written_none;
          opens = ap (λ (z : Bool). elim z [ true ↦ o | false ↦ next_open p v fill (closed o (read_row row)) (read_row row) ]) (sym (is_gone ∙ q));
        }

    pub step_on : {c d r : Cursor} {y' : Open} {out out₁ out' : Bytes} → g ≡ false → (z : Bool) → z ≡ closes o (valueless h) → (k : ℕ) → k ≡ row_depth o → (u : Open) → u ≡ closed o (valueless h)
        → Written w (owed (z && o.due) (fill k)) c out d out₁
        → Came w (emitted p v fill u (read_row row)) (next_open p v fill u (read_row row)) d out₁ r y' out' → Came w (step_rows p v fill o (read_row row)) (step_open p v fill o (read_row row)) c out r y' out'
    unfolding step_rows step_open
    step_on q z ez k ek u eu x m =
        let closing : closes o (read_row row) ≡ z = ap (closes o) (sym s.is) ∙ sym ez in
        let after : closed o (read_row row) ≡ u = ap (closed o) (sym s.is) ∙ sym eu in
        record {
          written =
              written_as
              (ap (λ (b : Bool). elim b [ true ↦ [] | false ↦ owed (closes o (read_row row) && o.due) (fill (row_depth o)) ++ emitted p v fill (closed o (read_row row)) (read_row row) ]) (is_gone ∙ q)
              ∙ ap₂ (λ (b : Bool) (y : Open). owed (b && o.due) (fill (row_depth o)) ++ emitted p v fill y (read_row row)) closing after
              ∙ ap (λ (i : ℕ). owed (z && o.due) (fill i) ++ emitted p v fill u (read_row row)) (sym ek))
              (written_then x m.written);
          opens = m.opens ∙ ap (λ (y : Open). next_open p v fill y (read_row row)) (sym after) ∙ ap
              (λ (b : Bool). elim b [ true ↦ o | false ↦ next_open p v fill (closed o (read_row row)) (read_row row) ]) (sym (is_gone ∙ q));
        }

-- ---- how deep the open row stands
pub near_if : (b : Bool) {x y : Open} → Near x → Near y → Near (elim b [ true ↦ x | false ↦ y ])
near_if true nx ny = nx
near_if false nx ny = ny

module _ (p : Plan) (v : Bytes) (fill : ℕ → List (Deep FlatRow)) (o : Open) (x : Deep FlatRow) (n : Near o) where
  near_closed : Near (closed o x)
  near_closed = near_if (closes o x) (record { below = omega arith }) (record { below = n.below })

  near_onward : x.depth ≤ 80 → Near (next_open p v fill o x)
  unfolding next_open
  near_onward l =
      near_if (is_taken p o x)
      (record { below = n.below })
      (near_if (matches p.above x.row) (record { below = omega arith }) (record { below = n.below }))

pub near_step : (p : Plan) (v : Bytes) (fill : ℕ → List (Deep FlatRow)) (o : Open) (x : Deep FlatRow) → Near o → x.depth ≤ 80 → Near (step_open p v fill o x)
unfolding step_open
near_step p v fill o x n l = near_if (is_below_taken o x) n (near_onward p v fill (closed o x) x (near_closed p v fill o x n) l)
