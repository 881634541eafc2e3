-- Rows that stay as they are.
use Prim.Native.Nat.{ℕ, suc, ◌+◌, ◌*◌, ◌-◌, ◌≤◌, ◌<◌}
use native.Mathlib.Omega.{arith}
use mathlib.Core.Path.{◌≡◌, refl, ap, ap₂, sym, subst, ◌∙◌}
use mathlib.Core.Bool.{Bool, true, false, not, ◌&&◌, ◌||◌, false≢true}
use mathlib.Core.List.{List, [], ◌∷◌, ◌++◌}
use lib.Dec.{eqb}
use lib.ListN.{length, take, drop, length-drop}
use Rattle.rules.specs.Bytes.{Bytes, eqb_eq}
use Rattle.rules.specs.Preorder.{Deep}
use Rattle.rules.specs.Layout.{FlatRow, row_size}
use Rattle.rules.specs.Decode.{read_row, read_many}
use Rattle.codec.proofs.Writers.{tail_seen}
use Rattle.layout.proofs.RowLaws.{size_more}
use Rattle.row_walk.specs.declared.Plan.{Plan}
use Rattle.row_walk.specs.declared.Open.{Open}
use Rattle.row_walk.specs.declared.Head.{Head}
use Rattle.row_walk.specs.Walk.{is_later, spared, moved_index, is_set, kept_row, is_below_taken, closes, closed, is_below, is_taken, is_filled, after_taken, after_kept, owed, row_depth, emitted, next_open, walked}
use Rattle.row_walk.specs.Step.{row_of_head, valueless, kept_with, ends_due, is_plain, Fair}
use Rattle.walk_writer.specs.Step.{step_rows, step_open, Near, WalkRow, WalkRows, PlainRows}
use Rattle.walk_writer.proofs.StepLaws.{due_stays, taken_any, filled_any, kept_any, seen, near_step}
use Rattle.walk_writer.proofs.WalkLaws.{rows_first, rows_rest, walked_cons}

-- ---- one row
record Plain (p : Plan) (o : Open) (h : Head) : Type 0 where
  pub stands : is_below_taken o (valueless h) ≡ false
  pub closing : (closes o (valueless h) && o.due) ≡ false
  pub due : ends_due p (closed o (valueless h)) (valueless h) ≡ false
  pub stays : is_taken p (closed o (valueless h)) (valueless h) ≡ false
  pub index : moved_index p (valueless h).row ≡ h.index
  pub value : is_set p.set h.serial ≡ false

plain_split : (g c d t i s : Bool) → ((not g && not (c || d)) && (not t && (i && not s))) ≡ true
    → (g ≡ false) × (c ≡ false) × (d ≡ false) × (t ≡ false) × (i ≡ true) × (s ≡ false)
plain_split true c d t i s e = absurd (false≢true e)
plain_split false true d t i s e = absurd (false≢true e)
plain_split false false true t i s e = absurd (false≢true e)
plain_split false false false true i s e = absurd (false≢true e)
plain_split false false false false false s e = absurd (false≢true e)
plain_split false false false false true true e = absurd (false≢true e)
plain_split false false false false true false e = (refl, refl, refl, refl, refl, refl)

plain_of : (p : Plan) (o : Open) (h : Head) → is_plain p o (valueless h) ≡ true → Plain p o h
unfolding is_plain
plain_of p o h e =
    let after-closing = closed o (valueless h) in
    let (g, c, d, t, i, s) = plain_split (is_below_taken o (valueless h)) (closes o (valueless h) && o.due) (ends_due p after-closing (valueless h)) (is_taken p after-closing (valueless h))
    (eqb (moved_index p (valueless h).row) h.index) (is_set p.set h.serial) e in
    record { stands = g; closing = c; due = d; stays = t; index = eqb_eq (moved_index p (valueless h).row) h.index i; value = s }

-- no filling comes before a row that does not end what is due
none_before : (a l s : Bool) → (a && l) ≡ false → (a && (l && s)) ≡ false
none_before false l s e = refl
none_before true false s e = refl
none_before true true s e = absurd (false≢true (sym e))

module _ (p : Plan) (v : Bytes) (fill : ℕ → List (Deep FlatRow)) (o : Open) (h : Head) (u : Bytes) (e : Plain p o h) where
  kept_same : kept_row p v (row_of_head h u) ≡ row_of_head h u
  unfolding kept_row
  kept_same =
      ap₂ (λ (i : ℕ) (y : Bytes). row_of_head (record { depth = h.depth; sort = h.sort; index = i; serial = h.serial }) y) e.index
      (ap (λ (b : Bool). elim b as (λ z. Bytes) [ true ↦ v | false ↦ u ]) e.value)

  none_filled : is_filled p (closed o (valueless h)) (row_of_head h u) ≡ false
  none_filled =
      filled_any p (closed o (valueless h)) h u
      ∙ none_before ((closed o (valueless h)).due && is_below (closed o (valueless h)) (valueless h)) (is_later p.marks p.later (valueless h).row) (not (spared p (valueless h).row)) e.due

  emitted_same : emitted p v fill (closed o (valueless h)) (row_of_head h u) ≡ row_of_head h u ∷ []
  unfolding emitted
  emitted_same =
      ap
      (λ (b : Bool). elim b as (λ z. List (Deep FlatRow)) [
        | true ↦ []
        | false ↦ owed (is_filled p (closed o (valueless h)) (row_of_head h u)) (fill h.depth) ++ kept_row p v (row_of_head h u) ∷ []
      ])
      (taken_any p (closed o (valueless h)) h u ∙ e.stays)
      ∙ ap (λ (b : Bool). owed b (fill h.depth) ++ kept_row p v (row_of_head h u) ∷ []) none_filled
      ∙ ap (λ (x : Deep FlatRow). x ∷ []) kept_same

  rows_same : step_rows p v fill o (row_of_head h u) ≡ row_of_head h u ∷ []
  unfolding step_rows
  rows_same =
      ap
      (λ (b : Bool). elim b as (λ z. List (Deep FlatRow)) [
        | true ↦ []
        | false ↦ owed (closes o (valueless h) && o.due) (fill (row_depth o)) ++ emitted p v fill (closed o (valueless h)) (row_of_head h u)
      ])
      e.stands
      ∙ ap (λ (b : Bool). owed b (fill (row_depth o)) ++ emitted p v fill (closed o (valueless h)) (row_of_head h u)) e.closing
      ∙ emitted_same

  open_same : step_open p v fill o (row_of_head h u) ≡ kept_with p (closed o (valueless h)).due (closed o (valueless h)) (valueless h)
  unfolding step_open next_open
  open_same =
      ap (λ (b : Bool). elim b as (λ z. Open) [ true ↦ o | false ↦ next_open p v fill (closed o (valueless h)) (row_of_head h u) ]) e.stands
      ∙ ap (λ (b : Bool). elim b as (λ z. Open) [ true ↦ after_taken (closed o (valueless h)) (row_of_head h u) | false ↦ after_kept p (closed o (valueless h)) (row_of_head h u) ])
      (taken_any p (closed o (valueless h)) h u ∙ e.stays)
      ∙ kept_any p (closed o (valueless h)) h u
      ∙ ap (λ (d : Bool). kept_with p d (closed o (valueless h)) (valueless h))
      (sym (due_stays (closed o (valueless h)).due (is_below (closed o (valueless h)) (valueless h)) (is_later p.marks p.later (valueless h).row) e.due))

-- ---- rows
module _ (w : ℕ) (p : Plan) where
  plain_none : (t : Bytes) (m : ℕ) (o : Open) → Near o → PlainRows w p t m o (record { count = 0; opened = o })
  plain_none t m o n = record { few = omega arith; near = n; same = λ v fill xs. refl }

  module _ (t : Bytes) (m : ℕ) (o : Open) (h : Head) (is : row_of_head h (read_row (take (row_size w) t)).row.value ≡ read_row (take (row_size w) t))
      (e : is_plain p o (valueless h) ≡ true) (o' : Open) (eo : o' ≡ kept_with p (closed o (valueless h)).due (closed o (valueless h)) (valueless h)) where
    module _ (v : Bytes) (fill : ℕ → List (Deep FlatRow)) where
      plain : Plain p o h
      plain = plain_of p o h e

      row_same : step_rows p v fill o (read_row (take (row_size w) t)) ≡ read_row (take (row_size w) t) ∷ []
      row_same =
          subst (λ (x : Deep FlatRow). step_rows p v fill o x ≡ x ∷ []) is
          (rows_same p v fill o h (read_row (take (row_size w) t)).row.value plain)

      row_opens : step_open p v fill o (read_row (take (row_size w) t)) ≡ o'
      row_opens =
          ap (step_open p v fill o) (sym is)
          ∙ open_same p v fill o h (read_row (take (row_size w) t)).row.value plain
          ∙ sym eo

    plain_more : 0 < m → (k : ℕ) (u : Open) → PlainRows w p (drop (row_size w) t) (m - 1) o' (record { count = k; opened = u }) → PlainRows w p t m o (record { count = suc k; opened = u })
    plain_more l k u r =
        record {
          few = omega (arith, r.few);
          near = r.near;
          same = λ v fill xs.
              let x = read_row (take (row_size w) t) in
              let ys = read_many read_row (row_size w) k (drop (row_size w) t) in
              walked_cons p v fill o x (ys ++ xs)
              ∙ ap₂ (λ (l : List (Deep FlatRow)) (z : Open). l ++ walked p v fill z (ys ++ xs)) (row_same v fill) (row_opens v fill)
              ∙ ap (λ (l : List (Deep FlatRow)). x ∷ l) (r.same v fill xs);
        }

    plain_near : Near o → (read_row (take (row_size w) t)).depth ≤ 80 → Near o'
    plain_near n d = subst Near (row_opens [] (λ i. [])) (near_step p [] (λ i. []) o (read_row (take (row_size w) t)) n d)

-- ---- the loop
-- before each row: if the first k of the m rows that are left stay as they are, so do those before them and those k
pub record Staying (w : ℕ) (p : Plan) (rows : Bytes) (most : ℕ) (o : Open) (t : Bytes) (m : ℕ) (q : Open) : Type 0 where
  pub goes : (k : ℕ) (u : Open) → PlainRows w p t m q (record { count = k; opened = u }) → PlainRows w p rows most o (record { count = most - m + k; opened = u })
  pub near : Near q
  pub old : WalkRows w m t
  pub size : row_size w * m ≤ length t
  pub few : m ≤ most

module _ {w : ℕ} {p : Plan} where
  recount : {rows : Bytes} {most : ℕ} {o u : Open} (i j : ℕ) → i ≡ j → PlainRows w p rows most o (record { count = i; opened = u }) → PlainRows w p rows most o (record { count = j; opened = u })
  recount {rows} {most} {o} {u} i j e x = subst (λ (n : ℕ). PlainRows w p rows most o (record { count = n; opened = u })) e x

  module _ {rows : Bytes} {most : ℕ} {o : Open} {t : Bytes} {m : ℕ} {q : Open} (g : Staying w p rows most o t m q) where
    pub staying_end : (n : ℕ) → n ≡ most - m → PlainRows w p rows most o (record { count = n; opened = q })
    staying_end n e = recount (most - m + 0) n (omega arith) (g.goes 0 q (plain_none w p t m q g.near))

    -- .. and a row of an old store
    pub staying_fair : 0 < m → (k : ℕ) → k ≡ row_size w → {h : Head} → row_of_head h (read_row (take k t)).row.value ≡ read_row (take k t) → Fair h
    staying_fair l k e is = (seen (subst (λ (i : ℕ). WalkRow w (take i t)) (sym e) (rows_first w m t l g.old)) is).fair

    pub staying_step : 0 < m → (k : ℕ) → k ≡ row_size w → {h : Head} → row_of_head h (read_row (take k t)).row.value ≡ read_row (take k t) → is_plain p q (valueless h) ≡ true → {u q' : Open}
        → u ≡ closed q (valueless h) → q' ≡ kept_with p u.due u (valueless h)
        → Staying w p rows most o (take (length t - k) (drop k t)) (m - 1) q'
    staying_step l k ek {h} is e {u} {q'} eu eq = rw (tail_seen t k, ek) (went (rw ek at is))
      where
        opens : q' ≡ kept_with p (closed q (valueless h)).due (closed q (valueless h)) (valueless h)
        opens = eq ∙ ap (λ (z : Open). kept_with p z.due z (valueless h)) eu

        went : row_of_head h (read_row (take (row_size w) t)).row.value ≡ read_row (take (row_size w) t) → Staying w p rows most o (drop (row_size w) t) (m - 1) q'
        went is =
            record {
              goes = λ j u r. recount (most - m + suc j) (most - (m - 1) + j) (omega (arith, g.few)) (g.goes (suc j) u (plain_more w p t m q h is e q' opens l j u r));
              near = plain_near w p t m q h is e q' opens g.near (rows_first w m t l g.old).depth;
              old = rows_rest w m t l g.old;
              size = omega (arith, g.size, length-drop (row_size w) t, size_more (row_size w) m (λ i. omega arith));
              few = omega (arith, g.few);
            }
