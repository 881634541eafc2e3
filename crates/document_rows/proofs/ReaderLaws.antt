-- What is read right below a row of a store.
use Prim.Native.Nat.{ℕ, ◌-◌}
use borrow.Author.Tests.{eq-eqb, ne_eqb}
use mathlib.Core.Path.{◌≡◌, ap, ◌∙◌}
use mathlib.Core.Bool.{Bool, true, not}
use mathlib.Core.List.{List, map}
use lib.Dec.{eqb}
use Rattle.rules.specs.Bytes.{Bytes}
use Rattle.rules.specs.Layout.{FlatRow}
use Rattle.rules.specs.Model.{Members}
use Rattle.rules.specs.Lines.{serial_at}
use Rattle.model.specs.Steps.{runs}
use Rattle.document_rows.specs.Finding.{children_at, children_below, model_at, fits_at, has_place, serial_in, word}
use Rattle.layout.specs.Rows.{RowsIn}
use Rattle.layout.specs.declared.rows.Rows.{Rows}

pub children_read : (bs : Bytes) (s i : ℕ) {r : Rows} → RowsIn bs r → children_below r.width r.bytes.now r.count s i ≡ children_at bs s i
children_read bs s i e = λ j. children_below (e.width j) (e.bytes j) (e.count j) s i

pub fits_read : (bs : Bytes) (i p new skip : ℕ) {ms : Members ℕ} {rs : List FlatRow} → ms ≡ model_at bs i → rs ≡ children_at bs 1 i
    → {b : Bool} → b ≡ runs ms 0 (word p new skip rs) → b ≡ fits_at bs i p new skip
unfolding fits_at
fits_read bs i p new skip m c q = q ∙ (λ j. runs (m j) 0 (word p new skip (c j)))

pub place_none : (bs : Bytes) (i n : ℕ) → n ≡ 0 → true ≡ has_place bs i n
unfolding has_place
place_none bs i n e = rw (eq-eqb n 0 e, has_place)

pub place_some : (bs : Bytes) (i n : ℕ) → (n ≡ 0 → ⊥) → {r : ℕ} → r ≡ serial_at (n - 1) (map serial_in (children_at bs 1 i)) → not (eqb r 0) ≡ has_place bs i n
unfolding has_place
place_some bs i n f {r} e = ap (λ (z : ℕ). not (eqb z 0)) e ∙ rw (ne_eqb n 0 f, has_place)
