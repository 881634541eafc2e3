-- A loop over records that looks for one that passes a test.
use Prim.Native.Nat.{ℕ, ◌+◌, ◌*◌, ◌<◌, ◌≤◌}
use mathlib.Core.Path.{◌≡◌, sym, ap, ◌∙◌}
use mathlib.Core.Bool.{Bool, true, false, ◌||◌}
use lib.ListN.{take, drop}
use Rattle.rules.specs.Bytes.{Bytes, any}
use Rattle.rules.specs.Decode.{read_many}
use Rattle.lookup.specs.Bodies.{records_from}
use Rattle.lookup.proofs.Laws.{from_step, from_none, from_all}

-- the records from number i on are left
pub record Searching {A : Type 0} (f : Bytes → A) (size : ℕ) (test : A → Bool) (body : Bytes) (count i : ℕ) : Type 0 where
  pub rest : any test (read_many f size count body) ≡ any test (records_from f size body count i)

module _ {A : Type 0} (f : Bytes → A) (size : ℕ) (test : A → Bool) (body : Bytes) (count : ℕ) where
  pub searching_start : Searching f size test body count 0
  searching_start = record { rest = ap (any test) (sym (from_all f size body count 0)) }

  module _ (i : ℕ) (inv : Searching f size test body count i) where
    module _ (h : i < count) {r : Bool} (e : r ≡ test (f (take size (drop (size * i) body)))) where
      abbrev later : Bool
      later = any test (records_from f size body count (i + 1))

      here : any test (read_many f size count body) ≡ (r || later)
      here = inv.rest ∙ ap (any test) (from_step f size body count i h) ∙ ap (λ (b : Bool). b || later) (sym e)

      pub searching_hit : r ≡ true → true ≡ any test (read_many f size count body)
      searching_hit q = sym (here ∙ ap (λ (b : Bool). b || later) q)

      pub searching_on : r ≡ false → Searching f size test body count (i + 1)
      searching_on q = record { rest = here ∙ ap (λ (b : Bool). b || later) q }

    pub searching_end : count ≤ i → false ≡ any test (read_many f size count body)
    searching_end h = sym (inv.rest ∙ ap (any test) (from_none f size body count i h))
