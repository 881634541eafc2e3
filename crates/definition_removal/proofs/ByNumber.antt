-- A search among records, by their numbers.
use Prim.Native.Nat.{ℕ, zero, suc, ◌+◌, ◌*◌}
use native.Mathlib.Nat.{mul-zero}
use mathlib.Core.Path.{◌≡◌, refl, sym, ap, ◌∙◌}
use mathlib.Core.Bool.{Bool, ◌||◌}
use lib.ListN.{drop}
use lib.Seq.{drop-drop}
use native.Mathlib.Omega.{arith}
use Rattle.std.specs.List.{list_any, range_with_len}
use Rattle.rules.specs.Bytes.{Bytes, any}
use Rattle.rules.specs.Decode.{read_many}
use Rattle.layout.specs.Bodies.{record_at}

module _ {A : Type 0} (f : Bytes → A) (size : ℕ) (test : A → Bool) (body : Bytes) where
  -- whether record i passes
  abbrev pub passes_at : ℕ → Bool
  passes_at i = test (f (record_at size i body))

  some_from : (n i : ℕ) → list_any passes_at (range_with_len i n) ≡ any test (read_many f size n (drop (size * i) body))
  some_from zero i = refl
  some_from (suc n) i =
      let z : size * i + size ≡ size * (i + 1) = omega arith in
      let later : drop (size * (i + 1)) body ≡ drop size (drop (size * i) body) = sym (drop-drop size (size * i) body ∙ ap (λ (k : ℕ). drop k body) z) in
      ap (λ (b : Bool). passes_at i || b) (some_from n (i + 1) ∙ ap (λ (s : Bytes). any test (read_many f size n s)) later)

  pub some_passes : (n : ℕ) → list_any passes_at (range_with_len 0 n) ≡ any test (read_many f size n body)
  some_passes n = some_from n 0 ∙ ap (λ (k : ℕ). any test (read_many f size n (drop k body))) (mul-zero size)
