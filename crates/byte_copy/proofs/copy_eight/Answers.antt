-- `byte_copy::copy_eight` meets its contract: the eight places of `out` get the eight bytes of `src`, and those before
-- and after them stay (`sets-eq` of Seq).
use mathlib.Core.Path.{◌≡◌, sym, ap, ap₂, ◌∙◌}
use mathlib.Core.List.{List, ◌++◌, append_assoc}
use Prim.Native.Nat.{ℕ, ◌+◌, ◌-◌}
use native.Mathlib.Omega.{arith}
use lib.ListN.{length, take, drop, length-drop}
use lib.Seq.{sets-eq, drop-drop, length-take-le}
use Rattle.byte_copy.proofs.copy_eight.Goals as goal

pub returns : goal.returns
returns c =
    let i = c.args.i in
    let src = c.args.src.now in
    let out = c.args.out.now in
    let k : i + 8 - i ≡ 8 = omega arith in
    let n : length (take 8 (drop i src)) ≡ 8 = length-take-le 8 (drop i src) (omega (arith, length-drop i src)) in
    ap₂ (λ (x y : List ℕ). take i out ++ (x ++ y))
    (c.copy_from_slice.ensures.after ∙ ap (λ (j : ℕ). take j (drop i src)) k)
    (ap (λ (j : ℕ). drop j (drop i out)) k ∙ drop-drop 8 i out ∙ ap (λ (j : ℕ). drop (i + j) out) (sym n))
    ∙ sym (append_assoc (take i out) (take 8 (drop i src)) (drop (i + length (take 8 (drop i src))) out)) ∙ sym (sets-eq (take 8 (drop i src)) out i (omega (arith, n)))
