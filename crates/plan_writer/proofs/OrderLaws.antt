-- What is written before something that is there already.
use Prim.Native.Nat.{ℕ, suc, ◌+◌, ◌<◌}
use native.Mathlib.Nat.{zero-add}
use native.Mathlib.Omega.{arith}
use mathlib.Core.Path.{◌≡◌, refl, sym, ap, ◌∙◌}
use mathlib.Core.List.{List, [], ◌∷◌, ◌++◌}
use lib.ListN.{length, set, length-append}
use lib.Seq.{sets, set_comm}
use Rattle.codec.specs.Laid.{Laid}
use Rattle.codec.proofs.Writers.{sets_append}

-- a store before a place and stores from the place on
set_apart : (w l : List ℕ) (i j x : ℕ) → i < j → sets (set l i x) j w ≡ set (sets l j w) i x
set_apart [] l i j x h = refl
set_apart (y ∷ w) l i j x h = ap (λ (z : List ℕ). sets z (suc j) w) (set_comm l i j x y (λ e. omega arith)) ∙ set_apart w (set l j y) i (suc j) x (omega arith)

sets_apart : (a b l : List ℕ) (i j : ℕ) → j ≡ i + length a → sets (sets l j b) i a ≡ sets (sets l i a) j b
sets_apart [] b l i j e = refl
sets_apart (x ∷ a) b l i j e = ap (λ (z : List ℕ). sets z (suc i) a) (sym (set_apart b l i j x (omega arith))) ∙ sets_apart a b (set l i x) (suc i) j (omega arith)

-- b was laid first, where a ends
pub laid_before : {a b out : List ℕ} {at r : ℕ} {out' : List ℕ} {r' : ℕ} {out'' : List ℕ} → Laid b out at r out' → at ≡ length a → Laid a out' 0 r' out'' → Laid (a ++ b) out 0 r out''
laid_before {a} {b} {out} {at} p e q =
    let place : at ≡ 0 + length a = e ∙ sym (zero-add (length a)) in
    record {
      next = omega (arith, p.next, e, length-append a b);
      stored = q.stored ∙ ap (λ (l : List ℕ). sets l 0 a) p.stored ∙ sets_apart a b out 0 at place ∙ ap (λ (k : ℕ). sets (sets out 0 a) k b) place ∙ sets_append a b out 0;
    }
