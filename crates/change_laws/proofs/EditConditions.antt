-- Changes 3 to 8: conditions of the refusal table that do not hold, as the
-- tests `misplaced` and `unfit`; an owner with a member is COMPLEX.
use Prim.Native.Nat.{ℕ, zero, suc}
use mathlib.Core.Path.{◌≡◌, refl, sym, ap, ◌∙◌}
use mathlib.Core.Bool.{Bool, true, false, ◌&&◌, not, false≢true}
use Rattle.rules.specs.declared.Quantifier.{Quantifier}
use Rattle.rules.specs.Bytes.{Bytes, bytes}
use Rattle.rules.specs.Model.{Members, done, el, group, is_done}
use Rattle.rules.specs.Place.{Context, here, past, over, into, plug}
use Rattle.rules.specs.Edit.{remove, quantify, flatten, has_members, remove_last, remove_unmatched, quantify_off, quantify_group_off}
use Rattle.rules.specs.Store.{Content, empty, pcdata, complex, model_of}
use Rattle.rules.specs.Refusal.{on_element, on_group, tail_of, flatten_unlike, is_complex}
use Rattle.rules.proofs.Children.{misplaced, unfit}

-- ---- tests
pub and_second : (a b : Bool) → (a && b) ≡ false → a ≡ true → b ≡ false
and_second true b e f = e
and_second false b e f = absurd (false≢true f)

-- ---- the owner is COMPLEX
plug_done : {A : Type 0} (c : Context A) (t : Members A) → plug c t ≡ done → is_done t ≡ true
unfolding plug
plug_done here t e = ap is_done e
plug_done (past q n c) t e = absurd (false≢true (ap is_done e))
plug_done (over q k ms c) t e = absurd (false≢true (ap is_done e))
plug_done (into q k c rest) t e = absurd (false≢true (ap is_done e))

pub complex_content : (x : Content) → is_complex x ≡ true → x ≡ complex (model_of x)
complex_content empty e = absurd (false≢true e)
complex_content pcdata e = absurd (false≢true e)
complex_content (complex ms) e = refl

pub picked_complex : (x : Content) (c : Context Bytes) (t : Members Bytes) → plug c t ≡ model_of x → is_done t ≡ false → is_complex x ≡ true
picked_complex empty c t e n = absurd (false≢true (sym n ∙ plug_done c t e))
picked_complex pcdata c t e n = absurd (false≢true (sym n ∙ plug_done c t e))
picked_complex (complex ms) c t e n = refl

pub element_some : (t : Members Bytes) → on_element true (λ q. false) t ≡ false → is_done t ≡ false
element_some done a = a
element_some (el q x t) a = refl
element_some (group q k ms t) a = refl

pub group_some : (t : Members Bytes) → on_group true (λ q. false) t ≡ false → is_done t ≡ false
group_some done a = a
group_some (el q x t) a = refl
group_some (group q k ms t) a = refl

pub has_some : (n : ℕ) (t : Members Bytes) → not (has_members n t) ≡ false → is_done t ≡ false
has_some zero t a = absurd (false≢true (sym a))
has_some (suc n) done a = a
has_some (suc n) (el q x t) a = refl
has_some (suc n) (group q k ms t) a = refl

-- ---- the conditions, at the members found
pub remove_placed : (c : Context Bytes) (t : Members Bytes) → on_element true (λ q. false) t ≡ false → remove_last c (tail_of t) ≡ false → misplaced bytes remove c t ≡ false
unfolding misplaced
remove_placed c done a b = a
remove_placed c (el q x t) a b = b
remove_placed c (group q k ms t) a b = a

pub remove_fits : (c : Context Bytes) (t : Members Bytes) → remove_unmatched c (tail_of t) ≡ false → unfit remove c t ≡ false
unfolding unfit
remove_fits c done a = refl
remove_fits c (el q x t) a = a
remove_fits c (group q k ms t) a = refl

pub quantify_placed : (c : Context Bytes) (r : Quantifier) (t : Members Bytes) → is_done t ≡ false → misplaced bytes (quantify r) c t ≡ false
unfolding misplaced
quantify_placed c r done a = a
quantify_placed c r (el q x t) a = refl
quantify_placed c r (group q k ms t) a = refl

pub element_fits_lem : (c : Context Bytes) (r : Quantifier) (t : Members Bytes) → on_element true (λ q. false) t ≡ false
    → on_element false (λ old. quantify_off c old r) t ≡ false → unfit (quantify r) c t ≡ false
unfolding unfit
element_fits_lem c r done a b = refl
element_fits_lem c r (el q x t) a b = b
element_fits_lem c r (group q k ms t) a b = absurd (false≢true (sym a))

pub group_fits : (c : Context Bytes) (r : Quantifier) (t : Members Bytes) → on_group true (λ q. false) t ≡ false
    → on_group false (λ old. quantify_group_off c old r) t ≡ false → unfit (quantify r) c t ≡ false
unfolding unfit
group_fits c r done a b = refl
group_fits c r (el q x t) a b = absurd (false≢true (sym a))
group_fits c r (group q k ms t) a b = b

pub flatten_placed : (c : Context Bytes) (t : Members Bytes) → on_group true (λ q. false) t ≡ false → flatten_unlike c t ≡ false → misplaced bytes flatten c t ≡ false
unfolding misplaced
flatten_placed c done a b = a
flatten_placed c (el q x t) a b = a
flatten_placed c (group q k ms t) a b = b
