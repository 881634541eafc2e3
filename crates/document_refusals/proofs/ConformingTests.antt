-- Conforming after a plan that changes the rows below one row alone: a test of that row.
use Prim.Native.Nat.{ℕ}
use mathlib.Core.Path.{◌≡◌, refl, sym, ap, ap₂, ◌∙◌}
use mathlib.Core.Logic.{◌⊎◌, inl, inr}
use mathlib.Core.Bool.{Bool, true, false, ◌&&◌, false≢true}
use mathlib.Core.List.{List}
use lib.Dec.{eqb}
use Rattle.rules.specs.Bytes.{numbers, all, eqb_eq}
use Rattle.rules.specs.Store.{Form, Row, Forest, bare, tree, ◌⧺◌, heads}
use Rattle.rules.specs.Conforming.{is_element, every_row, fits_row, conforming}
use Rattle.rules.specs.Passing.{GoodSerials}
use Rattle.rules.specs.Lines.{ground}
use Rattle.rules.specs.Change.{Plan, changed}
use Rattle.rules.proofs.Words.{and_split, same_truth}
use Rattle.change_laws.proofs.RowEdits.{revalued, children_after}
use Rattle.change_laws.proofs.Rowwise.{Standing, below, under, below_taken, below_here, below_past, heads_changed}
use Rattle.change_laws.proofs.StandingLaws.{one_row_lem}
use Rattle.change_laws.proofs.ConformingAfter.{conforming_changed}

beside_right : (q : Row → List Row → Bool) (f g : Forest Row) → every_row q (f ⧺ g) ≡ true → every_row q g ≡ true
beside_right q bare g e = e
beside_right q (tree r b t) g e = beside_right q t g (and_split (every_row q b) (every_row q (t ⧺ g)) (and_split (q r (heads b)) (every_row q b && every_row q (t ⧺ g)) e).1).1

-- neither row r nor a row above it is taken
abbrev pub Clear : Plan → Forest Row → Row → Forest Row → Type 0
Clear p f r b = (v s : Row) (c : Forest Row) → Standing f s c → ((s ≡ r) ⊎ Standing c r b) → p.takes v s ≡ false

module _ (p : Plan) (q : Row → List Row → Bool) (r : Row) (b : Forest Row) where
  every_at : (u : Row) (due : Bool) (v : Row) (f : Forest Row) → Standing f r b → Clear p f r b → every_row q (below p u due v f) ≡ true → q (revalued p r) (children_after p r (heads b)) ≡ true
  every_at u due v bare i clear e = absurd i
  every_at u due v (tree s c t) i clear e =
      by i (p.takes v s) refl (due && p.later u (revalued p s)) refl (every_at (revalued p s) (p.fills (revalued p s)) s c) (λ d. every_at u d v t)
    where
      inner : Standing c r b → Clear p c r b
      inner j w x d k m = clear w x d (inr (inl k)) m

      others : Clear p t r b
      others w x d k m = clear w x d (inr (inr k)) m

      Here : Type 0
      Here = q (revalued p r) (children_after p r (heads b)) ≡ true

      -- what stands where row s is not taken
      parts : (d : Bool) → every_row q (tree (revalued p s) (under p s c) (below p u d v t)) ≡ true
          → (q (revalued p s) (heads (under p s c)) ≡ true) × (every_row q (under p s c) ≡ true) × (every_row q (below p u d v t) ≡ true)
      parts d g =
          let (x, y) = and_split (q (revalued p s) (heads (under p s c))) (every_row q (under p s c) && every_row q (below p u d v t)) g in
          let (z, w) = and_split (every_row q (under p s c)) (every_row q (below p u d v t)) y in
          (x, z, w)

      kept : p.takes v s ≡ false → (d : Bool) → (due && p.later u (revalued p s)) ≡ d → (e : Bool) × (every_row q (tree (revalued p s) (under p s c) (below p u e v t)) ≡ true)
      kept g true h = (false, beside_right q p.filling (tree (revalued p s) (under p s c) (below p u false v t)) (sym (ap (every_row q) (below_here p u due v s c t g h)) ∙ e))
      kept g false h = (due, sym (ap (every_row q) (below_past p u due v s c t g h)) ∙ e)

      by : Standing (tree s c t) r b → (a : Bool) → p.takes v s ≡ a → (d : Bool) → (due && p.later u (revalued p s)) ≡ d
          → (Standing c r b → Clear p c r b → every_row q (under p s c) ≡ true → Here)
          → ((d : Bool) → Standing t r b → Clear p t r b → every_row q (below p u d v t) ≡ true → Here) → Here
      by (inl (x, y)) a g d h f k =
          let z : p.takes v s ≡ false = clear v s c (inl (refl, refl)) (inl x) in
          let (m, n) = kept z d h in
          ap₂ (λ (w : Row) (o : Forest Row). q (revalued p w) (children_after p w (heads o))) (sym x) (sym y) ∙ ap (q (revalued p s)) (sym (heads_changed p s c)) ∙ (parts m n).0
      by (inr (inl j)) a g d h f k =
          let z : p.takes v s ≡ false = clear v s c (inl (refl, refl)) (inr j) in
          let (m, n) = kept z d h in
          f j (inner j) (parts m n).1
      by (inr (inr j)) true g d h f k = k due j others (sym (ap (every_row q) (below_taken p u due v s c t g)) ∙ e)
      by (inr (inr j)) false g d h f k =
          let (m, n) = kept g d h in
          k m j others (parts m n).2

-- a plan that puts nothing beside the documents, and below rows other than r leaves what fits
pub conforming_local : (version : ℕ) (form : Form) (next : ℕ) (docs : Forest Row) → GoodSerials next docs → conforming version form docs ≡ true → (p : Plan)
    → p.fills ground ≡ false → every_row (λ s below. fits_row version form s below) p.filling ≡ true
    → (r : Row) (b : Forest Row) → Standing docs r b → Clear p docs r b
    → ((s : Row) (c : Forest Row) → Standing docs s c → (s.serial ≡ r.serial → ⊥) → fits_row version form s (heads c) ≡ true
    → fits_row version form (revalued p s) (children_after p s (heads c)) ≡ true)
    → conforming version form (changed p docs) ≡ fits_row version form (revalued p r) (children_after p r (heads b))
unfolding conforming
conforming_local version form next docs serials ok p none new r b i clear others =
    same_truth (conforming version form (changed p docs)) (fits_row version form (revalued p r) (children_after p r (heads b)))
    (λ e. every_at p (λ s below. fits_row version form s below) r b ground (p.fills ground) ground docs i clear
    (and_split (all (λ (s : Row). is_element s.sort) (heads (changed p docs))) (every_row (λ s below. fits_row version form s below) (changed p docs)) e).1)
    (λ e. conforming_changed version form form p docs (λ h. absurd (false≢true (sym none ∙ h))) new (λ s c j h. by s c j h (eqb s.serial r.serial) refl e) ok)
  where
    by : (s : Row) (c : Forest Row) → Standing docs s c → fits_row version form s (heads c) ≡ true → (x : Bool) → eqb s.serial r.serial ≡ x
        → fits_row version form (revalued p r) (children_after p r (heads b)) ≡ true → fits_row version form (revalued p s) (children_after p s (heads c)) ≡ true
    by s c j h true g e =
        let (u, v) = one_row_lem next docs serials s r c b j i (eqb_eq s.serial r.serial g) in
        ap₂ (λ (w : Row) (o : Forest Row). fits_row version form (revalued p w) (children_after p w (heads o))) u v ∙ e
    by s c j h false g e = others s c j (λ z. false≢true (sym g ∙ numbers.same← s.serial r.serial z)) h
