-- A change whose plan keeps all rows leaves the documents as they are.
use Prim.Native.Nat.{ℕ, ◌+◌, ◌≤◌}
use native.Mathlib.Nat.{add-zero}
use native.Mathlib.Omega.{arith}
use mathlib.Core.Path.{◌≡◌, refl, ap, ◌∙◌}
use mathlib.Core.Bool.{Bool, true, false}
use mathlib.Core.List.{[]}
use borrow.Author.Tests.{ne_eqb}
use lib.Dec.{eqb}
use Rattle.rules.specs.Store.{Row, Forest, bare, tree, Store}
use Rattle.rules.specs.Conforming.{EveryRow}
use Rattle.rules.specs.Lines.{ground, lines}
use Rattle.rules.specs.Passing.{serials, good}
use Rattle.rules.specs.Change.{Call, Plan, keeping, neither, plan, prune, revalue, each_row, plant, is_new, new_rows, given, number, changed, form_after, after}
use Rattle.rules.proofs.SerialLaws.{every_serial}
use Rattle.change_laws.proofs.ConformingSimple.{good_tests}

-- no row is new
abbrev pub Given : Forest Row → Type 0
Given f = EveryRow (λ r b. 1 ≤ r.serial) f

prune_none : (u : Row) (f : Forest Row) → prune neither u f ≡ f
unfolding prune
prune_none u bare = refl
prune_none u (tree r b t) = λ i. tree r (prune_none r b i) (prune_none u t i)

old : (r : Row) → 1 ≤ r.serial → eqb r.serial 0 ≡ false
old r h = ne_eqb r.serial 0 (λ e. omega arith)

value_same : (r : Row) → 1 ≤ r.serial → revalue 0 [] r ≡ r
value_same r h = ap (λ (b : Bool). record { serial = r.serial; sort = r.sort; name = r.name; value = elim b [ true ↦ [] | false ↦ r.value ] }) (old r h)

each_same : (f : Forest Row) → Given f → each_row (revalue 0 []) f ≡ f
unfolding each_row
each_same bare g = refl
each_same (tree r b t) (x, y, z) = λ i. tree (value_same r x i) (each_same b y i) (each_same t z i)

plant_none : (u : Row) (f : Forest Row) → plant keeping u false f ≡ f
unfolding plant
plant_none u bare = refl
plant_none u (tree r b t) = λ i. tree r (plant_none r b i) (plant_none u t i)

not_new : (r : Row) → 1 ≤ r.serial → is_new r ≡ 0
not_new r h = ap (λ (b : Bool). elim b as (λ z. ℕ) [ true ↦ 1 | false ↦ 0 ]) (old r h)

given_same : (n : ℕ) (r : Row) → 1 ≤ r.serial → given n r ≡ r
unfolding given
given_same n r h = ap (λ (b : Bool). elim b as (λ z. Row) [ true ↦ record { serial = n; sort = r.sort; name = r.name; value = r.value } | false ↦ r ]) (old r h)

new_none : (f : Forest Row) → Given f → new_rows f ≡ 0
unfolding new_rows
new_none bare g = refl
new_none (tree r b t) (x, y, z) = omega (arith, not_new r x, new_none b y, new_none t z)

pub number_none : (n : ℕ) (f : Forest Row) → Given f → number n f ≡ f
unfolding number
number_none n bare g = refl
number_none n (tree r b t) (x, y, z) = λ i. tree (given_same n r x i) (number_none (n + is_new r) b y i) (number_none (n + (is_new r + new_rows b)) t z i)

pub good_given : (s : Store) → good s ≡ true → Given s.docs
good_given s g = (every_serial (λ k. 1 ≤ k) s.docs).1 (λ k m. ((good_tests s g).serials.below k m).0)

pub keeping_docs : (f : Forest Row) → Given f → changed keeping f ≡ f
keeping_docs f g =
    ap (λ (z : Forest Row). plant keeping ground false (each_row (revalue 0 []) z)) (prune_none ground f)
    ∙ ap (λ (z : Forest Row). plant keeping ground false z) (each_same f g) ∙ plant_none ground f

-- the store with another form
abbrev pub reformed : Store → Call → Store
reformed s c = record { version = s.version; next = s.next; form = form_after c s.form; docs = s.docs }

pub after_kept_lem : (c : Call) (s : Store) → good s ≡ true → plan c s.version s.form (lines 0 s.docs) ≡ keeping → after c s ≡ reformed s c
unfolding after
after_kept_lem c s g e =
    let x : Given s.docs = good_given s g in
    let k : changed (plan c s.version s.form (lines 0 s.docs)) s.docs ≡ s.docs = ap (λ (p : Plan). changed p s.docs) e ∙ keeping_docs s.docs x in
    let n : s.next + new_rows (changed (plan c s.version s.form (lines 0 s.docs)) s.docs) ≡ s.next =
    ap (λ (z : Forest Row). s.next + new_rows z) k ∙ ap (λ (z : ℕ). s.next + z) (new_none s.docs x) ∙ add-zero s.next in
    λ i. record { version = s.version; next = n i; form = form_after c s.form; docs = (ap (number s.next) k ∙ number_none s.next s.docs x) i }
