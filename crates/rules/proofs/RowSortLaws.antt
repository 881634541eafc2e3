-- A sort that is read from a code, compared with a sort: the code is compared with that of the sort.
use Prim.Native.Nat.{ℕ, zero, suc, ◌≤◌}
use native.Mathlib.Omega.{arith}
use mathlib.Core.Path.{◌≡◌, refl, sym, ap, ◌∙◌}
use lib.Dec.{eqb}
use borrow.Author.Tests.{ne_eqb}
use mathlib.Core.Bool.{Bool}
use Rattle.std.specs.Prelude.{Option, Some}
use Rattle.std.specs.Option.{option_eq}
use Rattle.rules.specs.declared.RowSort.{RowSort}
use Rattle.rules.specs.declared.RowSort.TheVariants.{Element, Attribute, Text}
use Rattle.rules.specs.contracts.RowSortPartialEq.TheImpl.{eq-value}
use Rattle.rules.specs.RowSorts.{row_number, read_sort}

pub sort_test : (k : ℕ) (s : RowSort) → option_eq eq-value.it (read_sort k) (Some s) ≡ eqb k (row_number s)
sort_test zero Element = refl
sort_test zero Attribute = refl
sort_test zero Text = refl
sort_test (suc zero) Element = refl
sort_test (suc zero) Attribute = refl
sort_test (suc zero) Text = refl
sort_test (suc (suc zero)) Element = refl
sort_test (suc (suc zero)) Attribute = refl
sort_test (suc (suc zero)) Text = refl
sort_test (suc (suc (suc zero))) Element = refl
sort_test (suc (suc (suc zero))) Attribute = refl
sort_test (suc (suc (suc zero))) Text = refl
sort_test (suc (suc (suc (suc k)))) s = sym (ne_eqb (suc (suc (suc (suc k)))) (row_number s) (λ e. omega (arith, few s, e)))
  where
    few : (s : RowSort) → row_number s ≤ 3
    few Element = omega arith
    few Attribute = omega arith
    few Text = omega arith

-- the same of a sort that was read, and of what the comparison gave
pub sort_read : (k : ℕ) (s : RowSort) {o : Option RowSort} {b : Bool} → o ≡ read_sort k → b ≡ option_eq eq-value.it o (Some s) → b ≡ eqb k (row_number s)
sort_read k s e q = q ∙ ap (λ (z : Option RowSort). option_eq eq-value.it z (Some s)) e ∙ sort_test k s
