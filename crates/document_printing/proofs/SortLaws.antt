-- What the comparison of a row's sort with a sort tells of its code.
use Prim.Native.Nat.{ℕ}
use mathlib.Core.Path.{◌≡◌, sym, ◌∙◌}
use mathlib.Core.Bool.{Bool, true, false, false≢true}
use borrow.Author.Tests.{eq-eqb, eqb-true}
use Rattle.std.specs.Prelude.{Option, Some}
use Rattle.std.specs.Option.{option_eq}
use Rattle.rules.specs.declared.RowSort.{RowSort}
use Rattle.rules.specs.contracts.RowSortPartialEq.TheImpl.{eq-value}
use Rattle.rules.specs.RowSorts.{row_number, read_sort}
use Rattle.rules.proofs.RowSortLaws.{sort_read}

module _ (k : ℕ) (s : RowSort) {o : Option RowSort} (e : o ≡ read_sort k) {b : Bool} (q : b ≡ option_eq eq-value.it o (Some s)) where
  pub is_sort : b ≡ true → k ≡ row_number s
  is_sort t = eqb-true _ _ (sym (sort_read k s e q) ∙ t)

  pub no_sort : b ≡ false → k ≡ row_number s → ⊥
  no_sort f g = false≢true (sym f ∙ sort_read k s e q ∙ eq-eqb _ _ g)
