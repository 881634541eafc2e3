-- Rows that fit: elements are of known names, other rows hold nothing.
use Prim.Native.Nat.{ℕ}
use mathlib.Core.Path.{◌≡◌, refl, sym, ap, ◌∙◌}
use mathlib.Core.Bool.{true, false, false≢true}
use mathlib.Core.List.{List, []}
use Rattle.rules.specs.Store.{Form, RowSort, element, attribute, text, Row, Forest, bare, tree, heads}
use Rattle.rules.specs.WellFormed.{known, lookup}
use Rattle.rules.specs.Conforming.{EveryRow, is_element, fits_row}
use Rattle.rules.proofs.BooleanLaws.{Every, every_map, none_nil}
use Rattle.rules.proofs.DecodeLaws.{fits_known}

pub element_known : (version : ℕ) (form : Form) (r : Row) (below : List Row) → fits_row version form r below ≡ true → r.sort ≡ element → known form r.name ≡ true
unfolding fits_row
element_known version form r below h q = fits_known version (lookup r.name form) below (rw (q, fits_row) at h)

pub others_bare : (version : ℕ) (form : Form) (r : Row) (below : List Row) → fits_row version form r below ≡ true → is_element r.sort ≡ false → below ≡ []
unfolding fits_row
others_bare version form r below h k = by r.sort refl
  where
    by : (s : RowSort) → r.sort ≡ s → below ≡ []
    by element q = absurd (false≢true (sym k ∙ ap is_element q))
    by attribute q = none_nil below (rw (q, fits_row) at h)
    by text q = none_nil below (rw (q, fits_row) at h)

pub every_row_map : (P Q : Row → List Row → Type 0) → ((r : Row) (below : List Row) → P r below → Q r below) → (f : Forest Row) → EveryRow P f → EveryRow Q f
every_row_map P Q k bare e = tt
every_row_map P Q k (tree r b t) (x, y, z) = (k r (heads b) x, every_row_map P Q k b y, every_row_map P Q k t z)

pub roots_elements : (Ok : Type 0) (rows : List Row) → Every (λ r. is_element r.sort ≡ true) rows → Every (λ r. r.sort ≡ attribute → Ok) rows
roots_elements Ok rows e = every_map (λ r. is_element r.sort ≡ true) (λ r. r.sort ≡ attribute → Ok) rows (λ r x a. absurd (false≢true (sym (ap is_element a) ∙ x))) e
