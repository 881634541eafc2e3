-- 'Filling' by indices: the rows, with their depths and without serials,
-- that the form of the rules' `fill_within` has names for.
use Rattle.std.specs.Prelude.{ℕ, zero, suc, true, false, ◌&&◌, List, [], ◌∷◌, ◌++◌, eqb}
use Rattle.rules.specs.declared.GroupKind.{GroupKind}
use Rattle.rules.specs.declared.GroupKind.TheVariants.{Sequence}
use Rattle.rules.specs.Bytes.{Bytes}
use Rattle.rules.specs.Model.{Members, nothing, unless, filling}
use Rattle.rules.specs.Preorder.{Deep}
use Rattle.rules.specs.Layout.{FlatRow}
use Rattle.form_index.specs.Indices.{IndexForm}
use Rattle.filling.specs.declared.Filling.{Filling}
use Rattle.filling.specs.declared.Filling.TheVariants.{Nothing, Definition, Attribute, Particles}

-- ---- single rows of depth d
abbrev pub new_element : ℕ → ℕ → Deep FlatRow
new_element d i = record { depth = d; row = record { sort = 1; index = i; serial = 0; value = [] } }

abbrev pub new_attribute_row : ℕ → ℕ → Bytes → Deep FlatRow
new_attribute_row d j v = record { depth = d; row = record { sort = 2; index = j; serial = 0; value = v } }

abbrev pub new_text : ℕ → Bytes → Deep FlatRow
new_text d v = record { depth = d; row = record { sort = 3; index = 0; serial = 0; value = v } }

-- the definitions that a group fills with, where its quantifier needs it
unfoldable pub group_filled : GroupKind → Members ℕ → List ℕ
group_filled k ms = unless (nothing k ms) (filling k ms)

-- a form by indices, with the values of its attributes
module _ (F : IndexForm) (value : ℕ → Bytes) where
  -- 'its REQUIRED attributes with their fills': of n attributes from number j on
  unfoldable pub required_rows : ℕ → ℕ → ℕ → ℕ → List (Deep FlatRow)
  required_rows d i j zero = []
  required_rows d i j (suc n) = elim (eqb (F.owner j) i && F.needed j) [ true ↦ new_attribute_row d j (value j) ∷ required_rows d i (suc j) n | false ↦ required_rows d i (suc j) n ]

  -- fillings one after the other
  unfoldable pub fillings_of : (ℕ → List (Deep FlatRow)) → List ℕ → List (Deep FlatRow)
  fillings_of fill [] = []
  fillings_of fill (i ∷ is) = fill i ++ fillings_of fill is

  -- 'then (PCDATA) a text row with the call's text, or (COMPLEX) the
  -- filling of the top list'; d: the depth of these rows
  unfoldable pub content_rows : (ℕ → List (Deep FlatRow)) → Bytes → ℕ → Members ℕ → ℕ → List (Deep FlatRow)
  content_rows fill txt d ms zero = []
  content_rows fill txt d ms (suc zero) = new_text d txt ∷ []
  content_rows fill txt d ms (suc (suc k)) = fillings_of fill (filling Sequence ms)

  -- the filling of definition i, of at most height h, at depth d
  unfoldable pub fill_index : ℕ → Bytes → ℕ → ℕ → List (Deep FlatRow)
  fill_index zero txt d i = []
  fill_index (suc h) txt d i = new_element d i ∷ (required_rows (suc d) i 0 F.attributes ++ content_rows (λ j. fill_index h txt (suc d) j) txt (suc d) (F.model i) (F.kind i))

  -- what a change fills with; no definition is higher than the form has
  -- definitions. `at k e`: the members of depth e from particle k on
  module _ (at : ℕ → ℕ → Members ℕ) where
    abbrev pub filling_rows : Filling → Bytes → ℕ → List (Deep FlatRow)
    filling_rows Nothing txt d = []
    filling_rows (Definition i) txt d = fill_index F.size txt d i
    filling_rows (Attribute j) txt d = new_attribute_row d j txt ∷ []
    filling_rows (Particles g k e) txt d = fillings_of (λ i. fill_index F.size txt d i) (group_filled g (at k e))
