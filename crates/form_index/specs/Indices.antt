-- Conforming said by indices: what the bytes of a form say, and when the rows of documents conform to it.
use Rattle.std.specs.Prelude.{ℕ, zero, suc, ◌<◌, ◌≤◌, ◌≡◌, Bool, true, false, eqb}
use mathlib.Core.List.{List, [], ◌∷◌, ◌++◌, map, Memᴰ}
use Rattle.rules.specs.Bytes.{Bytes}
use Rattle.rules.specs.Model.{Members}
use Rattle.rules.specs.Language.{Conforms}
use Rattle.rules.specs.Store.{Forest, bare, tree, heads}
use Rattle.rules.specs.Preorder.{Deep, preorder}
use Rattle.rules.specs.Layout.{FlatRow}

-- Definitions by index: how many, their kinds (0 EMPTY, 1 PCDATA, 2 COMPLEX) and models. Attributes by index: how many,
-- whose, which must be present, which values they may have.
pub record IndexForm : Type 0 where
  pub size : ℕ
  pub kind : ℕ → ℕ
  pub model : ℕ → Members ℕ
  pub attributes : ℕ
  pub owner : ℕ → ℕ
  pub needed : ℕ → Bool
  pub allows : ℕ → Bytes → Bool

abbrev pub index_of_row : FlatRow → ℕ
index_of_row r = r.index

abbrev pub Sort : ℕ → List FlatRow → Type 0
Sort s rs = (r : FlatRow) → Memᴰ r rs → r.sort ≡ s

-- the content of an element, by its kind
abbrev pub ContentOf : ℕ → Members ℕ → List FlatRow → Type 0
ContentOf zero ms rs = rs ≡ []
ContentOf (suc zero) ms rs = (r : FlatRow) × (rs ≡ r ∷ []) × (r.sort ≡ 3)
ContentOf (suc (suc k)) ms rs = Sort 1 rs × Conforms ms (map index_of_row rs)

-- attribute rows of definition i, of rising index from a on
abbrev pub AttributeRowsOf : IndexForm → ℕ → ℕ → List FlatRow → Type 0
AttributeRowsOf f i a [] = Unit {0}
AttributeRowsOf f i a (r ∷ rs) =
    (r.sort ≡ 2) × (a ≤ r.index) × (r.index < f.attributes) × (f.owner r.index ≡ i) × (f.allows r.index r.value ≡ true) × AttributeRowsOf f i (suc r.index) rs

-- those of definition i that must be present are
abbrev pub Whole : IndexForm → ℕ → List FlatRow → Type 0
Whole f i rs = (j : ℕ) → j < f.attributes → f.owner j ≡ i → f.needed j ≡ true → Memᴰ j (map index_of_row rs)

-- the rows right below an element of definition i
pub record Below (f : IndexForm) (i : ℕ) (rs : List FlatRow) : Type 0 where
  pub known : i < f.size
  pub front : List FlatRow
  pub back : List FlatRow
  pub split : front ++ back ≡ rs
  pub owned : AttributeRowsOf f i 0 front
  pub whole : Whole f i front
  pub content : ContentOf (f.kind i) (f.model i) back

-- the rows right below a row: attributes and texts hold nothing
abbrev pub Under : IndexForm → FlatRow → List FlatRow → Type 0
Under f r rs = elim (eqb r.sort 1) [ true ↦ Below f r.index rs | false ↦ rs ≡ [] ]

unfoldable pub Everywhere : IndexForm → Forest FlatRow → Type 0
Everywhere f bare = Unit {0}
Everywhere f (tree r b t) = Under f r (heads b) × Everywhere f b × Everywhere f t

-- rows with depths that are those of documents that conform
pub record Documents (f : IndexForm) (xs : List (Deep FlatRow)) : Type 0 where
  pub docs : Forest FlatRow
  pub rows : preorder 0 docs ≡ xs
  pub roots : Sort 1 (heads docs)
  pub everywhere : Everywhere f docs
