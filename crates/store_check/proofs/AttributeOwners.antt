-- Attributes by their index: one in the table has an owner, one past it has none.
use Prim.Native.Nat.{ℕ, zero, suc, ◌+◌, ◌-◌, ◌<◌, ◌≤◌}
use native.Mathlib.Omega.{arith}
use mathlib.Core.Path.{◌≡◌, refl, ◌∙◌}
use mathlib.Core.Logic.{◌⊎◌, inl, inr}
use mathlib.Core.Option.{none, some}
use mathlib.Core.List.{List, [], ◌∷◌}
use lib.ListN.{length, length-append}
use Rattle.rules.specs.Bytes.{Bytes}
use Rattle.rules.specs.Store.{Attribute, Form}
use Rattle.rules.specs.Layout.{own_attributes, all_attributes}
use Rattle.rules.specs.Decode.{attribute_count}
use Rattle.rules.specs.Change.{Owned, entry_at, attribute_at}
use Rattle.rules.proofs.DecodeLaws.{length_own}
use Rattle.rules.proofs.Words.{below_or}
use Rattle.store_check.proofs.StoreFacts.{form_in, Whole}

entry_some : (i : ℕ) (table : List Attribute) → i < length table → (a : Attribute) × (entry_at i table ≡ some a)
entry_some i [] l = absurd (omega arith)
entry_some zero (a ∷ table) l = (a, refl)
entry_some (suc i) (a ∷ table) l = entry_some i table (omega arith)

entry_none : (i : ℕ) (table : List Attribute) → length table ≤ i → entry_at i table ≡ none
entry_none i [] l = refl
entry_none zero (a ∷ table) l = absurd (omega arith)
entry_none (suc i) (a ∷ table) l = entry_none i table (omega arith)

-- how many attributes a form has
unfoldable many : Form → ℕ
many [] = 0
many (d ∷ ds) = length d.attributes + many ds

attribute_some : (a : ℕ) (form : Form) → a < many form → (o : Owned) × (attribute_at a form ≡ some o)
unfolding many attribute_at
attribute_some a [] l = absurd (omega arith)
attribute_some a (d ∷ ds) l = by (below_or a (length d.attributes)) (attribute_some (a - length d.attributes) ds)
  where
    by : (a < length d.attributes) ⊎ (length d.attributes ≤ a)
        → (a - length d.attributes < many ds → (o : Owned) × (attribute_at (a - length d.attributes) ds ≡ some o))
        → (o : Owned) × (attribute_at a (d ∷ ds) ≡ some o)
    by (inl h) f = let (x, e) = entry_some a d.attributes h in (record { owner = d; attribute = x }, rw (e, attribute_at))
    by (inr h) f = let (o, e) = f (omega arith) in (o, rw (entry_none a d.attributes h, attribute_at) e)

attribute_none : (a : ℕ) (form : Form) → many form ≤ a → attribute_at a form ≡ none
unfolding many attribute_at
attribute_none a [] l = refl
attribute_none a (d ∷ ds) l = rw (entry_none a d.attributes (omega arith), attribute_at) (attribute_none (a - length d.attributes) ds (omega arith))

many_all : (o : ℕ) (form : Form) → length (all_attributes o form) ≡ many form
unfolding many
many_all o [] = refl
many_all o (d ∷ ds) = omega (arith, length-append (own_attributes o d.attributes) (all_attributes (suc o) ds), length_own o d.attributes, many_all (suc o) ds)

module _ (bs : Bytes) (w : Whole bs) (a : ℕ) where
  count_is : attribute_count bs ≡ many (form_in bs)
  count_is = w.agrees.attributes ∙ many_all 0 (form_in bs)

  pub owned : a < attribute_count bs → (o : Owned) × (attribute_at a (form_in bs) ≡ some o)
  owned l = attribute_some a (form_in bs) (omega (arith, count_is))

  pub unowned : attribute_count bs ≤ a → attribute_at a (form_in bs) ≡ none
  unowned l = attribute_none a (form_in bs) (omega (arith, count_is))
