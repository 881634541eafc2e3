-- Giving serials to the rows of a forest gives them to its rows in a list.
use Prim.Native.Nat.{ℕ, suc, ◌+◌}
use native.Mathlib.Omega.{arith}
use mathlib.Core.Path.{◌≡◌, refl, sym, ap, ap₂, ◌∙◌}
use mathlib.Core.Bool.{Bool, true, false}
use mathlib.Core.List.{List, ◌∷◌, ◌++◌}
use lib.Dec.{eqb}
use Rattle.rules.specs.Bytes.{Bytes}
use Rattle.rules.specs.Store.{Form, Row, Forest, bare, tree}
use Rattle.rules.specs.Preorder.{Deep, preorder}
use Rattle.rules.specs.Layout.{FlatRow, row_code, row_index, indexed}
use Rattle.rules.specs.Change
use Rattle.rules.specs.Change.{new_rows, given, number}
use Rattle.row_writer.specs.Written.{new_in, with_serial, numbered}
use Rattle.row_writer.proofs.WrittenLaws.{new_append, numbered_append}

module _ (form : Form) where
  -- a row as it is stored
  abbrev stored : ℕ → Bytes → Row → Deep FlatRow
  stored d owner r = record { depth = d; row = record { sort = row_code r.sort; index = row_index form owner r; serial = r.serial; value = r.value } }

  given_stored : (d n : ℕ) (owner : Bytes) (r : Row) → stored d owner (given n r) ≡ with_serial n (stored d owner r)
  unfolding given
  given_stored d n owner r = by (eqb r.serial 0) refl
    where
      by : (c : Bool) → eqb r.serial 0 ≡ c → stored d owner (given n r) ≡ with_serial n (stored d owner r)
      by true q = rw (q, given)
      by false q = rw (q, given)

  given_name_lem : (n : ℕ) (r : Row) → (given n r).name ≡ r.name
  unfolding given
  given_name_lem n r = by (eqb r.serial 0) refl
    where
      by : (c : Bool) → eqb r.serial 0 ≡ c → (given n r).name ≡ r.name
      by true q = rw (q, given)
      by false q = rw (q, given)

  pub new_flat : (d : ℕ) (owner : Bytes) (f : Forest Row) → new_rows f ≡ new_in (preorder d (indexed form owner f))
  unfolding new_rows
  new_flat d owner bare = refl
  new_flat d owner (tree r b t) =
      ap₂ (λ (i j : ℕ). Change.is_new r + (i + j)) (new_flat (suc d) r.name b) (new_flat d owner t)
      ∙ ap (λ (k : ℕ). Change.is_new r + k) (sym (new_append (preorder (suc d) (indexed form r.name b)) (preorder d (indexed form owner t))))

  pub number_flat : (d : ℕ) (owner : Bytes) (n : ℕ) (f : Forest Row) → preorder d (indexed form owner (number n f)) ≡ numbered n (preorder d (indexed form owner f))
  unfolding number
  number_flat d owner n bare = refl
  number_flat d owner n (tree r b t) =
      ap₂ (λ (x : Deep FlatRow) (l : List (Deep FlatRow)). x ∷ l) (given_stored d n owner r)
      (ap₂ (λ (k l : List (Deep FlatRow)). k ++ l)
      (ap (λ (m : Bytes). preorder (suc d) (indexed form m (number (n + Change.is_new r) b))) (given_name_lem n r) ∙ number_flat (suc d) r.name (n + Change.is_new r) b)
      (number_flat d owner (n + (Change.is_new r + new_rows b)) t
      ∙ ap (λ (k : ℕ). numbered k (preorder d (indexed form owner t))) (ap (λ (k : ℕ). n + (Change.is_new r + k)) (new_flat (suc d) r.name b) ∙ later)))
      ∙ ap (λ (l : List (Deep FlatRow)). with_serial n (stored d owner r) ∷ l)
      (sym (numbered_append (n + Change.is_new r) (preorder (suc d) (indexed form r.name b)) (preorder d (indexed form owner t))))
    where
      later : n + (Change.is_new r + new_in (preorder (suc d) (indexed form r.name b))) ≡ n + Change.is_new r + new_in (preorder (suc d) (indexed form r.name b))
      later = omega arith
