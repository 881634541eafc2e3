-- 'The lowest number that applies is given, never another': said of `refusal`
-- over one list of the table's numbers. No promise cites this.
use Rattle.std.specs.Prelude.{ℕ, suc, ◌≤◌, ◌≡◌, Bool, true, false, eqb}
use mathlib.Core.List.{List, [], ◌∷◌, ◌++◌, map, Memᴰ}
use Rattle.rules.specs.Store.{Store}
use Rattle.rules.specs.Change.{Call, after}
use Rattle.rules.specs.Refusal.{Condition, conditions, limits}

-- The table's numbers in the order in which they are asked. It is that of the numbers themselves; a number that is to
-- be asked between two of these comes between them here.
abbrev pub refusal_order : List ℕ
refusal_order = 1 ∷ 2 ∷ 3 ∷ 4 ∷ 5 ∷ 6 ∷ 7 ∷ 8 ∷ 9 ∷ 10 ∷ 11 ∷ 12 ∷ 13 ∷ 14 ∷ 15 ∷ 16 ∷ 17 ∷ 18 ∷ []

-- the numbers of the second list stand in the first, in their order
abbrev pub in_order : List ℕ → List ℕ → Bool
in_order [] [] = true
in_order [] (n ∷ ns) = false
in_order (m ∷ order) [] = true
in_order (m ∷ order) (n ∷ ns) = elim (eqb m n) [ true ↦ in_order order ns | false ↦ in_order order (n ∷ ns) ]

-- how many numbers of the list stand before n
abbrev pub rank : List ℕ → ℕ → ℕ
rank [] n = 0
rank (m ∷ order) n = elim (eqb m n) [ true ↦ 0 | false ↦ suc (rank order n) ]

-- all conditions of a call, with so much room in the output buffer; row 1 is asked before them, where the store is read
abbrev pub asked : ℕ → Call → Store → List Condition
asked room c s = conditions c s ++ limits room (after c s)

abbrev pub numbers_of : List Condition → List ℕ
numbers_of cs = map (λ (k : Condition). k.number) cs

-- of the conditions asked, and the number given
pub record Lowest (cs : List Condition) (given : ℕ) : Type 0 where
  pub order : in_order refusal_order (numbers_of cs) ≡ true
  -- 0 is given where none holds, another number where its own condition holds
  pub free : given ≡ 0 → (k : Condition) → Memᴰ k cs → k.holds ≡ false
  pub applies : (given ≡ 0 → ⊥) → (k : Condition) × Memᴰ k cs × (k.holds ≡ true) × (k.number ≡ given)
  -- and no condition that holds stands before it in the table
  pub lowest : (k : Condition) → Memᴰ k cs → k.holds ≡ true → rank refusal_order given ≤ rank refusal_order k.number
