-- What is too much, by the numbers of a store.
use Rattle.std.specs.Prelude.{ℕ, ◌+◌, ◌*◌, [], ◌∷◌, ltb}
use Rattle.rules.specs.Layout.{header_size, row_size}
use Rattle.rules.specs.WellFormed.{highest_number}
use Rattle.rules.specs.Refusal.{◌if◌, first}

-- rows 16 to 18, as `limits` of the rules, of a store with so many rows, a form of so many bytes and a next serial, in
-- a buffer of so many bytes
unfoldable pub limit_of : ℕ → ℕ → ℕ → ℕ → ℕ → ℕ
limit_of w form count next room = first (16 if ltb 4096 count ∷ 17 if ltb highest_number next ∷ 18 if ltb room (header_size + form + row_size w * count) ∷ [])
