-- The check: which byte strings pass.
use Rattle.std.specs.Prelude.{ℕ, ◌<◌, ◌≤◌, ◌≡◌, Bool, true, false, ◌&&◌, eqb, leb, ltb}
use Rattle.std.proofs.Math.Option.{Option, none, some}
use mathlib.Core.List.{List, [], ◌∷◌, ◌++◌, Memᴰ}
use Rattle.rules.specs.Bytes.{Bytes, numbers, all, is_none}
use Rattle.rules.specs.Model.{Distinct, distinct}
use Rattle.rules.specs.Store.{element, attribute, text, Row, Forest, bare, tree, Store}
use Rattle.rules.specs.Layout.{base_version, value_width, flat, encode}
use Rattle.rules.specs.Decode.{decode}
use Rattle.rules.specs.WellFormed.{is_value, highest_number, within_ceilings, is_there, WellFormed, well_formed}
use Rattle.rules.specs.Conforming.{EveryRow, every_row, Conforming, conforming}

abbrev pub known_version : ℕ → Bool
known_version v = eqb v base_version

-- the value field of a row, by its sort; a text has no name
abbrev pub laid_row : ℕ → Row → Bool
laid_row w r = elim r.sort [ element ↦ is_none r.value | attribute ↦ is_value w r.value | text ↦ is_value w r.value && is_none r.name ]

abbrev pub serials : Forest Row → List ℕ
serials bare = []
serials (tree r b t) = r.serial ∷ (serials b ++ serials t)

-- 'Serials are distinct, from 1, below the next serial, which is at least 1 even without rows'
pub record GoodSerials (next : ℕ) (docs : Forest Row) : Type 0 where
  pub once : Distinct (serials docs)
  pub below : (k : ℕ) → Memᴰ k (serials docs) → (1 ≤ k) × (k < next)
  pub least : 1 ≤ next
  pub most : next ≤ highest_number

-- a store that passes
pub record Good (s : Store) : Type 0 where
  pub version : known_version s.version ≡ true
  pub ceilings : within_ceilings (flat s) ≡ true
  pub form : WellFormed (value_width s.version) s.form
  pub docs : Conforming s.version s.form s.docs
  pub values : EveryRow (λ r below. laid_row (value_width s.version) r ≡ true) s.docs
  pub serials : GoodSerials s.next s.docs

-- a byte string passes when it is the encoding of such a store
abbrev pub Passes : Bytes → Type 0
Passes bs = (s : Store) × (encode s ≡ bs) × Good s

-- ---- the same as tests
unfoldable pub good_serials : ℕ → Forest Row → Bool
good_serials next docs =
    distinct numbers (serials docs) && (all (λ k. leb 1 k && ltb k next) (serials docs) && (leb 1 next && leb next highest_number))

unfoldable pub good : Store → Bool
good s =
    known_version s.version
    && (within_ceilings (flat s)
    && (well_formed (value_width s.version) s.form
    && (conforming s.version s.form s.docs
    && (every_row (λ r below. laid_row (value_width s.version) r) s.docs && good_serials s.next s.docs))))

abbrev pub good_read : Option Store → Option Store
good_read none = none
good_read (some s) = elim (good s) [ true ↦ some s | false ↦ none ]

-- the store that a byte string holds, if it passes
abbrev pub read_store : Bytes → Option Store
read_store bs = good_read (decode bs)

-- the check, as a test: it is `Passes`
abbrev pub passes : Bytes → Bool
passes bs = is_there (read_store bs)
