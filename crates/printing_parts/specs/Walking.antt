-- What a writer leaves that follows the depths of records: those of one depth that
-- stand beside one another, each with the deeper ones after it.
use Rattle.std.specs.Prelude.{ℕ, suc, ◌+◌, ◌-◌, ◌*◌, ◌<◌, ◌≤◌, ◌≡◌, List}
use Rattle.rules.specs.Bytes.{Bytes}
use Rattle.rules.specs.Store.{Forest}
use Rattle.rules.specs.Preorder.{Deep, build}
use Rattle.codec.specs.Laid.{Laid}

-- There is room for the text of all records from number i on, 2500 bytes each.
-- Each of its numbers moves on from call to call, so that no struct holds it.
pub record TextRoom (end i depth at : ℕ) : Type 0 where
  pub few : end < 4294967296
  pub deep : depth < 257
  pub room : at + 2500 * (end - i) < 4611686018427387904

-- The text `text` of the records of a depth from number i on is
-- written; `next` is the first record that is not as deep.
pub record Passed {A : Type 0} (records : ℕ → List (Deep A)) (text : Forest A → Bytes) (end i depth at : ℕ) (out : Bytes) (next r : ℕ) (out' : Bytes) : Type 0 where
  pub laid : Laid (text (build (records i) depth)) out at r out'
  pub skips : (j : ℕ) → j < depth → build (records i) j ≡ build (records next) j
  pub onward : i ≤ next
  pub small : r + 2500 * (end - next) ≤ at + 2500 * (end - i) + 1

-- The text w of record number i and those below it is written; `next` is
-- one that follows, with none between that is not below.
pub record Stepped {A : Type 0} (records : ℕ → List (Deep A)) (w : Bytes) (end i depth at : ℕ) (out : Bytes) (next r : ℕ) (out' : Bytes) : Type 0 where
  pub laid : Laid w out at r out'
  pub skips : (j : ℕ) → j < suc depth → build (records (i + 1)) j ≡ build (records next) j
  pub onward : i < next
  pub small : r + 2500 * (end - next) ≤ at + 2500 * (end - i)
