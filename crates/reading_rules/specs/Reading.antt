-- W2: which texts are read, and what is written.
use Rattle.std.specs.Prelude.{ℕ, ◌≡◌, ◌⊎◌, true, false, ◌&&◌, length}
use Rattle.std.proofs.Math.Option.{Option, none, some}
use Rattle.rules.specs.Bytes.{Bytes, same}
use Rattle.rules.specs.Store.{Store}
use Rattle.rules.specs.Layout.{encode}
use Rattle.rules.specs.Passing.{Good, good}
use Rattle.rules.specs.Outcome.{Outcome, refused, unless_refused, Answers}
use Rattle.rules.specs.Print.{printed, too_long}
use Rattle.reading_rules.specs.Canonical.{canonical}
use Rattle.reading_rules.specs.Reader.{parsed}

-- `store` written, with so much room in the output buffer
abbrev pub store_written : ℕ → Store → Outcome
store_written room store = unless_refused (too_long room (encode store)) (encode store)

-- a store of this version that passes prints the text
abbrev pub Prints : ℕ → Store → Bytes → Type 0
Prints version s txt = (s.version ≡ version) × Good s × (printed s ≡ txt)

-- 'It refuses with 19 a text that no store passing the check prints'
abbrev pub ReadsText : ℕ → Bytes → ℕ → Outcome → Type 0
ReadsText version txt room o =
    ((s : Store) × Prints version s txt × (o ≡ store_written room (canonical s)))
    ⊎ (((s : Store) → Prints version s txt → ⊥) × (o ≡ refused 19))

-- THE PROMISE of reading a text with the output buffer `out`: what the call hands back and leaves there is such an
-- answer
abbrev pub ReadPromise : ℕ → Bytes → Bytes → ℕ → ℕ → Bytes → Type 0
ReadPromise version txt out number len left = (o : Outcome) × ReadsText version txt (length out) o × Answers o out number len left

-- ---- the same, computed
unfoldable pub read_text : ℕ → Bytes → Option Store
read_text version txt = elim (good (parsed version txt) && same (printed (parsed version txt)) txt) [ true ↦ some (parsed version txt) | false ↦ none ]

abbrev pub on_text : (Store → Outcome) → Option Store → Outcome
on_text f none = refused 19
on_text f (some s) = f s

unfoldable pub read_outcome : ℕ → Bytes → ℕ → Outcome
read_outcome version txt room = on_text (store_written room) (read_text version txt)
