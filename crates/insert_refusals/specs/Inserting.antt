-- What the code of the change that inserts an element tests.
use Rattle.std.specs.Prelude.{ℕ, Bool, not, ◌&&◌, List, [], ◌∷◌}
use Rattle.std.proofs.Math.Option.{Option}
use Rattle.rules.specs.declared.GroupKind.TheVariants.{Sequence}
use Rattle.rules.specs.Bytes.{Bytes}
use Rattle.rules.specs.Place.{Found, kind_at, spine}
use Rattle.rules.specs.Edit.{same_kind}
use Rattle.rules.specs.Store.{Store}
use Rattle.rules.specs.Change.{definition_at}
use Rattle.rules.specs.Refusal.{Condition, ◌if◌, at_place, no_place, is_complex, instance_exists}
use Rattle.model_reach.specs.Reach.{stands_in_model, comes_round}

-- from row 9 on; `needed`: NONE or PLUS; `unfilled`: the default is empty; `off`: the place is in a LIST off the spine
abbrev pub model_conditions : ℕ → ℕ → Bool → Bool → Bool → Store → List Condition
model_conditions o i needed unfilled off s =
    9 if not (is_complex (definition_at o s.form).content)
    ∷ 10 if stands_in_model s.form o i
    ∷ 11 if comes_round s.form o i
    ∷ 12 if (needed && unfilled)
    ∷ 13 if (instance_exists (definition_at o s.form).name s && (needed && off))
    ∷ []

-- the place is in a LIST off the spine
abbrev pub off_spine : Option (Found Bytes) → Bool
off_spine found = at_place (λ c x. same_kind (kind_at Sequence c) Sequence && not (spine c)) found

-- from row 8 on
abbrev pub place_conditions : Option (Found Bytes) → ℕ → ℕ → Bool → Bool → Store → List Condition
place_conditions found o i needed unfilled s = 8 if no_place found ∷ model_conditions o i needed unfilled (off_spine found) s
