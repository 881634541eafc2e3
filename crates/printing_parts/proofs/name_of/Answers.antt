-- `printing_parts::name_of` meets its contract: the case split is on the count: from it on the table has no name
-- (`definition_none` of PartLaws), else the name of record i, no longer than 300 bytes (`definition_name_lem`,
-- `definition_short`).
use mathlib.Core.Path.{sym, ap, ◌∙◌, subst}
use mathlib.Core.List.{List}
use Prim.Native.Nat.{ℕ, ◌≤◌}
use native.Mathlib.Omega.{arith}
use lib.ListN.{length}
use Rattle.rules.specs.Decode.{read_definition}
use Rattle.printing_parts.proofs.PartLaws.{definition_name_lem, definition_short, definition_none}
use Rattle.printing_parts.proofs.name_of.Goals as goal

pub returns-then-definition_count-i : goal.returns-then-definition_count-i
returns-then-definition_count-i c =
    let a = c.args in
    record { name_is = sym (definition_none a.store.now a.i (omega (arith, c.definition_count.ensures.value))); short = omega arith }

pub returns : goal.returns
returns c =
    let a = c.args in
    let e = c.definition_name.ensures ∙ ap (λ (l : List ℕ). (read_definition l).name) c.definition.ensures in
    record {
      name_is = e ∙ sym (definition_name_lem a.store.now a.i (omega (arith, c.definition_count.ensures.value)));
      short = subst (λ (l : List ℕ). length l ≤ 300) (sym e) (definition_short a.store.now a.i);
    }
