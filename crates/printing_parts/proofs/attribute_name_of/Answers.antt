-- `printing_parts::attribute_name_of` meets its contract: the case split is on the count: from it on the table has no
-- name (`attribute_none` of PartLaws), else the name of record i, no longer than 300 bytes (`attribute_name_lem`,
-- `attribute_short`).
use mathlib.Core.Path.{sym, ap, ◌∙◌, subst}
use mathlib.Core.List.{List}
use Prim.Native.Nat.{ℕ, ◌≤◌}
use native.Mathlib.Omega.{arith}
use lib.ListN.{length}
use Rattle.rules.specs.Decode.{read_attribute}
use Rattle.printing_parts.proofs.PartLaws.{attribute_name_lem, attribute_short, attribute_none}
use Rattle.printing_parts.proofs.attribute_name_of.Goals as goal

pub returns-then-attribute_count-i : goal.returns-then-attribute_count-i
returns-then-attribute_count-i c =
    let a = c.args in
    record { name_is = sym (attribute_none a.store.now a.i (omega (arith, c.attribute_count.ensures.value))); short = omega arith }

pub returns : goal.returns
returns c =
    let a = c.args in
    let e = c.attribute_name.ensures ∙ ap (λ (l : List ℕ). (read_attribute l).name) c.attribute.ensures in
    record {
      name_is = e ∙ sym (attribute_name_lem a.store.now a.i (omega (arith, c.attribute_count.ensures.value)));
      short = subst (λ (l : List ℕ). length l ≤ 300) (sym e) (attribute_short a.store.now a.i);
    }
