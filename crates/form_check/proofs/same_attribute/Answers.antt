-- `form_check::same_attribute` meets its contract. Owner and name, compared.
use mathlib.Core.Path.{◌∙◌, ap₂}
use mathlib.Core.Bool.{Bool, ◌&&◌}
use Prim.Native.Nat.{ℕ}
use lib.Dec.{eqb}
use Rattle.rules.specs.Bytes.{Bytes, same}
use Rattle.form_check.proofs.same_attribute.Goals as goal

pub returns : goal.returns
returns c =
    ap₂ (λ (a b : Bool). a && b) (ap₂ (λ (a b : ℕ). eqb a b) c.attribute_owner.ensures c.attribute_owner-2.ensures)
    (c.equal-named.ensures ∙ ap₂ (λ (a b : Bytes). same a b) c.attribute_name.ensures c.attribute_name-2.ensures)
