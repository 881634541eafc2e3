-- `definition_refusals::destroy_condition` meets its contract: each return is the number of the first condition of
-- `destroy_definition` that holds: 6 where the index is not below the count (`unknown` of DestroyConditions), 10 where
-- a model has the definition or a document is one of it (`used`), else 0 (`unused`).
use Rattle.definition_refusals.proofs.DestroyConditions.{unknown, used, unused}
use native.Mathlib.Omega.{arith}
use Rattle.definition_refusals.proofs.destroy_condition.Goals as goal

pub returns-then-i-definition_count : goal.returns-then-i-definition_count
returns-then-i-definition_count c =
    unknown c.args.store.now c.args.i c.requires (omega (arith, c.definition_count.ensures.value))

pub returns-then-in_model-in_root : goal.returns-then-in_model-in_root
returns-then-in_model-in_root c =
    used c.args.store.now c.args.i c.requires (omega (arith, c.definition_count.ensures.value)) c.width_in-w.ensures
    c.particles_of.ensures c.rows_of.ensures c.particle_count-particles.ensures c.row_count-rows.ensures
    c.has_member-in_model.ensures c.has_root-in_root.ensures c.if-in_model-in_root.true

pub returns : goal.returns
returns c =
    unused c.args.store.now c.args.i c.requires (omega (arith, c.definition_count.ensures.value)) c.width_in-w.ensures
    c.particles_of.ensures c.rows_of.ensures c.particle_count-particles.ensures c.row_count-rows.ensures
    c.has_member-in_model.ensures c.has_root-in_root.ensures c.if-in_model-in_root.false
