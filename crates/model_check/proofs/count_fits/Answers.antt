-- `model_check::count_fits` meets its contract. The fields of a particle and the number of its members, by its sort.
use Rattle.model_check.specs.Particles.{particle_record_at}
use Rattle.model_check.proofs.ModelLaws.{count_element, count_group}
use Rattle.model_check.proofs.count_fits.Goals as goal

pub returns-then-sort-eq-ELEMENT : goal.returns-then-sort-eq-ELEMENT
returns-then-sort-eq-ELEMENT c =
    let a = c.args in
    count_element a.n (particle_record_at a.i a.parts.now).row a.below c.particle_sort_at-sort.ensures c.particle_quantifier_at-marked.ensures
    c.particle_index_at-index.ensures c.if-sort-eq-ELEMENT.true

pub returns : goal.returns
returns c =
    let a = c.args in
    count_group a.n (particle_record_at a.i a.parts.now).row a.below c.particle_sort_at-sort.ensures c.particle_quantifier_at-marked.ensures
    c.particle_index_at-index.ensures c.if-sort-eq-ELEMENT.false
