-- `model_scan::put_element` meets its contract: the particle that is written has the place of the name and the code of
-- the mark (`element_laid` of PutLaws); the place fits a byte.
use native.Mathlib.Omega.{arith}
use Rattle.declaration_scan.specs.Names.{written_names}
use Rattle.model_scan.proofs.PutLaws.{place_low, element_laid}
use Rattle.model_scan.proofs.put_element.Goals as goal

pub overflow_cast-place : goal.overflow_cast-place
overflow_cast-place c =
    omega (arith, place_low _ c.definition_place.ensures c.unwrap_or-place.ensures)

pub returns : goal.returns
returns c =
    let a = c.args in
    element_laid (written_names a.n a.defs.now) a.text.now _ _ c.name_here-name.ensures c.definition_place.ensures c.unwrap_or-place.ensures
    c.after_name.ensures c.mark_code-mark.ensures c.put_new_particle.ensures
