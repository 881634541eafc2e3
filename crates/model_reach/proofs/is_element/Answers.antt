-- `model_reach::is_element` meets its contract: what was read of the particle says whether it is the element with index
-- i (`other_first` of ModelLaws).
use mathlib.Core.Path.{refl}
use Rattle.model_reach.proofs.ModelLaws.{other_first}
use Rattle.model_reach.proofs.is_element.Goals as goal

pub returns-in-Element : goal.returns-in-Element
returns-in-Element c = other_first c.args.particle.now _ c.args.i c.read_particle.ensures c.in-Element.is refl

pub returns-in-Group : goal.returns-in-Group
returns-in-Group c = other_first c.args.particle.now _ c.args.i c.read_particle.ensures c.in-Group.is refl
