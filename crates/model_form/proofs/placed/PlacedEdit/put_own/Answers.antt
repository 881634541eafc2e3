-- `model_form::placed::PlacedEdit::put_own` meets its contract: the first particle and the length that are read are those of the owner's
-- model (`first_in`, `many_in` of FormWriting), so what `put_particles` writes are the form's particles after the edit
-- (`own_laid`); what it requires is `body_in`, and the owner is in range by `owner_low`.
use Rattle.model_form.proofs.FormWriting.{owner_low, first_in, many_in, own_laid, body_in}
use Rattle.model_form.proofs.placed.PlacedEdit.put_own.Goals as goal

pub particles_before-first-requires : goal.particles_before-first-requires
particles_before-first-requires c =
    owner_low c.args.self.now.fits

pub model_length-k-requires : goal.model_length-k-requires
model_length-k-requires c =
    owner_low c.args.self.now.fits

pub put_particles-requires : goal.put_particles-requires
put_particles-requires c =
    body_in c.args.self.now.fits c.requires.0
    (first_in c.args.self.now.store.now c.args.self.now.owner c.definitions_of-definitions.ensures c.particles_before-first.ensures.0)
    (many_in c.args.self.now.store.now c.args.self.now.owner c.definitions_of-definitions.ensures c.model_length-k.ensures.0)
    c.particles_of-particles.ensures c.requires.1

pub returns : goal.returns
returns c =
    own_laid c.args.self.now.fits
    (first_in c.args.self.now.store.now c.args.self.now.owner c.definitions_of-definitions.ensures c.particles_before-first.ensures.0)
    (many_in c.args.self.now.store.now c.args.self.now.owner c.definitions_of-definitions.ensures c.model_length-k.ensures.0)
    c.particles_of-particles.ensures c.put_particles.ensures
