use Rattle.std.proofs.Common.{ap, ◌∙◌}
use Rattle.layout.specs.Bodies.{shape_of, definition_body, particle_body, attribute_body}
use Rattle.layout.proofs.form_of.Goals as goal

pub returns : goal.returns
unfolding shape_of
returns c =
    let bs = c.args.store.now in
    let is = c.shape_of-s.ensures.is in
    let fits = c.shape_of-s.ensures.sized in
    record {
      version = ap (λ s. s.version) is;
      width = ap (λ s. s.width) is;
      definition_count = ap (λ s. s.definitions) is;
      particle_count = ap (λ s. s.particles) is;
      attribute_count = ap (λ s. s.attributes) is;
      definitions = c.definition_body.ensures ∙ ap (λ s. definition_body s bs) is;
      particles = c.particle_body.ensures ∙ ap (λ s. particle_body s bs) is;
      attributes = c.attribute_body.ensures ∙ ap (λ s. attribute_body s bs) is;
      sized = record { width = fits.width; definitions = fits.definitions; particles = fits.particles; attributes = fits.attributes };
    }
