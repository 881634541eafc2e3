-- The bodies of a form, cut out of a byte string.
use Prim.Native.Nat.{ℕ}
use mathlib.Core.Path.{◌≡◌, sym}
use Rattle.rules.specs.Bytes.{Bytes}
use Rattle.rules.specs.Decode.{number_at, definition_count, particle_count, attribute_count}
use Rattle.layout.specs.declared.Form.{Form}
use Rattle.layout.specs.Fields.{version_at}
use Rattle.layout.specs.Form.{FormOf}
use Rattle.layout.specs.Bodies.{width_of, definitions_in, particles_in, attributes_in}

-- the version, the counts and the bodies of a form
pub record Cut : Type 0 where
  pub version : ℕ
  pub w : ℕ
  pub n : ℕ
  pub defs : Bytes
  pub p : ℕ
  pub parts : Bytes
  pub a : ℕ
  pub attrs : Bytes

abbrev pub cut_of : Bytes → Cut
cut_of bs = record {
  version = number_at version_at 4 bs;
  w = width_of bs;
  n = definition_count bs;
  defs = definitions_in bs;
  p = particle_count bs;
  parts = particles_in bs;
  a = attribute_count bs;
  attrs = attributes_in bs;
}

pub record CutOf (bs : Bytes) (version w n : ℕ) (defs : Bytes) (p : ℕ) (parts : Bytes) (a : ℕ) (attrs : Bytes) : Type 0 where
  pub same : cut_of bs ≡ record { version = version; w = w; n = n; defs = defs; p = p; parts = parts; a = a; attrs = attrs }

-- the form that the string says is cut out of it
pub cut_of_lem : {bs : Bytes} {f : Form} → FormOf bs f → CutOf bs f.version f.width f.definition_count f.definitions.now f.particle_count f.particles.now f.attribute_count f.attributes.now
cut_of_lem k = record {
  same = λ i. record {
    version = sym k.version i;
    w = sym k.width i;
    n = sym k.definition_count i;
    defs = sym k.definitions i;
    p = sym k.particle_count i;
    parts = sym k.particles i;
    a = sym k.attribute_count i;
    attrs = sym k.attributes i;
  };
}
