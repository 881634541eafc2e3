-- The bytes of definitions of which one has another number of particles.
use Prim.Native.Nat.{ℕ, zero, suc, ◌+◌, ◌*◌, ◌<◌}
use native.Mathlib.Omega.{arith}
use mathlib.Core.Path.{◌≡◌, sym, ap, ap₂, ◌∙◌}
use mathlib.Core.List.{List, [], ◌∷◌, ◌++◌, append_assoc}
use lib.ListN.{length, take, drop, length-append}
use lib.Seq.{take_at, drop_at, take-append-add, drop-append-add}
use Rattle.rules.specs.Bytes.{Bytes}
use Rattle.rules.specs.Layout.{FlatDefinition, definition_size, name_width, field, le, definition_bytes, each}
use Rattle.rules.proofs.LayoutLaws.{length_field, length_definition}
use Rattle.layout.specs.Fields.{definition_particles_at}
use Rattle.layout.specs.RecordBytes.{counted_bytes}
use Rattle.model_writer.specs.Spliced.{counted}

-- a definition's bytes before the count
abbrev front : FlatDefinition → Bytes
front d = length d.name ∷ field name_width d.name ++ (d.kind ∷ [])

front_then : (d : FlatDefinition) (n : ℕ) → definition_bytes (record { name = d.name; kind = d.kind; particles = n }) ≡ front d ++ le 2 n
front_then d n = ap (λ (s : Bytes). length d.name ∷ s) (sym (append_assoc (field name_width d.name) (d.kind ∷ []) (le 2 n)))

length_front : (d : FlatDefinition) → length (front d) ≡ definition_particles_at
length_front d = omega (arith, length-append (field name_width d.name) (d.kind ∷ []), length_field name_width d.name)

pub counted_bytes_lem : (o n : ℕ) (ds : List FlatDefinition) → o < length ds → each definition_bytes (counted o n ds) ≡ counted_bytes o n (each definition_bytes ds)
counted_bytes_lem o n [] l = absurd (omega arith)
counted_bytes_lem zero n (d ∷ ds) l =
    let rest : Bytes = each definition_bytes ds in
    let split : definition_bytes d ++ rest ≡ front d ++ (le 2 d.particles ++ rest) =
    ap (λ (s : Bytes). s ++ rest) (front_then d d.particles) ∙ append_assoc (front d) (le 2 d.particles) rest in
    let a : definition_size * 0 + definition_particles_at ≡ definition_particles_at = omega arith in
    let b : definition_size * 0 + definition_size ≡ definition_size = omega arith in
    ap (λ (s : Bytes). s ++ rest) (front_then d n)
    ∙ append_assoc (front d) (le 2 n) rest
    ∙ ap₂ (λ (s t : Bytes). s ++ (le 2 n ++ t))
    (sym (ap (λ (k : ℕ). take k (definition_bytes d ++ rest)) a ∙ ap (take definition_particles_at) split ∙ take_at (front d) (le 2 d.particles ++ rest) definition_particles_at (length_front d)))
    (sym (ap (λ (k : ℕ). drop k (definition_bytes d ++ rest)) b ∙ drop_at (definition_bytes d) rest definition_size (length_definition d)))
counted_bytes_lem (suc o) n (d ∷ ds) l =
    let rest : Bytes = each definition_bytes ds in
    let a : length (definition_bytes d) + (definition_size * o + definition_particles_at) ≡ definition_size * suc o + definition_particles_at = omega (arith, length_definition d) in
    let b : length (definition_bytes d) + (definition_size * o + definition_size) ≡ definition_size * suc o + definition_size = omega (arith, length_definition d) in
    ap (λ (s : Bytes). definition_bytes d ++ s) (counted_bytes_lem o n ds (omega arith))
    ∙ sym (append_assoc (definition_bytes d) (take (definition_size * o + definition_particles_at) rest) (le 2 n ++ drop (definition_size * o + definition_size) rest))
    ∙ ap₂ (λ (s t : Bytes). s ++ (le 2 n ++ t))
    (sym (take-append-add (definition_bytes d) rest (definition_size * o + definition_particles_at)) ∙ ap (λ (k : ℕ). take k (definition_bytes d ++ rest)) a)
    (sym (drop-append-add (definition_bytes d) rest (definition_size * o + definition_size)) ∙ ap (λ (k : ℕ). drop k (definition_bytes d ++ rest)) b)
