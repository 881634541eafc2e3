-- The plans of changes 5 and 8 from what the code reads.
use Prim.Native.Nat.{ℕ, ◌+◌, ◌*◌, ◌≤◌}
use native.Mathlib.Omega.{arith}
use mathlib.Core.Path.{◌≡◌, sym, ap, ◌∙◌}
use mathlib.Core.Bool.{Bool, false, ◌&&◌}
use lib.ListN.{length, drop, length-drop}
use Rattle.rules.specs.declared.Quantifier.{Quantifier}
use Rattle.rules.specs.declared.GroupKind.{GroupKind}
use Rattle.rules.specs.Bytes.{Bytes}
use Rattle.rules.specs.Layout.{particle_size}
use Rattle.rules.specs.Decode.{read_particle}
use Rattle.rules.specs.Quantifiers.{gains, cuts}
use Rattle.model.specs.declared.Particle.{Particle}
use Rattle.model.specs.declared.place.Holder.{Holder}
use Rattle.model.specs.Members.{particles_of}
use Rattle.model.specs.Particle.{particle_of, kind_in}
use Rattle.model.specs.Places.{span_of}
use Rattle.model.proofs.ParticleLaws.{length_particles, span_bounded}
use Rattle.form_index.specs.Reading.{particles_before}
use Rattle.layout.specs.Bodies.{definitions_in}
use Rattle.filling.specs.declared.Filling.TheVariants.{Definition, Particles}
use Rattle.row_walk.specs.declared.Plan.{Plan}
use Rattle.plans.specs.ModelCalls.{requantify_plan}
use Rattle.place_marks.specs.Marking.{marks_at}
use Rattle.model_form.specs.Editing.{start_in}
use Rattle.quantifier_plans.specs.Quantifying.{Stands, group_span, element_plan, group_plan, new_plan}

module _ {part : Bytes} {h : Holder} {p : ℕ} {s : Bytes} {n : ℕ} (y : Stands part h p) (e : s ≡ drop (particle_size * (p + 1)) part) (f : n ≡ span_of h.depth (particles_of s)) where
  pub span_low : n ≤ 255
  span_low = omega (arith, f, span_bounded h.depth (particles_of s), length_particles s, ap length e, length-drop (particle_size * (p + 1)) part, y.inside, y.short)

  pub span_is : 1 + n ≡ group_span part h p
  span_is = ap (λ (m : ℕ). 1 + m) (f ∙ ap (λ (z : Bytes). span_of h.depth (particles_of z)) e)

pub element_planned : (part : Bytes) (o : ℕ) (h : Holder) (p : ℕ) (new : Quantifier) {x : Particle} {s : Bytes} {i : ℕ} {cut gain : Bool} {marks : Bytes} {r : Plan}
    → s ≡ drop (particle_size * p) part → x ≡ particle_of (read_particle s) → i ≡ (read_particle s).row.index → cut ≡ cuts x.quantifier new → gain ≡ gains x.quantifier new
    → marks ≡ marks_at 1 p part → r ≡ requantify_plan o marks (h.spine && cut) i (h.spine && gain) (Definition i) → r ≡ element_plan o part h p new
unfolding element_plan
element_planned part o h p new d x f c g m w =
    let e = x ∙ ap (λ (z : Bytes). particle_of (read_particle z)) d in
    let k = f ∙ ap (λ (z : Bytes). (read_particle z).row.index) d in
    let a = c ∙ ap (λ (y : Particle). cuts y.quantifier new) e in
    let b = g ∙ ap (λ (y : Particle). gains y.quantifier new) e in
    w ∙ (λ j. requantify_plan o (m j) (h.spine && a j) (k j) (h.spine && b j) (Definition (k j)))

pub group_planned : (bs part : Bytes) (o : ℕ) (h : Holder) (p : ℕ)
    (new : Quantifier) {x : Particle} {s : Bytes} {gain : Bool} {defs : Bytes} {before span : ℕ} {marks : Bytes} {kind : GroupKind} {r : Plan}
    → s ≡ drop (particle_size * p) part → x ≡ particle_of (read_particle s) → gain ≡ gains x.quantifier new → defs ≡ definitions_in bs → before ≡ particles_before defs o
    → span ≡ group_span part h p → marks ≡ marks_at span p part → kind ≡ kind_in x.what
    → r ≡ requantify_plan o marks false 0 (h.spine && gain) (Particles kind (before + p + 1) (h.depth + 1)) → r ≡ group_plan (start_in bs o) o part h p new
unfolding group_plan
group_planned bs part o h p new f x g d b s m k w =
    let e = x ∙ ap (λ (z : Bytes). particle_of (read_particle z)) f in
    let u = g ∙ ap (λ (y : Particle). gains y.quantifier new) e in
    let v = b ∙ ap (λ (z : Bytes). particles_before z o) d in
    let a = m ∙ ap (λ (n : ℕ). marks_at n p part) s in
    let l = k ∙ ap (λ (y : Particle). kind_in y.what) e in
    w ∙ (λ j. requantify_plan o (a j) false 0 (h.spine && u j) (Particles (l j) (v j + p + 1) (h.depth + 1)))

pub new_planned : (bs part : Bytes) (o : ℕ) (h : Holder) (p : ℕ) (new : Quantifier) {g b : Bool} {r : Plan} → g ≡ b → r ≡ new_plan b (start_in bs o) o part h p new
    → r ≡ new_plan g (start_in bs o) o part h p new
new_planned bs part o h p new e w = w ∙ ap (λ (b : Bool). new_plan b (start_in bs o) o part h p new) (sym e)
