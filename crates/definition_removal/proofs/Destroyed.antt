-- The bodies of a store after change 2.
use Prim.Native.Nat.{ℕ, suc, ◌-◌, ◌<◌}
use mathlib.Core.Path.{◌≡◌, refl, sym, ap, ◌∙◌}
use mathlib.Core.Logic.{inl, inr}
use mathlib.Core.Bool.{true, false, false≢true}
use mathlib.Core.List.Memᴰ
use mathlib.Core.List.{List, [], map, Memᴰ}
use lib.ListN.{length}
use Rattle.rules.specs.Bytes.{Bytes, bytes, any}
use Rattle.rules.specs.Model.{names, member}
use Rattle.rules.specs.Store.{Definition, Form, Row, Forest, bare, tree, Store, members, heads}
use Rattle.rules.specs.Layout.{value_width, index_of, attribute_index, flat_definition, all_particles, all_attributes, flat}
use Rattle.rules.specs.Conforming.{EveryRow, fits_row}
use Rattle.rules.specs.Lines.{element_named}
use Rattle.rules.specs.Passing.{good}
use Rattle.rules.specs.Change.{destroy_definition, name_at_index, without, form_after, plan, after}
use Rattle.rules.proofs.BooleanLaws.{Every, every_in}
use Rattle.rules.proofs.TestLaws.{any_test, member_test}
use Rattle.rules.proofs.DecodeLaws.{good_parts}
use Rattle.change_laws.proofs.Replacing.{without_in}
use Rattle.change_laws.proofs.Rowwise.{Standing}
use Rattle.change_laws.proofs.StandingLaws.{standing_every}
use Rattle.change_laws.proofs.ConformingForms.{nowhere}
use Rattle.change_laws.proofs.ConformingSimple.{GoodTests, good_tests}
use Rattle.definition_writer.specs.Bodies.{moved_particle, moved_row}
use Rattle.definition_removal.specs.Bodies.{destroyed, lowered, cut_out, particles_up_to, attributes_up_to}
use Rattle.definition_writer.proofs.Kept.{after_kept_lem}
use Rattle.definition_writer.proofs.Renumbered.{OkRow, moved_models, moved_definitions, moved_rows}
use Rattle.definition_writer.proofs.FittingRows.{others_bare, roots_elements}
use Rattle.definition_removal.proofs.Lowered.{without_cut, map_without, index_lowered, particles_cut, attributes_lowered, attributes_cut}

every_standing : (P : Row → List Row → Type 0) (f : Forest Row) → ((r : Row) (b : Forest Row) → Standing f r b → P r (heads b)) → EveryRow P f
every_standing P bare h = tt
every_standing P (tree r b t) h = (h r b (inl (refl, refl)), every_standing P b (λ s c i. h s c (inr (inl i))), every_standing P t (λ s c i. h s c (inr (inr i))))

module _ (i : ℕ) (s : Store) (g : good s ≡ true) (h : i < length s.form) where
  abbrev form : Form
  form = s.form

  abbrev n : Bytes
  n = name_at_index i s.form

  abbrev left : Form
  left = without i s.form

  module _ (models : any (λ (d : Definition). member bytes n (names (members d))) form ≡ false) (roots : any (element_named n) (heads s.docs) ≡ false) where
    abbrev Ok : Bytes → Type 0
    Ok m = m ≡ n → ⊥

    abbrev down : ℕ → ℕ
    down = lowered (suc i) 1

    abbrev a : ℕ
    a = attributes_up_to i (all_attributes 0 form)

    abbrev b : ℕ
    b = attributes_up_to (suc i) (all_attributes 0 form)

    names_ok : Every (λ d. (m : Bytes) → Memᴰ m (names (members d)) → Ok m) left
    names_ok =
        every_in (λ d. (m : Bytes) → Memᴰ m (names (members d)) → Ok m) left
        (λ d k m j e. false≢true
        (sym models ∙ (any_test (λ (d : Definition). member bytes n (names (members d))) form).1
        (d, without_in i form k, (member_test bytes n (names (members d))).1 (Memᴰ.cast (sym e) j))))

    elements : (m : Bytes) → Ok m → index_of m left ≡ down (index_of m form)
    elements m o = index_lowered m i form h o

    attributes : (o m : Bytes) → Ok o → attribute_index o m left ≡ lowered b (b - a) (attribute_index o m form)
    attributes o m k = attributes_lowered o m i form h k

    definitions_are : map (flat_definition left) left ≡ cut_out i 1 (flat s).definitions
    definitions_are = moved_definitions form left down Ok elements left names_ok ∙ map_without (flat_definition form) i form ∙ without_cut i (flat s).definitions

    particles_are : all_particles left left
        ≡ map (moved_particle down) (cut_out (particles_up_to i (flat s).definitions) (particles_up_to (suc i) (flat s).definitions - particles_up_to i (flat s).definitions) (flat s).particles)
    particles_are = moved_models form left down Ok elements left names_ok ∙ ap (map (moved_particle down)) (particles_cut form i form h)

    rows_ok : EveryRow (OkRow form left down Ok elements (lowered b (b - a)) attributes) s.docs
    rows_ok =
        let x : GoodTests s = good_tests s g in
        every_standing (OkRow form left down Ok elements (lowered b (b - a)) attributes) s.docs
        (λ r c j.
        record {
          name = λ q e. nowhere s.version (value_width s.version) form x.form s.docs x.docs n models roots r c j q (sym e);
          nothing = others_bare s.version form r (heads c) (standing_every (λ r below. fits_row s.version form r below ≡ true) s.docs (good_parts s g).rows r c j);
        })

    rows_are : (flat (record { version = s.version; next = s.next; form = left; docs = s.docs })).rows ≡ map (moved_row down (lowered b (b - a))) (flat s).rows
    rows_are = moved_rows form left down Ok elements (lowered b (b - a)) attributes [] 0 s.docs (roots_elements (Ok []) (heads s.docs) (good_parts s g).roots) rows_ok

    pub flat_destroyed : flat (after (destroy_definition i) s) ≡ destroyed i (flat s)
    unfolding destroyed form_after plan
    flat_destroyed =
        ap flat (after_kept_lem (destroy_definition i) s g refl)
        ∙ (λ j.
        record {
          version = s.version;
          next = s.next;
          definitions = definitions_are j;
          particles = particles_are j;
          attributes = attributes_cut i form h j;
          rows = rows_are j;
        })
