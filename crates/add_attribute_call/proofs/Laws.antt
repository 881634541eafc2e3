-- What change 9 asks of the writer, and what it answers.
use Prim.Native.Nat.{ℕ, suc, ◌+◌, ◌<◌, ◌≤◌}
use native.Mathlib.Omega.{arith}
use borrow.Author.Tests.{lt-leb, ltb-false, not-false}
use mathlib.Core.Path.{◌≡◌, refl, sym, ap, ◌∙◌, subst}
use mathlib.Core.Bool.{Bool, true, false, not}
use lib.ListN.{length, take}
use Rattle.rules.specs.declared.AttributeSort.{AttributeSort}
use Rattle.rules.specs.Bytes.{Bytes}
use Rattle.rules.specs.Layout.{FlatAttribute, FlatStore, flat, sort_code}
use Rattle.rules.specs.Decode.{definition_count, particle_count, attribute_count, sort_of}
use Rattle.rules.specs.WellFormed.{given_name, is_value, within_ceilings}
use Rattle.rules.specs.Passing.{passes}
use Rattle.rules.specs.Change.{add_attribute, after}
use Rattle.rules.specs.Refusal.{first, conditions}
use Rattle.rules.specs.Outcome.{Answers}
use Rattle.rules.proofs.DecodeLaws.{given_stored, name_width_lem, value_width_lem}
use Rattle.change_laws.proofs.Conditions.{not_past, none_holds}
use Rattle.codec.specs.Laid.{Laid}
use Rattle.layout.specs.Bodies.{width_of, Number, most_form}
use Rattle.layout.proofs.LayoutLaws.{width_within}
use Rattle.lookup.specs.Bodies.{bodies_of}
use Rattle.row_walk.specs.declared.Plan.{Plan}
use Rattle.store_laws.specs.Stores.{store_in}
use Rattle.store_writer.specs.Writing.{limited}
use Rattle.planned_rows.specs.Planned.{planned_in}
use Rattle.store_laws.specs.Forms.{form_bytes, form_read, bare_form, Forms}
use Rattle.planned_rows.specs.Walking.{Sized}
use Rattle.store_laws.proofs.StoreLaws.{Holds, holds}
use Rattle.store_writer.proofs.CallLaws.{answers_equal, passed}
use Rattle.store_laws.proofs.FormBytesLaws.{form_short}
use Rattle.store_laws.proofs.FormLaws.{FormOf, forms_of, within, good_bodies}
use Rattle.store_writer.proofs.FormAnswers.{form_answers, form_ceiling}
use Rattle.store_check.proofs.AttributeReads.{sort_back}
use Rattle.store_check.proofs.StoreFacts.{Whole, whole, value_given}
use Rattle.plans.specs.AttributeCalls.{attributes_to, add_attribute_plan, attribute_added}
use Rattle.plans.proofs.FormsAfter.{good_attribute, added_ceiling, added_form}
use Rattle.plans.proofs.AttributeCallsPlanned.{add_attribute_planned}
use Rattle.attribute_form.specs.Attributes.{To}
use Rattle.attribute_form.proofs.FormParts.{fits, front_laid}
use Rattle.attribute_form.proofs.CountLaws.{number_of_definitions, number_of_particles, number_of_attributes}
use Rattle.attribute_writer.specs.Attributes.{new_entry, Addable}
use Rattle.add_attribute_call.specs.Added.{added}

-- ---- no condition holds
module _ (bs : Bytes) {b : Bool} {m : ℕ} (h : not b ≡ false) (e : b ≡ passes bs) where
  pub addable : (o : ℕ) (n : Bytes) (k : ℕ) (v : Bytes) → m ≡ first (conditions (add_attribute o n k v) (store_in bs)) → m ≡ 0 → Addable bs o n k v
  unfolding conditions
  addable o n k v f z =
      let (name, (value, (code, (fresh, (index, more))))) = none_holds (add_attribute o n k v) (store_in bs) (sym f ∙ z) in
      let w : Whole bs = whole bs (passed bs h e) in
      record {
        passes = passed bs h e;
        owner = omega (arith, not_past o (store_in bs).form index, w.few_definitions, w.agrees.size);
        name = given_stored n (not-false (given_name n) name);
        short = name_width_lem n (given_stored n (not-false (given_name n) name));
        sort = ltb-false 2 k code;
        value = value_given bs v value;
        few = value_width_lem (width_of bs) v (value_given bs v value);
      }

-- the sort that is read from a code no greater than 2 has the code
module _ {bs : Bytes} {o : ℕ} {n : Bytes} {k : ℕ} {v : Bytes} {s : AttributeSort} (e : s ≡ sort_of k) (x : Addable bs o n k v) where
  code_kept : k ≡ sort_code s
  code_kept = sym (ap sort_code e ∙ sort_back k x.sort)

  pub addable_as : Addable bs o n (sort_code s) v
  addable_as = subst (λ (c : ℕ). Addable bs o n c v) code_kept x

  pub added_as : added o n k v (bodies_of bs) ≡ added o n (sort_code s) v (bodies_of bs)
  added_as = ap (λ (c : ℕ). added o n c v (bodies_of bs)) code_kept

module _ (bs : Bytes) (q : passes bs ≡ true) where
  pub add_leaves : (o : ℕ) (n : Bytes) (k : ℕ) (v : Bytes) → first (conditions (add_attribute o n k v) (store_in bs)) ≡ 0
      → flat (after (add_attribute o n k v) (store_in bs)) ≡ added o n k v (bodies_of bs)
  unfolding added
  add_leaves o n k v e = let kept : Holds bs = holds bs q in add_attribute_planned (store_in bs) kept.good o n k v e ∙ sym (ap (added o n k v) kept.bodies)

-- ---- the store that is left
module _ (bs : Bytes) (o : ℕ) (n : Bytes) (k : ℕ) (v : Bytes) (x : Addable bs o n k v) where
  kept : Holds bs
  kept = holds bs x.passes

  pub added_full : (room : ℕ) {a : ℕ} {out : Bytes} → Number (attribute_count bs) a → 64 ≤ a
      → Answers (limited room (added o n k v (bodies_of bs))) out 16 0 out
  unfolding added
  added_full room {out = out} e l =
      let f : FlatStore = bodies_of bs in
      let i : ℕ = attributes_to o f.attributes in
      let c : FlatAttribute = new_entry o n k v in
      let over : within_ceilings (bare_form (attribute_added i c f)) ≡ false =
      added_ceiling i f (good_bodies kept) (within kept) c ∙ lt-leb (suc (length f.attributes)) 64 (omega (arith, number_of_attributes bs e)) in
      form_ceiling (attribute_added i c f) over (add_attribute_plan f.version o i k) v f room

  module _ {d p a i r : ℕ} {q : Plan} {buffer left : Bytes} (cd : Number (definition_count bs) d) (cp : Number (particle_count bs) p)
      (ca : Number (attribute_count bs) a) (few : a < 64) (to : To o (bodies_of bs).attributes i)
      (same : q ≡ add_attribute_plan (bodies_of bs).version o i k)
      (long : length buffer ≡ most_form) (y : Laid (form_bytes (width_of bs) (attribute_added i (new_entry o n k v) (bodies_of bs))) buffer 0 r left) where
    of_bytes : {form : Bytes} → form ≡ form_bytes (width_of bs) (attribute_added i (new_entry o n k v) (bodies_of bs))
        → FormOf (width_of bs) (attribute_added i (new_entry o n k v) (bodies_of bs)) form d p (a + 1)
    of_bytes e =
        added_form i (bodies_of bs) (good_bodies kept) (within kept) (new_entry o n k v) (good_attribute (width_of bs) o n k v x.name x.value)
        (omega (arith, number_of_attributes bs ca)) e (number_of_definitions bs cd)
        (number_of_particles bs cp) (omega (arith, number_of_attributes bs ca))

    room_for : length (form_bytes (width_of bs) (attribute_added i (new_entry o n k v) (bodies_of bs))) ≤ most_form
    room_for = form_short (forms_of (of_bytes refl)) (width_within bs)

    pub added_fits : r ≤ length left
    added_fits = fits long room_for y

    pub added_long : r ≡ length (take r left)
    added_long = omega (arith, y.next, ap length (front_laid y (omega (arith, long, room_for))))

    of : FormOf (width_of bs) (attribute_added i (new_entry o n k v) (bodies_of bs)) (take r left) d p (a + 1)
    of = of_bytes (front_laid y (omega (arith, long, room_for)))

    pub added_asks : (passes bs ≡ true) × (is_value (width_of bs) v ≡ true) × Sized q × Forms (width_of bs) (take r left) d p (a + 1)
    added_asks = (
      x.passes,
      x.value,
      subst Sized (sym same)
          (record {
            moves = record { definitions = record { more = omega arith }; attributes = record { more = omega arith } };
            filling = omega (arith, to.most, number_of_attributes bs ca);
          }),
      forms_of of,
    )

    pub added_answers : (room : ℕ) {out : Bytes} {number len : ℕ} {end : Bytes}
        → Answers (limited room (planned_in (form_read (width_of bs) (take r left) d p (a + 1)) q v (bodies_of bs))) out number len end
        → Answers (limited room (added o n k v (bodies_of bs))) out number len end
    unfolding added
    added_answers room z =
        let f : FlatStore = bodies_of bs in
        answers_equal
        (ap (limited room)
        ((λ j. planned_in (attribute_added (sym to.is j) (new_entry o n k v) f) (add_attribute_plan f.version o (sym to.is j) k) v f)
        ∙ ap (λ (s : Plan). planned_in (attribute_added i (new_entry o n k v) f) s v f) (sym same)))
        (form_answers of q v f room z)
