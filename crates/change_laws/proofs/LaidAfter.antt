-- Every row can be laid after an accepted call: values are values, elements have none, texts have no name.
use Prim.Native.Nat.{ℕ}
use mathlib.Core.Path.{◌≡◌, refl, sym, ap, ◌∙◌}
use mathlib.Core.Bool.{Bool, true, false, ◌&&◌, false≢true}
use mathlib.Core.Option.{Option, none, some}
use mathlib.Core.List.{List, [], ◌∷◌, Memᴰ}
use lib.Dec.{eqb}
use lib.ListN.{length}
use Rattle.rules.specs.declared.Quantifier.{Quantifier}
use Rattle.rules.specs.Bytes.{Bytes, same, eqb_eq, is_none}
use Rattle.rules.specs.Model.{Members, done, el, group}
use Rattle.rules.specs.Place.{Found}
use Rattle.rules.specs.Edit.{insert, remove, quantify, place_of}
use Rattle.rules.specs.Store.{Attribute, Definition, Form, RowSort, element, attribute, text, Row, Forest, Store, members}
use Rattle.rules.specs.WellFormed.{stored_name, is_value, is_fill, lookup, well_formed}
use Rattle.rules.specs.Conforming.{is_element, is_attribute, is_text, every_row}
use Rattle.rules.specs.Filling.{fill_each, fill_definition}
use Rattle.rules.specs.Lines.{Line, lines, is_text_row, element_named, attribute_named, element_with, children_of, serial_at}
use Rattle.rules.specs.Decode.{quantifier_of}
use Rattle.rules.specs.Change.{Call, create_definition, destroy_definition, insert_element, remove_element, change_quantifier, convert_to_group, flatten_group}
use Rattle.rules.specs.Change.{change_group_quantifier, add_attribute, destroy_attribute, add_document, add_element, destroy_element, set_attribute}
use Rattle.rules.specs.Change.{destroy_attribute_row, set_text, definition_at, name_at_index, Owned, attribute_at, Plan, keeping, insert_plan, remove_plan, group_filling}
use Rattle.rules.specs.Change.{quantify_plan, picked_plan, set_at, set_plan, drop_plan, plan, changed, docs_after, after}
use Rattle.rules.specs.Passing.{laid_row, GoodSerials}
use Rattle.rules.proofs.Words.{and_both, and_split}
use Rattle.rules.proofs.WellFormedLaws.{definition_good}
use Rattle.rules.proofs.SerialLaws.{every_row_lem}
use Rattle.rules.proofs.FillingLaws.{every_each, filling_laid}
use Rattle.change_laws.proofs.RowEdits.{revalued}
use Rattle.change_laws.proofs.Rowwise.{Standing, every_changed}
use Rattle.change_laws.proofs.StandingLaws.{no_zero, first_child_lem}
use Rattle.change_laws.proofs.Numbered.{every_number}

abbrev pub laid : ℕ → Row → List Row → Bool
laid w r below = laid_row w r

-- the text or value of a call, if it has one, is a value: condition 3
abbrev pub given_value : ℕ → Call → Bool
given_value w (create_definition n k) = true
given_value w (destroy_definition i) = true
given_value w (insert_element o p i q t) = is_value w t
given_value w (remove_element o p) = true
given_value w (change_quantifier o p q t) = is_value w t
given_value w (convert_to_group o p n k) = true
given_value w (flatten_group o p) = true
given_value w (change_group_quantifier o p q t) = is_value w t
given_value w (add_attribute o n k v) = is_value w v
given_value w (destroy_attribute a) = true
given_value w (add_document i t) = is_value w t
given_value w (add_element k j i t) = is_value w t
given_value w (destroy_element k) = true
given_value w (set_attribute k a v) = is_value w v
given_value w (destroy_attribute_row k a) = true
given_value w (set_text k t) = is_value w t

-- a row that is no element gets a value
set_laid : (w : ℕ) (p : Plan) (r : Row) → (r.serial ≡ p.set → (is_element r.sort ≡ false) × (is_value w p.value ≡ true)) → laid_row w r ≡ true → laid_row w (revalued p r) ≡ true
set_laid w p r f h = by (eqb r.serial p.set) refl
  where
    valued : (x : RowSort) (v : Bytes) → is_element x ≡ false → is_value w v ≡ true
        → (elim x as (λ z. Bool) [ element ↦ is_none r.value | attribute ↦ is_value w r.value | text ↦ is_value w r.value && is_none r.name ]) ≡ true
        → (elim x as (λ z. Bool) [ element ↦ is_none v | attribute ↦ is_value w v | text ↦ is_value w v && is_none r.name ]) ≡ true
    valued element v e g h = absurd (false≢true (sym e))
    valued attribute v e g h = g
    valued text v e g h = and_both g (and_split (is_value w r.value) (is_none r.name) h).1

    by : (c : Bool) → eqb r.serial p.set ≡ c → laid_row w (revalued p r) ≡ true
    by true q = let (e, g) = f (eqb_eq r.serial p.set q) in rw q (valued r.sort p.value e g h)
    by false q = rw q h

module _ (version w : ℕ) (form : Form) (ok : well_formed w form ≡ true) (txt : Bytes) (value : is_value w txt ≡ true) where
  values : (n : Bytes) (d : Definition) → lookup n form ≡ some d → (a : Attribute) → Memᴰ a d.attributes → is_value w a.value ≡ true
  values n d e a m =
      let (x, y) = and_split (stored_name a.name) (is_value w a.value && is_fill a.sort a.value) ((definition_good w form ok n d e).attributes a m) in
      (and_split (is_value w a.value) (is_fill a.sort a.value) y).0

  pub fill_laid : (n : Bytes) → every_row (laid w) (fill_definition version form txt n) ≡ true
  fill_laid n = (every_row_lem (laid w) (fill_definition version form txt n)).1 (filling_laid version w (length form) form txt n values value)

  pub fills_laid : (ns : List Bytes) → every_row (laid w) (fill_each (λ n. fill_definition version form txt n) ns) ≡ true
  fills_laid ns =
      (every_row_lem (laid w) (fill_each (λ n. fill_definition version form txt n) ns)).1
      (every_each (λ r b. laid_row w r ≡ true) (λ n. fill_definition version form txt n) ns (λ n m. filling_laid version w (length form) form txt n values value))

module _ (w next : ℕ) (docs : Forest Row) (serials : GoodSerials next docs) where
  -- a plan whose rows can be laid, and whose value is one for the row that gets it
  pub record Lays (p : Plan) : Type 0 where
    pub filling : every_row (laid w) p.filling ≡ true
    pub sets : (r : Row) (b : Forest Row) → Standing docs r b → r.serial ≡ p.set → (is_element r.sort ≡ false) × (is_value w p.value ≡ true)

  pub laid_changed : (p : Plan) → Lays p → every_row (laid w) docs ≡ true → every_row (laid w) (changed p docs) ≡ true
  laid_changed p x e = every_changed p (laid w) (laid w) x.filling docs (λ r b i h. set_laid w p r (x.sets r b i) h) e

  lays_rows : (p : Plan) → p.set ≡ 0 → every_row (laid w) p.filling ≡ true → Lays p
  lays_rows p z e = record { filling = e; sets = λ r b i q. absurd (no_zero next docs serials r b i (q ∙ z)) }

  -- the first of the rows right below a row
  lays_set : (p : Plan) (test : Row → Bool) (k : ℕ) → every_row (laid w) p.filling ≡ true → ((r : Row) → test r ≡ true → is_element r.sort ≡ false) → is_value w p.value ≡ true
      → p.set ≡ serial_at 0 (children_of test k (lines 0 docs)) → Lays p
  lays_set p test k e f v q = record { filling = e; sets = λ r b i h. (f r (first_child_lem next docs serials test k r b i (h ∙ q)), v) }

  module _ (version : ℕ) (form : Form) (ok : well_formed w form ≡ true) where
    insert_lays : (owner txt : Bytes) (q : Quantifier) (n : Bytes) → is_value w txt ≡ true → (o : Option (Found Bytes)) → Lays (insert_plan version form owner txt q n o)
    insert_lays owner txt q n v none = lays_rows (insert_plan version form owner txt q n none) refl refl
    insert_lays owner txt q n v (some f) = lays_rows (insert_plan version form owner txt q n (some f)) refl (fill_laid version w form ok txt v n)

    remove_lays : (owner : Bytes) (o : Option (Found Bytes)) → Lays (picked_plan (λ c t. remove_plan owner t) o)
    remove_lays owner none = lays_rows keeping refl refl
    remove_lays owner (some f) = by f.picked
      where
        by : (t : Members Bytes) → Lays (remove_plan owner t)
        by done = lays_rows keeping refl refl
        by (el q x t) = lays_rows (remove_plan owner (el q x t)) refl refl
        by (group q k ms t) = lays_rows keeping refl refl

    quantify_lays : (ls : List Line) (owner txt : Bytes) (q : Quantifier) → is_value w txt ≡ true → (o : Option (Found Bytes)) → Lays (picked_plan (quantify_plan version form ls owner txt q) o)
    quantify_lays ls owner txt q v none = lays_rows keeping refl refl
    quantify_lays ls owner txt q v (some f) = by f.picked
      where
        by : (t : Members Bytes) → Lays (quantify_plan version form ls owner txt q f.context t)
        by done = lays_rows keeping refl refl
        by (el old x t) = lays_rows (quantify_plan version form ls owner txt q f.context (el old x t)) refl (fill_laid version w form ok txt v x)
        by (group old k ms t) = lays_rows (quantify_plan version form ls owner txt q f.context (group old k ms t)) refl (fills_laid version w form ok txt v (group_filling q k ms))

    drop_lays : (above : Owned → Row → Bool) (o : Option Owned) → Lays (drop_plan above o)
    drop_lays above none = lays_rows keeping refl refl
    drop_lays above (some o) = lays_rows (drop_plan above (some o)) refl refl

    set_lays : (k : ℕ) (v : Bytes) → is_value w v ≡ true → (o : Option Owned) → Lays (set_plan (lines 0 docs) k v o)
    set_lays k v e none = lays_rows keeping refl refl
    set_lays k v e (some o) = by (children_of (attribute_named o.attribute.name) k (lines 0 docs)) refl
      where
        no_element_lem : (r : Row) → attribute_named o.attribute.name r ≡ true → is_element r.sort ≡ false
        no_element_lem r h = of r.sort h
          where
            of : (x : RowSort) → (is_attribute x && same o.attribute.name r.name) ≡ true → is_element x ≡ false
            of element h = sym h
            of attribute h = refl
            of text h = refl

        by : (ns : List ℕ) → children_of (attribute_named o.attribute.name) k (lines 0 docs) ≡ ns → Lays (set_at k o v ns)
        by [] q = lays_rows (set_at k o v []) refl (and_both e refl)
        by (n ∷ ns) q = lays_set (set_at k o v (n ∷ ns)) (attribute_named o.attribute.name) k refl no_element_lem e (sym (ap (serial_at 0) q))

    pub plan_lays : (c : Call) → given_value w c ≡ true → Lays (plan c version form (lines 0 docs))
    unfolding plan
    plan_lays (create_definition n k) e = lays_rows keeping refl refl
    plan_lays (destroy_definition i) e = lays_rows keeping refl refl
    plan_lays (insert_element o p i q t) e =
        insert_lays (name_at_index o form) t (quantifier_of q) (name_at_index i form) e (place_of (insert (quantifier_of q) (name_at_index i form)) p (members (definition_at o form)))
    plan_lays (remove_element o p) e = remove_lays (name_at_index o form) (place_of remove p (members (definition_at o form)))
    plan_lays (change_quantifier o p q t) e = quantify_lays (lines 0 docs) (name_at_index o form) t (quantifier_of q) e (place_of (quantify (quantifier_of q)) p (members (definition_at o form)))
    plan_lays (convert_to_group o p n k) e = lays_rows keeping refl refl
    plan_lays (flatten_group o p) e = lays_rows keeping refl refl
    plan_lays (change_group_quantifier o p q t) e = quantify_lays (lines 0 docs) (name_at_index o form) t (quantifier_of q) e (place_of (quantify (quantifier_of q)) p (members (definition_at o form)))
    plan_lays (add_attribute o n k v) e = lays_rows (plan (add_attribute o n k v) version form (lines 0 docs)) refl (and_both e refl)
    plan_lays (destroy_attribute a) e = drop_lays (λ o u. element_named o.owner.name u) (attribute_at a form)
    plan_lays (add_document i t) e = lays_rows (plan (add_document i t) version form (lines 0 docs)) refl (fill_laid version w form ok t e (name_at_index i form))
    plan_lays (add_element k j i t) e = lays_rows (plan (add_element k j i t) version form (lines 0 docs)) refl (fill_laid version w form ok t e (name_at_index i form))
    plan_lays (destroy_element k) e = lays_rows (plan (destroy_element k) version form (lines 0 docs)) refl refl
    plan_lays (set_attribute k a v) e = set_lays k v e (attribute_at a form)
    plan_lays (destroy_attribute_row k a) e = drop_lays (λ o u. element_with k u) (attribute_at a form)
    plan_lays (set_text k t) e = lays_set (plan (set_text k t) version form (lines 0 docs)) is_text_row k refl (λ r h. of r.sort h) e refl
      where
        of : (x : RowSort) → is_text x ≡ true → is_element x ≡ false
        of element h = sym h
        of attribute h = refl
        of text h = refl

module _ (w : ℕ) (c : Call) (s : Store) (ok : well_formed w s.form ≡ true) (serials : GoodSerials s.next s.docs) (given : given_value w c ≡ true)
    (before : every_row (λ r below. laid_row w r) s.docs ≡ true) where
  pub laid_docs : every_row (λ r below. laid_row w r) (docs_after c s) ≡ true
  laid_docs = laid_changed w s.next s.docs serials (plan c s.version s.form (lines 0 s.docs)) (plan_lays w s.next s.docs serials s.version s.form ok c given) before

  pub laid_after : every_row (λ r below. laid_row w r) (after c s).docs ≡ true
  unfolding after
  laid_after = every_number (λ r below. laid_row w r) (λ r rows. refl) s.next (docs_after c s) ∙ laid_docs
