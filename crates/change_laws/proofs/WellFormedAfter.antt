-- AN ACCEPTED CALL KEEPS THE FORM WELL-FORMED.
use Prim.Native.Nat.{ℕ, zero, suc, ◌<◌}
use mathlib.Core.Path.{◌≡◌, refl, sym, ap, ◌∙◌}
use mathlib.Core.Logic.{⊎_elim}
use mathlib.Core.Bool.{Bool, true, false}
use mathlib.Core.Option.{Option, none, some}
use mathlib.Core.List.Memᴰ
use mathlib.Core.List.{List, [], ◌∷◌, ◌++◌, map, map-append, Memᴰ}
use lib.ListN.{length}
use Rattle.rules.specs.Bytes.{Bytes, same, bytes, any, is_none}
use Rattle.rules.specs.Model.{Members, done, names, Distinct, Full, member}
use Rattle.rules.specs.Edit.{Edit, insert, remove, quantify, convert, flatten, model_after}
use Rattle.rules.specs.Store.{Content, empty, pcdata, complex, Attribute, Definition, Form, Store, model_of, members}
use Rattle.rules.specs.Layout.{value_width, index_of}
use Rattle.rules.specs.Decode.{quantifier_of, group_of, content_of, sort_of}
use Rattle.rules.specs.WellFormed.{attribute_name, given_name, stored_name, is_value, is_fill, is_attribute_of, is_there, known, reaches_in, Reaches, directly, through, GoodDefinition, well_formed}
use Rattle.rules.specs.Change.{Call, create_definition, destroy_definition, insert_element, remove_element, change_quantifier, convert_to_group, flatten_group}
use Rattle.rules.specs.Change.{change_group_quantifier, add_attribute, destroy_attribute, add_document, add_element, destroy_element, set_attribute}
use Rattle.rules.specs.Change.{destroy_attribute_row, set_text, definition_at, name_at_index, Owned, attribute_at, update, in_content, in_model, with_attributes, edit_at}
use Rattle.rules.specs.Change.{edit_found, edit_model, lacking, drop_owned, new_attribute, form_after}
use Rattle.rules.specs.Refusal.{past_end, wrong_default, conditions, refusal}
use Rattle.rules.proofs.Words.{and_both, or_split}
use Rattle.rules.proofs.Children.{Sound}
use Rattle.rules.proofs.TestLaws.{any_test, member_test}
use Rattle.rules.proofs.Height.{reaches_test}
use Rattle.rules.proofs.WellFormedLaws.{well_formed_lem}
use Rattle.rules.proofs.DecodeLaws.{given_stored}
use Rattle.change_laws.proofs.Conditions.{not_past, unmet}
use Rattle.change_laws.proofs.FormLaws.{definition_found, owner_below}
use Rattle.change_laws.proofs.ModelAfter.{brings, Placed, placed_sound, placed_names, placed_insert, placed_remove, placed_quantify, placed_quantify_group, placed_convert, placed_flatten}
use Rattle.change_laws.proofs.Replacing.{distinct_last, Joins, old_good, old_joins, replaced, removed, added}
use borrow.Author.Tests.{not-false, both_ways}

-- ---- change 1: a definition with no members
empty_model : (k : ℕ) → model_of (content_of k done) ≡ done
empty_model zero = refl
empty_model (suc zero) = refl
empty_model (suc (suc k)) = refl

fresh_good : (w : ℕ) (n : Bytes) (k : ℕ) → stored_name n ≡ true → GoodDefinition w [] (record { name = n; content = content_of k done; attributes = [] })
unfolding names Full
fresh_good w n k e =
    record {
      name = e;
      in_range = λ m i. absurd (Memᴰ.not-nil (rw (empty_model k) at i));
      once = rw (empty_model k) tt;
      groups = rw (empty_model k) tt;
      circle = nothing_reached;
      attribute_names = tt;
      attributes = λ a i. absurd (Memᴰ.not-nil i);
    }
  where
    nothing_reached : Reaches [] n n → ⊥
    nothing_reached (directly i) = Memᴰ.not-nil i
    nothing_reached (through i r) = Memᴰ.not-nil i

-- ---- changes 3 to 8: a model edited
in_model_lem : (P : Members Bytes → Type 0) (f : Members Bytes → Members Bytes) (c : Content) → P (model_of c) → P (f (model_of c)) → P (model_of (in_content f c))
in_model_lem P f empty x y = x
in_model_lem P f pcdata x y = x
in_model_lem P f (complex ms) x y = y

module _ (w : ℕ) (form : Form) (ok : well_formed w form ≡ true) (o : ℕ) (below : o < length form) where
  abbrev owner : Definition
  owner = definition_at o form

  model_replaced : (f : Members Bytes → Members Bytes) → Sound (f (members owner))
      → ((m : Bytes) → Memᴰ m (names (f (members owner))) → Joins form owner.name m) → well_formed w (update o (in_model f) form) ≡ true
  model_replaced f s j =
      let g = old_good w form ok o below in
      let t : Sound (members (in_model f owner)) = in_model_lem (λ ms. Sound ms) f owner.content (record { distinct = g.once; full = g.groups }) s in
      replaced w form ok o below (in_model f) (λ d. refl) (
      record {
        joins = in_model_lem (λ ms. (m : Bytes) → Memᴰ m (names ms) → Joins form owner.name m) f owner.content (old_joins w form ok o below) j;
        once = t.distinct;
        groups = t.full;
        attribute_names = g.attribute_names;
        attributes = g.attributes;
      }
      )

  model_edited : (e : Edit Bytes) (p : List ℕ) → Placed bytes e p (members owner) → ((m : Bytes) → Memᴰ m (brings e) → Joins form owner.name m) → well_formed w (edit_model o p e form) ≡ true
  model_edited e p x f =
      let g = old_good w form ok o below in
      let q : edit_at e p (members owner) ≡ model_after e x.found = ap (edit_found e (members owner)) x.at in
      model_replaced (edit_at e p) (rw q (placed_sound bytes e p (members owner) x (record { distinct = g.once; full = g.groups })))
      (rw q (λ m i. ⊎_elim (old_joins w form ok o below m) (f m) (placed_names bytes e p (members owner) x m i)))

  -- ---- changes 9 and 10: a table changed
  table_replaced : (f : List Attribute → List Attribute) → Distinct (map attribute_name (f owner.attributes))
      → ((a : Attribute) → Memᴰ a (f owner.attributes) → is_attribute_of w a ≡ true) → well_formed w (update o (with_attributes f) form) ≡ true
  table_replaced f d a =
      let g = old_good w form ok o below in
      replaced w form ok o below (with_attributes f) (λ d. refl) (
      record {
        joins = old_joins w form ok o below;
        once = g.once;
        groups = g.groups;
        attribute_names = d;
        attributes = a;
      }
      )

fill_right : (k : ℕ) (v : Bytes) → wrong_default k v ≡ false → is_fill (sort_of k) v ≡ true
fill_right zero v e = not-false (is_none v) e
fill_right (suc zero) v e = rw e
fill_right (suc (suc k)) v e = refl

pub lacking_in : (n : Bytes) (table : List Attribute) {a : Attribute} → Memᴰ a (lacking n table) → Memᴰ a table
lacking_in n [] m = m
lacking_in n (b ∷ table) {a} m = by (same n b.name) refl (lacking_in n table)
  where
    by : (c : Bool) → same n b.name ≡ c → (Memᴰ a (lacking n table) → Memᴰ a table) → Memᴰ a (b ∷ table)
    by true q f = Memᴰ.tail (rw (q, lacking) at m)
    by false q f = ⊎_elim (λ e. Memᴰ.head e) (λ k. Memᴰ.tail (f k)) (Memᴰ.cases_cons (rw (q, lacking) at m))

lacking_distinct : (n : Bytes) (table : List Attribute) → Distinct (map attribute_name table) → Distinct (map attribute_name (lacking n table))
lacking_distinct n [] d = d
lacking_distinct n (b ∷ table) (f, d) = by (same n b.name) refl (lacking_distinct n table d)
  where
    by : (c : Bool) → same n b.name ≡ c → Distinct (map attribute_name (lacking n table)) → Distinct (map attribute_name (lacking n (b ∷ table)))
    by true q g = rw (q, lacking) d
    by false q g = rw (q, lacking) (λ m. let (a, i, e) = Memᴰ.of_map attribute_name (lacking n table) m in f (Memᴰ.cast (sym e) (Memᴰ.map attribute_name (lacking_in n table i))), g)

-- ---- the calls
module _ (room : ℕ) (s : Store) (ok : well_formed (value_width s.version) s.form ≡ true) where
  abbrev w : ℕ
  w = value_width s.version

  after_create : (n : Bytes) (k : ℕ) → refusal room (create_definition n k) s ≡ 0 → well_formed w (form_after (create_definition n k) s.form) ≡ true
  unfolding form_after conditions
  after_create n k a =
      let (name, (kind, (fresh, end))) = unmet room (create_definition n k) s a in
      added w s.form ok (record { name = n; content = content_of k done; attributes = [] }) (fresh_good w n k (given_stored n (not-false (given_name n) name))) fresh

  after_destroy : (i : ℕ) → refusal room (destroy_definition i) s ≡ 0 → well_formed w (form_after (destroy_definition i) s.form) ≡ true
  unfolding form_after conditions
  after_destroy i a =
      let (known, (used, end)) = unmet room (destroy_definition i) s a in
      let n : Bytes = name_at_index i s.form in
      let (in_models, inDocs) = or_split (any (λ (d : Definition). member bytes n (names (members d))) s.form) _ used in
      removed w s.form ok i (not_past i s.form known)
      (λ d m k. both_ways (any (λ (d : Definition). member bytes n (names (members d))) s.form) in_models
      ((any_test (λ (d : Definition). member bytes n (names (members d))) s.form).1 (d, m, (member_test bytes n (names (members d))).1 k)))

  after_insert : (o : ℕ) (p : List ℕ) (i q : ℕ) (t : Bytes) → refusal room (insert_element o p i q t) s ≡ 0 → well_formed w (form_after (insert_element o p i q t) s.form) ≡ true
  unfolding form_after conditions
  after_insert o p i q t a =
      let (text, (code, (known, (there, (kind, (once, (circle, more))))))) = unmet room (insert_element o p i q t) s a in
      let (ownerKnown, newKnown) = or_split (past_end o s.form) _ known in
      let n : Bytes = name_at_index i s.form in
      let owner : Definition = definition_at o s.form in
      let (other, straight) = or_split (same n owner.name) (reaches_in s.form n owner.name) circle in
      model_edited w s.form ok o (not_past o s.form ownerKnown) (insert (quantifier_of q) n) p (placed_insert room s o p i q t a)
      (λ m j. rw (Memᴰ.eq_of_singleton j) (record {
        known = ap is_there (definition_found i s.form ((well_formed_lem w s.form).0 ok).names (not_past i s.form newKnown));
        other = λ e. both_ways (same n owner.name) other (bytes.same← n owner.name e);
        straight = λ r. both_ways (reaches_in s.form n owner.name) straight ((reaches_test s.form n owner.name).1 r);
      }))

  -- 4 to 8 bring no name
  after_edit : (o : ℕ) (p : List ℕ) (e : Edit Bytes) → past_end o s.form ≡ false → brings e ≡ [] → Placed bytes e p (members (definition_at o s.form))
      → well_formed w (edit_model o p e s.form) ≡ true
  after_edit o p e known b x = model_edited w s.form ok o (not_past o s.form known) e p x (λ m j. absurd (Memᴰ.not-nil (rw b at j)))

  after_add : (o : ℕ) (n : Bytes) (k : ℕ) (v : Bytes) → refusal room (add_attribute o n k v) s ≡ 0 → well_formed w (form_after (add_attribute o n k v) s.form) ≡ true
  unfolding form_after conditions
  after_add o n k v a =
      let (name, (value, (code, (new, (known, (default, end)))))) = unmet room (add_attribute o n k v) s a in
      let below : o < length s.form = not_past o s.form known in
      let g = old_good w s.form ok o below in
      let table : List Attribute = (definition_at o s.form).attributes in
      let right : is_attribute_of w (new_attribute n k v) ≡ true = and_both (given_stored n (not-false (given_name n) name)) (and_both (not-false (is_value w v) value) (fill_right k v default)) in
      table_replaced w s.form ok o below (λ t. t ++ new_attribute n k v ∷ [])
      (rw (map-append attribute_name table (new_attribute n k v ∷ []))
      (distinct_last (map attribute_name table) n g.attribute_names
      (λ m. both_ways (member bytes n (map attribute_name table)) new ((member_test bytes n (map attribute_name table)).1 m))))
      (λ b m. ⊎_elim (g.attributes b) (λ i. ap (is_attribute_of w) (Memᴰ.eq_of_singleton i) ∙ right) (Memᴰ.append_cases table m))

  after_drop : (x : Option Owned) (i : ℕ) → attribute_at i s.form ≡ x → well_formed w (drop_owned x s.form) ≡ true
  after_drop none i q = ok
  after_drop (some o) i q =
      let once = ((well_formed_lem w s.form).0 ok).names in
      let j : ℕ = index_of o.owner.name s.form in
      let below : j < length s.form = owner_below i s.form once o q in
      let g = old_good w s.form ok j below in
      let table : List Attribute = (definition_at j s.form).attributes in
      table_replaced w s.form ok j below (lacking o.attribute.name) (lacking_distinct o.attribute.name table g.attribute_names)
      (λ b m. g.attributes b (lacking_in o.attribute.name table m))

pub well_formed_after : (room : ℕ) (c : Call) (s : Store) → well_formed (value_width s.version) s.form ≡ true → refusal room c s ≡ 0
    → well_formed (value_width s.version) (form_after c s.form) ≡ true
unfolding form_after conditions
well_formed_after room (create_definition n k) s ok a = after_create room s ok n k a
well_formed_after room (destroy_definition i) s ok a = after_destroy room s ok i a
well_formed_after room (insert_element o p i q t) s ok a = after_insert room s ok o p i q t a
well_formed_after room (remove_element o p) s ok a = after_edit room s ok o p remove (unmet room (remove_element o p) s a).0 refl (placed_remove room s o p a)
well_formed_after room (change_quantifier o p q t) s ok a =
    after_edit room s ok o p (quantify (quantifier_of q)) (unmet room (change_quantifier o p q t) s a).1.1.0 refl (placed_quantify room s o p q t a)
well_formed_after room (convert_to_group o p n k) s ok a = after_edit room s ok o p (convert (group_of k) n) (unmet room (convert_to_group o p n k) s a).1.0 refl (placed_convert room s o p n k a)
well_formed_after room (flatten_group o p) s ok a = after_edit room s ok o p flatten (unmet room (flatten_group o p) s a).0 refl (placed_flatten room s o p a)
well_formed_after room (change_group_quantifier o p q t) s ok a =
    after_edit room s ok o p (quantify (quantifier_of q)) (unmet room (change_group_quantifier o p q t) s a).1.1.0 refl (placed_quantify_group room s o p q t a)
well_formed_after room (add_attribute o n k v) s ok a = after_add room s ok o n k v a
well_formed_after room (destroy_attribute i) s ok a = after_drop room s ok (attribute_at i s.form) i refl
well_formed_after room (add_document i t) s ok a = ok
well_formed_after room (add_element k j i t) s ok a = ok
well_formed_after room (destroy_element k) s ok a = ok
well_formed_after room (set_attribute k a v) s ok r = ok
well_formed_after room (destroy_attribute_row k a) s ok r = ok
well_formed_after room (set_text k t) s ok a = ok
