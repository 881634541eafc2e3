-- Conforming after the changes 11 to 16 of the rows, from what their conditions say.
use Prim.Native.Nat.{ℕ}
use mathlib.Core.Path.{◌≡◌, refl, sym, ap, ap₂, ◌∙◌}
use mathlib.Core.Bool.{true, false, not, false≢true}
use mathlib.Core.Option.{Option}
use mathlib.Core.List.{List, map, Memᴰ}
use lib.Dec.{eqb}
use lib.ListN.{length}
use borrow.Author.Tests.{not-false}
use Rattle.rules.specs.Bytes.{Bytes, numbers, all}
use Rattle.rules.specs.Store.{Definition, RowSort, element, attribute, text, Row, Forest, Store, heads}
use Rattle.rules.specs.WellFormed.{known, well_formed}
use Rattle.rules.specs.Conforming.{is_element, is_attribute, is_text, fits_definition, fits_row, conforming}
use Rattle.rules.specs.Filling.{fill_definition}
use Rattle.rules.specs.Lines.{lines, is_text_row, children_of, serial_at}
use Rattle.rules.specs.Change.{Call, add_document, set_text, name_at_index, form_after, Plan, making, setting, neither, plan, docs_after, after}
use Rattle.rules.specs.Passing.{GoodSerials}
use Rattle.rules.proofs.Apart.{differs}
use Rattle.rules.proofs.Height.{deep}
use Rattle.rules.proofs.WellFormedLaws.{definition_good, definition_deep}
use Rattle.rules.proofs.FillingLaws.{filling_heads, filling_fits}
use Rattle.change_laws.proofs.RowEdits.{revalued, children_after}
use Rattle.change_laws.proofs.Rowwise.{Standing}
use Rattle.change_laws.proofs.StandingLaws.{standing_child, no_zero, first_child_lem}
use Rattle.change_laws.proofs.Untouched.{children_cut, children_kept, revalued_other}
use Rattle.change_laws.proofs.Numbered.{mapped_row, conforming_number}
use Rattle.change_laws.proofs.ConformingAfter.{conforming_changed, conforming_elements}
use Rattle.change_laws.proofs.InstanceRows.{keep_all}

-- 12 to 15: condition 15 says it of the numbered rows
pub conforming_checked : (c : Call) (s : Store) → not (conforming s.version s.form (after c s).docs) ≡ false → conforming s.version s.form (docs_after c s) ≡ true
unfolding after
conforming_checked c s e = sym (conforming_number s.version s.form s.next (docs_after c s)) ∙ not-false (conforming s.version s.form (after c s).docs) e

module _ (w : ℕ) (s : Store) (ok : well_formed w s.form ≡ true) (serials : GoodSerials s.next s.docs) (conforms : conforming s.version s.form s.docs ≡ true) where
  -- 11: the filling stands last
  pub conforming_11 : (i : ℕ) (t : Bytes) → known s.form (name_at_index i s.form) ≡ true → conforming s.version (form_after (add_document i t) s.form) (docs_after (add_document i t) s) ≡ true
  unfolding plan form_after
  conforming_11 i t there =
      conforming_elements s.version s.form s.form s.next s.docs serials p refl
      (λ e. ap (all (λ (r : Row). is_element r.sort)) (filling_heads s.version (length s.form) s.form t n height))
      (filling_fits s.version s.form (λ n d e. (definition_good w s.form ok n d e).once) (λ n d e. (definition_good w s.form ok n d e).attribute_names)
      (λ n d e. (definition_good w s.form ok n d e).groups) t (length s.form) n height)
      (λ r b j q. off r b j)
      (λ r b d j q e h. ap₂ (λ (o : Option Definition) (l : List Row). fits_definition s.version o l) e (children_kept s.next s.docs serials p refl r b j (λ u m. refl) (off r b j)) ∙ h)
      conforms
    where
      n : Bytes
      n = name_at_index i s.form

      p : Plan
      p = making (λ r. eqb r.serial 0) neither (fill_definition s.version s.form t n)

      height : deep (length s.form) s.form n ≡ true
      height = definition_deep w s.form ok n there

      off : (r : Row) (b : Forest Row) → Standing s.docs r b → eqb r.serial 0 ≡ false
      off r b j = differs numbers r.serial 0 (no_zero s.next s.docs serials r b j)

  -- 16: the row that is set is a text
  pub conforming_16 : (k : ℕ) (t : Bytes) → conforming s.version (form_after (set_text k t) s.form) (docs_after (set_text k t) s) ≡ true
  unfolding plan form_after
  conforming_16 k t = conforming_changed s.version s.form s.form p s.docs (λ e. absurd (false≢true e)) refl row conforms
    where
      p : Plan
      p = setting (serial_at 0 (children_of is_text_row k (lines 0 s.docs))) t

      no_text : (x : RowSort) → is_attribute x ≡ true → is_text x ≡ true → ⊥
      no_text element e h = false≢true e
      no_text attribute e h = false≢true h
      no_text text e h = false≢true e

      kept : (r : Row) (b : Forest Row) → Standing s.docs r b → (u : Row) → Memᴰ u (heads b) → is_attribute u.sort ≡ true → (revalued p u).value ≡ u.value
      kept r b i u m h =
          let (c, j) = standing_child s.docs r b i u m in
          ap (λ (z : Row). z.value) (revalued_other p u (λ e. no_text u.sort h (first_child_lem s.next s.docs serials is_text_row k u c j e)))

      row : (r : Row) (b : Forest Row) → Standing s.docs r b → fits_row s.version s.form r (heads b) ≡ true → fits_row s.version s.form (revalued p r) (children_after p r (heads b)) ≡ true
      row r b i h =
          ap (fits_row s.version s.form (revalued p r)) (children_cut p r (heads b) refl ∙ ap (map (revalued p)) (keep_all (λ u. true) (heads b) (λ u m. refl)))
          ∙ mapped_row (revalued p) (λ u. refl) (λ u. refl) s.version s.form r (heads b) (kept r b i)
          ∙ h
