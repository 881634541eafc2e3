-- An attribute row of documents that conform stands right below an element whose definition has the attribute.
use Prim.Native.Nat.{ℕ}
use mathlib.Core.Path.{◌≡◌, refl, sym, ap, ◌∙◌}
use mathlib.Core.Bool.{Bool, true, false, false≢true}
use mathlib.Core.Option.{Option, none, some}
use mathlib.Core.List.Memᴰ
use mathlib.Core.List.{List, [], ◌∷◌, map, Memᴰ}
use Rattle.rules.specs.Bytes.{is_none}
use Rattle.rules.specs.Store.{Definition, Form, Row, Forest, bare, tree, heads, Store}
use Rattle.rules.specs.Layout.{value_width}
use Rattle.rules.specs.WellFormed.{attribute_name, lookup, well_formed}
use Rattle.rules.specs.Conforming.{is_element, is_attribute, EveryRow, RowConforms, fits_definition, fits_row}
use Rattle.rules.specs.Lines.{ground}
use Rattle.rules.specs.Passing.{good}
use Rattle.rules.proofs.WellFormedLaws.{well_formed_lem}
use Rattle.rules.proofs.ConformingLaws.{row_is, is_element_lem}
use Rattle.rules.proofs.PassingLaws.{once, apart, good_is}
use Rattle.change_laws.proofs.AttributeEdits.{content_plain, owned_rows}
use Rattle.change_laws.proofs.DefinitionEdits.{Stripped, stripped}
use Rattle.change_laws.proofs.ConformingAfter.{fits_element, fits_other}
use Rattle.plans.specs.Kept.{EachBelow}

abbrev pub Owns : Form → Row → Row → Type 0
Owns form u r = is_attribute r.sort ≡ true → (is_element u.sort ≡ true) × ((d : Definition) × (lookup u.name form ≡ some d) × Memᴰ r.name (map attribute_name d.attributes))

owned_below : (version : ℕ) (form : Form) (u : Row) (rows : List Row) → fits_row version form u rows ≡ true → (r : Row) → Memᴰ r rows → Owns form u r
owned_below version form u rows h r m a = by (is_element u.sort) refl
  where
    found : (x : Option Definition) → lookup u.name form ≡ x → fits_definition version x rows ≡ true
        → (d : Definition) × (lookup u.name form ≡ some d) × Memᴰ r.name (map attribute_name d.attributes)
    found none q f = absurd (false≢true f)
    found (some d) q f =
        let x : Stripped version d rows = stripped version d rows f in
        (d, q, owned_rows version d.attributes rows x.rest (content_plain d.content x.rest x.content) x.off r m a)

    none_here : (rows : List Row) → is_none rows ≡ true → Memᴰ r rows → ⊥
    none_here [] e i = Memᴰ.not-nil i
    none_here (s ∷ rows) e i = false≢true e

    by : (c : Bool) → is_element u.sort ≡ c → (is_element u.sort ≡ true) × ((d : Definition) × (lookup u.name form ≡ some d) × Memᴰ r.name (map attribute_name d.attributes))
    by true q = (q, found (lookup u.name form) refl (sym (fits_element version form u rows (is_element_lem u.sort q)) ∙ h))
    by false q = absurd (none_here rows (sym (fits_other version form u rows q) ∙ h) m)

-- what holds of the rows right below each row holds of each row and the row right above it
each_below : (P : Row → Row → Type 0) (Q : Row → List Row → Type 0) → ((u : Row) (rows : List Row) → Q u rows → (r : Row) → Memᴰ r rows → P u r)
    → (u : Row) (f : Forest Row) → ((r : Row) → Memᴰ r (heads f) → P u r) → EveryRow Q f → EachBelow P u f
each_below P Q step u bare h x = tt
each_below P Q step u (tree r b t) h (x, y, z) =
    (h r (Memᴰ.head refl), each_below P Q step r b (step r (heads b) x) y, each_below P Q step u t (λ s m. h s (Memᴰ.tail m)) z)

pub each_owned : (s : Store) → good s ≡ true → EachBelow (Owns s.form) ground s.docs
each_owned s g =
    let x = (good_is s).0 g in
    let ok : well_formed (value_width s.version) s.form ≡ true = (well_formed_lem (value_width s.version) s.form).1 x.form in
    each_below (Owns s.form) (λ r rows. RowConforms s.version s.form r rows)
    (λ u rows c. owned_below s.version s.form u rows
    ((row_is s.version s.form (once (value_width s.version) s.form ok) (apart (value_width s.version) s.form ok) u rows).1 c))
    ground s.docs
    (λ r m a. absurd (false≢true (sym (ap is_attribute (x.docs.roots r m)) ∙ a))) x.docs.rows
