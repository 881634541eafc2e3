-- A TEXT THAT READS AS THE ROWS OF A GOOD STORE IS ITS DOCUMENTS' TEXT: what is read says the text, and a good store's
-- rows say what is printed, since its indices lose no names.
use Prim.Native.Nat.{ℕ}
use mathlib.Core.Path.{◌≡◌, refl, sym, ap, ◌∙◌}
use mathlib.Core.Bool.{true, false}
use mathlib.Core.Option.{some}
use mathlib.Core.List.Memᴰ
use mathlib.Core.List.{[], map}
use Rattle.rules.specs.Bytes.{Bytes}
use Rattle.rules.specs.Store.{Form, RowSort, element, attribute, text, Row, Forest, bare, tree, Store, heads}
use Rattle.rules.specs.Preorder.{preorder}
use Rattle.rules.specs.Layout.{FlatStore, row_code, flat_definition, all_attributes, indexed, flat}
use Rattle.rules.specs.Decode.{row_sort_of, read_rows, flat_name, flat_attribute_name}
use Rattle.rules.specs.Conforming.{EveryRow, Sorted, RowConforms}
use Rattle.rules.specs.Passing.{Good, good, read_store}
use Rattle.rules.proofs.PreorderLaws.{build_preorder}
use Rattle.rules.proofs.DecodeLaws.{row_code_lem, unflat_flat, good_known, good_found}
use Rattle.rules.proofs.PassingLaws.{good_is}
use Rattle.lookup.specs.Bodies.{bodies_of}
use Rattle.lookup.proofs.Laws.{bodies_flat}
use Rattle.reading_rules.proofs.Shapes.{nothing_below}
use Rattle.document_tokens.specs.Tokens.{Declared, declared_in, declared_names, document_rows}
use Rattle.document_laws.specs.RowsText.{attribute_names_in, text_of_rows}
use Rattle.document_laws.specs.Declares.{Declares, text_of_documents}
use Rattle.document_laws.proofs.ForestText.{Leaves, Roots, documents_printed}
use Rattle.document_laws.proofs.TokenText.{read_says}

-- ---- the tables of a byte string that passes are those of its form
pub store_declares : (bs : Bytes) (s : Store) → read_store bs ≡ some s → Declares (declared_in bs) s.form
store_declares bs s e =
    let flat-is : bodies_of bs ≡ flat s = bodies_flat bs s e in
    record { definitions = ap (λ (z : FlatStore). z.definitions) flat-is; attributes = ap (λ (z : FlatStore). z.attributes) flat-is }

-- ---- the rows of conforming documents
leaf : (version : ℕ) (form : Form) (r : Row) (b : Forest Row) → RowConforms version form r (heads b) → (row_sort_of (row_code r.sort) ≡ element → ⊥) → indexed form r.name b ≡ bare
leaf version form r b c h = by r.sort refl c
  where
    by : (s : RowSort) → r.sort ≡ s → RowConforms version form r (heads b) → indexed form r.name b ≡ bare
    by element q c = absurd (h (row_code_lem r.sort ∙ q))
    by attribute q c = let e : heads b ≡ [] = rw q at c in ap (indexed form r.name) (nothing_below b e)
    by text q c = let e : heads b ≡ [] = rw q at c in ap (indexed form r.name) (nothing_below b e)

leaves : (version : ℕ) (form : Form) (owner : Bytes) (g : Forest Row) → EveryRow (λ r below. RowConforms version form r below) g → Leaves (indexed form owner g)
unfolding Leaves
leaves version form owner bare x = tt
leaves version form owner (tree r b t) (x, y, z) = (leaf version form r b x, leaves version form r.name b y, leaves version form owner t z)

roots : (form : Form) (owner : Bytes) (g : Forest Row) → Sorted element (heads g) → Roots (indexed form owner g)
roots form owner bare q = tt
roots form owner (tree r b t) q = (row_code_lem r.sort ∙ q r (Memᴰ.head refl), roots form owner t (λ u m. q u (Memᴰ.tail m)))

-- ---- indices lose no names
pub rows_named : (s : Store) (f : Declared) → Good s → Declares f s.form → read_rows (declared_names f) (attribute_names_in f) (indexed s.form [] s.docs) ≡ s.docs
rows_named s f g d =
    let h : good s ≡ true = (good_is s).1 g in
    rw (d.definitions, d.attributes)
    (ap (read_rows (map flat_name (map (flat_definition s.form) s.form)) (map flat_attribute_name (all_attributes 0 s.form))) (sym (build_preorder (indexed s.form [] s.docs)))
    ∙ ap (λ (z : Store). z.docs) (unflat_flat s (good_known s h) (good_found s h)))

pub rows_text_lem : (s : Store) (f : Declared) → Good s → Declares f s.form → text_of_rows f [] false (preorder 0 (indexed s.form [] s.docs)) ≡ text_of_documents s.docs
rows_text_lem s f g d =
    documents_printed f (indexed s.form [] s.docs) (leaves s.version s.form [] s.docs g.docs.rows) (roots s.form [] s.docs g.docs.roots)
    ∙ ap text_of_documents (rows_named s f g d)

pub rows_sound : (s : Store) (f : Declared) (w k : ℕ) (txt : Bytes) → Good s → Declares f s.form → document_rows f w k [] false 0 txt ≡ some (preorder 0 (indexed s.form [] s.docs))
    → txt ≡ text_of_documents s.docs
rows_sound s f w k txt g d e = (read_says f w txt 0 k [] false (preorder 0 (indexed s.form [] s.docs)) e).is ∙ rows_text_lem s f g d
