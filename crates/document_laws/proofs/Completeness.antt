-- THE ROWS OF A GOOD STORE ARE READ OFF ITS DOCUMENTS' TEXT: that is the text of its rows (Soundness), which is read as
-- them where their serials count from 1 on (ForestReading), and those of the canonical store do.
use Prim.Native.Nat.{ℕ, ◌+◌, ◌≤◌}
use native.Mathlib.Omega.{arith}
use mathlib.Core.Path.{◌≡◌, refl, sym, ap, ◌∙◌, subst}
use mathlib.Core.Bool.{true, false}
use mathlib.Core.Option.{some}
use mathlib.Core.List.{List, [], map}
use lib.ListN.{length, length-map}
use Rattle.rules.specs.Bytes.{Bytes, concat}
use Rattle.rules.specs.Store.{Row, Forest, bare, tree, Store}
use Rattle.rules.specs.Preorder.{preorder}
use Rattle.rules.specs.Layout.{value_width, flat_definition, indexed, flat}
use Rattle.rules.specs.Change.{each_row, new_rows, given, number}
use Rattle.rules.specs.Passing.{Good, good}
use Rattle.rules.specs.Print.{Tokens}
use Rattle.rules.proofs.BooleanLaws.{Every, every_map}
use Rattle.rules.proofs.DecodeLaws.{GoodParts, good_parts}
use Rattle.rules.proofs.SmallBytes.{good_depths}
use Rattle.rules.proofs.PassingLaws.{good_is}
use Rattle.reading_rules.specs.Canonical.{canonical_definition, unnumbered, canonical}
use Rattle.reading_rules.proofs.SameText.{documents_text_lem}
use Rattle.reading_rules.proofs.CanonicalGood.{canonical_good}
use Rattle.document_tokens.specs.Tokens.{Declared, document_rows}
use Rattle.document_laws.specs.Declares.{Declares, text_of_documents}
use Rattle.document_laws.proofs.Soundness.{rows_text_lem}
use Rattle.document_laws.proofs.ForestReading.{rows_in, Counted, documents_read}

-- ---- a good store whose rows are counted from 1 on
pub good_read_lem : (s : Store) (f : Declared) → Good s → Declares f s.form → Counted 1 s.docs
    → document_rows f (value_width s.version) 1 [] false 0 (text_of_documents s.docs) ≡ some (preorder 0 (indexed s.form [] s.docs))
good_read_lem s f g d n =
    let h : good s ≡ true = (good_is s).1 g in
    let p : GoodParts s = good_parts s h in
    let few : length s.form ≤ 64 = omega (arith, length-map s.form (flat_definition s.form), p.definition_count) in
    let deep : Every (λ x. x.depth ≤ 64) (preorder 0 (indexed s.form [] s.docs)) =
    every_map (λ x. x.depth ≤ length s.form) (λ x. x.depth ≤ 64) (flat s).rows (λ x l. omega arith) (good_depths s h) in
    ap (λ (z : Bytes). document_rows f (value_width s.version) 1 [] false 0 z) (sym (rows_text_lem s f g d))
    ∙ documents_read f (value_width s.version) s.form d g.form s.version s.docs 1 g.docs.rows g.values g.docs.roots deep n

-- ---- the canonical store
rows_numbered : (k : ℕ) (g : Forest Row) → rows_in (number k (unnumbered g)) ≡ new_rows (unnumbered g)
unfolding rows_in number each_row new_rows
rows_numbered k bare = refl
rows_numbered k (tree r b t) =
    let x : rows_in (number (k + 1) (unnumbered b)) ≡ new_rows (unnumbered b) = rows_numbered (k + 1) b in
    let y : rows_in (number (k + (1 + new_rows (unnumbered b))) (unnumbered t)) ≡ new_rows (unnumbered t) = rows_numbered (k + (1 + new_rows (unnumbered b))) t in
    omega arith

canonical_counted : (k : ℕ) (g : Forest Row) → Counted k (number k (unnumbered g))
unfolding Counted number each_row new_rows given
canonical_counted k bare = tt
canonical_counted k (tree r b t) =
    let count : k + (1 + new_rows (unnumbered b)) ≡ k + 1 + rows_in (number (k + 1) (unnumbered b)) = omega (arith, rows_numbered (k + 1) b) in
    (refl, canonical_counted (k + 1) b, subst (λ (j : ℕ). Counted j (number (k + (1 + new_rows (unnumbered b))) (unnumbered t))) count (canonical_counted (k + (1 + new_rows (unnumbered b))) t))

-- THE TEXT OF A GOOD STORE'S DOCUMENTS READS AS THE ROWS OF THE CANONICAL ONE
pub rows_read_lem : (s : Store) (f : Declared) → Good s → Declares f (map canonical_definition s.form)
    → document_rows f (value_width s.version) 1 [] false 0 (text_of_documents s.docs) ≡ some (preorder 0 (indexed (map canonical_definition s.form) [] (number 1 (unnumbered s.docs))))
unfolding canonical
rows_read_lem s f g d =
    ap (λ (z : List Tokens). document_rows f (value_width s.version) 1 [] false 0 (concat (map concat z))) (sym (documents_text_lem 1 s.docs))
    ∙ good_read_lem (canonical s) f (canonical_good s g) d (canonical_counted 1 s.docs)
