-- Documents that conform by index are documents that conform, written with indices.
use Prim.Native.Nat.{ℕ, zero, suc, ◌<◌, ◌≤◌}
use native.Mathlib.Omega.{arith}
use mathlib.Core.Path.{◌≡◌, refl, ap, ◌∙◌, sym, subst}
use mathlib.Core.Logic.{◌↔◌}
use mathlib.Core.Bool.{Bool, true, false}
use mathlib.Core.Option.{some}
use mathlib.Core.List.Memᴰ
use mathlib.Core.List.{List, [], ◌∷◌, map, Memᴰ}
use lib.ListN.{length}
use borrow.Author.Tests.{eq-eqb, ne_eqb}
use Rattle.rules.specs.Bytes.{Bytes}
use Rattle.rules.specs.Store.{Definition, Form, RowSort, element, attribute, text, Row, Forest, bare, tree, heads}
use Rattle.rules.specs.Preorder.{Deep, preorder, build}
use Rattle.rules.specs.Layout.{FlatRow, row_code, index_of, attribute_index, row_index, indexed}
use Rattle.rules.specs.Decode.{name_at, row_sort_of, row_name, read_rows}
use Rattle.rules.specs.WellFormed.{lookup, is_there, well_formed}
use Rattle.rules.specs.Conforming.{ElementRows, RowConforms, EveryRow, Conforming}
use Rattle.rules.specs.Change.{definition_at}
use Rattle.rules.proofs.BooleanLaws.{Every, every_in, every_left, every_right}
use Rattle.rules.proofs.PreorderLaws.{build_preorder}
use Rattle.rules.proofs.DecodeLaws.{attribute_names}
use Rattle.form_index.specs.Indices.{IndexForm, Sort, Below, Under, Everywhere, Documents}
use Rattle.store_check.specs.Reading.{Agrees, PlainRow, ReadsAs}
use Rattle.store_check.proofs.IndexLaws.{names_of, index_name, lookup_at, Indexed, known_index}
use Rattle.store_check.proofs.AttributeRows.{row_read, row_written}
use Rattle.store_check.proofs.ElementReads.{apart, below_read, below_written, below_found}

-- the rows read from a forest
abbrev pub docs_read : Form → Forest FlatRow → Forest Row
docs_read form t = read_rows (names_of form) (attribute_names form) t

heads_read : (form : Form) (t : Forest FlatRow) → heads (docs_read form t) ≡ map (row_read form) (heads t)
heads_read form bare = refl
heads_read form (tree x b t) = ap (λ (z : List Row). row_read form x ∷ z) (heads_read form t)

heads_written : (form : Form) (owner : Bytes) (t : Forest Row) → heads (indexed form owner t) ≡ map (row_written form owner) (heads t)
heads_written form owner bare = refl
heads_written form owner (tree r b t) = ap (λ (z : List FlatRow). row_written form owner r ∷ z) (heads_written form owner t)

-- rows right below: of an element, and of others
under_element : (F : IndexForm) (x : FlatRow) (rs : List FlatRow) → x.sort ≡ 1 → Under F x rs → Below F x.index rs
under_element F x rs q u = subst (λ (c : Bool). elim c as (λ z. Type 0) [ true ↦ Below F x.index rs | false ↦ rs ≡ [] ]) (eq-eqb x.sort 1 q) u

under_other : (F : IndexForm) (x : FlatRow) (rs : List FlatRow) → (x.sort ≡ 1 → ⊥) → Under F x rs → rs ≡ []
under_other F x rs q u = subst (λ (c : Bool). elim c as (λ z. Type 0) [ true ↦ Below F x.index rs | false ↦ rs ≡ [] ]) (ne_eqb x.sort 1 q) u

sort_back : (s : ℕ) → 1 ≤ s → s ≤ 3 → row_code (row_sort_of s) ≡ s
sort_back zero l m = absurd (omega arith)
sort_back (suc zero) l m = refl
sort_back (suc (suc zero)) l m = refl
sort_back (suc (suc (suc zero))) l m = refl
sort_back (suc (suc (suc (suc s)))) l m = absurd (omega arith)

unnamed_read : (form : Form) (t : Forest FlatRow) → EveryRow (λ r below. r.sort ≡ text → r.name ≡ []) (docs_read form t)
unnamed_read form bare = tt
unnamed_read form (tree x b t) = (λ e. ap (λ (s : RowSort). row_name (names_of form) (attribute_names form) s x.index) e, unnamed_read form b, unnamed_read form t)

module _ {version : ℕ} (w : ℕ) (form : Form) (ok : well_formed w form ≡ true) (F : IndexForm) (agrees : Agrees version F form) where
  -- ---- from indices to names
  row_read_lem : (s i : ℕ) (rs : List FlatRow) → 1 ≤ s → s ≤ 3 → (s ≡ 1 → Below F i rs) → ((s ≡ 1 → ⊥) → rs ≡ [])
      → elim (row_sort_of s) as (λ z. Type 0) [
        | element ↦ (d : Definition) × (lookup (row_name (names_of form) (attribute_names form) (row_sort_of s) i) form ≡ some d) × ElementRows version d (map (row_read form) rs)
        | attribute ↦ map (row_read form) rs ≡ []
        | text ↦ map (row_read form) rs ≡ []
      ]
  row_read_lem zero i rs l m f g = absurd (omega arith)
  row_read_lem (suc zero) i rs l m f g =
      let x : Below F i rs = f refl in
      let k : i < length form = omega (arith, agrees.size) in
      (definition_at i form, lookup_at form (apart w form ok F agrees) i k, below_read w form ok F agrees i k rs x)
  row_read_lem (suc (suc zero)) i rs l m f g = ap (λ (z : List FlatRow). map (row_read form) z) (g (λ e. omega arith))
  row_read_lem (suc (suc (suc s))) i rs l m f g = ap (λ (z : List FlatRow). map (row_read form) z) (g (λ e. omega arith))

  rows_read_lem : (d : ℕ) (t : Forest FlatRow) → Everywhere F t → Every (λ x. PlainRow x.row) (preorder d t) → EveryRow (λ r below. RowConforms version form r below) (docs_read form t)
  unfolding Everywhere
  rows_read_lem d bare e p = tt
  rows_read_lem d (tree x b t) (u, e, g) p = (
    subst (λ (z : List Row). RowConforms version form (row_read form x) z) (sym (heads_read form b))
        (row_read_lem x.sort x.index (heads b) p.0.low p.0.high (λ q. under_element F x (heads b) q u) (λ q. under_other F x (heads b) q u)),
    rows_read_lem (suc d) b e (every_left (λ x. PlainRow x.row) (preorder (suc d) b) (preorder d t) p.1),
    rows_read_lem d t g (every_right (λ x. PlainRow x.row) (preorder (suc d) b) (preorder d t) p.1),
  )

  -- a row's index is that of its name, below an owner
  abbrev Placed : Bytes → FlatRow → Type 0
  Placed owner x = x.sort ≡ 2 → attribute_index owner (name_at x.index (attribute_names form)) form ≡ x.index

  index_back : (owner : Bytes) (s i : ℕ) → 1 ≤ s → s ≤ 3 → (s ≡ 1 → i < length form) → (s ≡ 2 → attribute_index owner (name_at i (attribute_names form)) form ≡ i) → (s ≡ 3 → i ≡ 0)
      → elim (row_sort_of s) as (λ z. ℕ) [
        | element ↦ index_of (row_name (names_of form) (attribute_names form) (row_sort_of s) i) form
        | attribute ↦ attribute_index owner (row_name (names_of form) (attribute_names form) (row_sort_of s) i) form
        | text ↦ 0
      ] ≡ i
  index_back owner zero i l m f g h = absurd (omega arith)
  index_back owner (suc zero) i l m f g h = index_name form (apart w form ok F agrees) i (f refl)
  index_back owner (suc (suc zero)) i l m f g h = g refl
  index_back owner (suc (suc (suc zero))) i l m f g h = sym (h refl)
  index_back owner (suc (suc (suc (suc s)))) i l m f g h = absurd (omega arith)

  below_placed : (s i : ℕ) (rs : List FlatRow) → 1 ≤ s → (s ≡ 1 → Below F i rs) → ((s ≡ 1 → ⊥) → rs ≡ []) → Every (Placed (row_name (names_of form) (attribute_names form) (row_sort_of s) i)) rs
  below_placed zero i rs l f g = absurd (omega arith)
  below_placed (suc zero) i rs l f g =
      let x : Below F i rs = f refl in
      below_found w form ok F agrees i (omega (arith, agrees.size)) rs x
  below_placed (suc (suc s)) i rs l f g = subst (λ (z : List FlatRow). Every (Placed (row_name (names_of form) (attribute_names form) (row_sort_of (suc (suc s))) i)) z) (sym (g (λ e. omega arith))) tt

  rows_back : (d : ℕ) (owner : Bytes) (t : Forest FlatRow) → Everywhere F t → Every (λ x. PlainRow x.row) (preorder d t) → Every (Placed owner) (heads t) → indexed form owner (docs_read form t) ≡ t
  unfolding Everywhere
  rows_back d owner bare e p h = refl
  rows_back d owner (tree x b t) (u, e, g) p h = λ i.
      tree (record { sort = sort_back x.sort p.0.low p.0.high i; index = at i; serial = x.serial; value = x.value })
      (rows_back (suc d) (row_read form x).name b e (every_left (λ x. PlainRow x.row) (preorder (suc d) b) (preorder d t) p.1) placed i)
      (rows_back d owner t g (every_right (λ x. PlainRow x.row) (preorder (suc d) b) (preorder d t) p.1) h.1 i)
    where
      at : row_index form owner (row_read form x) ≡ x.index
      at = index_back owner x.sort x.index p.0.low p.0.high
          (λ q. let y : Below F x.index (heads b) = under_element F x (heads b) q u in omega (arith, agrees.size)) h.0 p.0.text

      placed : Every (Placed (row_read form x).name) (heads b)
      placed = below_placed x.sort x.index (heads b) p.0.low (λ q. under_element F x (heads b) q u) (λ q. under_other F x (heads b) q u)

  roots_placed : (rs : List FlatRow) → Sort 1 rs → Every (Placed []) rs
  roots_placed rs s = every_in (Placed []) rs (λ x m q. absurd (omega (arith, s x m)))

  -- documents that conform by index are read as documents that conform, and these are written so
  pub documents_read : (xs : List (Deep FlatRow)) → Every (λ x. PlainRow x.row) xs → Documents F xs → ReadsAs version form xs (docs_read form (build xs 0))
  documents_read xs p x = subst (λ (t : Forest FlatRow). ReadsAs version form xs (docs_read form t)) (sym built) read
    where
      built : build xs 0 ≡ x.docs
      built = ap (λ (z : List (Deep FlatRow)). build z 0) (sym x.rows) ∙ build_preorder x.docs

      plain : Every (λ x. PlainRow x.row) (preorder 0 x.docs)
      plain = subst (λ (z : List (Deep FlatRow)). Every (λ x. PlainRow x.row) z) (sym x.rows) p

      read : ReadsAs version form xs (docs_read form x.docs)
      read =
          record {
            rows = ap (λ (t : Forest FlatRow). preorder 0 t) (rows_back 0 [] x.docs x.everywhere plain (roots_placed (heads x.docs) x.roots)) ∙ x.rows;
            conforming = record {
              roots = λ r m.
                  let (y, k, e) = Memᴰ.of_map (row_read form) (heads x.docs) (subst (λ (z : List Row). Memᴰ r z) (heads_read form x.docs) m) in
                  ap (λ (z : Row). z.sort) (sym e) ∙ ap row_sort_of (x.roots y k);
              rows = rows_read_lem 0 x.docs x.everywhere plain;
            };
            unnamed = unnamed_read form x.docs;
          }

  -- ---- from names to indices
  element_written : (n : Bytes) (d : Definition) (rows : List Row) → lookup n form ≡ some d → ElementRows version d rows → Below F (index_of n form) (map (row_written form n) rows)
  element_written n d rows e x =
      let k : Indexed form n = known_index form n (ap is_there e) in
      let q : d ≡ definition_at (index_of n form) form = cc (e, k.found) in
      subst (λ (z : Bytes). Below F (index_of n form) (map (row_written form z) rows)) k.name
      (below_written w form ok F agrees (index_of n form) k.below rows (subst (λ (z : Definition). ElementRows version z rows) q x))

  row_written_lem : (owner : Bytes) (r : Row) (rows : List Row) (s : RowSort) → r.sort ≡ s → RowConforms version form r rows → Under F (row_written form owner r) (map (row_written form r.name) rows)
  row_written_lem owner r rows element q c =
      let (d, e, x) = rw (q, RowConforms) at c in
      rw q (element_written r.name d rows e x)
  row_written_lem owner r rows attribute q c = rw q (ap (λ (z : List Row). map (row_written form r.name) z) (rw (q, RowConforms) at c))
  row_written_lem owner r rows text q c = rw q (ap (λ (z : List Row). map (row_written form r.name) z) (rw (q, RowConforms) at c))

  everywhere_written : (owner : Bytes) (docs : Forest Row) → EveryRow (λ r below. RowConforms version form r below) docs → Everywhere F (indexed form owner docs)
  unfolding Everywhere
  everywhere_written owner bare e = tt
  everywhere_written owner (tree r b t) (c, e, g) = (
    subst (λ (z : List FlatRow). Under F (row_written form owner r) z) (sym (heads_written form r.name b)) (row_written_lem owner r (heads b) r.sort refl c),
    everywhere_written r.name b e,
    everywhere_written owner t g,
  )

  pub documents_written : (xs : List (Deep FlatRow)) (docs : Forest Row) → preorder 0 (indexed form [] docs) ≡ xs → Conforming version form docs → Documents F xs
  documents_written xs docs e c =
      record {
        docs = indexed form [] docs;
        rows = e;
        roots = λ x m.
            let (r, k, q) = Memᴰ.of_map (row_written form []) (heads docs) (subst (λ (z : List FlatRow). Memᴰ x z) (heads_written form [] docs) m) in
            ap (λ (z : FlatRow). z.sort) (sym q) ∙ ap row_code (c.roots r k);
        everywhere = everywhere_written [] docs c.rows;
      }

  pub documents_are : (xs : List (Deep FlatRow)) → Every (λ x. PlainRow x.row) xs → Documents F xs ↔ ((docs : Forest Row) × ReadsAs version form xs docs)
  documents_are xs p = (λ x. (docs_read form (build xs 0), documents_read xs p x), λ (docs, x). documents_written xs docs x.rows x.conforming)
