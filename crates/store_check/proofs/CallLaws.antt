-- What the calls of the check find, put together.
use Prim.Native.Nat.{ℕ, ◌+◌, ◌*◌, ◌≤◌}
use native.Mathlib.Omega.{arith}
use mathlib.Core.Path.{◌≡◌, refl, ap, ◌∙◌, sym, subst}
use mathlib.Core.Logic.{◌↔◌}
use mathlib.Core.Bool.{Bool, true, false, not, false≢true}
use mathlib.Core.List.Memᴰ
use lib.ListN.{length, get_or, take}
use mir.Syntax.{w8}
use mir.Val.{Fits}
use borrow.Author.Tests.{not-true, not-false}
use Rattle.rules.specs.Bytes.{Bytes, numbers, all}
use Rattle.rules.specs.Model.{distinct}
use Rattle.rules.specs.Store.{bare}
use Rattle.rules.specs.Layout.{header_size, definition_size, particle_size, attribute_size, row_size}
use Rattle.rules.specs.Decode.{number_at, row_count}
use Rattle.rules.specs.Passing.{passes}
use Rattle.rules.proofs.Words.{same_truth, and_both, and_split}
use Rattle.rules.proofs.BooleanLaws.{all_map}
use Rattle.layout.specs.declared.Shape.{Shape}
use Rattle.layout.specs.Bodies.{Place, width_of, shape_of, ShapeOf, attributes_start, rows_start, row_body, tree_rows_in}
use Rattle.layout.proofs.LayoutLaws.{by_shape}
use Rattle.records.specs.Records.{definition_fits, attribute_fits, serial_fits, each_fits, header_fits}
use Rattle.records.proofs.RecordLaws.{small_of, small_at}
use Rattle.form_check.specs.FormTests.{bodies_fit}
use Rattle.form_check.specs.Bodies.{form_of_bodies}
use Rattle.std.specs.Prelude.{Result, is_ok}
use Rattle.circle_check.specs.Members.{members_in}
use Rattle.circle_check.specs.Deep.{Ranked}
use Rattle.serial_check.specs.Serials.{serial_of_deep, serials_of}
use Rattle.form_index.specs.Indices.{Everywhere}
use Rattle.form_index.specs.Reading.{by_index}
use Rattle.form_index.proofs.CutLaws.{Cut, CutOf}
use Rattle.row_step.specs.Steps.{Before}
use Rattle.row_check.specs.Verdict.{rows_read, verdict, SoundForm, RowsConform}
use Rattle.row_check.specs.Walking.{bytes_before, before_with, before_in, FewIn}
use Rattle.row_check.proofs.PassLaws.{rows_within, verdict_says}
use Rattle.row_check.proofs.BeforeLaws.{width_before, before_same, few_before}
use Rattle.store_check.specs.Check.{FormPasses, FormIn, walk_answer, serials_differ, RowsPass, fitting, SerialsIn}
use Rattle.store_check.proofs.FormLaws.{Laid, circle_fit}
use Rattle.store_check.proofs.StringChecks.{Headed, header, laid_in, rows_whole, rows_small, passes_header, passes_in}
use Rattle.store_check.proofs.IndexReads.{index_agrees, index_once, index_deep}
use Rattle.layout.specs.Fields.{next_at, version_at}

-- ---- tests
-- a test that fails
pub refused : {b e : Bool} {P : Type 0} → not b ≡ true → b ≡ e → (P → e ≡ true) → (false ≡ true) ↔ P
refused {b} {e} h q f = (λ z. absurd (false≢true z), λ x. sym (not-true b h) ∙ q ∙ f x)

-- one that does not
pub kept : {b e : Bool} → not b ≡ false → b ≡ e → e ≡ true
kept {b} {e} h q = sym q ∙ not-false b h

-- ---- the form
pub form_by_lem : {w n : ℕ} {defs : Bytes} {p : ℕ} {parts : Bytes} {a : ℕ} {attrs : Bytes} {r : Result Bytes Bytes} {there : Bool} → Laid w n defs p parts a attrs
    → each_fits definition_fits definition_size n defs ≡ true → each_fits (attribute_fits w n) (attribute_size w) a attrs ≡ true
    → bodies_fit (form_of_bodies w n defs p parts a attrs) ≡ true → Ranked n (members_in defs parts) r → there ≡ is_ok r → (there ≡ true) ↔ FormPasses w n defs p parts a attrs
form_by_lem laid d c b k q =
    (λ e. record { definitions = d; attributes = c; bodies = b; circle = (circle_fit laid d c b k).0 (sym q ∙ e) }, λ x. q ∙ (circle_fit laid d c b k).1 x.circle)

module _ {bs : Bytes} {s : Shape} (x : ShapeOf bs s) where
  pub rows_counted : s.rows ≡ row_count bs
  unfolding shape_of
  rows_counted = ap (λ (z : Shape). z.rows) x.is

  pub rows_of : {rows : Bytes} → rows ≡ row_body s bs → rows ≡ tree_rows_in bs
  rows_of e = by_shape row_body bs x e

  pub width_is : s.width ≡ width_of bs
  unfolding shape_of
  width_is = ap (λ (z : Shape). z.width) x.is

  -- the bytes before the tree body
  pub before_of : {at : ℕ} {r : Bytes} → Place (header_size + definition_size * s.definitions + particle_size * s.particles + attribute_size s.width * s.attributes) at
      → r ≡ take at bs → r ≡ bytes_before bs
  unfolding rows_start attributes_start
  before_of p e = e ∙ ap (λ (k : ℕ). take k bs) p.value ∙ ap (λ (z : Shape). take (rows_start z) bs) x.is

-- the header, tested at the width of the shape
pub header_kept : {bs : Bytes} {s : Shape} → ShapeOf bs s → {b : Bool} → not b ≡ false → b ≡ header_fits s.width bs → header_fits (width_of bs) bs ≡ true
header_kept {bs} x h q = ap (λ (w : ℕ). header_fits w bs) (sym (width_is x)) ∙ kept h q

pub headed : (bs : Bytes) → header_fits (width_of bs) bs ≡ true → ((i : ℕ) → Fits w8 (get_or bs i 0)) → Headed bs
headed bs h s = record { small = small_of bs (λ i. omega (arith, s i)); header = h }

module _ {bs : Bytes} {version w n : ℕ} {defs : Bytes} {p : ℕ} {parts : Bytes} {a : ℕ} {attrs : Bytes} (h : Headed bs) (k : CutOf bs version w n defs p parts a attrs) where
  abbrev given : Cut
  given = record { version = version; w = w; n = n; defs = defs; p = p; parts = parts; a = a; attrs = attrs }

  pub cut_laid : Laid w n defs p parts a attrs
  cut_laid = subst (λ (c : Cut). Laid c.w c.n c.defs c.p c.parts c.a c.attrs) k.same (laid_in h)

  pub cut_form : {r : Bool} → (r ≡ true) ↔ FormPasses w n defs p parts a attrs → (r ≡ true) ↔ FormIn bs
  cut_form {r} (f, g) = (
    λ e. record { passes = subst (λ (c : Cut). FormPasses c.w c.n c.defs c.p c.parts c.a c.attrs) (sym k.same) (f e) },
    λ x. g (subst (λ (c : Cut). FormPasses c.w c.n c.defs c.p c.parts c.a c.attrs) k.same x.passes),
  )

-- ---- the rows
module _ {bs : Bytes} {s : Shape} (h : Headed bs) (x : ShapeOf bs s) where
  pub rows_asked : {before rows : Bytes} → before ≡ bytes_before bs → rows ≡ tree_rows_in bs → FewIn before × (row_size (width_of before) * s.rows ≤ length rows)
  rows_asked {before} {rows} e v =
      let room : row_size (width_of before) * s.rows ≡ row_size (width_of bs) * row_count bs =
      (λ i. row_size ((ap width_of e ∙ width_before bs) i) * rows_counted x i) in (
        subst FewIn (sym e) (few_before bs (header h).few_definitions (header h).few_attributes),
        omega (arith, ap (λ (t : Bytes). length t) v, rows_whole h),
      )

  pub rows_answer : {before : Bytes} {next : ℕ} {rows : Bytes} {r : Bool} → before ≡ bytes_before bs → next ≡ number_at next_at 4 before → rows ≡ tree_rows_in bs
      → r ≡ verdict (before_with next before) s.rows rows → r ≡ walk_answer bs
  unfolding walk_answer
  rows_answer {before} {next} {rows} e n v q =
      q ∙ (λ i. verdict (before_with ((n ∙ ap (λ (t : Bytes). number_at next_at 4 t) e) i) (e i)) (rows_counted x i) (v i))

  -- ---- serials
  pub serials_asked : s.rows ≤ 4096
  serials_asked = omega (arith, (header h).few_rows, rows_counted x)

  pub serials_in_lem : {rows : Bytes} {r : Bool} → rows ≡ tree_rows_in bs → r ≡ distinct numbers (serials_of s.width s.rows rows) → r ≡ serials_differ bs
  unfolding serials_differ
  serials_in_lem y e = e ∙ (λ i. distinct numbers (serials_of (width_is x i) (rows_counted x i) (y i)))

-- ---- all
pub headless : {bs : Bytes} {s : Shape} → ShapeOf bs s → {b : Bool} → not b ≡ true → b ≡ header_fits s.width bs → false ≡ passes bs
headless {bs} x {b} h q = by (passes bs) refl
  where
    by : (z : Bool) → passes bs ≡ z → false ≡ z
    by true e = absurd (false≢true (sym (not-true b h) ∙ q ∙ ap (λ (w : ℕ). header_fits w bs) (width_is x) ∙ passes_header bs e))
    by false e = refl

module _ {bs : Bytes} (h : Headed bs) where
  all_in : (passes bs ≡ true) ↔ (FormIn bs × RowsPass (width_of bs) (by_index bs) (row_count bs) (tree_rows_in bs) × SerialsIn bs)
  all_in = passes_in h (by_index bs) (λ x. index_agrees (laid_in h) x.passes (number_at version_at 4 bs))

  not_passed : (passes bs ≡ true → ⊥) → false ≡ passes bs
  not_passed f = by (passes bs) refl
    where
      by : (z : Bool) → passes bs ≡ z → false ≡ z
      by true e = absurd (f e)
      by false e = refl

  pub formless : {b : Bool} → not b ≡ true → (b ≡ true) ↔ FormIn bs → false ≡ passes bs
  formless {b} t (f, g) = not_passed (λ e. false≢true (sym (not-true b t) ∙ g (all_in.0 e).0))

  -- what the walk asks of a form
  pub sound_in : FormIn bs → SoundForm (by_index bs)
  sound_in x =
      record {
        definitions = (header h).few_definitions;
        attributes = (header h).few_attributes;
        once = index_once (laid_in h) x.passes (number_at version_at 4 bs);
        chains = index_deep (laid_in h) x.passes (number_at version_at 4 bs);
      }

  -- THE WALK: its answer is that the rows conform
  pub answer_says : FormIn bs → (walk_answer bs ≡ true) ↔ RowsConform (before_in bs) (row_count bs) (tree_rows_in bs)
  unfolding walk_answer
  answer_says x =
      let same : verdict (before_in (bytes_before bs)) (row_count bs) (tree_rows_in bs) ≡ verdict (before_in bs) (row_count bs) (tree_rows_in bs) =
      ap (λ (b : Before). verdict b (row_count bs) (tree_rows_in bs)) (before_same bs) in
      let says = verdict_says (before_in bs) (row_count bs) (tree_rows_in bs) (sound_in x) (rows_within (width_of bs) (row_count bs) (tree_rows_in bs) (small_at (rows_small h))) in
      (λ e. says.0 (sym same ∙ e), λ r. same ∙ says.1 r)

  -- the serials, in the range and different
  range_of : all (λ x. serial_fits (number_at next_at 4 bs) x.row.serial) (rows_read (width_of bs) (row_count bs) (tree_rows_in bs))
      ≡ all (serial_fits (number_at next_at 4 bs)) (serials_of (width_of bs) (row_count bs) (tree_rows_in bs))
  unfolding serials_of
  range_of = sym (all_map (serial_fits (number_at next_at 4 bs)) serial_of_deep (rows_read (width_of bs) (row_count bs) (tree_rows_in bs)))

  conform_of : RowsPass (width_of bs) (by_index bs) (row_count bs) (tree_rows_in bs) → SerialsIn bs → RowsConform (before_in bs) (row_count bs) (tree_rows_in bs)
  unfolding fitting
  conform_of r k = record { fields = r.fields; serials = range_of ∙ (and_split (distinct numbers (serials_of (width_of bs) (row_count bs) (tree_rows_in bs))) _ k.fits).1; documents = r.documents }

  differ_of : SerialsIn bs → serials_differ bs ≡ true
  unfolding serials_differ fitting
  differ_of k = (and_split (distinct numbers (serials_of (width_of bs) (row_count bs) (tree_rows_in bs))) _ k.fits).0

  serials_of_lem : RowsConform (before_in bs) (row_count bs) (tree_rows_in bs) → serials_differ bs ≡ true → SerialsIn bs
  unfolding serials_differ fitting
  serials_of_lem r e = record { fits = and_both e (sym range_of ∙ r.serials) }

  -- THE CHECK of a string whose header fits
  pub check_says : (passes bs ≡ true) ↔ (FormIn bs × (walk_answer bs ≡ true) × (serials_differ bs ≡ true))
  check_says = (
    λ e. let (x, r, k) = all_in.0 e in (x, (answer_says x).1 (conform_of r k), differ_of k),
    λ (x, a, e). let r = (answer_says x).0 a in all_in.1 (x, record { fields = r.fields; documents = r.documents }, serials_of_lem r e),
  )

  pub rowless : {b : Bool} → not b ≡ true → b ≡ walk_answer bs → false ≡ passes bs
  rowless {b} t q = not_passed (λ e. false≢true (sym (not-true b t) ∙ q ∙ (check_says.0 e).1))

  pub passed : {a b r : Bool} → not a ≡ false → (a ≡ true) ↔ FormIn bs → not b ≡ false → b ≡ walk_answer bs → r ≡ serials_differ bs → r ≡ passes bs
  passed {a} {b} {r} s x t y z =
      same_truth r (passes bs) (λ e. check_says.1 (x.0 (not-false a s), sym y ∙ not-false b t, sym z ∙ e)) (λ e. z ∙ (check_says.0 e).2)

  -- ---- without rows the form decides
  none_fit : row_count bs ≡ 0 → RowsPass (width_of bs) (by_index bs) (row_count bs) (tree_rows_in bs)
  unfolding each_fits
  none_fit e =
      rw e
      (record { fields = refl; documents = record { docs = bare; rows = refl; roots = λ r m. absurd (Memᴰ.not-nil m); everywhere = unfold Everywhere in tt } })

  none_serials : row_count bs ≡ 0 → SerialsIn bs
  unfolding fitting serials_of distinct
  none_serials e = record { fits = rw e refl }

  pub bare_passed : row_count bs ≡ 0 → {a : Bool} → (a ≡ true) ↔ FormIn bs → a ≡ passes bs
  bare_passed e {a} x = same_truth a (passes bs) (λ h. all_in.1 (x.0 h, none_fit e, none_serials e)) (λ h. x.1 (all_in.0 h).0)
