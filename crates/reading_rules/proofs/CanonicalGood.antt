-- THE CANONICAL STORE PASSES: it has as many definitions, particles, attributes and rows, at the same depths; its form
-- is well-formed (CanonicalForm); conforming and layout look at no serial; and the serials from 1 on are new ones.
use Prim.Native.Nat.{ℕ, zero, suc, ◌+◌, ◌≤◌}
use native.Mathlib.Omega.{arith}
use mathlib.Core.Path.{◌≡◌, refl, sym, ap, ap₂, ◌∙◌}
use mathlib.Core.Bool.{Bool, true, ◌&&◌}
use mathlib.Core.List.{List, [], ◌∷◌, ◌++◌, map, map-append}
use lib.Dec.{leb}
use lib.ListN.{length, length-append, length-map}
use Rattle.rules.specs.Bytes.{Bytes, all}
use Rattle.rules.specs.Model.{Members, done, el, group}
use Rattle.rules.specs.Store.{Content, empty, pcdata, complex, Attribute, Form, Row, Forest, bare, tree, Store, heads}
use Rattle.rules.specs.Preorder.{Deep, preorder}
use Rattle.rules.specs.Layout.{value_width, FlatParticle, particles, content_particles, all_particles, own_attributes, all_attributes, flat_definition, indexed, flat}
use Rattle.rules.specs.WellFormed.{highest_number, within_ceilings, well_formed}
use Rattle.rules.specs.Conforming.{every_row, is_element, fits_row, conforming}
use Rattle.rules.specs.Passing.{laid_row, serials, GoodSerials, Good}
use Rattle.rules.specs.Change.{each_row, new_rows, number}
use Rattle.rules.proofs.BooleanLaws.{all_map}
use Rattle.rules.proofs.WellFormedLaws.{well_formed_lem}
use Rattle.rules.proofs.SerialLaws.{every_row_lem}
use Rattle.rules.proofs.PassingLaws.{conforming_good, good_is}
use Rattle.rules.proofs.DecodeLaws.{good_parts, length_own}
use Rattle.change_laws.proofs.Numbered.{wipe, heads_each, every_each, mapped_elements, mapped_row, every_number, conforming_number}
use Rattle.history.proofs.Numbering.{Blank, number_serials, Spent, spent_distinct, spent_below, spent_more}
use Rattle.history.proofs.NumberTests.{times, range}
use Rattle.reading_rules.specs.Canonical.{canonical_members, canonical_content, canonical_attribute, canonical_definition, unnumbered, canonical}
use Rattle.reading_rules.proofs.CanonicalForm.{form_good, conforming_form}

-- ---- how many rows: as many as serials
pub rows_flat : (form : Form) (owner : Bytes) (d : ℕ) (f : Forest Row) → length (preorder d (indexed form owner f)) ≡ length (serials f)
rows_flat form owner d bare = refl
rows_flat form owner d (tree r b t) =
    ap suc
    (length-append (preorder (suc d) (indexed form r.name b)) (preorder d (indexed form owner t))
    ∙ ap₂ (λ (x y : ℕ). x + y) (rows_flat form r.name (suc d) b) (rows_flat form owner d t)
    ∙ sym (length-append (serials b) (serials t)))

-- without serials every row is new
rows_new : (f : Forest Row) → new_rows (unnumbered f) ≡ length (serials f)
unfolding new_rows each_row
rows_new bare = refl
rows_new (tree r b t) =
    let x : new_rows (unnumbered b) ≡ length (serials b) = rows_new b in
    let y : new_rows (unnumbered t) ≡ length (serials t) = rows_new t in
    omega (arith, length-append (serials b) (serials t))

pub unnumbered_blank : (f : Forest Row) → Blank (unnumbered f)
unfolding each_row
unnumbered_blank bare = tt
unnumbered_blank (tree r b t) = (refl, unnumbered_blank b, unnumbered_blank t)

pub range_long : (n m : ℕ) → length (range n m) ≡ m
unfolding range
range_long n zero = refl
range_long n (suc m) = ap suc (range_long (suc n) m)

-- numbered from n on they are as many
rows_numbered : (n : ℕ) (f : Forest Row) → length (serials (number n (unnumbered f))) ≡ length (serials f)
rows_numbered n f = ap (λ (ks : List ℕ). length ks) (number_serials n (unnumbered f) (unnumbered_blank f)) ∙ range_long n (new_rows (unnumbered f)) ∙ rows_new f

-- ---- how many particles, and how deep
abbrev depth_of : Deep FlatParticle → ℕ
depth_of p = p.depth

-- particles keep their depths, whatever form their names are looked up in
depths : (form form' : Form) (d : ℕ) (ms : Members Bytes) → map depth_of (preorder d (particles form' (canonical_members ms))) ≡ map depth_of (preorder d (particles form ms))
unfolding canonical_members
depths form form' d done = refl
depths form form' d (el q n rest) = ap (λ (z : List ℕ). d ∷ z) (depths form form' d rest)
depths form form' d (group q k ms rest) =
    ap (λ (z : List ℕ). d ∷ z)
    (map-append depth_of (preorder (suc d) (particles form' (canonical_members ms))) (preorder d (particles form' (canonical_members rest)))
    ∙ ap₂ (λ (u v : List ℕ). u ++ v) (depths form form' (suc d) ms) (depths form form' d rest)
    ∙ sym (map-append depth_of (preorder (suc d) (particles form ms)) (preorder d (particles form rest))))

content_depths : (form form' : Form) (c : Content) → map depth_of (content_particles form' (canonical_content c)) ≡ map depth_of (content_particles form c)
content_depths form form' empty = refl
content_depths form form' pcdata = refl
content_depths form form' (complex done) = refl
content_depths form form' (complex (el q n rest)) = depths form form' 0 (el q n rest)
content_depths form form' (complex (group q k ms rest)) = depths form form' 0 (group q k ms rest)

form_depths : (form form' ds : Form) → map depth_of (all_particles form' (map canonical_definition ds)) ≡ map depth_of (all_particles form ds)
form_depths form form' [] = refl
form_depths form form' (d ∷ ds) =
    map-append depth_of (content_particles form' (canonical_content d.content)) (all_particles form' (map canonical_definition ds))
    ∙ ap₂ (λ (u v : List ℕ). u ++ v) (content_depths form form' d.content) (form_depths form form' ds)
    ∙ sym (map-append depth_of (content_particles form d.content) (all_particles form ds))

-- ---- how many attributes
own_count : (o : ℕ) (table : List Attribute) → length (own_attributes o (map canonical_attribute table)) ≡ length (own_attributes o table)
own_count o table = length_own o (map canonical_attribute table) ∙ length-map table canonical_attribute ∙ sym (length_own o table)

attribute_count_lem : (o : ℕ) (form : Form) → length (all_attributes o (map canonical_definition form)) ≡ length (all_attributes o form)
attribute_count_lem o [] = refl
attribute_count_lem o (d ∷ ds) =
    length-append (own_attributes o (map canonical_attribute d.attributes)) (all_attributes (suc o) (map canonical_definition ds))
    ∙ ap₂ (λ (x y : ℕ). x + y) (own_count o d.attributes) (attribute_count_lem (suc o) ds)
    ∙ sym (length-append (own_attributes o d.attributes) (all_attributes (suc o) ds))

-- ---- ceilings
-- `within_ceilings` of the counts
abbrev ceilings_hold : ℕ → ℕ → Bool → ℕ → ℕ → Bool
ceilings_hold d p deep a r = leb d 64 && (leb p 256 && (deep && (leb a 64 && leb r 4096)))

same_ceilings : (s : Store) → within_ceilings (flat (canonical s)) ≡ within_ceilings (flat s)
unfolding canonical
same_ceilings s =
    let form = s.form in
    let form' = map canonical_definition form in
    let docs' = (canonical s).docs in
    let ps = all_particles form form in
    let ps' = all_particles form' form' in
    let depths : map depth_of ps' ≡ map depth_of ps = form_depths form form' form in
    let d : length (map (flat_definition form') form') ≡ length (map (flat_definition form) form) =
    length-map form' (flat_definition form') ∙ length-map form canonical_definition ∙ sym (length-map form (flat_definition form)) in
    let p : length ps' ≡ length ps = sym (length-map ps' depth_of) ∙ ap (λ (z : List ℕ). length z) depths ∙ length-map ps depth_of in
    let q : all (λ (p : Deep FlatParticle). leb p.depth 4) ps' ≡ all (λ (p : Deep FlatParticle). leb p.depth 4) ps =
    sym (all_map shallow depth_of ps') ∙ ap (λ (z : List ℕ). all shallow z) depths ∙ all_map shallow depth_of ps in
    let r : length (preorder 0 (indexed form' [] docs')) ≡ length (preorder 0 (indexed form [] s.docs)) =
    rows_flat form' [] 0 docs' ∙ rows_numbered _ s.docs ∙ sym (rows_flat form [] 0 s.docs) in
    λ i. ceilings_hold (d i) (p i) (q i) (attribute_count_lem 0 form i) (r i)
  where
    shallow : ℕ → Bool
    shallow n = leb n 4

-- ---- serials
-- none is spent before the first
pub none_spent : (n : ℕ) → 1 ≤ n → Spent n []
unfolding times
none_spent n h = record { least = h; once = λ k. omega arith; zero = refl; above = λ k h. refl }

numbered_spent : (n : ℕ) (f : Forest Row) → 1 ≤ n → Spent (n + new_rows (unnumbered f)) (serials (number n (unnumbered f)))
unfolding times
numbered_spent n f h = spent_more (new_rows (unnumbered f)) (none_spent n h) (λ k. rw (number_serials n (unnumbered f) (unnumbered_blank f)) (omega arith))

-- rows numbered from n on have good serials, if n is at least 1 and the next serial comes after the last
serials_good : (n next : ℕ) (f : Forest Row) → 1 ≤ n → n + length (serials f) ≤ next → next ≤ highest_number → GoodSerials next (number n (unnumbered f))
serials_good n next f h after most =
    let s : Spent (n + new_rows (unnumbered f)) (serials (number n (unnumbered f))) = numbered_spent n f h in
    let e : new_rows (unnumbered f) ≡ length (serials f) = rows_new f in
    record { once = spent_distinct s; below = λ k m. let (a, b) = spent_below s k m in (a, omega arith); least = omega arith; most = most }

-- ---- rows
conforming_same : (version : ℕ) (form : Form) (n : ℕ) (f : Forest Row) → conforming version form (number n (unnumbered f)) ≡ conforming version form f
unfolding conforming
conforming_same version form n f =
    conforming_number version form n (unnumbered f)
    ∙ ap₂ (λ (x y : Bool). x && y)
    (ap (λ (z : List Row). all (λ (r : Row). is_element r.sort) z) (heads_each wipe f) ∙ mapped_elements wipe (λ s. refl) (λ s. refl) (heads f))
    (every_each (λ r below. fits_row version form r below) wipe (λ r rows. mapped_row wipe (λ s. refl) (λ s. refl) version form r rows (λ s m e. refl)) f)

laid_same : (w n : ℕ) (f : Forest Row) → every_row (λ r below. laid_row w r) (number n (unnumbered f)) ≡ every_row (λ r below. laid_row w r) f
laid_same w n f = every_number (λ r below. laid_row w r) (λ r rows. refl) n (unnumbered f) ∙ every_each (λ r below. laid_row w r) wipe (λ r rows. refl) f

-- a value of any version has room for a byte
roomy : (version : ℕ) → leb 1 (value_width version) ≡ true
unfolding value_width
roomy version = refl

pub canonical_good : (s : Store) → Good s → Good (canonical s)
unfolding canonical
canonical_good s g =
    let v : ℕ = s.version in
    let w : ℕ = value_width v in
    let form' : Form = map canonical_definition s.form in
    let docs' : Forest Row = (canonical s).docs in
    let f = form_good w (roomy v) s.form g.form in
    let f' : well_formed w form' ≡ true = (well_formed_lem w form').1 f in
    let l : length (serials s.docs) ≤ 4096 = rw (rows_flat s.form [] 0 s.docs) at (good_parts s ((good_is s).1 g)).row_count in
    let e : new_rows (unnumbered s.docs) ≡ length (serials s.docs) = rows_new s.docs in
    let c : conforming v form' s.docs ≡ true = (conforming_good v w form' f' s.docs).1 (conforming_form v s.form s.docs g.docs) in
    record {
      version = g.version;
      ceilings = same_ceilings s ∙ g.ceilings;
      form = f;
      docs = (conforming_good v w form' f' docs').0 (conforming_same v form' _ s.docs ∙ c);
      values = (every_row_lem (λ r below. laid_row w r) docs').0 (laid_same w _ s.docs ∙ (every_row_lem (λ r below. laid_row w r) s.docs).1 g.values);
      serials = serials_good _ _ s.docs (omega arith) (omega arith) (omega arith);
    }
