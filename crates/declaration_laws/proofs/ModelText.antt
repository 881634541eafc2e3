-- The particles that are read off the text of a model are those of the canonical one; by induction on the members,
-- with what comes after them.
use Prim.Native.Nat.{ℕ, suc, ◌-◌, ◌%◌, ◌≤◌, ◌<◌}
use native.Mathlib.Nat.{mod-eq_of_lt}
use native.Mathlib.Omega.{arith}
use mathlib.Core.Path.{◌≡◌, refl, sym, ap, ap₂, ◌∙◌}
use mathlib.Core.Bool.{Bool, true, false, false≢true}
use mathlib.Core.List.{List, [], ◌∷◌, ◌++◌, append_assoc, append-nil}
use lib.Dec.{eqb}
use lib.ListN.{take}
use lib.Seq.{take_all}
use Rattle.rules.specs.declared.Quantifier.{Quantifier}
use Rattle.rules.specs.declared.Quantifier.TheVariants.{None, Qmark, Star, Plus}
use Rattle.rules.specs.declared.GroupKind.{GroupKind}
use Rattle.rules.specs.declared.GroupKind.TheVariants.{Sequence, Choice}
use Rattle.rules.specs.Bytes.{Bytes, all}
use Rattle.rules.specs.Model.{Members, done, el, group, names, Some, Full}
use Rattle.rules.specs.Store.{Forest, bare, tree}
use Rattle.rules.specs.Preorder.{Deep, preorder}
use Rattle.rules.specs.Layout.{name_width, FlatParticle, quantifier_code, group_code, how_many}
use Rattle.rules.specs.WellFormed.{in_name, is_name}
use Rattle.rules.specs.Print.{mark_of, separator, member_tokens}
use Rattle.rules.proofs.Words.{and_split}
use Rattle.rules.proofs.BooleanLaws.{all_left, all_right}
use Rattle.rules.proofs.DecodeLaws.{name_width_lem}
use Rattle.layout.specs.RecordBytes.{flat_particle}
use Rattle.text_scan.specs.Scan.{after_while}
use Rattle.text_scan.proofs.ScanLaws.{apart, naming}
use Rattle.reading_rules.specs.Canonical.{canonical_kind, canonical_members}
use Rattle.reading_rules.proofs.Pieces.{put_tokens}
use Rattle.reading_rules.proofs.Models.{MemberEnds, member_ends, NameStops, mark_stops, leading_name, trailing_name, members_in_all}
use Rattle.declaration_scan.specs.Declared.{mark_code, name_here, Grouped, place_among, element_here, group_here, model_from}
use Rattle.declaration_laws.proofs.GroupText.{element_put, group_put, no_members_put, mark_code_lem, group_seen_lem}

-- the particles of a model, each name by its place among the names
abbrev pub placed : List Bytes → Members Bytes → Forest FlatParticle
placed ns done = bare
placed ns (el q n rest) = tree (record { sort = 0; quantifier = quantifier_code q; index = place_among n ns }) bare (placed ns rest)
placed ns (group q k ms rest) = tree (record { sort = group_code k; quantifier = quantifier_code q; index = how_many ms }) (placed ns ms) (placed ns rest)

-- ---- what comes after a member
closing_ends : (r : Bytes) → MemberEnds (41 ∷ r)
closing_ends r = member_ends 41 r refl refl refl refl

separator_ends : (k : GroupKind) (r : Bytes) → MemberEnds (separator k ++ r)
separator_ends Sequence r = member_ends 44 r refl refl refl refl
separator_ends Choice r = member_ends 124 r refl refl refl refl

others_end : (k : GroupKind) (ms : Members Bytes) (r : Bytes) → MemberEnds r → MemberEnds (put_tokens (member_tokens k (separator k) ms) r)
others_end k done r e = rw (no_members_put k (separator k) r) e
others_end k (el q n rest) r e = rw (element_put k (separator k) q n rest r) (separator_ends k _)
others_end k (group q j ms rest) r e = rw (group_put k (separator k) q j ms rest r) (separator_ends k _)

-- ---- names
pub name_here_lem : (n t : Bytes) → is_name n ≡ true → NameStops t → name_here (n ++ t) ≡ n
name_here_lem n t h s = ap (take name_width) (leading_name n t h s) ∙ take_all name_width n (name_width_lem n h)

element_here_lem : (ns : List Bytes) (d : ℕ) (q : Quantifier) (n t : Bytes) → is_name n ≡ true → MemberEnds t
    → element_here ns d (n ++ (mark_of q ++ t)) ≡ flat_particle 0 (quantifier_code q) (place_among n ns) d
element_here_lem ns d q n t h e =
    let s = mark_stops q t e in
    let m : mark_code (after_while in_name (n ++ (mark_of q ++ t))) ≡ quantifier_code q = ap mark_code (trailing_name n (mark_of q ++ t) h s) ∙ mark_code_lem q t e in
    let i : place_among (name_here (n ++ (mark_of q ++ t))) ns ≡ place_among n ns = ap (λ (z : Bytes). place_among z ns) (name_here_lem n (mark_of q ++ t) h s) in
    λ j. flat_particle 0 (m j) (i j) d

-- ---- groups
many_canonical : (ms : Members Bytes) → how_many (canonical_members ms) ≡ how_many ms
unfolding canonical_members
many_canonical done = refl
many_canonical (el q n rest) = ap suc (many_canonical rest)
many_canonical (group q k ms rest) = ap suc (many_canonical rest)

many_members : (ms : Members Bytes) → how_many ms ≤ members_in_all ms
unfolding members_in_all
many_members done = omega arith
many_members (el q n rest) = omega (arith, many_members rest)
many_members (group q k ms rest) = omega (arith, many_members rest)

group_here_lem : (d : ℕ) (k : GroupKind) (ms : Members Bytes) (q : Quantifier) (t : Bytes) → Some ms → all is_name (names ms) ≡ true → how_many ms < 256 → MemberEnds t
    → group_here d (put_tokens (member_tokens k [] ms) (41 ∷ (mark_of q ++ t))) ≡ flat_particle (group_code (canonical_kind k ms)) (quantifier_code q) (how_many (canonical_members ms)) d
group_here_lem d k ms q t o h l e =
    let n : how_many ms % 256 ≡ how_many (canonical_members ms) = mod-eq_of_lt l ∙ sym (many_canonical ms) in
    ap (λ (g : Grouped). flat_particle g.kind g.mark (g.count % 256) d) (group_seen_lem k ms q t o h e)
    ∙ (λ j. flat_particle (group_code (canonical_kind k ms)) (quantifier_code q) (n j) d)

-- ---- byte by byte
model_open : (ns : List Bytes) (d : ℕ) (xs : Bytes) → model_from ns d false (40 ∷ xs) ≡ group_here d xs ∷ model_from ns (suc d) false xs
unfolding model_from
model_open ns d xs = refl

model_close : (ns : List Bytes) (d : ℕ) (xs : Bytes) → model_from ns (suc d) false (41 ∷ xs) ≡ model_from ns d false xs
unfolding model_from
model_close ns d xs = ap (λ (z : ℕ). model_from ns z false xs) (let e : suc d - 1 ≡ d = omega arith in e)

model_mark : (ns : List Bytes) (d : ℕ) (q : Quantifier) (xs : Bytes) → model_from ns d false (mark_of q ++ xs) ≡ model_from ns d false xs
unfolding model_from
model_mark ns d None xs = refl
model_mark ns d Qmark xs = refl
model_mark ns d Star xs = refl
model_mark ns d Plus xs = refl

-- a name is passed over from its second byte on
name_passed : (ns : List Bytes) (d : ℕ) (n t : Bytes) → all in_name n ≡ true → model_from ns d true (n ++ t) ≡ model_from ns d true t
unfolding model_from
name_passed ns d [] t h = refl
name_passed ns d (x ∷ n) t h =
    let (a, b) = and_split (in_name x) (all in_name n) h in
    rw (apart in_name x 40 a refl, model_from, apart in_name x 41 a refl, a) (name_passed ns d n t b)

name_ended_at : (ns : List Bytes) (d x : ℕ) (xs : Bytes) → in_name x ≡ false → (a b : Bool) → eqb x 40 ≡ a → eqb x 41 ≡ b → model_from ns d true (x ∷ xs) ≡ model_from ns d false (x ∷ xs)
unfolding model_from
name_ended_at ns d x xs h true b e f = rw (e, model_from)
name_ended_at ns d x xs h false true e f = rw (e, model_from, f)
name_ended_at ns d x xs h false false e f = rw (e, model_from, f, h)

name_ended : (ns : List Bytes) (d : ℕ) (t : Bytes) → NameStops t → model_from ns d true t ≡ model_from ns d false t
name_ended ns d t s = rw s.is (name_ended_at ns d s.head s.tail s.name (eqb s.head 40) (eqb s.head 41) refl refl)

model_name : (ns : List Bytes) (d : ℕ) (n t : Bytes) → is_name n ≡ true → NameStops t → model_from ns d false (n ++ t) ≡ element_here ns d (n ++ t) ∷ model_from ns d false t
unfolding model_from
model_name ns d [] t h s = absurd (false≢true h)
model_name ns d (x ∷ n) t h s =
    let m = naming (x ∷ n) h in
    let (a, b) = and_split (in_name x) (all in_name n) m.bytes in
    rw (apart in_name x 40 a refl, model_from, apart in_name x 41 a refl, a)
    (ap (λ (z : List (Deep FlatParticle)). element_here ns d (x ∷ (n ++ t)) ∷ z) (name_passed ns d n t b ∙ name_ended ns d t s))

-- ---- members
record Skipped (sign : Bytes) : Type 0 where
  pass : (ns : List Bytes) (d : ℕ) (r : Bytes) → model_from ns d false (sign ++ r) ≡ model_from ns d false r

skipped_none : Skipped []
skipped_none = record { pass = λ ns d r. refl }

skipped_separator : (k : GroupKind) → Skipped (separator k)
unfolding model_from
skipped_separator Sequence = record { pass = λ ns d r. refl }
skipped_separator Choice = record { pass = λ ns d r. refl }

model_members : (ns : List Bytes) (d : ℕ) (k : GroupKind) (sign : Bytes) (ms : Members Bytes) (r : Bytes) → Skipped sign → Full ms → all is_name (names ms) ≡ true → members_in_all ms ≤ 256 → MemberEnds r
    → model_from ns d false (put_tokens (member_tokens k sign ms) r) ≡ preorder d (placed ns (canonical_members ms)) ++ model_from ns d false r
unfolding Full names members_in_all canonical_members
model_members ns d k sign done r s f h l e = ap (model_from ns d false) (no_members_put k sign r)
model_members ns d k sign (el q n rest) r s f h l e =
    let (a, b) = and_split (is_name n) (all is_name (names rest)) h in
    let t : Bytes = put_tokens (member_tokens k (separator k) rest) r in
    let t-ends : MemberEnds t = others_end k rest r e in
    ap (model_from ns d false) (element_put k sign q n rest r)
    ∙ s.pass ns d (n ++ (mark_of q ++ t))
    ∙ model_name ns d n (mark_of q ++ t) a (mark_stops q t t-ends)
    ∙ ap₂ (λ (p : Deep FlatParticle) (ps : List (Deep FlatParticle)). p ∷ ps) (element_here_lem ns d q n t a t-ends)
    (model_mark ns d q t ∙ model_members ns d k (separator k) rest r (skipped_separator k) f b (omega arith) e)
model_members ns d k sign (group q j ms rest) r s (f₀, f₁, f₂) h l e =
    let a = all_left is_name (names ms) (names rest) h in
    let b = all_right is_name (names ms) (names rest) h in
    let t : Bytes = put_tokens (member_tokens k (separator k) rest) r in
    let u : Bytes = put_tokens (member_tokens j [] ms) (41 ∷ (mark_of q ++ t)) in
    let t-ends : MemberEnds t = others_end k rest r e in
    let inner : List (Deep FlatParticle) = preorder (suc d) (placed ns (canonical_members ms)) in
    let many : how_many ms ≤ members_in_all ms = many_members ms in
    ap (model_from ns d false) (group_put k sign q j ms rest r)
    ∙ s.pass ns d (40 ∷ u)
    ∙ model_open ns d u
    ∙ ap₂ (λ (p : Deep FlatParticle) (ps : List (Deep FlatParticle)). p ∷ ps) (group_here_lem d j ms q t f₀ a (omega arith) t-ends)
    (model_members ns (suc d) j [] ms (41 ∷ (mark_of q ++ t)) skipped_none f₁ a (omega arith) (closing_ends (mark_of q ++ t))
    ∙ ap (λ (z : List (Deep FlatParticle)). inner ++ z)
    (model_close ns d (mark_of q ++ t) ∙ model_mark ns d q t ∙ model_members ns d k (separator k) rest r (skipped_separator k) f₂ b (omega arith) e)
    ∙ sym (append_assoc inner (preorder d (placed ns (canonical_members rest))) (model_from ns d false r)))

nothing_after : (ns : List Bytes) → model_from ns 0 false (41 ∷ 62 ∷ []) ≡ []
unfolding model_from
nothing_after ns = refl

-- A MODEL IS READ OFF ITS TEXT, behind its `(`
pub model_text : (ns : List Bytes) (ms : Members Bytes) → Full ms → all is_name (names ms) ≡ true → members_in_all ms ≤ 256
    → model_from ns 0 false (put_tokens (member_tokens Sequence [] ms) (41 ∷ 62 ∷ [])) ≡ preorder 0 (placed ns (canonical_members ms))
model_text ns ms f h l =
    model_members ns 0 Sequence [] ms (41 ∷ 62 ∷ []) skipped_none f h l (closing_ends (62 ∷ []))
    ∙ ap (λ (z : List (Deep FlatParticle)). preorder 0 (placed ns (canonical_members ms)) ++ z) (nothing_after ns)
    ∙ append-nil (preorder 0 (placed ns (canonical_members ms)))
