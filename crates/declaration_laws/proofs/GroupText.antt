-- What is seen of a group by its text: `grouped_from` passes over names, marks and inner groups, and counts the
-- separators; by induction on the members.
use Prim.Native.Nat.{ℕ, zero, suc, ◌+◌}
use native.Mathlib.Omega.{arith}
use native.Mathlib.Numerals.{one-add}
use mathlib.Core.Path.{◌≡◌, refl, ap, ◌∙◌}
use mathlib.Core.Bool.{true, false}
use mathlib.Core.List.{[], ◌∷◌, ◌++◌}
use lib.Dec.{eqb}
use borrow.Author.Tests.{ne_eqb}
use Rattle.rules.specs.declared.Quantifier.{Quantifier}
use Rattle.rules.specs.declared.Quantifier.TheVariants.{None, Qmark, Star, Plus}
use Rattle.rules.specs.declared.GroupKind.{GroupKind}
use Rattle.rules.specs.declared.GroupKind.TheVariants.{Sequence, Choice}
use Rattle.rules.specs.Bytes.{Bytes, ascii, all}
use Rattle.rules.specs.Model.{Members, done, el, group, names, Some}
use Rattle.rules.specs.Layout.{quantifier_code, group_code, how_many}
use Rattle.rules.specs.WellFormed.{in_name, is_name}
use Rattle.rules.specs.Print.{mark_of, separator, member_tokens}
use Rattle.rules.proofs.Words.{and_split}
use Rattle.rules.proofs.BooleanLaws.{all_left, all_right}
use Rattle.text_scan.proofs.ScanLaws.{apart, naming}
use Rattle.reading_rules.specs.Canonical.{canonical_kind}
use Rattle.reading_rules.proofs.Pieces.{put_tokens, tokens_append}
use Rattle.reading_rules.proofs.Models.{MemberEnds}
use Rattle.declaration_scan.specs.Declared.{mark_code, Grouped, grouped_from, grouped_at}

-- ---- the text of a member and of the others, in front of a rest
pub element_put : (k : GroupKind) (sign : Bytes) (q : Quantifier) (n : Bytes) (rest : Members Bytes) (r : Bytes)
    → put_tokens (member_tokens k sign (el q n rest)) r ≡ sign ++ (n ++ (mark_of q ++ put_tokens (member_tokens k (separator k) rest) r))
unfolding put_tokens
element_put k sign q n rest r = refl

pub group_put : (k : GroupKind) (sign : Bytes) (q : Quantifier) (j : GroupKind) (ms rest : Members Bytes) (r : Bytes)
    → put_tokens (member_tokens k sign (group q j ms rest)) r ≡ sign ++ (40 ∷ put_tokens (member_tokens j [] ms) (41 ∷ (mark_of q ++ put_tokens (member_tokens k (separator k) rest) r)))
unfolding put_tokens
group_put k sign q j ms rest r = ap (λ (z : Bytes). sign ++ (40 ∷ z)) (tokens_append (member_tokens j [] ms) (ascii ")" ∷ mark_of q ∷ member_tokens k (separator k) rest) r)

pub no_members_put : (k : GroupKind) (sign r : Bytes) → put_tokens (member_tokens k sign done) r ≡ r
unfolding put_tokens
no_members_put k sign r = refl

-- ---- marks
no_mark_code : (x : ℕ) (r : Bytes) → eqb x 63 ≡ false → eqb x 42 ≡ false → eqb x 43 ≡ false → mark_code (x ∷ r) ≡ 0
no_mark_code x r a b c = rw (a, mark_code, b, c)

pub mark_code_lem : (q : Quantifier) (t : Bytes) → MemberEnds t → mark_code (mark_of q ++ t) ≡ quantifier_code q
mark_code_lem None t e = ap mark_code e.is ∙ no_mark_code e.head e.tail e.one e.two e.three
mark_code_lem Qmark t e = refl
mark_code_lem Star t e = refl
mark_code_lem Plus t e = refl

-- ---- byte by byte
grouped_open : (nest kind count : ℕ) (xs : Bytes) → grouped_from nest kind count (40 ∷ xs) ≡ grouped_from (suc nest) kind count xs
unfolding grouped_from
grouped_open nest kind count xs = refl

grouped_close : (nest kind count : ℕ) (xs : Bytes) → grouped_from (suc nest) kind count (41 ∷ xs) ≡ grouped_from nest kind count xs
unfolding grouped_from
grouped_close nest kind count xs = refl

grouped_end : (kind count : ℕ) (xs : Bytes) → grouped_from 0 kind count (41 ∷ xs) ≡ record { kind = kind; count = count; mark = mark_code xs }
unfolding grouped_from
grouped_end kind count xs = refl

grouped_separator : (k : GroupKind) (kind count : ℕ) (xs : Bytes) → grouped_from 0 kind count (separator k ++ xs) ≡ grouped_from 0 (group_code k) (suc count) xs
unfolding grouped_from
grouped_separator Sequence kind count xs = refl
grouped_separator Choice kind count xs = refl

-- in an inner group nothing counts but parentheses
grouped_nested : (nest kind count x : ℕ) (xs : Bytes) → eqb x 40 ≡ false → eqb x 41 ≡ false → grouped_from (suc nest) kind count (x ∷ xs) ≡ grouped_from (suc nest) kind count xs
unfolding grouped_from
grouped_nested nest kind count x xs a b = let e : eqb (suc nest) 0 ≡ false = ne_eqb (suc nest) 0 (λ z. omega arith) in rw (a, grouped_from, b, e)

grouped_skip : (nest kind count x : ℕ) (xs : Bytes) → eqb x 40 ≡ false → eqb x 41 ≡ false → eqb x 44 ≡ false → eqb x 124 ≡ false
    → grouped_from nest kind count (x ∷ xs) ≡ grouped_from nest kind count xs
unfolding grouped_from
grouped_skip zero kind count x xs a b c d = rw (a, grouped_from, b, c, d)
grouped_skip (suc nest) kind count x xs a b c d = grouped_nested nest kind count x xs a b

grouped_name : (nest kind count : ℕ) (n r : Bytes) → all in_name n ≡ true → grouped_from nest kind count (n ++ r) ≡ grouped_from nest kind count r
grouped_name nest kind count [] r h = refl
grouped_name nest kind count (x ∷ n) r h =
    let (a, b) = and_split (in_name x) (all in_name n) h in
    grouped_skip nest kind count x (n ++ r) (apart in_name x 40 a refl) (apart in_name x 41 a refl) (apart in_name x 44 a refl) (apart in_name x 124 a refl)
    ∙ grouped_name nest kind count n r b

grouped_mark : (nest kind count : ℕ) (q : Quantifier) (r : Bytes) → grouped_from nest kind count (mark_of q ++ r) ≡ grouped_from nest kind count r
grouped_mark nest kind count None r = refl
grouped_mark nest kind count Qmark r = grouped_skip nest kind count 63 r refl refl refl refl
grouped_mark nest kind count Star r = grouped_skip nest kind count 42 r refl refl refl refl
grouped_mark nest kind count Plus r = grouped_skip nest kind count 43 r refl refl refl refl

grouped_element : (nest kind count : ℕ) (n : Bytes) (q : Quantifier) (r : Bytes) → is_name n ≡ true → grouped_from nest kind count (n ++ (mark_of q ++ r)) ≡ grouped_from nest kind count r
grouped_element nest kind count n q r h = grouped_name nest kind count n (mark_of q ++ r) (naming n h).bytes ∙ grouped_mark nest kind count q r

-- ---- the members of an inner group change nothing
record Inside (sign : Bytes) : Type 0 where
  pass : (nest kind count : ℕ) (r : Bytes) → grouped_from (suc nest) kind count (sign ++ r) ≡ grouped_from (suc nest) kind count r

inside_none : Inside []
inside_none = record { pass = λ nest kind count r. refl }

inside_separator : (k : GroupKind) → Inside (separator k)
inside_separator Sequence = record { pass = λ nest kind count r. grouped_nested nest kind count 44 r refl refl }
inside_separator Choice = record { pass = λ nest kind count r. grouped_nested nest kind count 124 r refl refl }

grouped_inside : (nest kind count : ℕ) (k : GroupKind) (sign : Bytes) (ms : Members Bytes) (r : Bytes) → Inside sign → all is_name (names ms) ≡ true
    → grouped_from (suc nest) kind count (put_tokens (member_tokens k sign ms) r) ≡ grouped_from (suc nest) kind count r
unfolding names
grouped_inside nest kind count k sign done r i h = ap (grouped_from (suc nest) kind count) (no_members_put k sign r)
grouped_inside nest kind count k sign (el q n rest) r i h =
    let (a, b) = and_split (is_name n) (all is_name (names rest)) h in
    let t : Bytes = put_tokens (member_tokens k (separator k) rest) r in
    ap (grouped_from (suc nest) kind count) (element_put k sign q n rest r)
    ∙ i.pass nest kind count (n ++ (mark_of q ++ t))
    ∙ grouped_element (suc nest) kind count n q t a
    ∙ grouped_inside nest kind count k (separator k) rest r (inside_separator k) b
grouped_inside nest kind count k sign (group q j ms rest) r i h =
    let a = all_left is_name (names ms) (names rest) h in
    let b = all_right is_name (names ms) (names rest) h in
    let t : Bytes = put_tokens (member_tokens k (separator k) rest) r in
    let u : Bytes = put_tokens (member_tokens j [] ms) (41 ∷ (mark_of q ++ t)) in
    ap (grouped_from (suc nest) kind count) (group_put k sign q j ms rest r)
    ∙ i.pass nest kind count (40 ∷ u)
    ∙ grouped_open (suc nest) kind count u
    ∙ grouped_inside (suc nest) kind count j [] ms (41 ∷ (mark_of q ++ t)) inside_none a
    ∙ grouped_close (suc nest) kind count (mark_of q ++ t)
    ∙ grouped_mark (suc nest) kind count q t
    ∙ grouped_inside nest kind count k (separator k) rest r (inside_separator k) b

-- ---- the members of the group itself
-- an inner group with its mark
grouped_inner : (kind count : ℕ) (q : Quantifier) (j : GroupKind) (ms : Members Bytes) (t : Bytes) → all is_name (names ms) ≡ true
    → grouped_from 0 kind count (40 ∷ put_tokens (member_tokens j [] ms) (41 ∷ (mark_of q ++ t))) ≡ grouped_from 0 kind count t
grouped_inner kind count q j ms t h =
    grouped_open 0 kind count (put_tokens (member_tokens j [] ms) (41 ∷ (mark_of q ++ t)))
    ∙ grouped_inside 0 kind count j [] ms (41 ∷ (mark_of q ++ t)) inside_none h
    ∙ grouped_close 0 kind count (mark_of q ++ t)
    ∙ grouped_mark 0 kind count q t

-- the code that the separators say, where there are any
abbrev code_by : ℕ → GroupKind → Members Bytes → ℕ
code_by kind k done = kind
code_by kind k (el q n rest) = group_code k
code_by kind k (group q j ms rest) = group_code k

code_by_lem : (k : GroupKind) (ms : Members Bytes) → code_by (group_code k) k ms ≡ group_code k
code_by_lem k done = refl
code_by_lem k (el q n rest) = refl
code_by_lem k (group q j ms rest) = refl

grouped_others : (kind count : ℕ) (k : GroupKind) (ms : Members Bytes) (r : Bytes) → all is_name (names ms) ≡ true
    → grouped_from 0 kind count (put_tokens (member_tokens k (separator k) ms) r) ≡ grouped_from 0 (code_by kind k ms) (count + how_many ms) r
unfolding names
grouped_others kind count k done r h = ap (grouped_from 0 kind count) (no_members_put k (separator k) r) ∙ ap (λ (z : ℕ). grouped_from 0 kind z r) (let e : count ≡ count + 0 = omega arith in e)
grouped_others kind count k (el q n rest) r h =
    let (a, b) = and_split (is_name n) (all is_name (names rest)) h in
    let t : Bytes = put_tokens (member_tokens k (separator k) rest) r in
    ap (grouped_from 0 kind count) (element_put k (separator k) q n rest r)
    ∙ grouped_separator k kind count (n ++ (mark_of q ++ t))
    ∙ grouped_element 0 (group_code k) (suc count) n q t a
    ∙ grouped_others (group_code k) (suc count) k rest r b
    ∙ ap (λ (z : ℕ). grouped_from 0 z (suc count + how_many rest) r) (code_by_lem k rest)
    ∙ ap (λ (z : ℕ). grouped_from 0 (group_code k) z r) (let e : suc count + how_many rest ≡ count + suc (how_many rest) = omega arith in e)
grouped_others kind count k (group q j ms rest) r h =
    let a = all_left is_name (names ms) (names rest) h in
    let b = all_right is_name (names ms) (names rest) h in
    let t : Bytes = put_tokens (member_tokens k (separator k) rest) r in
    ap (grouped_from 0 kind count) (group_put k (separator k) q j ms rest r)
    ∙ grouped_separator k kind count (40 ∷ put_tokens (member_tokens j [] ms) (41 ∷ (mark_of q ++ t)))
    ∙ grouped_inner (group_code k) (suc count) q j ms t a
    ∙ grouped_others (group_code k) (suc count) k rest r b
    ∙ ap (λ (z : ℕ). grouped_from 0 z (suc count + how_many rest) r) (code_by_lem k rest)
    ∙ ap (λ (z : ℕ). grouped_from 0 (group_code k) z r) (let e : suc count + how_many rest ≡ count + suc (how_many rest) = omega arith in e)

-- ---- the whole group
abbrev pub group_seen : GroupKind → Members Bytes → Quantifier → Grouped
group_seen k ms q = record { kind = group_code (canonical_kind k ms); count = how_many ms; mark = quantifier_code q }

grouped_last : (k : GroupKind) (ms rest : Members Bytes) (q : Quantifier) (t : Bytes) → code_by 1 k rest ≡ group_code (canonical_kind k ms) → 1 + how_many rest ≡ how_many ms → MemberEnds t
    → all is_name (names rest) ≡ true → grouped_from 0 1 1 (put_tokens (member_tokens k (separator k) rest) (41 ∷ (mark_of q ++ t))) ≡ group_seen k ms q
grouped_last k ms rest q t e f s h =
    grouped_others 1 1 k rest (41 ∷ (mark_of q ++ t)) h
    ∙ grouped_end (code_by 1 k rest) (1 + how_many rest) (mark_of q ++ t)
    ∙ (λ i. record { kind = e i; count = f i; mark = mark_code_lem q t s i })

lone_element : (k : GroupKind) (q : Quantifier) (n : Bytes) (rest : Members Bytes) → code_by 1 k rest ≡ group_code (canonical_kind k (el q n rest))
lone_element k q n done = refl
lone_element k q n (el q' n' rest) = refl
lone_element k q n (group q' j ms rest) = refl

lone_group : (k : GroupKind) (q : Quantifier) (j : GroupKind) (ms rest : Members Bytes) → code_by 1 k rest ≡ group_code (canonical_kind k (group q j ms rest))
lone_group k q j ms done = refl
lone_group k q j ms (el q' n' rest) = refl
lone_group k q j ms (group q' i ms' rest) = refl

-- A GROUP IS SEEN BY ITS TEXT: its kind where it has two members or more, how many it has, and its mark
pub group_seen_lem : (k : GroupKind) (ms : Members Bytes) (q : Quantifier) (t : Bytes) → Some ms → all is_name (names ms) ≡ true → MemberEnds t
    → grouped_at (put_tokens (member_tokens k [] ms) (41 ∷ (mark_of q ++ t))) ≡ group_seen k ms q
unfolding names
group_seen_lem k done q t o h s = absurd o
group_seen_lem k (el p n rest) q t o h s =
    let (a, b) = and_split (is_name n) (all is_name (names rest)) h in
    let r : Bytes = 41 ∷ (mark_of q ++ t) in
    ap (grouped_from 0 1 1) (element_put k [] p n rest r)
    ∙ grouped_element 0 1 1 n p (put_tokens (member_tokens k (separator k) rest) r) a
    ∙ grouped_last k (el p n rest) rest q t (lone_element k p n rest) (one-add (how_many rest)) s b
group_seen_lem k (group p j ms rest) q t o h s =
    let a = all_left is_name (names ms) (names rest) h in
    let b = all_right is_name (names ms) (names rest) h in
    let r : Bytes = 41 ∷ (mark_of q ++ t) in
    ap (grouped_from 0 1 1) (group_put k [] p j ms rest r)
    ∙ grouped_inner 1 1 p j ms (put_tokens (member_tokens k (separator k) rest) r) a
    ∙ grouped_last k (group p j ms rest) rest q t (lone_group k p j ms rest) (one-add (how_many rest)) s b
