-- A model that is printed is read as the canonical one: by induction on the members, a member off the text at each
-- step. A name ends where a mark, a separator or `)` begins, and each member has a byte of its own, so the count is
-- enough.
use Prim.Native.Nat.{ℕ, zero, suc, ◌+◌, ◌≤◌}
use native.Mathlib.Omega.{arith}
use mathlib.Core.Path.{◌≡◌, refl, ap, ◌∙◌}
use mathlib.Core.Bool.{true, false, ◌&&◌}
use mathlib.Core.List.{[], ◌∷◌, ◌++◌}
use lib.Dec.{eqb}
use lib.ListN.{length, length-append}
use Rattle.rules.specs.declared.Quantifier.{Quantifier}
use Rattle.rules.specs.declared.Quantifier.TheVariants.{None, Qmark, Star, Plus}
use Rattle.rules.specs.declared.GroupKind.{GroupKind}
use Rattle.rules.specs.declared.GroupKind.TheVariants.{Sequence, Choice}
use Rattle.rules.specs.Bytes.{Bytes, ascii, all}
use Rattle.rules.specs.Model.{Members, done, el, group, names, Some, Full}
use Rattle.rules.specs.Store.{Content, empty, pcdata, complex, model_of}
use Rattle.rules.specs.WellFormed.{starts_name, in_name, is_name}
use Rattle.rules.specs.Print.{mark_of, separator, member_tokens, content_tokens}
use Rattle.rules.proofs.Words.{and_split}
use Rattle.rules.proofs.BooleanLaws.{all_left, all_right}
use Rattle.text_scan.specs.Scan.{first_byte, starts_with, front_while, after_while}
use Rattle.text_scan.proofs.ScanLaws.{apart, apart', leading_of, trailing_of, naming}
use Rattle.reading_rules.specs.Canonical.{canonical_kind, canonical_members, canonical_content}
use Rattle.reading_rules.specs.Reader.{quantifier_of_text, after_mark, ReadGroup, with_others, members_of_text, content_of_text}
use Rattle.reading_rules.proofs.Pieces.{put_tokens, tokens_append}

-- ---- what comes after a member: the others with their separators, and `)`
unfoldable after_member : GroupKind → Members Bytes → Bytes → Bytes
after_member k ms r = put_tokens (member_tokens k (separator k) ms) (41 ∷ r)

-- it begins with a byte that is no mark and in no name
pub record MemberEnds (t : Bytes) : Type 0 where
  pub head : ℕ
  pub tail : Bytes
  pub is : t ≡ head ∷ tail
  pub one : eqb head 63 ≡ false
  pub two : eqb head 42 ≡ false
  pub three : eqb head 43 ≡ false
  pub name : in_name head ≡ false

pub member_ends : (x : ℕ) (r : Bytes) → eqb x 63 ≡ false → eqb x 42 ≡ false → eqb x 43 ≡ false → in_name x ≡ false → MemberEnds (x ∷ r)
member_ends x r a b c d = record { head = x; tail = r; is = refl; one = a; two = b; three = c; name = d }

after_member_ends : (k : GroupKind) (ms : Members Bytes) (r : Bytes) → MemberEnds (after_member k ms r)
unfolding after_member put_tokens
after_member_ends k done r = member_ends 41 r refl refl refl refl
after_member_ends Sequence (el q n s) r = member_ends 44 _ refl refl refl refl
after_member_ends Choice (el q n s) r = member_ends 124 _ refl refl refl refl
after_member_ends Sequence (group q j ms s) r = member_ends 44 _ refl refl refl refl
after_member_ends Choice (group q j ms s) r = member_ends 124 _ refl refl refl refl

-- ---- marks
no_mark : (x : ℕ) (r : Bytes) → eqb x 63 ≡ false → eqb x 42 ≡ false → eqb x 43 ≡ false → quantifier_of_text (x ∷ r) ≡ None
no_mark x r a b c = rw (a, quantifier_of_text, b, c)

-- a mark is read, and what comes after it is left
mark_of_lem : (q : Quantifier) (t : Bytes) → MemberEnds t → quantifier_of_text (mark_of q ++ t) ≡ q
mark_of_lem None t e = ap quantifier_of_text e.is ∙ no_mark e.head e.tail e.one e.two e.three
mark_of_lem Qmark t e = refl
mark_of_lem Star t e = refl
mark_of_lem Plus t e = refl

after_mark_lem : (q : Quantifier) (t : Bytes) → MemberEnds t → after_mark (mark_of q ++ t) ≡ t
after_mark_lem q t e = by q (mark_of_lem q t e)
  where
    by : (q : Quantifier) → quantifier_of_text (mark_of q ++ t) ≡ q → after_mark (mark_of q ++ t) ≡ t
    by None f = rw f
    by Qmark f = refl
    by Star f = refl
    by Plus f = refl

-- a mark or what comes after it begins with no byte of a name
pub record NameStops (t : Bytes) : Type 0 where
  pub head : ℕ
  pub tail : Bytes
  pub is : t ≡ head ∷ tail
  pub name : in_name head ≡ false

pub mark_stops : (q : Quantifier) (t : Bytes) → MemberEnds t → NameStops (mark_of q ++ t)
mark_stops None t e = record { head = e.head; tail = e.tail; is = e.is; name = e.name }
mark_stops Qmark t e = record { head = 63; tail = t; is = refl; name = refl }
mark_stops Star t e = record { head = 42; tail = t; is = refl; name = refl }
mark_stops Plus t e = record { head = 43; tail = t; is = refl; name = refl }

-- a name is read off a text in which something else comes after it
pub leading_name : (n t : Bytes) → is_name n ≡ true → NameStops t → front_while in_name (n ++ t) ≡ n
leading_name n t h e = rw e.is (leading_of in_name n e.head e.tail (naming n h).bytes e.name)

pub trailing_name : (n t : Bytes) → is_name n ≡ true → NameStops t → after_while in_name (n ++ t) ≡ t
trailing_name n t h e = rw e.is (trailing_of in_name n e.head e.tail (naming n h).bytes e.name)

-- a name begins with none of the other bytes
pub name_not : (c : ℕ) (n t : Bytes) → is_name n ≡ true → starts_name c ≡ false → eqb (first_byte (n ++ t)) c ≡ false
name_not c n t h x = let m = naming n h in rw m.is (apart starts_name m.head c m.starts x)

-- ---- members
-- members at every depth
unfoldable pub members_in_all : Members Bytes → ℕ
members_in_all done = 0
members_in_all (el q n rest) = suc (members_in_all rest)
members_in_all (group q k ms rest) = suc (members_in_all ms + members_in_all rest)

-- what is read of members and the `)` after them
abbrev canonical_group : GroupKind → Members Bytes → Bytes → ReadGroup
canonical_group k ms r = record { members = canonical_members ms; kind = canonical_kind k ms; rest = 41 ∷ r }

-- one member, and the others
with_others_lem : (m : Members Bytes → Members Bytes) (k : GroupKind) (others : Bytes → ReadGroup) (rest : Members Bytes) (r : Bytes)
    → (Some rest → others (put_tokens (member_tokens k [] rest) (41 ∷ r)) ≡ canonical_group k rest r)
    → with_others m (after_member k rest r) others ≡ record { members = m (canonical_members rest); kind = canonical_kind k (el None [] rest); rest = 41 ∷ r }
unfolding after_member put_tokens canonical_members
with_others_lem m k others done r f = refl
with_others_lem m Sequence others (el q n s) r f = ap (λ (z : ReadGroup). record { members = m z.members; kind = Sequence; rest = z.rest }) (f tt)
with_others_lem m Choice others (el q n s) r f = ap (λ (z : ReadGroup). record { members = m z.members; kind = Choice; rest = z.rest }) (f tt)
with_others_lem m Sequence others (group q j ms s) r f = ap (λ (z : ReadGroup). record { members = m z.members; kind = Sequence; rest = z.rest }) (f tt)
with_others_lem m Choice others (group q j ms s) r f = ap (λ (z : ReadGroup). record { members = m z.members; kind = Choice; rest = z.rest }) (f tt)

-- an element, where the others are read
next_member : (n : ℕ) (k : GroupKind) (q : Quantifier) (x : Bytes) (rest : Members Bytes) (r : Bytes) → is_name x ≡ true
    → (Some rest → members_of_text n (put_tokens (member_tokens k [] rest) (41 ∷ r)) ≡ canonical_group k rest r)
    → members_of_text (suc n) (x ++ (mark_of q ++ after_member k rest r)) ≡ record { members = el q x (canonical_members rest); kind = canonical_kind k (el None [] rest); rest = 41 ∷ r }
unfolding members_of_text
next_member n k q x rest r h f =
    let e : MemberEnds (after_member k rest r) = after_member_ends k rest r in
    let s : NameStops (mark_of q ++ after_member k rest r) = mark_stops q (after_member k rest r) e in
    let t : Bytes = mark_of q ++ after_member k rest r in
    rw (name_not 40 x t h refl, members_of_text, trailing_name x t h s, leading_name x t h s, after_mark_lem q (after_member k rest r) e, mark_of_lem q (after_member k rest r) e)
    (with_others_lem (λ others. el q x others) k (λ u. members_of_text n u) rest r f)

-- a group, where its members and the others are read
next_group : (n : ℕ) (k : GroupKind) (q : Quantifier) (j : GroupKind) (ms rest : Members Bytes) (r t : Bytes)
    → members_of_text n t ≡ canonical_group j ms (mark_of q ++ after_member k rest r)
    → (Some rest → members_of_text n (put_tokens (member_tokens k [] rest) (41 ∷ r)) ≡ canonical_group k rest r)
    → members_of_text (suc n) (40 ∷ t) ≡ record { members = group q (canonical_kind j ms) (canonical_members ms) (canonical_members rest); kind = canonical_kind k (el None [] rest); rest = 41 ∷ r }
unfolding members_of_text
next_group n k q j ms rest r t g f =
    let e : MemberEnds (after_member k rest r) = after_member_ends k rest r in
    rw (g, after_mark_lem q (after_member k rest r) e, mark_of_lem q (after_member k rest r) e)
    (with_others_lem (λ others. group q (canonical_kind j ms) (canonical_members ms) others) k (λ u. members_of_text n u) rest r f)

-- the members before a `)`: the sort read is the group's, LIST for one member
pub members_of_text_lem : (n : ℕ) (k : GroupKind) (ms : Members Bytes) (r : Bytes) → Some ms → Full ms → all is_name (names ms) ≡ true → members_in_all ms ≤ n
    → members_of_text n (put_tokens (member_tokens k [] ms) (41 ∷ r)) ≡ canonical_group k ms r
unfolding Full names members_in_all canonical_members put_tokens after_member
members_of_text_lem n k done r o f h l = absurd o
members_of_text_lem zero k (el q x rest) r o f h l = absurd (let z : ⊥ = omega arith in z)
members_of_text_lem (suc n) k (el q x rest) r o f h l =
    let (a, b) = and_split (is_name x) (all is_name (names rest)) h in
    next_member n k q x rest r a (λ p. members_of_text_lem n k rest r p f b (omega arith))
members_of_text_lem zero k (group q j ms rest) r o f h l = absurd (let z : ⊥ = omega arith in z)
members_of_text_lem (suc n) k (group q j ms rest) r o (f₀, f₁, f₂) h l =
    let a = all_left is_name (names ms) (names rest) h in
    let b = all_right is_name (names ms) (names rest) h in
    let u : Bytes = mark_of q ++ after_member k rest r in
    rw (tokens_append (member_tokens j [] ms) (ascii ")" ∷ mark_of q ∷ member_tokens k (separator k) rest) (41 ∷ r))
    (next_group n k q j ms rest r (put_tokens (member_tokens j [] ms) (41 ∷ u)) (members_of_text_lem n j ms u f₀ f₁ a (omega arith))
    (λ p. members_of_text_lem n k rest r p f₂ b (omega arith)))

-- ---- content
pub name_long : (n : Bytes) → is_name n ≡ true → 1 ≤ length n
name_long n h = let m = naming n h in rw m.is (omega arith)

-- each member has a byte of its own
members_long : (k : GroupKind) (sign : Bytes) (ms : Members Bytes) (r : Bytes) → all is_name (names ms) ≡ true → members_in_all ms + length r ≤ length (put_tokens (member_tokens k sign ms) r)
unfolding names members_in_all put_tokens
members_long k sign done r h = omega arith
members_long k sign (el q x rest) r h =
    let (a, b) = and_split (is_name x) (all is_name (names rest)) h in
    let l : members_in_all rest + length r ≤ length (put_tokens (member_tokens k (separator k) rest) r) = members_long k (separator k) rest r b in
    let m : 1 ≤ length x = name_long x a in
    simp length-append (omega arith)
members_long k sign (group q j ms rest) r h =
    let a = all_left is_name (names ms) (names rest) h in
    let b = all_right is_name (names ms) (names rest) h in
    let u : Bytes = 41 ∷ (mark_of q ++ put_tokens (member_tokens k (separator k) rest) r) in
    let l : members_in_all rest + length r ≤ length (put_tokens (member_tokens k (separator k) rest) r) = members_long k (separator k) rest r b in
    let m : members_in_all ms + length u ≤ length (put_tokens (member_tokens j [] ms) u) = members_long j [] ms u a in
    let v : length u ≡ suc (length (mark_of q) + length (put_tokens (member_tokens k (separator k) rest) r)) = simp length-append in
    rw (tokens_append (member_tokens j [] ms) (ascii ")" ∷ mark_of q ∷ member_tokens k (separator k) rest) r)
    (simp length-append (omega arith))

pub starts_with_more : (x : ℕ) (xs : Bytes) (y : ℕ) (ys : Bytes) → starts_with (x ∷ xs) (y ∷ ys) ≡ (eqb x y && starts_with xs ys)
unfolding starts_with
starts_with_more x xs y ys = refl

-- `(`, members and `)`, where this is no `(#PCDATA)`
model_of_text : (ms : Members Bytes) (r : Bytes) → Some ms → Full ms → all is_name (names ms) ≡ true → starts_with (ascii "#") (put_tokens (member_tokens Sequence [] ms) (41 ∷ r)) ≡ false
    → content_of_text (40 ∷ put_tokens (member_tokens Sequence [] ms) (41 ∷ r)) ≡ record { value = complex (canonical_members ms); rest = r }
unfolding content_of_text
model_of_text ms r o f h e =
    let t : Bytes = put_tokens (member_tokens Sequence [] ms) (41 ∷ r) in
    let l : members_in_all ms + length (41 ∷ r) ≤ length t = members_long Sequence [] ms (41 ∷ r) h in
    let g : members_of_text (suc (length t)) t ≡ canonical_group Sequence ms r = members_of_text_lem _ Sequence ms r o f h (omega arith) in
    let a : starts_with (ascii "EMPTY") (40 ∷ t) ≡ false = starts_with_more 69 (ascii "MPTY") 40 t in
    let b : starts_with (ascii "(#") (40 ∷ t) ≡ false = starts_with_more 40 (ascii "#") 40 t ∙ e in
    rw (a, content_of_text, b, g)

pub starts_with_name : (c : ℕ) (n t : Bytes) → is_name n ≡ true → starts_name c ≡ false → starts_with (c ∷ []) (n ++ t) ≡ false
unfolding starts_with
starts_with_name c n t h x = let m = naming n h in rw (m.is, apart' starts_name m.head c m.starts x)

-- content as printed is read as canonical content
pub content_of_text_lem : (c : Content) (r : Bytes) → Full (model_of c) → all is_name (names (model_of c)) ≡ true
    → content_of_text (put_tokens (content_tokens c) r) ≡ record { value = canonical_content c; rest = r }
unfolding put_tokens
content_of_text_lem empty r f h = unfold content_of_text starts_with in refl
content_of_text_lem pcdata r f h = unfold content_of_text starts_with in refl
content_of_text_lem (complex done) r f h = unfold content_of_text starts_with in refl
content_of_text_lem (complex (el q x rest)) r f h =
    rw (tokens_append (member_tokens Sequence [] (el q x rest)) (ascii ")" ∷ []) r)
    (model_of_text (el q x rest) r tt f h (starts_with_name 35 x _ (unfold names in (and_split (is_name x) (all is_name (names rest)) h).0) refl))
content_of_text_lem (complex (group q k ms rest)) r f h =
    rw (tokens_append (member_tokens Sequence [] (group q k ms rest)) (ascii ")" ∷ []) r)
    (model_of_text (group q k ms rest) r tt f h (unfold starts_with in refl))
