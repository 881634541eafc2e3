-- Heights of definitions: no definition reaches itself just where each has a height of at most the number of
-- definitions; the test for reaching decides.
use Prim.Native.Nat.{ℕ, zero, suc, ◌+◌, ◌≤◌}
use native.Mathlib.Omega.{arith}
use mathlib.Core.Path.{◌≡◌, refl, sym, ap, ◌∙◌}
use mathlib.Core.Logic.{◌⊎◌, inl, inr, ⊎_elim, ◌↔◌}
use mathlib.Core.Bool.{Bool, true, false, ◌||◌, false≢true}
use mathlib.Core.Option.{Option, none, some}
use mathlib.Core.List.Memᴰ
use mathlib.Core.List.{List, [], ◌∷◌, map, Memᴰ}
use lib.ListN.{length, length-map}
use Rattle.rules.specs.Bytes.{Bytes, same, same_eq, bytes, all}
use Rattle.rules.specs.Model.{names, Distinct, member}
use Rattle.rules.specs.Store.{Definition, Form, members}
use Rattle.rules.specs.WellFormed.{definition_name, lookup, is_there, known, names_in, members_of, Reaches, directly, through, reaches, reaches_in}
use Rattle.rules.proofs.Words.{or_left, or_right, or_cases}
use Rattle.rules.proofs.TestLaws.{all_test, any_test, member_test, pigeonhole}

-- the definition named n is there, and every chain of members from it ends within h definitions
unfoldable pub deep : ℕ → Form → Bytes → Bool
deep zero form n = false
deep (suc h) form n = elim (lookup n form) [ none ↦ false | some d ↦ all (λ m. deep h form m) (names (members d)) ]

-- ---- definitions by name
pub lookup_member : (n : Bytes) (form : Form) (d : Definition) → lookup n form ≡ some d → Memᴰ d form × (d.name ≡ n)
lookup_member n [] d e = let z : false ≡ true = cc e in absurd (false≢true z)
lookup_member n (c ∷ form) d e = by (same n c.name) refl (lookup_member n form d)
  where
    by : (b : Bool) → same n c.name ≡ b → (lookup n form ≡ some d → Memᴰ d form × (d.name ≡ n)) → Memᴰ d (c ∷ form) × (d.name ≡ n)
    by true q f =
        let s : some c ≡ some d = rw (q, lookup) at e in
        let t : d ≡ c = cc s in
        (Memᴰ.head t, ap definition_name t ∙ sym (same_eq n c.name q))
    by false q f = let (m, s) = f (rw (q, lookup) at e) in (Memᴰ.tail m, s)

-- a name that is known is found
pub known_found : (form : Form) (n : Bytes) → known form n ≡ true → (d : Definition) × (lookup n form ≡ some d)
known_found form n k = by (lookup n form) refl
  where
    by : (o : Option Definition) → lookup n form ≡ o → (d : Definition) × (lookup n form ≡ some d)
    by none q = absurd (false≢true (sym (ap is_there q) ∙ k))
    by (some d) q = (d, q)

-- what has members is known
pub member_known : (form : Form) (n m : Bytes) → Memᴰ m (members_of n form) → known form n ≡ true
member_known form n m = by (lookup n form)
  where
    by : (o : Option Definition) → Memᴰ m (names_in o) → is_there o ≡ true
    by none i = absurd (Memᴰ.not-nil i)
    by (some d) i = refl

pub reaches_known : (form : Form) {n m : Bytes} → Reaches form n m → known form n ≡ true
reaches_known form {n} (directly {m = m} i) = member_known form n m i
reaches_known form {n} (through {m = m} i r) = member_known form n m i

pub reaches_then : (form : Form) {n m k : Bytes} → Reaches form n m → Reaches form m k → Reaches form n k
reaches_then form (directly i) s = through i s
reaches_then form (through i r) s = through i (reaches_then form r s)

-- names that stand once and are known are no more than the definitions
known_length : (form : Form) (l : List Bytes) → Distinct l → ((x : Bytes) → Memᴰ x l → known form x ≡ true) → length l ≤ length form
known_length form l d f = omega (arith, length-map form definition_name, pigeonhole l (map definition_name form) d named)
  where
    named : (x : Bytes) → Memᴰ x l → Memᴰ x (map definition_name form)
    named x i =
        let (c, e) = known_found form x (f x i) in
        let (m, s) = lookup_member x form c e in
        Memᴰ.cast (sym s) (Memᴰ.map definition_name m)

-- ---- heights
pub deep_test : (h : ℕ) (form : Form) (n : Bytes) → (deep (suc h) form n ≡ true) ↔ ((known form n ≡ true) × ((m : Bytes) → Memᴰ m (members_of n form) → deep h form m ≡ true))
unfolding deep
deep_test h form n = by (lookup n form)
  where
    by : (o : Option Definition)
        → (elim o [ none ↦ false | some d ↦ all (λ m. deep h form m) (names (members d)) ] ≡ true)
        ↔ ((is_there o ≡ true) × ((m : Bytes) → Memᴰ m (names_in o) → deep h form m ≡ true))
    by none = (λ e. absurd (false≢true e), λ (k, f). absurd (false≢true k))
    by (some d) = (λ e. (refl, (all_test (λ m. deep h form m) (names (members d))).0 e), λ (k, f). (all_test (λ m. deep h form m) (names (members d))).1 f)

pub deep_member : (h : ℕ) (form : Form) (n m : Bytes) → deep (suc h) form n ≡ true → Memᴰ m (members_of n form) → deep h form m ≡ true
deep_member h form n m e i = ((deep_test h form n).0 e).1 m i

pub deep_more : (h k : ℕ) (form : Form) (n : Bytes) → h ≤ k → deep h form n ≡ true → deep k form n ≡ true
unfolding deep
deep_more zero k form n l e = absurd (false≢true e)
deep_more (suc h) zero form n l e = absurd (omega arith)
deep_more (suc h) (suc k) form n l e = let (t, f) = (deep_test h form n).0 e in (deep_test k form n).1 (t, λ m i. deep_more h k form m (omega arith) (f m i))

-- a member is as deep
deep_step : (h : ℕ) (form : Form) (n m : Bytes) → Memᴰ m (members_of n form) → deep h form n ≡ true → deep h form m ≡ true
unfolding deep
deep_step zero form n m i e = absurd (false≢true e)
deep_step (suc h) form n m i e = deep_more h (suc h) form m (omega arith) (deep_member h form n m e i)

deep_along : (h : ℕ) (form : Form) {n m : Bytes} → Reaches form n m → deep h form n ≡ true → deep h form m ≡ true
deep_along h form {n} (directly {m = m} i) e = deep_step h form n m i e
deep_along h form {n} (through {m = m} i r) e = deep_along h form r (deep_step h form n m i e)

-- what is reached is less high
pub deep_reaches : (h : ℕ) (form : Form) {n m : Bytes} → Reaches form n m → deep (suc h) form n ≡ true → deep h form m ≡ true
deep_reaches h form {n} (directly {m = m} i) e = deep_member h form n m e i
deep_reaches h form {n} (through {m = m} i r) e = deep_along h form r (deep_member h form n m e i)

deep_round : (h : ℕ) (form : Form) (n : Bytes) → Reaches form n n → deep h form n ≡ true → ⊥
unfolding deep
deep_round zero form n r e = false≢true e
deep_round (suc h) form n r e = deep_round h form n r (deep_reaches h form r e)

pub deep_acyclic : (form : Form) → ((n : Bytes) → known form n ≡ true → deep (length form) form n ≡ true) → (n : Bytes) → Reaches form n n → ⊥
deep_acyclic form f n r = deep_round (length form) form n r (f n (reaches_known form r))

module _ (form : Form) (closed : (n m : Bytes) → Memᴰ m (members_of n form) → known form m ≡ true) where
  module _ (acyclic : (n : Bytes) → Reaches form n n → ⊥) where
    -- seen: names that stand once and reach n
    room : (seen : List Bytes) (n : Bytes) → Distinct seen → ((s : Bytes) → Memᴰ s seen → Reaches form s n) → known form n ≡ true → suc (length seen) ≤ length form
    room seen n d f k = known_length form (n ∷ seen) (λ i. acyclic n (f n i), d) (λ x i. ⊎_elim (λ q. rw q k) (λ j. reaches_known form (f x j)) (Memᴰ.cases_cons i))

    deep_seen : (h : ℕ) (seen : List Bytes) (n : Bytes) → Distinct seen → ((s : Bytes) → Memᴰ s seen → Reaches form s n) → known form n ≡ true
        → length form ≤ h + length seen → deep h form n ≡ true
    deep_seen zero seen n d f k l = absurd (omega (arith, room seen n d f k))
    deep_seen (suc h) seen n d f k l =
        (deep_test h form n).1 (
          k,
          λ m i. deep_seen h (n ∷ seen) m (λ j. acyclic n (f n j), d)
              (λ s j. ⊎_elim (λ q. rw q (directly i)) (λ t. reaches_then form (f s t) (directly i)) (Memᴰ.cases_cons j)) (closed n m i) (omega arith),
        )

    pub acyclic_deep : (n : Bytes) → known form n ≡ true → deep (length form) form n ≡ true
    acyclic_deep n k = deep_seen (length form) [] n tt (λ s i. absurd (Memᴰ.not-nil i)) k (omega arith)

  pub height : ((n : Bytes) → Reaches form n n → ⊥) ↔ ((n : Bytes) → known form n ≡ true → deep (length form) form n ≡ true)
  height = (acyclic_deep, deep_acyclic form)

-- ---- the test for reaching
reaches_step : (h : ℕ) (form : Form) (m n : Bytes) → (reaches (suc h) form m n ≡ true) ↔ ((x : Bytes) × Memᴰ x (members_of n form) × ((x ≡ m) ⊎ (reaches h form m x ≡ true)))
reaches_step h form m n = (to, from)
  where
    to : reaches (suc h) form m n ≡ true → (x : Bytes) × Memᴰ x (members_of n form) × ((x ≡ m) ⊎ (reaches h form m x ≡ true))
    to e =
        let (x, i, q) = (any_test (λ y. same y m || reaches h form m y) (members_of n form)).0 e in
        (x, i, ⊎_elim (λ s. inl (same_eq x m s)) (λ r. inr r) (or_cases (same x m) (reaches h form m x) q))

    from : (x : Bytes) × Memᴰ x (members_of n form) × ((x ≡ m) ⊎ (reaches h form m x ≡ true)) → reaches (suc h) form m n ≡ true
    from (x, i, q) =
        (any_test (λ y. same y m || reaches h form m y) (members_of n form)).1 (
          x,
          i,
          ⊎_elim (λ s. or_left (reaches h form m x) (bytes.same← x m s)) (λ r. or_right (same x m) r) q,
        )

pub reaches_sound : (h : ℕ) (form : Form) (m n : Bytes) → reaches h form m n ≡ true → Reaches form n m
reaches_sound zero form m n e = absurd (false≢true e)
reaches_sound (suc h) form m n e =
    let (x, i, q) = (reaches_step h form m n).0 e in
    ⊎_elim (λ s. directly (Memᴰ.cast (sym s) i)) (λ r. through i (reaches_sound h form m x r)) q

reaches_more : (h k : ℕ) (form : Form) (m n : Bytes) → h ≤ k → reaches h form m n ≡ true → reaches k form m n ≡ true
reaches_more zero k form m n l e = absurd (false≢true e)
reaches_more (suc h) zero form m n l e = absurd (omega arith)
reaches_more (suc h) (suc k) form m n l e =
    let (x, i, q) = (reaches_step h form m n).0 e in
    (reaches_step k form m n).1 (x, i, ⊎_elim (λ s. inl s) (λ r. inr (reaches_more h k form m x (omega arith) r)) q)

module _ (form : Form) where
  -- from n through the names of the list to m, in one step each
  Walk : Bytes → List Bytes → Bytes → Type 0
  Walk n [] m = Memᴰ m (members_of n form)
  Walk n (x ∷ xs) m = Memᴰ x (members_of n form) × Walk x xs m

  walk_reaches : (n : Bytes) (xs : List Bytes) (m : Bytes) → Walk n xs m → reaches (suc (length xs)) form m n ≡ true
  unfolding Walk
  walk_reaches n [] m w = (reaches_step zero form m n).1 (m, w, inl refl)
  walk_reaches n (x ∷ xs) m (i, w) = (reaches_step (suc (length xs)) form m n).1 (x, i, inr (walk_reaches x xs m w))

  walk_known : (n : Bytes) (xs : List Bytes) (m : Bytes) → Walk n xs m → (y : Bytes) → Memᴰ y (n ∷ xs) → known form y ≡ true
  unfolding Walk
  walk_known n [] m w y i = ⊎_elim (λ q. rw q (member_known form n m w)) (λ j. absurd (Memᴰ.not-nil j)) (Memᴰ.cases_cons i)
  walk_known n (x ∷ xs) m (j, w) y i = ⊎_elim (λ q. rw q (member_known form n x j)) (walk_known x xs m w y) (Memᴰ.cases_cons i)

  -- a walk that is nowhere twice
  record Straight (n m : Bytes) : Type 0 where
    over : List Bytes
    walk : Walk n over m
    once : Distinct (n ∷ over)

  walk_from_lem : (n : Bytes) (xs : List Bytes) (m : Bytes) → Walk n xs m → Distinct (n ∷ xs) → (y : Bytes) → Memᴰ y (n ∷ xs) → Straight y m
  unfolding Walk
  walk_from_lem n [] m w d y i = ⊎_elim (λ q. rw q record { over = []; walk = w; once = d }) (λ j. absurd (Memᴰ.not-nil j)) (Memᴰ.cases_cons i)
  walk_from_lem n (x ∷ xs) m w d y i = ⊎_elim (λ q. rw q record { over = x ∷ xs; walk = w; once = d }) (walk_from_lem x xs m w.1 d.1 y) (Memᴰ.cases_cons i)

  straight : {n m : Bytes} → Reaches form n m → Straight n m
  unfolding Walk
  straight (directly i) = record { over = []; walk = i; once = (λ j. Memᴰ.not-nil j, tt) }
  straight {n} (through {m = x} {k = k} i r) = by (straight r) (member bytes n (x ∷ (straight r).over)) refl
    where
      by : (s : Straight x k) (b : Bool) → member bytes n (x ∷ s.over) ≡ b → Straight n k
      by s true e = walk_from_lem x s.over k s.walk s.once n ((member_test bytes n (x ∷ s.over)).0 e)
      by s false e = record { over = x ∷ s.over; walk = (i, s.walk); once = (λ j. false≢true (sym e ∙ (member_test bytes n (x ∷ s.over)).1 j), s.once) }

pub reaches_complete : (form : Form) {n m : Bytes} → Reaches form n m → reaches_in form n m ≡ true
reaches_complete form {n} {m} r =
    let s = straight form r in
    let l : suc (length s.over) ≤ length form = known_length form (n ∷ s.over) s.once (walk_known form n s.over m s.walk) in
    reaches_more (suc (length s.over)) (length form) form m n l (walk_reaches form n s.over m s.walk)

pub reaches_test : (form : Form) (n m : Bytes) → (reaches_in form n m ≡ true) ↔ Reaches form n m
reaches_test form n m = (reaches_sound (length form) form m n, λ r. reaches_complete form r)
