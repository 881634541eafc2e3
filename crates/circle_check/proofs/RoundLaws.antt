-- Rounds of marking: after round h each definition whose chains end within h has its height.
use Prim.Native.Nat.{ℕ, zero, suc, ◌+◌, ◌*◌, ◌≤◌, ◌<◌}
use native.Mathlib.Omega.{arith}
use native.Mathlib.Numerals.{add-one}
use native.Mathlib.Nat.{not-suc-le-zero}
use mathlib.Core.Path.{◌≡◌, refl, ap, ap₂, ◌∙◌, sym}
use mathlib.Core.Logic.{◌↔◌}
use mathlib.Core.Bool.{Bool, true, false, not, ◌&&◌, false≢true, and-false}
use mathlib.Core.List.{List, [], ◌∷◌, Memᴰ}
use lib.Dec.{ltb, leb, eqb}
use Rattle.std.specs.Prelude.{Ok, Err}
use lib.ListN.{length, get_or, set, replicate, length-set, length-replicate}
use lib.Seq.{get_or-set_same, get_or-set_other}
use borrow.Author.Tests.{lt-ltb, le-ltb, le-leb, lt-leb, eq-eqb, ne_eqb, ltb-true, ltb-false, eqb-true, eqb-false}
use Rattle.rules.specs.Bytes.{Bytes, all, between}
use Rattle.codec.specs.Part.{part_of}
use Rattle.codec.proofs.Numbers.{zeros_read}
use Rattle.rules.proofs.Words.{and_both, and_split}
use Rattle.rules.proofs.TestLaws.{all_test}
use Rattle.rules.specs.Layout.{particle_size}
use Rattle.circle_check.specs.Members.{elements_of, members_in, count_at}
use Rattle.circle_check.specs.Deep.{deep_index, has_height, raised_to, Round, Ranked}
use Rattle.circle_check.proofs.MemberLaws.{Starts, starts_none, starts_more, model_members}

-- ---- one definition in one round
module _ (h was : ℕ) (s : Bool) where
  pub raised_was : (was ≡ 0 → ⊥) → was ≡ raised_to h was s
  raised_was n = ap (λ (a : Bool). elim a [ true ↦ elim s [ true ↦ h | false ↦ 0 ] | false ↦ was ]) (sym (ne_eqb was 0 n))

  pub raised_new : (b : Bool) → was ≡ 0 → b ≡ s → b ≡ true → h ≡ raised_to h was s
  raised_new b z e t = ap₂ (λ (a x : Bool). elim a [ true ↦ elim x [ true ↦ h | false ↦ 0 ] | false ↦ was ]) (sym (eq-eqb was 0 z)) (sym t ∙ e)

  pub raised_none : (b : Bool) → was ≡ 0 → b ≡ s → b ≡ false → 0 ≡ raised_to h was s
  raised_none b z e t = ap₂ (λ (a x : Bool). elim a [ true ↦ elim x [ true ↦ h | false ↦ 0 ] | false ↦ was ]) (sym (eq-eqb was 0 z)) (sym t ∙ e)

-- ---- one round: the first i are done
pub record Rounding (n : ℕ) (defs parts : Bytes) (h : ℕ) (old new : Bytes) (start i : ℕ) : Type 0 where
  pub done : (k : ℕ) → k < i → get_or new k 0 ≡ raised_to h (get_or old k 0) (all (has_height old) (members_in defs parts k))
  pub rest : (k : ℕ) → i ≤ k → get_or new k 0 ≡ 0
  pub long : length new ≡ 64
  pub starts : Starts defs start i
  pub low : i ≤ n

pub rounding_starts : (n : ℕ) (defs parts : Bytes) (h : ℕ) (old : Bytes) → Rounding n defs parts h old (replicate 64 0) 0 0
rounding_starts n defs parts h old =
    record { done = λ k l. absurd (not-suc-le-zero l); rest = λ k l. zeros_read 64 k; long = length-replicate {A = ℕ} 64 0; starts = starts_none defs; low = omega arith }

module _ {n : ℕ} {defs parts : Bytes} {h : ℕ} {old new : Bytes} {start i : ℕ} (r : Rounding n defs parts h old new start i) where
  pub rounding_on : (c v : ℕ) (model : Bytes) → i < n → n ≤ 64 → c ≡ count_at defs i → c ≤ 4294967295 → model ≡ part_of (particle_size * start) (particle_size * c) parts
      → v ≡ raised_to h (get_or old i 0) (all (has_height old) (elements_of model)) → Rounding n defs parts h old (set new i v) (start + c) (i + 1)
  rounding_on c v model l m ec small em ev =
      record {
        done = λ k q. done k (omega arith);
        rest = λ k q. get_or-set_other new i k v 0 (λ z. omega arith) ∙ r.rest k (omega arith);
        long = length-set new i v ∙ r.long;
        starts = starts_more c r.starts ec small;
        low = omega arith;
      }
    where
      is : v ≡ raised_to h (get_or old i 0) (all (has_height old) (members_in defs parts i))
      is = ev ∙ ap (λ (x : List ℕ). raised_to h (get_or old i 0) (all (has_height old) x)) (model_members defs parts i start c model r.starts ec em)

      done : (k : ℕ) → k < suc i → get_or (set new i v) k 0 ≡ raised_to h (get_or old k 0) (all (has_height old) (members_in defs parts k))
      done k q = by (ltb k i) refl
        where
          by : (b : Bool) → ltb k i ≡ b → get_or (set new i v) k 0 ≡ raised_to h (get_or old k 0) (all (has_height old) (members_in defs parts k))
          by true f = get_or-set_other new i k v 0 (λ z. omega (arith, ltb-true k i f)) ∙ r.done k (ltb-true k i f)
          by false f =
              let z : k ≡ i = omega (arith, ltb-false k i f) in
              rw z (get_or-set_same new i v 0 (omega (arith, r.long)) ∙ is)

  pub rounding_ends : n ≤ i → Round n (members_in defs parts) h old new
  rounding_ends l = record { known = λ k q. r.done k (omega arith); others = λ k q. r.rest k (omega (arith, r.low)) }

-- ---- rounds
module _ (members : ℕ → List ℕ) (n : ℕ) where
  pub deep_index_member : (h : ℕ) {i j : ℕ} → deep_index members n (suc h) i ≡ true → Memᴰ j (members i) → deep_index members n h j ≡ true
  unfolding deep_index
  deep_index_member h {i} {j} e m = (all_test (λ k. deep_index members n h k) (members i)).0 (and_split (ltb i n) (all (λ k. deep_index members n h k) (members i)) e).1 j m

  pub deep_index_more : (h i : ℕ) → deep_index members n h i ≡ true → deep_index members n (suc h) i ≡ true
  unfolding deep_index
  deep_index_more zero i e = absurd (false≢true e)
  deep_index_more (suc h) i e =
      let (u, v) = and_split (ltb i n) (all (λ j. deep_index members n h j) (members i)) e in
      and_both u ((all_test (λ j. deep_index members n (suc h) j) (members i)).1 (λ j m. deep_index_more h j ((all_test (λ j. deep_index members n h j) (members i)).0 v j m)))

  pub deep_known : (h i : ℕ) → i < n → deep_index members n (suc h) i ≡ all (λ j. deep_index members n h j) (members i)
  unfolding deep_index
  deep_known h i l = rw (lt-ltb i n l)

  pub deep_index_known : (h i : ℕ) → deep_index members n h i ≡ true → i < n
  unfolding deep_index
  deep_index_known zero i e = absurd (false≢true e)
  deep_index_known (suc h) i e = ltb-true i n (and_split (ltb i n) (all (λ j. deep_index members n h j) (members i)) e).0

-- ---- a height, 0 for none, and a bound of it
between_yes : (x h : ℕ) → 1 ≤ x → x ≤ h → between 1 h x ≡ true
between_yes x h a b = and_both (le-leb 1 x a) (le-leb x h b)

between_no : (x h : ℕ) → h < x → between 1 h x ≡ false
between_no x h l = rw (lt-leb x h l) (and-false (leb 1 x))

between_none : (x h : ℕ) → x ≡ 0 → between 1 h x ≡ false
between_none x h e = rw e

-- one definition through one round: `deep` says of each h whether its chains end within h
module _ (r : ℕ) (deep : ℕ → Bool) (x : ℕ) (s : Bool) (is : (h : ℕ) → h ≤ r → deep h ≡ between 1 h x) (low : x ≤ r) (now : deep (suc r) ≡ s) (more : deep r ≡ true → deep (suc r) ≡ true) where
  raise : (h : ℕ) → h ≤ suc r → deep h ≡ between 1 h (raised_to (suc r) x s)
  raise h l = by (eqb x 0) refl s refl (ltb r h) refl
    where
      last : ltb r h ≡ true → deep h ≡ deep (suc r)
      last e = let z : h ≡ suc r = omega (arith, ltb-true r h e) in ap deep z

      none : eqb x 0 ≡ true → ltb r h ≡ false → deep h ≡ false
      none a e = is h (ltb-false r h e) ∙ between_none x h (eqb-true x 0 a)

      by : (a : Bool) → eqb x 0 ≡ a → (b : Bool) → s ≡ b → (c : Bool) → ltb r h ≡ c → deep h ≡ between 1 h (elim a [ true ↦ elim b [ true ↦ suc r | false ↦ 0 ] | false ↦ x ])
      by true ea true eb true ec = last ec ∙ now ∙ eb ∙ sym (between_yes (suc r) h (omega arith) (ltb-true r h ec))
      by true ea true eb false ec = none ea ec ∙ sym (between_no (suc r) h (omega (arith, ltb-false r h ec)))
      by true ea false eb true ec = last ec ∙ now ∙ eb
      by true ea false eb false ec = none ea ec
      by false ea b eb true ec =
          let one : 1 ≤ x = omega (arith, eqb-false x 0 ea) in
          let d : deep r ≡ true = is r (omega arith) ∙ between_yes x r one low in
          last ec ∙ more d ∙ sym (between_yes x h one (omega (arith, ltb-true r h ec)))
      by false ea b eb false ec = is h (ltb-false r h ec)

  raise_low : raised_to (suc r) x s ≤ suc r
  raise_low = by (eqb x 0) s
    where
      by : (a b : Bool) → elim a [ true ↦ elim b [ true ↦ suc r | false ↦ 0 ] | false ↦ x ] ≤ suc r
      by true true = omega arith
      by true false = omega arith
      by false b = omega arith

pub record Rounds (n : ℕ) (members : ℕ → List ℕ) (l : Bytes) (r : ℕ) : Type 0 where
  pub is : (i h : ℕ) → h ≤ r → deep_index members n h i ≡ between 1 h (get_or l i 0)
  pub most : (i : ℕ) → get_or l i 0 ≤ r
  pub low : r ≤ n

pub rounds_start : (n : ℕ) (members : ℕ → List ℕ) → Rounds n members (replicate 64 0) 0
unfolding deep_index
rounds_start n members = record { is = λ i h l. is i h l; most = λ i. omega (arith, zeros_read 64 i); low = omega arith }
  where
    is : (i h : ℕ) → h ≤ 0 → deep_index members n h i ≡ between 1 h (get_or (replicate 64 0) i 0)
    is i zero l = sym (between_none (get_or (replicate 64 0) i 0) 0 (zeros_read 64 i))
    is i (suc h) l = absurd (omega arith)

all_same : (p q : ℕ → Bool) (xs : List ℕ) → ((i : ℕ) → p i ≡ q i) → all p xs ≡ all q xs
all_same p q [] h = refl
all_same p q (x ∷ xs) h = ap₂ (λ (a b : Bool). a && b) (h x) (all_same p q xs h)

pub marked_is : {n : ℕ} {members : ℕ → List ℕ} {l : Bytes} {r : ℕ} → Rounds n members l r → (i : ℕ) → has_height l i ≡ deep_index members n r i
unfolding has_height
marked_is {n} {members} {l} {r} s i = by (eqb (get_or l i 0) 0) refl
  where
    by : (b : Bool) → eqb (get_or l i 0) 0 ≡ b → not b ≡ deep_index members n r i
    by true e = sym (s.is i r (omega arith) ∙ between_none (get_or l i 0) r (eqb-true (get_or l i 0) 0 e))
    by false e = sym (s.is i r (omega arith) ∙ between_yes (get_or l i 0) r (omega (arith, eqb-false (get_or l i 0) 0 e)) (s.most i))

pub deep_past : (members : ℕ → List ℕ) (n h i : ℕ) → n ≤ i → deep_index members n h i ≡ false
unfolding deep_index
deep_past members n zero i l = refl
deep_past members n (suc h) i l = rw (le-ltb i n l)

-- members that are the same for each of the n definitions have the same chains
pub deep_index_same : (members others : ℕ → List ℕ) (n : ℕ) → ((i : ℕ) → i < n → members i ≡ others i) → (h i : ℕ) → deep_index members n h i ≡ deep_index others n h i
unfolding deep_index
deep_index_same members others n same zero i = refl
deep_index_same members others n same (suc h) i = by (ltb i n) refl (λ j. deep_index_same members others n same h j)
  where
    by : (b : Bool) → ltb i n ≡ b → ((j : ℕ) → deep_index members n h j ≡ deep_index others n h j) → deep_index members n (suc h) i ≡ deep_index others n (suc h) i
    by true e more =
        let l : i < n = ltb-true i n e in
        deep_known members n h i l ∙ all_same (λ j. deep_index members n h j) (λ j. deep_index others n h j) (members i) more
        ∙ ap (λ (xs : List ℕ). all (λ j. deep_index others n h j) xs) (same i l) ∙ sym (deep_known others n h i l)
    by false e more = deep_past members n (suc h) i (ltb-false i n e) ∙ sym (deep_past others n (suc h) i (ltb-false i n e))

pub rounds_on : {n : ℕ} {members : ℕ → List ℕ} {old l : Bytes} {r : ℕ} → Rounds n members old r → r < n → Round n members (r + 1) old l → Rounds n members l (r + 1)
rounds_on {n} {members} {old} {l} {r} s g f = rw (add-one r) (record { is = λ i h q. is i h q (ltb i n) refl; most = λ i. most i (ltb i n) refl; low = g })
  where
    known : (i : ℕ) → i < n → get_or l i 0 ≡ raised_to (suc r) (get_or old i 0) (all (has_height old) (members i))
    known i k = rw (add-one r) at (f.known i k)

    now : (i : ℕ) → i < n → deep_index members n (suc r) i ≡ all (has_height old) (members i)
    now i k = deep_known members n r i k ∙ sym (all_same (has_height old) (λ j. deep_index members n r j) (members i) (marked_is s))

    is : (i h : ℕ) → h ≤ suc r → (b : Bool) → ltb i n ≡ b → deep_index members n h i ≡ between 1 h (get_or l i 0)
    is i h q true e =
        let k : i < n = ltb-true i n e in
        raise r (λ h. deep_index members n h i) (get_or old i 0) (all (has_height old) (members i)) (s.is i) (s.most i) (now i k) (deep_index_more members n r i) h q
        ∙ ap (λ (x : ℕ). between 1 h x) (sym (known i k))
    is i h q false e = deep_past members n h i (ltb-false i n e) ∙ sym (between_none (get_or l i 0) h (f.others i (ltb-false i n e)))

    most : (i : ℕ) (b : Bool) → ltb i n ≡ b → get_or l i 0 ≤ suc r
    most i true e =
        let k : i < n = ltb-true i n e in
        rw (known i k) (raise_low r (λ h. deep_index members n h i) (get_or old i 0) (all (has_height old) (members i)) (s.is i) (s.most i) (now i k) (deep_index_more members n r i))
    most i false e = omega (arith, f.others i (ltb-false i n e))

-- the answer after n rounds: the heights, as an error where one of the n has none
module _ {n : ℕ} {members : ℕ → List ℕ} {l : Bytes} {h : ℕ} (s : Rounds n members l h) (g : n ≤ h) where
  all_deep : ((i : ℕ) → i < n → has_height l i ≡ true) ↔ ((i : ℕ) → i < n → deep_index members n n i ≡ true)
  all_deep = let z : h ≡ n = omega (arith, s.low) in (λ f i q. rw z at (sym (marked_is s i) ∙ f i q), λ f i q. marked_is s i ∙ rw z (f i q))

  pub rounds_end : ((i : ℕ) → i < n → has_height l i ≡ true) → Ranked n members (Ok l)
  rounds_end w = record { fit = (λ _. all_deep.0 w, λ _. refl); height = λ i k q. s.is i k (omega arith) }

  pub rounds_fail : (((i : ℕ) → i < n → has_height l i ≡ true) → ⊥) → Ranked n members (Err l)
  rounds_fail w = record { fit = (λ e. absurd (false≢true e), λ f. absurd (w (all_deep.1 f))); height = λ i k q. s.is i k (omega arith) }

-- ---- the marks of the first n
pub record Passed (l : Bytes) (n i : ℕ) : Type 0 where
  pub done : (k : ℕ) → k < i → has_height l k ≡ true
  pub low : i ≤ n

pub passed_starts : (l : Bytes) (n : ℕ) → Passed l n 0
passed_starts l n = record { done = λ k h. absurd (not-suc-le-zero h); low = omega arith }

pub passed_on : {l : Bytes} {n i : ℕ} → Passed l n i → i < n → (get_or l i 0 ≡ 0 → ⊥) → Passed l n (i + 1)
unfolding has_height
passed_on {l} {n} {i} p h e = rw (add-one i) (record { done = λ k q. by k q (ltb k i) refl; low = h })
  where
    by : (k : ℕ) → k < suc i → (b : Bool) → ltb k i ≡ b → not (eqb (get_or l k 0) 0) ≡ true
    by k q true f = p.done k (ltb-true k i f)
    by k q false f = let z : k ≡ i = omega (arith, ltb-false k i f) in rw z (rw (ne_eqb (get_or l i 0) 0 e))

pub passed_no : (l : Bytes) {n i : ℕ} → i < n → get_or l i 0 ≡ 0 → (false ≡ true) ↔ ((k : ℕ) → k < n → has_height l k ≡ true)
unfolding has_height
passed_no l {n} {i} h e = (λ z. absurd (false≢true z), λ f. rw (eq-eqb (get_or l i 0) 0 e) at (f i h))

pub passed_ends : {l : Bytes} {n i : ℕ} → Passed l n i → n ≤ i → (true ≡ true) ↔ ((k : ℕ) → k < n → has_height l k ≡ true)
passed_ends p h = (λ z k q. p.done k (omega arith), λ f. refl)
