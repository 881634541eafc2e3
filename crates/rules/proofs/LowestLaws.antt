-- THE LOWEST NUMBER THAT APPLIES IS GIVEN: the conditions of every call are asked in the order of the table.
use Prim.Native.Nat.{ℕ, ◌≤◌}
use native.Mathlib.Omega.{arith}
use mathlib.Core.Path.{◌≡◌, refl, sym, ap, ◌∙◌}
use mathlib.Core.Logic.{⊎_elim}
use mathlib.Core.Bool.{Bool, true, false, ◌&&◌, false≢true}
use mathlib.Core.List.Memᴰ
use mathlib.Core.List.{List, [], ◌∷◌, Memᴰ}
use lib.Dec.{eqb, leb, leb→le, le→leb}
use Rattle.rules.specs.Bytes.{all, of_T, to_T, eqb_eq}
use Rattle.rules.specs.Store.{Store}
use Rattle.rules.specs.Change.{Call, create_definition, destroy_definition, insert_element, remove_element, change_quantifier, convert_to_group, flatten_group}
use Rattle.rules.specs.Change.{change_group_quantifier, add_attribute, destroy_attribute, add_document, add_element, destroy_element, set_attribute}
use Rattle.rules.specs.Change.{destroy_attribute_row, set_text}
use Rattle.rules.specs.Refusal.{Condition, first, conditions, refusal}
use Rattle.rules.specs.Lowest.{refusal_order, in_order, rank, asked, numbers_of, Lowest}
use Rattle.rules.proofs.Words.{and_split}
use Rattle.rules.proofs.BooleanLaws.{all_in}

leb_self : (n : ℕ) → leb n n ≡ true
leb_self n = of_T (le→leb n n (omega arith))

-- ---- every call asks its conditions in the order of the table
pub asked_in_order : (room : ℕ) (c : Call) (s : Store) → in_order refusal_order (numbers_of (asked room c s)) ≡ true
unfolding conditions
asked_in_order room (create_definition n k) s = refl
asked_in_order room (destroy_definition i) s = refl
asked_in_order room (insert_element o p i q t) s = refl
asked_in_order room (remove_element o p) s = refl
asked_in_order room (change_quantifier o p q t) s = refl
asked_in_order room (convert_to_group o p n k) s = refl
asked_in_order room (flatten_group o p) s = refl
asked_in_order room (change_group_quantifier o p q t) s = refl
asked_in_order room (add_attribute o n k v) s = refl
asked_in_order room (destroy_attribute a) s = refl
asked_in_order room (add_document i t) s = refl
asked_in_order room (add_element k j i t) s = refl
asked_in_order room (destroy_element k) s = refl
asked_in_order room (set_attribute k a v) s = refl
asked_in_order room (destroy_attribute_row k a) s = refl
asked_in_order room (set_text k t) s = refl

-- ---- numbers that stand in a list in its order
-- each entry has the relation to all after it
abbrev pairwise : (ℕ → ℕ → Bool) → List ℕ → Bool
pairwise r [] = true
pairwise r (m ∷ order) = all (r m) order && pairwise r order

in_list : (order ns : List ℕ) → in_order order ns ≡ true → (n : ℕ) → Memᴰ n ns → Memᴰ n order
in_list [] [] e n m = absurd (Memᴰ.not-nil m)
in_list [] (k ∷ ns) e n m = absurd (false≢true e)
in_list (o ∷ order) [] e n m = absurd (Memᴰ.not-nil m)
in_list (o ∷ order) (k ∷ ns) e n m = by (eqb o k) refl (in_list order ns) (in_list order (k ∷ ns))
  where
    by : (b : Bool) → eqb o k ≡ b → (in_order order ns ≡ true → (n : ℕ) → Memᴰ n ns → Memᴰ n order)
        → (in_order order (k ∷ ns) ≡ true → (n : ℕ) → Memᴰ n (k ∷ ns) → Memᴰ n order) → Memᴰ n (o ∷ order)
    by true q f g = ⊎_elim (λ h. Memᴰ.head (h ∙ sym (eqb_eq o k q))) (λ h. Memᴰ.tail (f (rw (q, in_order) at e) n h)) (Memᴰ.cases_cons m)
    by false q f g = Memᴰ.tail (g (rw (q, in_order) at e) n m)

-- what stands before another has the relation to it
related : (r : ℕ → ℕ → Bool) (order : List ℕ) → pairwise r order ≡ true → (n : ℕ) (ns : List ℕ) → in_order order (n ∷ ns) ≡ true → (m : ℕ) → Memᴰ m ns → r n m ≡ true
related r [] p n ns e m i = absurd (false≢true e)
related r (o ∷ order) p n ns e m i =
    let (a, b) = and_split (all (r o) order) (pairwise r order) p in
    by (eqb o n) refl a (λ z. related r order b n ns z m i)
  where
    by : (t : Bool) → eqb o n ≡ t → all (r o) order ≡ true → (in_order order (n ∷ ns) ≡ true → r n m ≡ true) → r n m ≡ true
    by true q a f = ap (λ (z : ℕ). r z m) (sym (eqb_eq o n q)) ∙ all_in (r o) m order a (in_list order ns (rw (q, in_order) at e) m i)
    by false q a f = f (rw (q, in_order) at e)

rest_in_order : (order : List ℕ) (n : ℕ) (ns : List ℕ) → in_order order (n ∷ ns) ≡ true → in_order order ns ≡ true
rest_in_order [] n ns e = absurd (false≢true e)
rest_in_order (o ∷ order) n [] e = refl
rest_in_order (o ∷ order) n (m ∷ ns) e = by (eqb o n) refl (rest_in_order order n (m ∷ ns)) (rest_in_order order m ns)
  where
    more : (c : Bool) → eqb o m ≡ c → in_order order (m ∷ ns) ≡ true → (in_order order (m ∷ ns) ≡ true → in_order order ns ≡ true) → in_order (o ∷ order) (m ∷ ns) ≡ true
    more true q z f = rw (q, in_order) (f z)
    more false q z f = rw (q, in_order) z

    by : (b : Bool) → eqb o n ≡ b → (in_order order (n ∷ (m ∷ ns)) ≡ true → in_order order (m ∷ ns) ≡ true)
        → (in_order order (m ∷ ns) ≡ true → in_order order ns ≡ true) → in_order (o ∷ order) (m ∷ ns) ≡ true
    by true q f g = more (eqb o m) refl (rw (q, in_order) at e) g
    by false q f g = more (eqb o m) refl (f (rw (q, in_order) at e)) g

number_in : (cs : List Condition) (k : Condition) → Memᴰ k cs → Memᴰ k.number (numbers_of cs)
number_in [] k m = absurd (Memᴰ.not-nil m)
number_in (c ∷ cs) k m = ⊎_elim (λ e. Memᴰ.head (ap (λ (y : Condition). y.number) e)) (λ i. Memᴰ.tail (number_in cs k i)) (Memᴰ.cases_cons m)

-- ---- what is given of conditions in the order of the table
-- a relation that holds between each number of the table and those after it, and of
-- each number to itself, holds from the one given to all that apply
given_related : (r : ℕ → ℕ → Bool) → pairwise r refusal_order ≡ true → ((n : ℕ) → r n n ≡ true) → (cs : List Condition) → in_order refusal_order (numbers_of cs) ≡ true
    → (k : Condition) → Memᴰ k cs → k.holds ≡ true → r (first cs) k.number ≡ true
given_related r p own [] e k m h = absurd (Memᴰ.not-nil m)
given_related r p own (c ∷ cs) e k m h = by c.holds refl (given_related r p own cs (rest_in_order refusal_order c.number (numbers_of cs) e) k)
  where
    by : (b : Bool) → c.holds ≡ b → (Memᴰ k cs → k.holds ≡ true → r (first cs) k.number ≡ true) → r (first (c ∷ cs)) k.number ≡ true
    by true q f =
        rw (q, first)
        (⊎_elim (λ z. ap (λ (y : Condition). r c.number y.number) z ∙ own c.number)
        (λ i. related r refusal_order p c.number (numbers_of cs) e k.number (number_in cs k i)) (Memᴰ.cases_cons m))
    by false q f = rw (q, first) (⊎_elim (λ z. absurd (false≢true (sym q ∙ sym (ap (λ (y : Condition). y.holds) z) ∙ h))) (λ i. f i h) (Memᴰ.cases_cons m))

positive : (cs : List Condition) → in_order refusal_order (numbers_of cs) ≡ true → (k : Condition) → Memᴰ k cs → 1 ≤ k.number
positive cs e k m = leb→le 1 k.number (to_T (all_in (leb 1) k.number refusal_order refl (in_list refusal_order (numbers_of cs) e k.number (number_in cs k m))))

free_of : (cs : List Condition) → ((k : Condition) → Memᴰ k cs → 1 ≤ k.number) → first cs ≡ 0 → (k : Condition) → Memᴰ k cs → k.holds ≡ false
free_of [] p z k m = absurd (Memᴰ.not-nil m)
free_of (c ∷ cs) p z k m = by c.holds refl (free_of cs (λ j i. p j (Memᴰ.tail i)))
  where
    by : (b : Bool) → c.holds ≡ b → (first cs ≡ 0 → (k : Condition) → Memᴰ k cs → k.holds ≡ false) → k.holds ≡ false
    by true q f = let n : c.number ≡ 0 = rw (q, first) at z in absurd (omega (arith, n, p c (Memᴰ.head refl)))
    by false q f = ⊎_elim (λ e. ap (λ (y : Condition). y.holds) e ∙ q) (λ i. f (rw (q, first) at z) k i) (Memᴰ.cases_cons m)

applies_of : (cs : List Condition) → (first cs ≡ 0 → ⊥) → (k : Condition) × Memᴰ k cs × (k.holds ≡ true) × (k.number ≡ first cs)
applies_of [] n = absurd (n refl)
applies_of (c ∷ cs) n = by c.holds refl (applies_of cs)
  where
    by : (b : Bool) → c.holds ≡ b → ((first cs ≡ 0 → ⊥) → (k : Condition) × Memᴰ k cs × (k.holds ≡ true) × (k.number ≡ first cs))
        → (k : Condition) × Memᴰ k (c ∷ cs) × (k.holds ≡ true) × (k.number ≡ first (c ∷ cs))
    by true q f = (c, Memᴰ.head refl, q, rw (q, first))
    by false q f =
        let (k, i, h, e) = f (λ z. n (rw (q, first) z)) in
        (k, Memᴰ.tail i, h, rw (q, first) e)

-- 'THE LOWEST NUMBER THAT APPLIES IS GIVEN, NEVER ANOTHER', in the order of the table
pub lowest_given : (room : ℕ) (c : Call) (s : Store) → Lowest (asked room c s) (refusal room c s)
unfolding refusal
lowest_given room c s =
    let e : in_order refusal_order (numbers_of (asked room c s)) ≡ true = asked_in_order room c s in
    record {
      order = e;
      free = free_of (asked room c s) (positive (asked room c s) e);
      applies = applies_of (asked room c s);
      lowest = λ k m h. leb→le _ _ (to_T (given_related (λ i j. leb (rank refusal_order i) (rank refusal_order j)) refl (λ n. leb_self (rank refusal_order n)) (asked room c s) e k m h));
    }

-- and as numbers, since the table's order is that of its numbers
pub lowest_number : (room : ℕ) (c : Call) (s : Store) (k : Condition) → Memᴰ k (asked room c s) → k.holds ≡ true → refusal room c s ≤ k.number
unfolding refusal
lowest_number room c s k m h = leb→le _ _ (to_T (given_related leb refl leb_self (asked room c s) (asked_in_order room c s) k m h))
