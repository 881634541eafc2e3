-- Content models byte by byte: a byte's step in a group and in a model, and the loops that take them.
use Prim.Native.Nat.{ℕ, zero, suc, ◌+◌, ◌-◌, ◌%◌, ◌<◌, ◌≤◌}
use mathlib.Core.Path.{◌≡◌, refl, sym, ap, ap₂, ◌∙◌}
use mathlib.Core.Bool.{Bool, true, false, ◌&&◌, ◌||◌, not, false≢true, and_assoc}
use mathlib.Core.List.{List, [], ◌∷◌}
use native.Mathlib.Omega.{arith}
use native.Mathlib.Numerals.{add-one}
use native.Mathlib.Nat.{add-zero}
use borrow.Author.Tests.{ne_eqb, eqb-true}
use lib.Dec.{eqb, leb}
use lib.ListN.{length, drop, get_or, drop_of_length-le}
use lib.Seq.{drop-cons}
use Rattle.rules.specs.Bytes.{Bytes}
use Rattle.rules.specs.Preorder.{Deep}
use Rattle.rules.specs.Layout.{FlatParticle}
use Rattle.rules.specs.WellFormed.{in_name}
use Rattle.rules.proofs.Words.{and_held}
use Rattle.declaration_scan.specs.Declared.{Grouped, mark_code, grouped_from, grouped_at, element_here, group_here, model_from}
use Rattle.model_scan.specs.Scanning.{depth_after, kind_after, count_on, Groups, starts_here, particle_here, shallow, Measures}

-- ---- leaves
count_few : (it : Bool) (n : ℕ) → count_on it n ≤ suc n
count_few true n = omega arith
count_few false n = omega arith

pub depth_few : (x d : ℕ) → depth_after x d ≤ suc d
depth_few x d = by (eqb x 40) (eqb x 41)
  where
    by : (a b : Bool) → elim a [ true ↦ suc d | false ↦ elim b [ true ↦ d - 1 | false ↦ d ] ] ≤ suc d
    by true b = omega arith
    by false true = omega arith
    by false false = omega arith

-- a byte that is one is no other
other : (x a b : ℕ) → eqb a b ≡ false → eqb x a ≡ true → eqb x b ≡ false
other x a b h e = ap (λ (z : ℕ). eqb z b) (eqb-true x a e) ∙ h

-- ---- groups
group_step : (nest kind signs x : ℕ) (xs : Bytes) → (eqb x 41 && eqb nest 0) ≡ false
    → grouped_from nest kind (suc signs) (x ∷ xs) ≡ grouped_from (depth_after x nest) (kind_after x nest kind) (suc (count_on (eqb nest 0 && (eqb x 44 || eqb x 124)) signs)) xs
unfolding grouped_from
group_step zero kind signs x xs h = by (eqb x 40) (eqb x 41) (eqb x 44) (eqb x 124) h (other x 40 44 refl) (other x 40 124 refl)
  where
    by : (a b e f : Bool) → (b && true) ≡ false → (a ≡ true → e ≡ false) → (a ≡ true → f ≡ false)
        → ◌≡◌ {A = Grouped}
        (elim a [
          | true ↦ grouped_from 1 kind (suc signs) xs
          | false ↦
              elim b [
                | true ↦ record { kind = kind; count = suc signs; mark = mark_code xs }
                | false ↦ elim e [ true ↦ grouped_from 0 1 (suc (suc signs)) xs | false ↦ elim f [ true ↦ grouped_from 0 2 (suc (suc signs)) xs | false ↦ grouped_from 0 kind (suc signs) xs ] ]
              ]
        ])
        (grouped_from (elim a [ true ↦ 1 | false ↦ elim b [ true ↦ 0 | false ↦ 0 ] ]) (elim e [ true ↦ 1 | false ↦ elim f [ true ↦ 2 | false ↦ kind ] ])
        (suc (elim (e || f) [ true ↦ suc signs | false ↦ signs ])) xs)
    by a true e f h p q = absurd (false≢true (sym h))
    by true false true f h p q = absurd (false≢true (sym (p refl)))
    by true false false true h p q = absurd (false≢true (sym (q refl)))
    by true false false false h p q = refl
    by false false true f h p q = refl
    by false false false true h p q = refl
    by false false false false h p q = refl
group_step (suc n) kind signs x xs h = by (eqb x 40) (eqb x 41) (eqb (suc n) 0) (ne_eqb (suc n) 0 (λ e. omega arith))
  where
    by : (a b z : Bool) → z ≡ false
        → ◌≡◌ {A = Grouped}
        (elim a [
          | true ↦ grouped_from (suc (suc n)) kind (suc signs) xs
          | false ↦
              elim b [
                | true ↦ grouped_from n kind (suc signs) xs
                | false ↦
                    elim z [
                      | true ↦
                          elim (eqb x 44) [
                            | true ↦ grouped_from (suc n) 1 (suc (suc signs)) xs
                            | false ↦ elim (eqb x 124) [ true ↦ grouped_from (suc n) 2 (suc (suc signs)) xs | false ↦ grouped_from (suc n) kind (suc signs) xs ]
                          ]
                      | false ↦ grouped_from (suc n) kind (suc signs) xs
                    ]
              ]
        ])
        (grouped_from (elim a [ true ↦ suc (suc n) | false ↦ elim b [ true ↦ suc n - 1 | false ↦ suc n ] ])
        (elim (z && eqb x 44) [ true ↦ 1 | false ↦ elim (z && eqb x 124) [ true ↦ 2 | false ↦ kind ] ])
        (suc (elim (z && (eqb x 44 || eqb x 124)) [ true ↦ suc signs | false ↦ signs ])) xs)
    by a b true e = absurd (false≢true (sym e))
    by true b false e = refl
    by false true false e = let g : suc n - 1 ≡ n = omega arith in rw g
    by false false false e = refl

group_end : (nest kind signs x : ℕ) (xs : Bytes) → (eqb x 41 && eqb nest 0) ≡ true → grouped_from nest kind (suc signs) (x ∷ xs) ≡ record { kind = kind; count = suc signs; mark = mark_code xs }
unfolding grouped_from
group_end zero kind signs x xs h = by (eqb x 40) (eqb x 41) h (other x 40 41 refl)
  where
    by : (a b : Bool) → (b && true) ≡ true → (a ≡ true → b ≡ false)
        → ◌≡◌ {A = Grouped}
        (elim a [
          | true ↦ grouped_from 1 kind (suc signs) xs
          | false ↦
              elim b [
                | true ↦ record { kind = kind; count = suc signs; mark = mark_code xs }
                | false ↦
                    elim (eqb x 44) [
                      | true ↦ grouped_from 0 1 (suc (suc signs)) xs
                      | false ↦ elim (eqb x 124) [ true ↦ grouped_from 0 2 (suc (suc signs)) xs | false ↦ grouped_from 0 kind (suc signs) xs ]
                    ]
              ]
        ])
        (record { kind = kind; count = suc signs; mark = mark_code xs })
    by true true h p = absurd (false≢true (sym (p refl)))
    by true false h p = absurd (false≢true h)
    by false true h p = refl
    by false false h p = absurd (false≢true h)
group_end (suc n) kind signs x xs h = absurd (by (eqb x 41) (eqb (suc n) 0) h (ne_eqb (suc n) 0 (λ e. omega arith)))
  where
    by : (b z : Bool) → (b && z) ≡ true → z ≡ false → ⊥
    by b true h e = false≢true (sym e)
    by true false h e = false≢true h
    by false false h e = false≢true h

-- the loop over a group's text: what is left gives the same group
pub record Grouping (txt : Bytes) (nest kind signs i : ℕ) : Type 0 where
  pub rest : grouped_from nest kind (suc signs) (drop i txt) ≡ grouped_at txt
  pub near : nest ≤ i
  pub few : signs ≤ i

pub grouping_start : (txt : Bytes) → Grouping txt 0 1 0 0
grouping_start txt = record { rest = refl; near = omega arith; few = omega arith }

abbrev own_sign : ℕ → ℕ → Bool
own_sign x nest = eqb nest 0 && (eqb x 44 || eqb x 124)

module _ (txt : Bytes) (nest kind signs i : ℕ) (g : Grouping txt nest kind signs i) where
  pub grouping_on : i < length txt → (eqb (get_or txt i 0) 41 && eqb nest 0) ≡ false → (nest' kind' signs' : ℕ) → kind' ≡ kind_after (get_or txt i 0) nest kind
      → signs' ≡ count_on (own_sign (get_or txt i 0) nest) signs → nest' ≡ depth_after (get_or txt i 0) nest → Grouping txt nest' kind' signs' (i + 1)
  grouping_on h n nest' kind' signs' k s d =
      record {
        rest = ap (λ (m : ℕ). grouped_from m kind' (suc signs') (drop (i + 1) txt)) d ∙ ap₂ (λ (a b : ℕ). grouped_from (depth_after x nest) a (suc b) (drop (i + 1) txt)) k s
            ∙ ap (λ (m : ℕ). grouped_from (depth_after x nest) (kind_after x nest kind) (suc (count_on (own_sign x nest) signs)) (drop m txt)) (add-one i)
            ∙ sym (group_step nest kind signs x (drop (suc i) txt) n) ∙ ap (grouped_from nest kind (suc signs)) (sym (drop-cons txt i 0 h)) ∙ g.rest;
        near = omega (arith, g.near, d, depth_few x nest);
        few = omega (arith, g.few, s, count_few (own_sign x nest) signs);
      }
    where
      x : ℕ
      x = get_or txt i 0

  seen : (kind' count mark : ℕ) → grouped_at txt ≡ record { kind = kind; count = suc signs; mark = mark } → count ≡ suc signs % 256 → Groups txt kind count mark
  seen kind' count mark e c =
      record {
        kind_is = sym (ap (λ (z : Grouped). z.kind) e);
        count_is = c ∙ sym (ap (λ (z : Grouped). z.count % 256) e);
        mark_is = sym (ap (λ (z : Grouped). z.mark) e);
      }

  pub grouping_closed : i < length txt → (eqb (get_or txt i 0) 41 && eqb nest 0) ≡ true → (rest : Bytes) → rest ≡ drop (i + 1) txt → (mark count : ℕ) → mark ≡ mark_code rest
      → count ≡ suc signs % 256 → Groups txt kind count mark
  grouping_closed h n rest r mark count m c =
      seen kind count mark
      (sym g.rest ∙ ap (grouped_from nest kind (suc signs)) (drop-cons txt i 0 h) ∙ group_end nest kind signs (get_or txt i 0) (drop (suc i) txt) n
      ∙ ap (λ (z : ℕ). record { kind = kind; count = suc signs; mark = z }) (ap mark_code (ap (λ (k : ℕ). drop k txt) (sym (add-one i)) ∙ sym r) ∙ sym m))
      c

  pub grouping_open : length txt ≤ i → (count : ℕ) → count ≡ suc signs % 256 → Groups txt kind count 0
  unfolding grouped_from
  grouping_open h count c = seen kind count 0 (sym g.rest ∙ ap (grouped_from nest kind (suc signs)) (drop_of_length-le txt {i = i} h)) c

-- ---- models
step_by_lem : (a b c inside : Bool) (d : ℕ) (g e : Deep FlatParticle) (m : ℕ → Bool → List (Deep FlatParticle)) → (a ≡ true → c ≡ false) → (b ≡ true → c ≡ false)
    → ◌≡◌ {A = List (Deep FlatParticle)}
    (elim a [
      | true ↦ g ∷ m (suc d) false
      | false ↦ elim b [ true ↦ m (d - 1) false | false ↦ elim c [ true ↦ elim inside [ true ↦ m d true | false ↦ e ∷ m d true ] | false ↦ m d false ] ]
    ])
    (elim (a || (c && not inside)) [
      | true ↦ elim a [ true ↦ g | false ↦ e ] ∷ m (elim a [ true ↦ suc d | false ↦ elim b [ true ↦ d - 1 | false ↦ d ] ]) c
      | false ↦ m (elim a [ true ↦ suc d | false ↦ elim b [ true ↦ d - 1 | false ↦ d ] ]) c
    ])
step_by_lem true b true inside d g e m p q = absurd (false≢true (sym (p refl)))
step_by_lem true b false inside d g e m p q = refl
step_by_lem false true true inside d g e m p q = absurd (false≢true (sym (q refl)))
step_by_lem false true false inside d g e m p q = refl
step_by_lem false false true true d g e m p q = refl
step_by_lem false false true false d g e m p q = refl
step_by_lem false false false inside d g e m p q = refl

module _ (ns : List Bytes) (d : ℕ) (inside : Bool) (x : ℕ) (xs : Bytes) where
  abbrev after : List (Deep FlatParticle)
  after = model_from ns (depth_after x d) (in_name x) xs

  model_step : model_from ns d inside (x ∷ xs) ≡ elim (starts_here x inside) [ true ↦ particle_here ns d x xs ∷ after | false ↦ after ]
  unfolding model_from particle_here
  model_step =
      step_by_lem (eqb x 40) (eqb x 41) (in_name x) inside d (group_here d xs) (element_here ns d (x ∷ xs)) (λ e b. model_from ns e b xs)
      (λ e. ap in_name (eqb-true x 40 e)) (λ e. ap in_name (eqb-true x 41 e))

  pub model_starts : starts_here x inside ≡ true → model_from ns d inside (x ∷ xs) ≡ particle_here ns d x xs ∷ after
  model_starts h = model_step ∙ (λ i. elim (h i) [ true ↦ particle_here ns d x xs ∷ after | false ↦ after ])

  pub model_goes : starts_here x inside ≡ false → model_from ns d inside (x ∷ xs) ≡ after
  model_goes h = model_step ∙ (λ i. elim (h i) [ true ↦ particle_here ns d x xs ∷ after | false ↦ after ])

abbrev one_of : Bool → Deep FlatParticle → Deep FlatParticle → Deep FlatParticle
one_of b g e = elim b [ true ↦ g | false ↦ e ]

pub particle_depth : (ns : List Bytes) (d x : ℕ) (xs : Bytes) → (particle_here ns d x xs).depth ≡ d
unfolding particle_here
particle_depth ns d x xs = by (eqb x 40)
  where
    by : (a : Bool) → (one_of a (group_here d xs) (element_here ns d (x ∷ xs))).depth ≡ d
    by true = refl
    by false = refl

-- number and depths of the particles are the same whatever the names are
pub record Alike (ps qs : List (Deep FlatParticle)) : Type 0 where
  pub long : length ps ≡ length qs
  pub low : shallow ps ≡ shallow qs

pub model_alike : (ns ms : List Bytes) (d : ℕ) (inside : Bool) (xs : Bytes) → Alike (model_from ns d inside xs) (model_from ms d inside xs)
unfolding model_from
model_alike ns ms d inside [] = record { long = refl; low = refl }
model_alike ns ms d inside (x ∷ xs) = by (starts_here x inside) refl (model_alike ns ms (depth_after x d) (in_name x) xs)
  where
    by : (b : Bool) → starts_here x inside ≡ b → Alike (model_from ns (depth_after x d) (in_name x) xs) (model_from ms (depth_after x d) (in_name x) xs)
        → Alike (model_from ns d inside (x ∷ xs)) (model_from ms d inside (x ∷ xs))
    by true e h =
        record {
          long = ap length (model_starts ns d inside x xs e) ∙ ap suc h.long ∙ sym (ap length (model_starts ms d inside x xs e));
          low = ap shallow (model_starts ns d inside x xs e)
              ∙ ap₂ (λ (k : ℕ) (t : Bool). leb k 4 && t) (particle_depth ns d x xs ∙ sym (particle_depth ms d x xs)) h.low
              ∙ sym (ap shallow (model_starts ms d inside x xs e));
        }
    by false e h =
        record {
          long = ap length (model_goes ns d inside x xs e) ∙ h.long ∙ sym (ap length (model_goes ms d inside x xs e));
          low = ap shallow (model_goes ns d inside x xs e) ∙ h.low ∙ sym (ap shallow (model_goes ms d inside x xs e));
        }

-- the loop over a model's text: with what is left the measures are those of the whole
pub record Measuring (txt : Bytes) (depth : ℕ) (inside : Bool) (count : ℕ) (low : Bool) (i : ℕ) : Type 0 where
  pub counts : count + length (model_from [] depth inside (drop i txt)) ≡ length (model_from [] 0 false txt)
  pub lows : (low && shallow (model_from [] depth inside (drop i txt))) ≡ shallow (model_from [] 0 false txt)
  pub near : depth ≤ i
  pub few : count ≤ i

pub measuring_start : (txt : Bytes) → Measuring txt 0 false 0 true 0
measuring_start txt = record { counts = omega arith; lows = refl; near = omega arith; few = omega arith }

module _ (txt : Bytes) (depth : ℕ) (inside : Bool) (count : ℕ) (low : Bool) (i : ℕ) (m : Measuring txt depth inside count low i) where
  abbrev here : ℕ
  here = get_or txt i 0

  abbrev left : List (Deep FlatParticle)
  left = model_from [] (depth_after here depth) (in_name here) (drop (suc i) txt)

  pub measuring_on : i < length txt → (starts : Bool) → starts ≡ starts_here here inside → (count' depth' : ℕ) (inside' : Bool) → count' ≡ count_on starts count
      → depth' ≡ depth_after here depth → inside' ≡ in_name here → Measuring txt depth' inside' count' (low && (not starts || leb depth 4)) (i + 1)
  measuring_on h starts s count' depth' inside' c d n =
      record {
        counts = ap₂ (λ (a : ℕ) (ps : List (Deep FlatParticle)). a + length ps) c rest ∙ counted starts s ∙ m.counts;
        lows = ap (λ (ps : List (Deep FlatParticle)). (low && (not starts || leb depth 4)) && shallow ps) rest ∙ lowered starts s ∙ m.lows;
        near = omega (arith, m.near, d, depth_few here depth);
        few = omega (arith, m.few, c, count_few starts count);
      }
    where
      rest : model_from [] depth' inside' (drop (i + 1) txt) ≡ left
      rest =
          ap₂ (λ (e : ℕ) (b : Bool). model_from [] e b (drop (i + 1) txt)) d n
          ∙ ap (λ (k : ℕ). model_from [] (depth_after here depth) (in_name here) (drop k txt)) (add-one i)

      now : drop i txt ≡ here ∷ drop (suc i) txt
      now = drop-cons txt i 0 h

      counted : (b : Bool) → b ≡ starts_here here inside → count_on b count + length left ≡ count + length (model_from [] depth inside (drop i txt))
      counted true e =
          let g : length (model_from [] depth inside (drop i txt)) ≡ suc (length left) = ap length (ap (model_from [] depth inside) now ∙ model_starts [] depth inside here (drop (suc i) txt) (sym e)) in
          omega arith
      counted false e =
          let g : length (model_from [] depth inside (drop i txt)) ≡ length left = ap length (ap (model_from [] depth inside) now ∙ model_goes [] depth inside here (drop (suc i) txt) (sym e)) in
          omega arith

      lowered : (b : Bool) → b ≡ starts_here here inside → ((low && (not b || leb depth 4)) && shallow left) ≡ (low && shallow (model_from [] depth inside (drop i txt)))
      lowered true e =
          and_assoc low (leb depth 4) (shallow left)
          ∙ ap (λ (b : Bool). low && b)
          (ap (λ (k : ℕ). leb k 4 && shallow left) (sym (particle_depth [] depth here (drop (suc i) txt)))
          ∙ sym (ap shallow (ap (model_from [] depth inside) now ∙ model_starts [] depth inside here (drop (suc i) txt) (sym e))))
      lowered false e =
          ap (λ (b : Bool). b && shallow left) (and_held low true refl)
          ∙ ap (λ (b : Bool). low && b) (sym (ap shallow (ap (model_from [] depth inside) now ∙ model_goes [] depth inside here (drop (suc i) txt) (sym e))))

  pub measuring_done : length txt ≤ i → Measures (model_from [] 0 false txt) count low
  unfolding model_from
  measuring_done h =
      let none : model_from [] depth inside (drop i txt) ≡ [] = ap (model_from [] depth inside) (drop_of_length-le txt {i = i} h) in
      record {
        count_is = sym (add-zero count) ∙ ap (λ (ps : List (Deep FlatParticle)). count + length ps) (sym none) ∙ m.counts;
        shallow_is = sym (and_held low true refl) ∙ ap (λ (ps : List (Deep FlatParticle)). low && shallow ps) (sym none) ∙ m.lows;
      }
