-- The making rule, for any plan: the lines that the book writes in are
-- the lines of the rows that the store plants and numbers.
use Prim.Native.Nat.{ℕ, suc, ◌+◌, ◌*◌, ◌≤◌}
use native.Mathlib.Nat.{mul-add, mul-suc, mul-zero}
use native.Mathlib.Omega.{arith}
use mathlib.Core.Path.{◌≡◌, refl, ap, ap₂, ◌∙◌, sym}
use mathlib.Core.Bool.{Bool, true, false, ◌&&◌, not, or-true}
use mathlib.Core.List.{List, [], ◌∷◌, ◌++◌, append_assoc, append-nil, map, map-append}
use lib.Dec.{eqb}
use Rattle.rules.specs.Bytes.{any, eqb_of}
use Rattle.rules.specs.Store.{Row, Forest, bare, tree, ◌⧺◌}
use Rattle.rules.specs.Lines.{Line, lines, ground}
use Rattle.rules.specs.Change.{Plan, plant, is_new, new_rows, given, number}
use Rattle.rules.specs.Book.{Entry, stands, taken, untaken, Mark, old, spot, put_spot as place, placed, spots, expand, spot_count}
use Rattle.history.proofs.NumberTests.{eqb_sym, ones, ones_zero, ones_own}
use Rattle.history.proofs.Taking.{occurs, count, Apart}

-- the lines as entries that are not taken
abbrev pub standing : List Line → List Entry
standing ls = map (λ (l : Line). stands l) ls

-- ---- two parts, one after the other
lines_append : (up : ℕ) (f g : Forest Row) → lines up (f ⧺ g) ≡ lines up f ++ lines up g
lines_append up bare g = refl
lines_append up (tree r b t) g =
    ap (λ (z : List Line). record { parent = up; row = r } ∷ z) (rw (lines_append up t g) (sym (append_assoc (lines r.serial b) (lines up t) (lines up g))))

untaken_append : (xs ys : List Entry) → untaken (xs ++ ys) ≡ untaken xs ++ untaken ys
unfolding untaken
untaken_append [] ys = refl
untaken_append (stands l ∷ xs) ys = ap (λ (z : List Line). l ∷ z) (untaken_append xs ys)
untaken_append (taken l ∷ xs) ys = untaken_append xs ys

pub untaken_standing : (ls : List Line) → untaken (standing ls) ≡ ls
unfolding untaken
untaken_standing [] = refl
untaken_standing (l ∷ ls) = ap (λ (z : List Line). l ∷ z) (untaken_standing ls)

count_append : (xs ys : List Mark) → spot_count (xs ++ ys) ≡ spot_count xs + spot_count ys
unfolding spot_count
count_append [] ys = omega arith
count_append (old e ∷ xs) ys = count_append xs ys
count_append (spot u ∷ xs) ys = omega (arith, count_append xs ys)

expand_append : (w : Forest Row) (n : ℕ) (xs ys : List Mark) → expand w n (xs ++ ys) ≡ expand w n xs ++ expand w (n + new_rows w * spot_count xs) ys
unfolding expand spot_count
expand_append w n [] ys = ap (λ (k : ℕ). expand w k ys) (omega (arith, mul-zero (new_rows w)))
expand_append w n (old e ∷ xs) ys = ap (λ (z : List Entry). e ∷ z) (expand_append w n xs ys)
expand_append w n (spot u ∷ xs) ys =
    rw (expand_append w (n + new_rows w) xs ys)
    (sym (append_assoc (standing (lines u (number n w))) (expand w (n + new_rows w) xs) (expand w (n + new_rows w + new_rows w * spot_count xs) ys))
    ∙ ap (λ (k : ℕ). standing (lines u (number n w)) ++ expand w (n + new_rows w) xs ++ expand w k ys) (omega (arith, mul-suc (new_rows w) (spot_count xs))))

new_append : (f g : Forest Row) → new_rows (f ⧺ g) ≡ new_rows f + new_rows g
unfolding new_rows
new_append bare g = omega arith
new_append (tree r b t) g = omega (arith, new_append t g)

number_append : (n : ℕ) (f g : Forest Row) → number n (f ⧺ g) ≡ number n f ⧺ number (n + new_rows f) g
unfolding number new_rows
number_append n bare g = ap (λ (k : ℕ). number k g) (omega arith)
number_append n (tree r b t) g =
    ap (λ (z : Forest Row). tree (given n r) (number (n + is_new r) b) z)
    (rw (number_append (n + (is_new r + new_rows b)) t g) (ap (λ (k : ℕ). number (n + (is_new r + new_rows b)) t ⧺ number k g) (omega arith)))

-- ---- a row with a serial is not new
new_test : (r : Row) → is_new r ≡ ones (eqb 0 r.serial)
new_test r = ap ones (eqb_sym r.serial 0)

given_old : (n : ℕ) (r : Row) → ones (eqb 0 r.serial) ≡ 0 → given n r ≡ r
unfolding given
given_old n r h = rw (eqb_sym r.serial 0 ∙ ones_zero (eqb 0 r.serial) h, given)

-- ---- the marks, read off the forest
module _ (p : Plan) where
  unfoldable sketch : Row → Bool → Forest Row → List Mark
  sketch u true bare = spot u.serial ∷ []
  sketch u false bare = []
  sketch u due (tree r b t) =
      elim (due && p.later u r) [
        | true ↦ spot u.serial ∷ old (stands (record { parent = u.serial; row = r })) ∷ (sketch r (p.fills r) b ++ sketch u false t)
        | false ↦ old (stands (record { parent = u.serial; row = r })) ∷ (sketch r (p.fills r) b ++ sketch u due t)
      ]

  -- as many new rows as the marks say
  new_plant : (u : Row) (due : Bool) (f : Forest Row) → occurs 0 f ≡ 0 → new_rows (plant p u due f) ≡ new_rows p.filling * spot_count (sketch u due f)
  unfolding occurs sketch plant new_rows spot_count
  new_plant u true bare h = omega (arith, mul-suc (new_rows p.filling) 0, mul-zero (new_rows p.filling))
  new_plant u false bare h = omega (arith, mul-zero (new_rows p.filling))
  new_plant u due (tree r b t) h = by (due && p.later u r) refl (new_plant r (p.fills r) b (omega arith)) (λ d. new_plant u d t (omega arith))
    where
      F : ℕ
      F = new_rows p.filling

      nb : ℕ
      nb = spot_count (sketch r (p.fills r) b)

      nt : Bool → ℕ
      nt d = spot_count (sketch u d t)

      by : (c : Bool) → (due && p.later u r) ≡ c → new_rows (plant p r (p.fills r) b) ≡ F * nb → ((d : Bool) → new_rows (plant p u d t) ≡ F * nt d)
          → new_rows (plant p u due (tree r b t)) ≡ F * spot_count (sketch u due (tree r b t))
      by true q x y =
          rw (q, plant)
          (rw (q, sketch)
          (rw (new_append p.filling (tree r (plant p r (p.fills r) b) (plant p u false t)), count_append (sketch r (p.fills r) b) (sketch u false t))
          (omega (arith, mul-suc F (nb + nt false), mul-add F nb (nt false), x, y false, new_test r))))
      by false q x y = rw (q, plant) (rw (q, sketch) (rw (count_append (sketch r (p.fills r) b) (sketch u due t)) (omega (arith, mul-add F nb (nt due), x, y due, new_test r))))

  -- the marks, written out, are the lines of the planted rows
  expand_sketch : (u : Row) (due : Bool) (f : Forest Row) (n : ℕ) → occurs 0 f ≡ 0 → untaken (expand p.filling n (sketch u due f)) ≡ lines u.serial (number n (plant p u due f))
  unfolding occurs sketch plant expand number untaken
  expand_sketch u true bare n h = rw (append-nil (standing (lines u.serial (number n p.filling)))) (untaken_standing (lines u.serial (number n p.filling)))
  expand_sketch u false bare n h = refl
  expand_sketch u due (tree r b t) n h = by (due && p.later u r) refl (λ k. expand_sketch r (p.fills r) b k (omega arith)) (λ d k. expand_sketch u d t k (omega arith))
    where
      w : Forest Row
      w = p.filling

      l : Line
      l = record { parent = u.serial; row = r }

      B : Forest Row
      B = plant p r (p.fills r) b

      sb : List Mark
      sb = sketch r (p.fills r) b

      core : ((k : ℕ) → untaken (expand w k sb) ≡ lines r.serial (number k B)) → ((d : Bool) (k : ℕ) → untaken (expand w k (sketch u d t)) ≡ lines u.serial (number k (plant p u d t)))
          → (d : Bool) (k : ℕ) → untaken (expand w k (old (stands l) ∷ (sb ++ sketch u d t))) ≡ lines u.serial (number k (tree r B (plant p u d t)))
      core x y d k =
          rw (given_old k r (omega arith), expand_append w k sb (sketch u d t))
          (ap (λ (z : List Line). l ∷ z)
          (untaken_append (expand w k sb) (expand w (k + new_rows w * spot_count sb) (sketch u d t))
          ∙ ap₂ (λ (v z : List Line). v ++ z) (x k ∙ ap (λ (j : ℕ). lines r.serial (number j B)) (omega (arith, new_test r)))
          (y d (k + new_rows w * spot_count sb) ∙ ap (λ (j : ℕ). lines u.serial (number j (plant p u d t))) (omega (arith, new_test r, new_plant r (p.fills r) b (omega arith))))))

      by : (c : Bool) → (due && p.later u r) ≡ c → ((k : ℕ) → untaken (expand w k sb) ≡ lines r.serial (number k B))
          → ((d : Bool) (k : ℕ) → untaken (expand w k (sketch u d t)) ≡ lines u.serial (number k (plant p u d t)))
          → untaken (expand w n (sketch u due (tree r b t))) ≡ lines u.serial (number n (plant p u due (tree r b t)))
      by true q x y =
          rw (q, plant)
          (rw (q, sketch)
          (untaken_append (standing (lines u.serial (number n w))) (expand w (n + new_rows w) (old (stands l) ∷ (sb ++ sketch u false t)))
          ∙ ap₂ (λ (v z : List Line). v ++ z) (untaken_standing (lines u.serial (number n w))) (core x y false (n + new_rows w))
          ∙ sym (lines_append u.serial (number n w) (number (n + new_rows w) (tree r B (plant p u false t))))
          ∙ ap (λ (f : Forest Row). lines u.serial f) (sym (number_append n w (tree r B (plant p u false t))))))
      by false q x y = rw (q, plant) (rw (q, sketch) (core x y due n))

-- ---- the marks found on the lines are those read off the forest
-- the serials passed
unfoldable passed : Forest Row → List ℕ → List ℕ
passed bare below = below
passed (tree r b t) below = passed t (passed b (r.serial ∷ below))

-- the marks go on with a line whose parent is not among the serials, or are at their end
unfoldable Stop : List ℕ → List Mark → Type 0
Stop below [] = Unit {0}
Stop below (spot u ∷ ms) = ⊥
Stop below (old (taken l) ∷ ms) = ⊥
Stop below (old (stands l) ∷ ms) = any (eqb l.parent) below ≡ false

place_stop : (later : Row → Bool) (u : ℕ) (below : List ℕ) (ms : List Mark) → Stop below ms → place later u below ms ≡ spot u ∷ ms
unfolding Stop place
place_stop later u below [] h = refl
place_stop later u below (spot v ∷ ms) h = absurd h
place_stop later u below (old (taken l) ∷ ms) h = absurd h
place_stop later u below (old (stands l) ∷ ms) h = rw (h, place) refl

any_own : (n : ℕ) (below : List ℕ) → any (eqb n) (n ∷ below) ≡ true
any_own n below = rw (eqb_of n n refl)

any_more : (k n : ℕ) (below : List ℕ) → any (eqb k) below ≡ true → any (eqb k) (n ∷ below) ≡ true
any_more k n below h = rw h (or-true (eqb k n))

any_passed : (k : ℕ) (f : Forest Row) (below : List ℕ) → any (eqb k) below ≡ true → any (eqb k) (passed f below) ≡ true
unfolding passed
any_passed k bare below h = h
any_passed k (tree r b t) below h = any_passed k t (passed b (r.serial ∷ below)) (any_passed k b (r.serial ∷ below) (any_more k r.serial below h))

any_not : (k : ℕ) (f : Forest Row) (below : List ℕ) → occurs k f ≡ 0 → any (eqb k) below ≡ false → any (eqb k) (passed f below) ≡ false
unfolding passed occurs
any_not k bare below o h = h
any_not k (tree r b t) below o h =
    any_not k t (passed b (r.serial ∷ below)) (omega arith) (any_not k b (r.serial ∷ below) (omega arith) (rw (ones_zero (eqb k r.serial) (omega arith)) h))

module _ (p : Plan) where
  -- deeper than the children of u: every line is passed
  place_deep : (later : Row → Bool) (u : ℕ) (v : Row) (due : Bool) (f : Forest Row) (below : List ℕ) (ms : List Mark) → any (eqb v.serial) below ≡ true → eqb v.serial u ≡ false
      → occurs u f ≡ 0 → place later u below (sketch p v due f ++ ms) ≡ sketch p v due f ++ place later u (passed f below) ms
  unfolding sketch passed occurs place
  place_deep later u v true bare below ms h k o = refl
  place_deep later u v false bare below ms h k o = refl
  place_deep later u v due (tree r b t) below ms h k o =
      by (due && p.later v r) refl (λ z. place_deep later u r (p.fills r) b (r.serial ∷ below) z (any_own r.serial below) other (omega arith))
      (λ d. place_deep later u v d t (passed b (r.serial ∷ below)) ms (any_passed v.serial b (r.serial ∷ below) (any_more v.serial r.serial below h)) k (omega arith))
    where
      other : eqb r.serial u ≡ false
      other = eqb_sym r.serial u ∙ ones_zero (eqb u r.serial) (omega arith)

      l : Line
      l = record { parent = v.serial; row = r }

      sb : List Mark
      sb = sketch p r (p.fills r) b

      b' : List ℕ
      b' = passed b (r.serial ∷ below)

      core : ((z : List Mark) → place later u (r.serial ∷ below) (sb ++ z) ≡ sb ++ place later u b' z)
          → ((d : Bool) → place later u b' (sketch p v d t ++ ms) ≡ sketch p v d t ++ place later u (passed t b') ms) → (d : Bool)
          → place later u below (old (stands l) ∷ (sb ++ sketch p v d t ++ ms)) ≡ old (stands l) ∷ (sb ++ sketch p v d t ++ place later u (passed t b') ms)
      core x y d =
          rw (h, place)
          (rw k
          (ap (λ (z : List Mark). old (stands l) ∷ z)
          (rw (append_assoc sb (sketch p v d t) ms, append_assoc sb (sketch p v d t) (place later u (passed t b') ms)) (x (sketch p v d t ++ ms) ∙ ap (λ (z : List Mark). sb ++ z) (y d)))))

      by : (c : Bool) → (due && p.later v r) ≡ c → ((z : List Mark) → place later u (r.serial ∷ below) (sb ++ z) ≡ sb ++ place later u b' z)
          → ((d : Bool) → place later u b' (sketch p v d t ++ ms) ≡ sketch p v d t ++ place later u (passed t b') ms)
          → place later u below (sketch p v due (tree r b t) ++ ms) ≡ sketch p v due (tree r b t) ++ place later u (passed t b') ms
      by true q x y = rw (q, sketch) (ap (λ (z : List Mark). spot v.serial ∷ z) (core x y false))
      by false q x y = rw (q, sketch) (core x y due)

  -- the children of u: up to the first later one
  place_here : (u : Row) (f : Forest Row) (below : List ℕ) (ms : List Mark) → any (eqb u.serial) below ≡ true → occurs u.serial f ≡ 0 → Stop (passed f below) ms
      → place (p.later u) u.serial below (sketch p u false f ++ ms) ≡ sketch p u true f ++ ms
  unfolding sketch passed occurs place
  place_here u bare below ms h o s = place_stop (p.later u) u.serial below ms s
  place_here u (tree r b t) below ms h o s =
      by (p.later u r) refl
      (place_deep (p.later u) u.serial r (p.fills r) b (r.serial ∷ below) (sketch p u false t ++ ms) (any_own r.serial below) other (omega arith)
      ∙ ap (λ (z : List Mark). sb ++ z) (place_here u t (passed b (r.serial ∷ below)) ms (any_passed u.serial b (r.serial ∷ below) (any_more u.serial r.serial below h)) (omega arith) s))
    where
      other : eqb r.serial u.serial ≡ false
      other = eqb_sym r.serial u.serial ∙ ones_zero (eqb u.serial r.serial) (omega arith)

      l : Line
      l = record { parent = u.serial; row = r }

      sb : List Mark
      sb = sketch p r (p.fills r) b

      own : eqb u.serial u.serial ≡ true
      own = eqb_of u.serial u.serial refl

      by : (c : Bool) → p.later u r ≡ c → place (p.later u) u.serial (r.serial ∷ below) (sb ++ (sketch p u false t ++ ms)) ≡ sb ++ (sketch p u true t ++ ms)
          → place (p.later u) u.serial below (sketch p u false (tree r b t) ++ ms) ≡ sketch p u true (tree r b t) ++ ms
      by true q x = rw (q, sketch) (rw (h, place) (rw own (rw q refl)))
      by false q x =
          rw (q, sketch)
          (rw (h, place) (rw own (rw q (ap (λ (z : List Mark). old (stands l) ∷ z) (rw (append_assoc sb (sketch p u false t) ms, append_assoc sb (sketch p u true t) ms) x)))))

-- the next line's parent is not in the forest
unfoldable Next : Forest Row → List Entry → Type 0
Next f [] = Unit {0}
Next f (taken l ∷ es) = ⊥
Next f (stands l ∷ es) = occurs l.parent f ≡ 0

next_part : (f g : Forest Row) (es : List Entry) → ((k : ℕ) → occurs k f ≡ 0 → occurs k g ≡ 0) → Next f es → Next g es
unfolding Next
next_part f g [] k h = tt
next_part f g (taken l ∷ es) k h = h
next_part f g (stands l ∷ es) k h = k l.parent h

module _ (p : Plan) (u r : Row) (b : Forest Row) where
  not_passed : (k : ℕ) (t : Forest Row) → occurs k (tree r b t) ≡ 0 → any (eqb k) (passed b (r.serial ∷ [])) ≡ false
  unfolding occurs
  not_passed k t o = any_not k b (r.serial ∷ []) (omega arith) (rw (ones_zero (eqb k r.serial) (omega arith)) refl)

  stop_here : (t : Forest Row) (es : List Entry) → occurs u.serial (tree r b t) ≡ 0 → Next (tree r b t) es → Stop (passed b (r.serial ∷ [])) (sketch p u false t ++ spots p es)
  unfolding Stop Next sketch spots
  stop_here bare [] o h = tt
  stop_here bare (taken l ∷ es) o h = absurd h
  stop_here bare (stands l ∷ es) o h = not_passed l.parent bare h
  stop_here (tree r' b' t') es o h = not_passed u.serial (tree r' b' t') o

  next_below : (t : Forest Row) (es : List Entry) → occurs u.serial (tree r b t) ≡ 0 → Next (tree r b t) es → Next b (standing (lines u.serial t) ++ es)
  unfolding Next occurs
  next_below bare es o h = next_part (tree r b bare) b es (λ k e. omega arith) h
  next_below (tree r' b' t') es o h = omega arith

placed_sketch : (p : Plan) (r : Row) (b : Forest Row) (ms : List Mark) → occurs r.serial b ≡ 0 → Stop (passed b (r.serial ∷ [])) ms
    → placed p r (sketch p r false b ++ ms) ≡ sketch p r (p.fills r) b ++ ms
placed_sketch p r b ms o s = by (p.fills r) refl
  where
    by : (c : Bool) → p.fills r ≡ c → placed p r (sketch p r false b ++ ms) ≡ sketch p r (p.fills r) b ++ ms
    by true q = rw (q, placed) (place_here p r b (r.serial ∷ []) ms (any_own r.serial []) o s)
    by false q = rw (q, placed)

standing_append : (xs ys : List Line) (es : List Entry) → standing (xs ++ ys) ++ es ≡ standing xs ++ (standing ys ++ es)
standing_append xs ys es = ap (λ (z : List Entry). z ++ es) (map-append (λ (l : Line). stands l) xs ys) ∙ append_assoc (standing xs) (standing ys) es

spots_sketch : (p : Plan) (u : Row) (f : Forest Row) (es : List Entry) → ((k : ℕ) → occurs k f ≤ 1) → occurs u.serial f ≡ 0 → Next f es
    → spots p (standing (lines u.serial f) ++ es) ≡ sketch p u false f ++ spots p es
unfolding sketch occurs spots
spots_sketch p u bare es d o h = refl
spots_sketch p u (tree r b t) es d o h =
    ap (λ (z : List Mark). old (stands (record { parent = u.serial; row = r })) ∷ z)
    (ap (λ (z : List Entry). placed p r (spots p z)) (standing_append (lines r.serial b) (lines u.serial t) es)
    ∙ rw (spots_sketch p r b (standing (lines u.serial t) ++ es) (λ k. omega (arith, d k)) (omega (arith, d r.serial, ones_own r.serial)) (next_below p u r b t es o h))
    (rw (spots_sketch p u t es (λ k. omega (arith, d k)) (omega arith) (next_part (tree r b t) t es (λ k e. omega arith) h))
    (placed_sketch p r b (sketch p u false t ++ spots p es) (omega (arith, d r.serial, ones_own r.serial)) (stop_here p u r b t es o h)
    ∙ sym (append_assoc (sketch p r (p.fills r) b) (sketch p u false t) (spots p es)))))

-- ---- marks without the taken lines
unfoldable clean : List Mark → List Mark
clean [] = []
clean (spot u ∷ ms) = spot u ∷ clean ms
clean (old (taken l) ∷ ms) = clean ms
clean (old (stands l) ∷ ms) = old (stands l) ∷ clean ms

count_clean : (ms : List Mark) → spot_count (clean ms) ≡ spot_count ms
unfolding clean spot_count
count_clean [] = refl
count_clean (spot u ∷ ms) = ap suc (count_clean ms)
count_clean (old (taken l) ∷ ms) = count_clean ms
count_clean (old (stands l) ∷ ms) = count_clean ms

clean_expand : (w : Forest Row) (n : ℕ) (ms : List Mark) → untaken (expand w n (clean ms)) ≡ untaken (expand w n ms)
unfolding clean expand untaken
clean_expand w n [] = refl
clean_expand w n (spot u ∷ ms) =
    untaken_append (standing (lines u (number n w))) (expand w (n + new_rows w) (clean ms))
    ∙ rw (clean_expand w (n + new_rows w) ms) (sym (untaken_append (standing (lines u (number n w))) (expand w (n + new_rows w) ms)))
clean_expand w n (old (taken l) ∷ ms) = clean_expand w n ms
clean_expand w n (old (stands l) ∷ ms) = ap (λ (z : List Line). l ∷ z) (clean_expand w n ms)

clean_place : (later : Row → Bool) (u : ℕ) (below : List ℕ) (ms : List Mark) → clean (place later u below ms) ≡ place later u below (clean ms)
unfolding clean place
clean_place later u below [] = refl
clean_place later u below (spot v ∷ ms) = ap (λ (z : List Mark). spot v ∷ z) (clean_place later u below ms)
clean_place later u below (old (taken l) ∷ ms) = clean_place later u below ms
clean_place later u below (old (stands l) ∷ ms) = by (any (eqb l.parent) below && not (eqb l.parent u && later l.row)) refl (clean_place later u (l.row.serial ∷ below) ms)
  where
    by : (c : Bool) → (any (eqb l.parent) below && not (eqb l.parent u && later l.row)) ≡ c
        → clean (place later u (l.row.serial ∷ below) ms) ≡ place later u (l.row.serial ∷ below) (clean ms)
        → clean (place later u below (old (stands l) ∷ ms)) ≡ place later u below (old (stands l) ∷ clean ms)
    by true q x = rw (q, place) (ap (λ (z : List Mark). old (stands l) ∷ z) x)
    by false q x = rw (q, place)

clean_placed : (p : Plan) (r : Row) (ms : List Mark) → clean (placed p r ms) ≡ placed p r (clean ms)
clean_placed p r ms = by (p.fills r) refl
  where
    by : (c : Bool) → p.fills r ≡ c → clean (placed p r ms) ≡ placed p r (clean ms)
    by true q = rw (q, placed) (clean_place (p.later r) r.serial (r.serial ∷ []) ms)
    by false q = rw (q, placed)

clean_spots : (p : Plan) (es : List Entry) → clean (spots p es) ≡ spots p (standing (untaken es))
unfolding clean spots untaken
clean_spots p [] = refl
clean_spots p (taken l ∷ es) = clean_spots p es
clean_spots p (stands l ∷ es) =
    ap (λ (z : List Mark). old (stands l) ∷ z) (clean_placed p l.row (spots p es) ∙ ap (λ (z : List Mark). placed p l.row z) (clean_spots p es))

module _ (p : Plan) (docs : Forest Row) (es : List Entry) (h : untaken es ≡ lines 0 docs) (a : Apart (ground ∷ []) docs) where
  marks_sketch : clean (placed p ground (spots p es)) ≡ sketch p ground (p.fills ground) docs
  unfolding Apart Next count Stop spots
  marks_sketch =
      clean_placed p ground (spots p es)
      ∙ ap (λ (z : List Mark). placed p ground z)
      (clean_spots p es ∙ ap (λ (z : List Line). spots p (standing z)) h ∙ ap (λ (z : List Entry). spots p z) (sym (append-nil (standing (lines 0 docs))))
      ∙ spots_sketch p ground docs [] (λ k. omega (arith, a k)) (omega (arith, a 0)) tt)
      ∙ placed_sketch p ground docs [] (omega (arith, a 0)) tt
      ∙ append-nil (sketch p ground (p.fills ground) docs)

  -- THE MAKING RULE: the book's untaken lines after the new ones are
  -- written in are the lines of the documents after planting
  pub making : (n : ℕ) → untaken (expand p.filling n (placed p ground (spots p es))) ≡ lines 0 (number n (plant p ground (p.fills ground) docs))
  unfolding Apart count
  making n =
      sym (clean_expand p.filling n (placed p ground (spots p es)))
      ∙ ap (λ (z : List Mark). untaken (expand p.filling n z)) marks_sketch
      ∙ expand_sketch p ground (p.fills ground) docs n (omega (arith, a 0))

  pub making_count : new_rows p.filling * spot_count (placed p ground (spots p es)) ≡ new_rows (plant p ground (p.fills ground) docs)
  unfolding Apart count
  making_count =
      ap (λ (k : ℕ). new_rows p.filling * k) (sym (count_clean (placed p ground (spots p es))) ∙ ap spot_count marks_sketch)
      ∙ sym (new_plant p ground (p.fills ground) docs (omega (arith, a 0)))
