-- The part of a definition in the particle body: what the tests say of the
-- model that is read from it, and that writing gives it back.
use Prim.Native.Nat.{ℕ, zero, suc, ◌<◌, ◌≤◌}
use native.Mathlib.Omega.{arith}
use mathlib.Core.Path.{◌≡◌, refl, ap, ap₂, ◌∙◌, sym}
use mathlib.Core.Logic.{◌⊎◌, inl, inr}
use mathlib.Core.Bool.{true, false, ◌&&◌, not, false≢true}
use mathlib.Core.List.Memᴰ
use mathlib.Core.List.{List, [], ◌∷◌, ◌++◌, map, Memᴰ}
use lib.Dec.{eqb, leb, ltb, eqb-suc-zero}
use lib.ListN.{length, length-map}
use borrow.Author.Tests.{eqb-true, leb-true, ltb-true, eq-eqb, ne_eqb, not-true}
use Rattle.rules.specs.Bytes.{Bytes, all, is_none, numbers}
use Rattle.rules.specs.Model.{Members, names, Distinct, distinct, Some, Full}
use Rattle.rules.specs.Store.{Form, Forest, bare, tree, heads, model_of}
use Rattle.rules.specs.Preorder.{Deep, preorder, build}
use Rattle.rules.specs.Layout.{FlatParticle, quantifier_code, group_code, kind_code, how_many, particles}
use Rattle.rules.specs.Decode.{name_at, quantifier_of, group_of, content_of, member_of, read_members}
use Rattle.rules.specs.WellFormed.{known}
use Rattle.rules.proofs.Words.{and_split}
use Rattle.rules.proofs.BooleanLaws.{Every, every_append, every_at}
use Rattle.rules.proofs.TestLaws.{distinct_test}
use Rattle.rules.proofs.PreorderLaws.{preorder_build, rising}
use Rattle.rules.proofs.RenamingPlaces.{names_rename}
use Rattle.model.specs.Members.{index_member, index_members}
use Rattle.model.proofs.MembersLaws.{members_named}
use Rattle.model_check.specs.ModelTests.{particle_fits, shaped, elements_in, model_fits}
use Rattle.circle_check.proofs.ReadLaws.{elements_append}
use Rattle.store_check.proofs.IndexLaws.{names_of, index_name, name_once, known_at, distinct_map}

-- ---- what the test of a particle says
pub record Single (n : ℕ) (p : FlatParticle) (b : Forest FlatParticle) : Type 0 where
  pub sort : p.sort ≡ 0
  pub index : p.index < n
  pub none : b ≡ bare

pub record Grouped (p : FlatParticle) (b : Forest FlatParticle) : Type 0 where
  pub code : ℕ
  pub sort : p.sort ≡ suc code
  pub most : code ≤ 1
  pub index : p.index ≡ length (heads b)
  pub some : is_none (heads b) ≡ false

pub record Shaped (n : ℕ) (p : FlatParticle) (b t : Forest FlatParticle) : Type 0 where
  pub quantifier : p.quantifier ≤ 3
  pub particle : Single n p b ⊎ Grouped p b
  pub below : shaped n b ≡ true
  pub beside : shaped n t ≡ true

heads_bare : (b : Forest FlatParticle) → is_none (heads b) ≡ true → b ≡ bare
heads_bare bare h = refl
heads_bare (tree p b t) h = absurd (false≢true h)

pub shaped_tree : (n : ℕ) (p : FlatParticle) (b t : Forest FlatParticle) → shaped n (tree p b t) ≡ true → Shaped n p b t
unfolding shaped
shaped_tree n p b t h =
    let (x, y) = and_split (particle_fits n p (heads b)) (shaped n b && shaped n t) h in
    let (u, v) = and_split (shaped n b) (shaped n t) y in
    let (q, e) = and_split (leb p.quantifier 3) _ x in
    record { quantifier = leb-true p.quantifier 3 q; particle = by p.sort refl e; below = u; beside = v }
  where
    by : (s : ℕ) → p.sort ≡ s → elim (eqb s 0) [ true ↦ ltb p.index n && is_none (heads b) | false ↦ leb s 2 && (eqb p.index (length (heads b)) && not (is_none (heads b))) ] ≡ true
        → Single n p b ⊎ Grouped p b
    by zero q e =
        let (i, m) = and_split (ltb p.index n) (is_none (heads b)) e in
        inl (record { sort = q; index = ltb-true p.index n i; none = heads_bare b m })
    by (suc k) q e =
        let (s, m) = and_split (leb (suc k) 2) _ (rw (eqb-suc-zero k) at e) in
        let (i, l) = and_split (eqb p.index (length (heads b))) (not (is_none (heads b))) m in
        let two : suc k ≤ 2 = leb-true (suc k) 2 s in
        inr (record { code = k; sort = q; most = omega arith; index = eqb-true p.index (length (heads b)) i; some = not-true (is_none (heads b)) l })

-- ---- names for indices
pub read_names : (ns : List Bytes) (t : Forest FlatParticle) → names (read_members ns t) ≡ map (λ i. name_at i ns) (names (index_members t))
read_names ns t = ap (λ (z : Members Bytes). names z) (members_named ns t) ∙ names_rename (λ i. name_at i ns) (index_members t)

-- ---- the names that stand in a part
pub elements_here : (x : Deep FlatParticle) (xs : List (Deep FlatParticle)) → x.row.sort ≡ 0 → elements_in (x ∷ xs) ≡ x.row.index ∷ elements_in xs
unfolding elements_in
elements_here x xs e = rw (eq-eqb x.row.sort 0 e, elements_in)

pub elements_past : (x : Deep FlatParticle) (xs : List (Deep FlatParticle)) (k : ℕ) → x.row.sort ≡ suc k → elements_in (x ∷ xs) ≡ elements_in xs
unfolding elements_in
elements_past x xs k e = rw (ne_eqb x.row.sort 0 (λ z. omega arith), elements_in)

module _ (n : ℕ) where
  pub names_elements : (d : ℕ) (t : Forest FlatParticle) → shaped n t ≡ true → names (index_members t) ≡ elements_in (preorder d t)
  unfolding names elements_in
  names_elements d bare h = refl
  names_elements d (tree p b t) h = let s : Shaped n p b t = shaped_tree n p b t h in by s.particle (names_elements (suc d) b s.below) (names_elements d t s.beside)
    where
      by : Single n p b ⊎ Grouped p b → names (index_members b) ≡ elements_in (preorder (suc d) b) → names (index_members t) ≡ elements_in (preorder d t)
          → names (index_members (tree p b t)) ≡ elements_in (preorder d (tree p b t))
      by (inl x) e f =
          ap (λ (s : ℕ). names (index_member p s (index_members b) (index_members t))) x.sort
          ∙ ap (λ (z : List ℕ). p.index ∷ z) f
          ∙ ap (λ (z : Forest FlatParticle). p.index ∷ elements_in (preorder (suc d) z ++ preorder d t)) (sym x.none)
          ∙ sym (elements_here (record { depth = d; row = p }) (preorder (suc d) b ++ preorder d t) x.sort)
      by (inr x) e f =
          ap (λ (s : ℕ). names (index_member p s (index_members b) (index_members t))) x.sort
          ∙ ap₂ (λ (u v : List ℕ). u ++ v) e f
          ∙ sym (elements_append (preorder (suc d) b) (preorder d t))
          ∙ sym (elements_past (record { depth = d; row = p }) (preorder (suc d) b ++ preorder d t) x.code x.sort)

  pub names_below : (t : Forest FlatParticle) → shaped n t ≡ true → Every (λ j. j < n) (names (index_members t))
  unfolding names
  names_below bare h = tt
  names_below (tree p b t) h = let s : Shaped n p b t = shaped_tree n p b t h in by s.particle (names_below b s.below) (names_below t s.beside)
    where
      by : Single n p b ⊎ Grouped p b → Every (λ j. j < n) (names (index_members b)) → Every (λ j. j < n) (names (index_members t)) → Every (λ j. j < n) (names (index_members (tree p b t)))
      by (inl x) e f = rw x.sort (x.index, f)
      by (inr x) e f = rw x.sort (every_append (λ j. j < n) (names (index_members b)) (names (index_members t)) e f)

  some_read : (ns : List Bytes) (b : Forest FlatParticle) → is_none (heads b) ≡ false → Some (read_members ns b)
  some_read ns bare h = absurd (false≢true (sym h))
  some_read ns (tree p b t) h = by p.sort
    where
      by : (s : ℕ) → Some (member_of ns p s (read_members ns b) (read_members ns t))
      by zero = tt
      by (suc k) = tt

  pub full_read : (ns : List Bytes) (t : Forest FlatParticle) → shaped n t ≡ true → Full (read_members ns t)
  unfolding Full
  full_read ns bare h = tt
  full_read ns (tree p b t) h = let s : Shaped n p b t = shaped_tree n p b t h in by s.particle (full_read ns b s.below) (full_read ns t s.beside)
    where
      by : Single n p b ⊎ Grouped p b → Full (read_members ns b) → Full (read_members ns t) → Full (read_members ns (tree p b t))
      by (inl x) e f = rw x.sort f
      by (inr x) e f = rw x.sort (some_read ns b x.some, e, f)

-- ---- writing what was read
quantifier_back : (q : ℕ) → q ≤ 3 → quantifier_code (quantifier_of q) ≡ q
quantifier_back zero h = refl
quantifier_back (suc zero) h = refl
quantifier_back (suc (suc zero)) h = refl
quantifier_back (suc (suc (suc zero))) h = refl
quantifier_back (suc (suc (suc (suc q)))) h = absurd (omega arith)

group_back : (k : ℕ) → k ≤ 1 → group_code (group_of (suc k)) ≡ suc k
group_back zero h = refl
group_back (suc zero) h = refl
group_back (suc (suc k)) h = absurd (omega arith)

pub kind_back : (k : ℕ) (ms : Members Bytes) → k ≤ 2 → kind_code (content_of k ms) ≡ k
kind_back zero ms h = refl
kind_back (suc zero) ms h = refl
kind_back (suc (suc zero)) ms h = refl
kind_back (suc (suc (suc k))) ms h = absurd (omega arith)

many_read : (ns : List Bytes) (t : Forest FlatParticle) → how_many (read_members ns t) ≡ length (heads t)
many_read ns bare = refl
many_read ns (tree p b t) = by p.sort (many_read ns t)
  where
    by : (s : ℕ) → how_many (read_members ns t) ≡ length (heads t) → how_many (member_of ns p s (read_members ns b) (read_members ns t)) ≡ suc (length (heads t))
    by zero e = ap suc e
    by (suc k) e = ap suc e

-- only a COMPLEX definition has particles
pub record Fills (kind : ℕ) (part : List (Deep FlatParticle)) : Type 0 where
  pub most : kind ≤ 2
  pub filled : (kind ≡ 2) ⊎ (part ≡ [])

pub members_read : (ns : List Bytes) (k : ℕ) (part : List (Deep FlatParticle)) → Fills k part → model_of (content_of k (read_members ns (build part 0))) ≡ read_members ns (build part 0)
members_read ns k part h = by k h.filled
  where
    none : (k : ℕ) → part ≡ [] → model_of (content_of k (read_members ns (build part 0))) ≡ read_members ns (build part 0)
    none zero e = rw e
    none (suc zero) e = rw e
    none (suc (suc k)) e = refl

    by : (k : ℕ) → (k ≡ 2) ⊎ (part ≡ []) → model_of (content_of k (read_members ns (build part 0))) ≡ read_members ns (build part 0)
    by k (inl e) = rw e
    by k (inr e) = none k e

module _ (form : Form) (apart : Distinct (names_of form)) where
  pub particles_read_lem : (t : Forest FlatParticle) → shaped (length form) t ≡ true → particles form (read_members (names_of form) t) ≡ t
  particles_read_lem bare h = refl
  particles_read_lem (tree p b t) h =
      let s : Shaped (length form) p b t = shaped_tree (length form) p b t h in
      by s.quantifier s.particle (particles_read_lem b s.below) (particles_read_lem t s.beside)
    where
      by : p.quantifier ≤ 3 → Single (length form) p b ⊎ Grouped p b → particles form (read_members (names_of form) b) ≡ b → particles form (read_members (names_of form) t) ≡ t
          → particles form (read_members (names_of form) (tree p b t)) ≡ tree p b t
      by q (inl x) e f =
          ap (λ (s : ℕ). particles form (member_of (names_of form) p s (read_members (names_of form) b) (read_members (names_of form) t))) x.sort
          ∙ (λ i.
          tree (record { sort = sym x.sort i; quantifier = quantifier_back p.quantifier q i; index = index_name form apart p.index x.index i }) (sym x.none i) (f i))
      by q (inr x) e f =
          ap (λ (s : ℕ). particles form (member_of (names_of form) p s (read_members (names_of form) b) (read_members (names_of form) t))) x.sort
          ∙ (λ i.
          tree (record {
            sort = (group_back x.code x.most ∙ sym x.sort) i;
            quantifier = quantifier_back p.quantifier q i;
            index = (many_read (names_of form) b ∙ sym x.index) i;
          })
          (e i) (f i))

  -- what the test of a part says of the model
  pub record ModelRead (part : List (Deep FlatParticle)) : Type 0 where
    pub back : preorder 0 (particles form (read_members (names_of form) (build part 0))) ≡ part
    pub indices : names (index_members (build part 0)) ≡ elements_in part
    pub below : Every (λ j. j < length form) (names (index_members (build part 0)))
    pub in_range : (m : Bytes) → Memᴰ m (names (read_members (names_of form) (build part 0))) → known form m ≡ true
    pub once : Distinct (names (read_members (names_of form) (build part 0)))
    pub groups : Full (read_members (names_of form) (build part 0))

  pub model_read : (part : List (Deep FlatParticle)) → model_fits (length form) part ≡ true → ModelRead part
  unfolding model_fits
  model_read part h =
      let (depths, h₁) = and_split (all (λ (p : Deep FlatParticle). leb p.depth 4) part) _ h in
      let (rises, h₂) = and_split (rising 0 part) _ h₁ in
      let (shape, apart₁) = and_split (shaped (length form) (build part 0)) (distinct numbers (elements_in part)) h₂ in
      let whole : preorder 0 (build part 0) ≡ part = preorder_build part rises in
      let indices : names (index_members (build part 0)) ≡ elements_in part = names_elements (length form) 0 (build part 0) shape ∙ ap elements_in whole in
      let below : Every (λ j. j < length form) (names (index_members (build part 0))) = names_below (length form) (build part 0) shape in
      let renamed : names (read_members (names_of form) (build part 0)) ≡ map (λ i. name_at i (names_of form)) (names (index_members (build part 0))) = read_names (names_of form) (build part 0) in
      record {
        back = ap (λ (z : Forest FlatParticle). preorder 0 z) (particles_read_lem (build part 0) shape) ∙ whole;
        indices = indices;
        below = below;
        in_range = λ m i.
            let (j, k, e) = Memᴰ.of_map (λ j. name_at j (names_of form)) (names (index_members (build part 0))) (rw renamed at i) in
            rw (← e) (known_at form apart j (every_at (λ j. j < length form) j (names (index_members (build part 0))) below k));
        once = rw renamed
            (distinct_map (λ j. name_at j (names_of form)) (names (index_members (build part 0)))
            (λ x y i j e. name_once (names_of form) apart x y (rw length-map (every_at (λ j. j < length form) x (names (index_members (build part 0))) below i))
            (rw length-map (every_at (λ j. j < length form) y (names (index_members (build part 0))) below j)) e)
            (rw indices ((distinct_test numbers (elements_in part)).0 apart₁)));
        groups = full_read (length form) (names_of form) (build part 0) shape;
      }
