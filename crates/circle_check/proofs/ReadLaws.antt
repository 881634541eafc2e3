-- The members of definitions, as indices, are the names in the models of the form that is read from the same bytes.
use Prim.Native.Nat.{ℕ, zero, suc, ◌+◌, ◌*◌, ◌-◌, ◌≤◌, ◌<◌}
use native.Mathlib.Omega.{arith}
use native.Mathlib.Nat.{not-suc-le-zero, le_of_suc-le-suc}
use mathlib.Core.Path.{◌≡◌, refl, ap, ap₂, ◌∙◌, sym, subst}
use mathlib.Core.Logic.{◌↔◌}
use mathlib.Core.Bool.{Bool, true, false}
use mathlib.Core.List.{List, [], ◌∷◌, ◌++◌, map, map-append, Memᴰ}
use lib.Dec.{eqb}
use lib.ListN.{length, take, drop, length-take, length-drop}
use lib.Seq.{drop-drop}
use borrow.Author.Tests.{ne_eqb}
use Rattle.rules.specs.Bytes.{Bytes}
use Rattle.rules.specs.Model.{names, Distinct}
use Rattle.rules.specs.Store.{Attribute, Form, Forest, bare, tree, model_of, members}
use Rattle.rules.specs.Preorder.{Deep, preorder, build}
use Rattle.rules.specs.Layout.{definition_size, particle_size, FlatDefinition, FlatParticle, FlatAttribute}
use Rattle.rules.specs.Decode.{name_at, read_definition, read_particle, read_many, content_of, member_of, read_members, of_owner, read_form, flat_name}
use Rattle.rules.specs.WellFormed.{definition_name, Reaches}
use Rattle.rules.proofs.PreorderLaws.{rising, preorder_build}
use Rattle.model_check.specs.ModelTests.{elements_in}
use Rattle.codec.specs.Part.{part_of}
use Rattle.codec.proofs.Strings.{part_there}
use Rattle.layout.proofs.LayoutLaws.{record_first, record_after}
use Rattle.circle_check.specs.Members.{count_at, start_at, model_bytes, elements_of, members_in}
use Rattle.std.specs.Prelude.{Result, IsOk}
use Rattle.circle_check.specs.Deep.{deep_index, Ranked}
use Rattle.circle_check.proofs.CircleLaws.{Models, Indexed, fit_within, fit_acyclic}
use Rattle.codec.proofs.Records.{length_many, many_part}

-- ---- elements among particles
pub elements_append : (xs ys : List (Deep FlatParticle)) → elements_in (xs ++ ys) ≡ elements_in xs ++ elements_in ys
unfolding elements_in
elements_append [] ys = refl
elements_append (x ∷ xs) ys = by (eqb x.row.sort 0) (elements_append xs ys)
  where
    by : (b : Bool) → elements_in (xs ++ ys) ≡ elements_in xs ++ elements_in ys
        → elim b [ true ↦ x.row.index ∷ elements_in (xs ++ ys) | false ↦ elements_in (xs ++ ys) ] ≡ elim b [ true ↦ x.row.index ∷ elements_in xs | false ↦ elements_in xs ] ++ elements_in ys
    by true e = ap (λ (l : List ℕ). x.row.index ∷ l) e
    by false e = e

-- an element has no particles below it
abbrev pub Leaves : Forest FlatParticle → Type 0
Leaves bare = Unit {0}
Leaves (tree p b t) = (p.sort ≡ 0 → b ≡ bare) × Leaves b × Leaves t

module _ (ns : List Bytes) where
  names_tree : (d : ℕ) (p : FlatParticle) (b t : Forest FlatParticle) (k : ℕ) → p.sort ≡ k → (k ≡ 0 → b ≡ bare)
      → names (read_members ns b) ≡ map (λ j. name_at j ns) (elements_in (preorder (suc d) b))
      → names (read_members ns t) ≡ map (λ j. name_at j ns) (elements_in (preorder d t))
      → names (member_of ns p k (read_members ns b) (read_members ns t))
      ≡ map (λ j. name_at j ns)
      (elim (eqb k 0) [ true ↦ p.index ∷ elements_in (preorder (suc d) b ++ preorder d t) | false ↦ elements_in (preorder (suc d) b ++ preorder d t) ])
  unfolding names elements_in
  names_tree d p b t zero e l x y = rw (l refl) (ap (λ (z : List Bytes). name_at p.index ns ∷ z) y)
  names_tree d p b t (suc k) e l x y =
      ap₂ (λ (u v : List Bytes). u ++ v) x y
      ∙ sym (map-append (λ j. name_at j ns) (elements_in (preorder (suc d) b)) (elements_in (preorder d t)))
      ∙ ap (λ (z : List ℕ). map (λ j. name_at j ns) z) (sym (elements_append (preorder (suc d) b) (preorder d t)))
      ∙ ap (λ (c : Bool). map (λ j. name_at j ns)
      (elim c [ true ↦ p.index ∷ elements_in (preorder (suc d) b ++ preorder d t) | false ↦ elements_in (preorder (suc d) b ++ preorder d t) ]))
      (sym (ne_eqb (suc k) 0 (λ z. omega arith)))

  pub names_elements : (d : ℕ) (f : Forest FlatParticle) → Leaves f → names (read_members ns f) ≡ map (λ j. name_at j ns) (elements_in (preorder d f))
  unfolding names elements_in
  names_elements d bare l = refl
  names_elements d (tree p b t) (l, lb, lt) = names_tree d p b t p.sort refl l (names_elements (suc d) b lb) (names_elements d t lt)

-- ---- the models of definitions
-- the particles of a definition: no lower than one below those before,
-- elements with none below, none but in COMPLEX ones
pub record Shaped (d : FlatDefinition) (xs : List (Deep FlatParticle)) : Type 0 where
  pub rises : rising 0 xs ≡ true
  pub leaves : Leaves (build xs 0)
  pub complex : d.kind < 2 → xs ≡ []

abbrev pub AllShaped : List FlatDefinition → List (Deep FlatParticle) → Type 0
AllShaped [] ps = Unit {0}
AllShaped (d ∷ ds) ps = Shaped d (take d.particles ps) × AllShaped ds (drop d.particles ps)

-- the particles of definition number i
unfoldable pub model_at : ℕ → List FlatDefinition → List (Deep FlatParticle) → List (Deep FlatParticle)
model_at i [] ps = []
model_at zero (d ∷ ds) ps = take d.particles ps
model_at (suc i) (d ∷ ds) ps = model_at i ds (drop d.particles ps)

module _ (ns : List Bytes) where
  names_shaped : (d : FlatDefinition) (xs : List (Deep FlatParticle)) (cs : List Attribute) → Shaped d xs
      → names (members (record { name = d.name; content = content_of d.kind (read_members ns (build xs 0)); attributes = cs })) ≡ map (λ j. name_at j ns) (elements_in xs)
  unfolding names elements_in
  names_shaped d xs cs s = by d.kind refl
    where
      few : d.kind < 2 → [] ≡ map (λ j. name_at j ns) (elements_in xs)
      few l = rw (s.complex l)

      by : (k : ℕ) → d.kind ≡ k → names (model_of (content_of k (read_members ns (build xs 0)))) ≡ map (λ j. name_at j ns) (elements_in xs)
      by zero e = few (omega arith)
      by (suc zero) e = few (omega arith)
      by (suc (suc k)) e = names_elements ns 0 (build xs 0) s.leaves ∙ ap (λ (l : List (Deep FlatParticle)). map (λ j. name_at j ns) (elements_in l)) (preorder_build xs s.rises)

  pub models_read : (indices : ℕ → List ℕ) (o : ℕ) (ds : List FlatDefinition) (ps : List (Deep FlatParticle)) (cs : List FlatAttribute) → AllShaped ds ps
      → ((i : ℕ) → i < length ds → indices (o + i) ≡ elements_in (model_at i ds ps)) → Models ns indices o (read_form ns o ds ps cs)
  unfolding model_at
  models_read indices o [] ps cs s f = tt
  models_read indices o (d ∷ ds) ps cs (s, ss) f = (
    names_shaped d (take d.particles ps) (of_owner o cs) s ∙ ap (λ (l : List ℕ). map (λ j. name_at j ns) l) (sym (first (f 0 (omega arith)))),
    models_read indices (suc o) ds (drop d.particles ps) cs ss (λ i l. later i (f (suc i) (omega arith))),
  )
    where
      first : indices (o + 0) ≡ elements_in (take d.particles ps) → indices o ≡ elements_in (take d.particles ps)
      first e = let z : o ≡ o + 0 = omega arith in ap indices z ∙ e

      later : (i : ℕ) → indices (o + suc i) ≡ elements_in (model_at i ds (drop d.particles ps)) → indices (suc o + i) ≡ elements_in (model_at i ds (drop d.particles ps))
      later i e = let z : suc o + i ≡ o + suc i = omega arith in ap indices z ∙ e

  names_read : (o : ℕ) (ds : List FlatDefinition) (ps : List (Deep FlatParticle)) (cs : List FlatAttribute) → map definition_name (read_form ns o ds ps cs) ≡ map flat_name ds
  names_read o [] ps cs = refl
  names_read o (d ∷ ds) ps cs = ap (λ (l : List Bytes). d.name ∷ l) (names_read (suc o) ds (drop d.particles ps) cs)

  length_read : (o : ℕ) (ds : List FlatDefinition) (ps : List (Deep FlatParticle)) (cs : List FlatAttribute) → length (read_form ns o ds ps cs) ≡ length ds
  length_read o [] ps cs = refl
  length_read o (d ∷ ds) ps cs = ap suc (length_read (suc o) ds (drop d.particles ps) cs)

-- ---- the members in bytes
elements_read : (k : ℕ) (t : Bytes) → length t ≡ particle_size * k → elements_of t ≡ elements_in (read_many read_particle particle_size k t)
unfolding elements_of elements_in
elements_read zero [] e = refl
elements_read zero (a ∷ t) e = absurd (omega arith)
elements_read (suc k) [] e = absurd (omega arith)
elements_read (suc k) (a ∷ []) e = absurd (omega arith)
elements_read (suc k) (a ∷ b ∷ []) e = absurd (omega arith)
elements_read (suc k) (a ∷ b ∷ c ∷ []) e = absurd (omega arith)
elements_read (suc k) (a ∷ b ∷ c ∷ d ∷ t) e = by (eqb a 0) (elements_read k t (omega arith))
  where
    by : (x : Bool) → elements_of t ≡ elements_in (read_many read_particle particle_size k t)
        → ◌≡◌ {A = List ℕ} (elim x [ true ↦ c ∷ elements_of t | false ↦ elements_of t ])
        (elim x [ true ↦ c ∷ elements_in (read_many read_particle particle_size k t) | false ↦ elements_in (read_many read_particle particle_size k t) ])
    by true q = ap (λ (l : List ℕ). c ∷ l) q
    by false q = q

count_first : (defs : Bytes) → (read_definition (take definition_size defs)).particles ≡ count_at defs 0
count_first defs = ap (λ (l : Bytes). (read_definition l).particles) (record_first definition_size defs)

count_after_lem : (defs : Bytes) (i : ℕ) → count_at (drop definition_size defs) i ≡ count_at defs (suc i)
count_after_lem defs i = ap (λ (l : Bytes). (read_definition l).particles) (record_after definition_size i defs)

start_after : (defs : Bytes) (i : ℕ) → count_at defs 0 + start_at (drop definition_size defs) i ≡ start_at defs (suc i)
unfolding start_at
start_after defs zero = omega arith
start_after defs (suc i) = omega (arith, start_after defs i, count_after_lem defs i)

start_less : (defs : Bytes) (i k : ℕ) → start_at defs i ≤ start_at defs (i + k)
unfolding start_at
start_less defs i zero = let e : i + 0 ≡ i = omega arith in rw e (omega arith)
start_less defs i (suc k) = let e : i + suc k ≡ suc (i + k) = omega arith in rw e (omega (arith, start_less defs i k))

model_read : (n i : ℕ) (defs : Bytes) (ps : List (Deep FlatParticle)) → i < n → model_at i (read_many read_definition definition_size n defs) ps ≡ take (count_at defs i) (drop (start_at defs i) ps)
unfolding model_at start_at
model_read zero i defs ps l = absurd (not-suc-le-zero l)
model_read (suc n) zero defs ps l = ap (λ (c : ℕ). take c ps) (count_first defs)
model_read (suc n) (suc i) defs ps l =
    ap (λ (c : ℕ). model_at i (read_many read_definition definition_size n (drop definition_size defs)) (drop c ps)) (count_first defs)
    ∙ model_read n i (drop definition_size defs) (drop (count_at defs 0) ps) (le_of_suc-le-suc l)
    ∙ ap₂ (λ (c : ℕ) (l : List (Deep FlatParticle)). take c l) (count_after_lem defs i)
    (drop-drop (start_at (drop definition_size defs) i) (count_at defs 0) ps ∙ ap (λ (k : ℕ). drop k ps) (start_after defs i))

-- the bytes of c particles, s after the first, of p that are there
part_elements : (parts : Bytes) (p s c : ℕ) → particle_size * p ≤ length parts → s + c ≤ p → elements_of (part_of (particle_size * s) (particle_size * c) parts)
    ≡ elements_in (take c (drop s (read_many read_particle particle_size p parts)))
part_elements parts p s c long room =
    ap elements_of (part_there (particle_size * s) (particle_size * c) parts (omega arith))
    ∙ elements_read c (take (particle_size * c) (drop (particle_size * s) parts)) (omega (arith, length-take (particle_size * c) (drop (particle_size * s) parts), length-drop (particle_size * s) parts))
    ∙ ap elements_in (sym (many_part read_particle particle_size s c p parts room))

pub start_room : (defs : Bytes) (n i : ℕ) → i < n → start_at defs i + count_at defs i ≤ start_at defs n
unfolding start_at
start_room defs n i l = let z : suc i + (n - suc i) ≡ n = omega arith in rw z at (start_less defs (suc i) (n - suc i))

-- n definitions, whose counts give no more than the p particles that are there
module _ (defs parts : Bytes) (n p : ℕ) (few : start_at defs n ≤ p) (long : particle_size * p ≤ length parts) where
  pub members_read : (i : ℕ) → i < n → members_in defs parts i ≡ elements_in (model_at i (read_many read_definition definition_size n defs) (read_many read_particle particle_size p parts))
  unfolding members_in model_bytes
  members_read i l =
      part_elements parts p (start_at defs i) (count_at defs i) long (omega (arith, start_room defs n i l))
      ∙ ap elements_in (sym (model_read n i defs (read_many read_particle particle_size p parts) l))

-- the definitions and particles that are read, and the form of them
abbrev pub definitions_read : Bytes → ℕ → List FlatDefinition
definitions_read defs n = read_many read_definition definition_size n defs

abbrev pub particles_read : Bytes → ℕ → List (Deep FlatParticle)
particles_read parts p = read_many read_particle particle_size p parts

abbrev pub form_read : Bytes → Bytes → ℕ → ℕ → List FlatAttribute → Form
form_read defs parts n p cs = read_form (map flat_name (definitions_read defs n)) 0 (definitions_read defs n) (particles_read parts p) cs

-- the indices in the models are those of definitions
abbrev pub Within : ℕ → (ℕ → List ℕ) → Type 0
Within n indices = (i : ℕ) → i < n → (j : ℕ) → Memᴰ j (indices i) → j < n

pub record Readable (defs parts : Bytes) (n p : ℕ) : Type 0 where
  pub few : start_at defs n ≤ p
  pub long : particle_size * p ≤ length parts
  pub once : Distinct (map flat_name (definitions_read defs n))
  pub shaped : AllShaped (definitions_read defs n) (particles_read parts p)

module _ {defs parts : Bytes} {n p : ℕ} (g : Readable defs parts n p) (cs : List FlatAttribute) where
  count_read : length (form_read defs parts n p cs) ≡ n
  count_read = length_read (map flat_name (definitions_read defs n)) 0 (definitions_read defs n) (particles_read parts p) cs ∙ length_many read_definition definition_size n defs

  -- the form that is read has the members that the bytes have
  pub form_read_lem : Within n (members_in defs parts) → Indexed (members_in defs parts) (form_read defs parts n p cs)
  form_read_lem within =
      record {
        once = rw named g.once;
        within = rw count_read within;
        models = rw named
            (models_read (map flat_name (definitions_read defs n)) (members_in defs parts) 0 (definitions_read defs n) (particles_read parts p) cs g.shaped
            (λ i l. at i (omega (arith, length_many read_definition definition_size n defs))));
      }
    where
      named : map definition_name (form_read defs parts n p cs) ≡ map flat_name (definitions_read defs n)
      named = names_read (map flat_name (definitions_read defs n)) 0 (definitions_read defs n) (particles_read parts p) cs

      at : (i : ℕ) → i < n → members_in defs parts (0 + i) ≡ elements_in (model_at i (definitions_read defs n) (particles_read parts p))
      at i l = let z : 0 + i ≡ i = omega arith in ap (members_in defs parts) z ∙ members_read defs parts n p g.few g.long i l

  -- the heights fit just where all indices are those of definitions and no definition reaches itself
  pub fit_read : {r : Result Bytes Bytes} → Ranked n (members_in defs parts) r → IsOk r ↔ (Within n (members_in defs parts) × ((x : Bytes) → Reaches (form_read defs parts n p cs) x x → ⊥))
  fit_read {r} k = (to, from)
    where
      to : IsOk r → Within n (members_in defs parts) × ((x : Bytes) → Reaches (form_read defs parts n p cs) x x → ⊥)
      to e =
          let f = k.fit.0 e in
          let w = fit_within n (members_in defs parts) f in
          (w, (fit_acyclic (form_read_lem w)).0 (subst (λ (m : ℕ). (i : ℕ) → i < m → deep_index (members_in defs parts) m m i ≡ true) (sym count_read) f))

      from : Within n (members_in defs parts) × ((x : Bytes) → Reaches (form_read defs parts n p cs) x x → ⊥) → IsOk r
      from (w, a) = k.fit.1 (subst (λ (m : ℕ). (i : ℕ) → i < m → deep_index (members_in defs parts) m m i ≡ true) count_read ((fit_acyclic (form_read_lem w)).1 a))
