-- In the particles of a model a place stands where its context says, and a change there leaves the particles around it.
use mathlib.Core.Path.{◌≡◌, refl, sym, ap, ap₂, ◌∙◌}
use mathlib.Core.Bool.{Bool, true, false, ◌&&◌}
use mathlib.Core.Option.{Option, none, some}
use mathlib.Core.List.{List, [], ◌∷◌, ◌++◌, append_assoc, append-nil}
use Prim.Native.Nat.{ℕ, zero, suc, ◌+◌, ◌<◌}
use native.Mathlib.Omega.{arith}
use borrow.Author.Tests.{lt-ltb, le-ltb, eq-eqb}
use lib.ListN.{length, take, drop, get_or, length-append}
use lib.Seq.{take_at, drop-append-add, drop-drop, get_or-drop}
use Rattle.rules.specs.declared.Quantifier.{Quantifier}
use Rattle.rules.specs.declared.GroupKind.{GroupKind}
use Rattle.rules.specs.declared.GroupKind.TheVariants.{Sequence, Choice}
use Rattle.rules.specs.Bytes.{Bytes}
use Rattle.rules.specs.Model.{Members, done, el, group, rename}
use Rattle.rules.specs.Store.{Form}
use Rattle.rules.specs.Preorder.{Deep, preorder}
use Rattle.rules.specs.Layout.{FlatParticle, group_code, how_many, index_of, particles}
use Rattle.rules.specs.Place.{Found as Spot, Context, here, past, over, into, plug, plain, within, after_members, in_group as inside, right, present, gap, find}
use Rattle.model.specs.declared.What.TheVariants.{Group}
use Rattle.model.specs.declared.place.Holder.{Holder}
use Rattle.model.specs.declared.place.Reached.{Reached}
use Rattle.model.specs.declared.place.Reached.TheVariants.{Member, End, Few}
use Rattle.model.specs.declared.place.Found.{Found}
use Rattle.std.specs.Prelude.{Option as Maybe}
use Rattle.model.specs.Particle.{what_of, particle_of}
use Rattle.model.specs.Places.{Particles, leads_to, onward, reach, span_of, at_member, at_gap, last_of, no_particle, entered_at, entered_of, go_on, spot_of, last_by}
use Rattle.model.specs.Positions.{element_particle, group_particle, spread, count, offset, holder, spot_in, leading, trailing, level}
use Rattle.model.proofs.FindLaws.{reach_deeper, reach_here, reach_past}
use Rattle.rules.proofs.DecodeLaws.{quantifier_code_lem}

-- ---- the particles of members
pub length_spread : (d : ℕ) (ms : Members ℕ) → length (spread d ms) ≡ count ms
length_spread d done = refl
length_spread d (el q i rest) = ap suc (length_spread d rest)
length_spread d (group q k ms rest) = ap suc (length-append (spread (suc d) ms) (spread d rest) ∙ ap₂ (λ (i j : ℕ). i + j) (length_spread (suc d) ms) (length_spread d rest))

pub many_named : {A B : Type 0} (f : A → B) (ms : Members A) → how_many (rename f ms) ≡ how_many ms
unfolding rename
many_named f done = refl
many_named f (el q i rest) = ap suc (many_named f rest)
many_named f (group q k ms rest) = ap suc (many_named f rest)

-- those that the layout writes, each name as its index
pub spread_named : (form : Form) (d : ℕ) (ms : Members Bytes) → preorder d (particles form ms) ≡ spread d (rename (λ n. index_of n form) ms)
unfolding rename
spread_named form d done = refl
spread_named form d (el q i rest) = ap (λ (l : Particles). element_particle d q (index_of i form) ∷ l) (spread_named form d rest)
spread_named form d (group q k ms rest) =
    ap₂ (λ (n : ℕ) (l : Particles). group_particle d q k n ∷ l) (sym (many_named (λ (n : Bytes). index_of n form) ms))
    (ap₂ (λ (u v : Particles). u ++ v) (spread_named form (suc d) ms) (spread_named form d rest))

-- A CHANGE AT A PLACE: the particles before it and after it stay, but for the member count of the group around it
pub spread_plug : (d : ℕ) (c : Context ℕ) (t : Members ℕ) → spread d (plug c t) ≡ leading d c t ++ (spread (level d c) t ++ trailing d c)
unfolding plug
spread_plug d here t = sym (append-nil (spread d t))
spread_plug d (past q i c) t = ap (λ (l : Particles). element_particle d q i ∷ l) (spread_plug d c t)
spread_plug d (over q k ms c) t =
    ap (λ (l : Particles). group_particle d q k (how_many ms) ∷ l)
    (ap (λ (l : Particles). spread (suc d) ms ++ l) (spread_plug d c t) ∙ sym (append_assoc (spread (suc d) ms) (leading d c t) (spread (level d c) t ++ trailing d c)))
spread_plug d (into q k c rest) t =
    ap (λ (l : Particles). group_particle d q k (how_many (plug c t)) ∷ l)
    (ap (λ (l : Particles). l ++ spread d rest) (spread_plug (suc d) c t)
    ∙ append_assoc (leading (suc d) c t) (spread (level (suc d) c) t ++ trailing (suc d) c) (spread d rest)
    ∙ ap (λ (l : Particles). leading (suc d) c t ++ l) (append_assoc (spread (level (suc d) c) t) (trailing (suc d) c) (spread d rest)))

pub length_leading : (d : ℕ) (c : Context ℕ) (t : Members ℕ) → length (leading d c t) ≡ offset c
length_leading d here t = refl
length_leading d (past q i c) t = ap suc (length_leading d c t)
length_leading d (over q k ms c) t = ap suc (length-append (spread (suc d) ms) (leading d c t) ∙ ap₂ (λ (i j : ℕ). i + j) (length_spread (suc d) ms) (length_leading d c t))
length_leading d (into q k c rest) t = ap suc (length_leading (suc d) c t)

-- ---- past members
onward_none : (r : Reached) → onward 0 r ≡ r
onward_none (Member p) = let e : 0 + p ≡ p = omega arith in ap (λ (i : ℕ). Member i) e
onward_none (End p) = let e : 0 + p ≡ p = omega arith in ap (λ (i : ℕ). End i) e
onward_none Few = refl

onward_add : (i j k : ℕ) (r : Reached) → i + j ≡ k → onward i (onward j r) ≡ onward k r
onward_add i j k (Member p) h = let e : i + (j + p) ≡ k + p = omega arith in ap (λ (z : ℕ). Member z) e
onward_add i j k (End p) h = let e : i + (j + p) ≡ k + p = omega arith in ap (λ (z : ℕ). End z) e
onward_add i j k Few h = refl

skip : (d n e : ℕ) (ms : Members ℕ) (ys : Particles) → d < e → reach d n (spread e ms ++ ys) ≡ onward (count ms) (reach d n ys)
skip d n e done ys l = sym (onward_none (reach d n ys))
skip d n e (el q i rest) ys l =
    reach_deeper (element_particle e q i) (spread e rest ++ ys) d n (lt-ltb d e l)
    ∙ ap (λ (r : Reached). onward 1 r) (skip d n e rest ys l)
    ∙ onward_add 1 (count rest) (suc (count rest)) (reach d n ys) (omega arith)
skip d n e (group q k ms rest) ys l =
    reach_deeper (group_particle e q k (how_many ms)) ((spread (suc e) ms ++ spread e rest) ++ ys) d n (lt-ltb d e l)
    ∙ ap (λ (r : Reached). onward 1 r)
    (ap (λ (zs : Particles). reach d n zs) (append_assoc (spread (suc e) ms) (spread e rest) ys)
    ∙ skip d n (suc e) ms (spread e rest ++ ys) (omega arith)
    ∙ ap (λ (r : Reached). onward (count ms) r) (skip d n e rest ys l)
    ∙ onward_add (count ms) (count rest) (count ms + count rest) (reach d n ys) refl)
    ∙ onward_add 1 (count ms + count rest) (suc (count ms + count rest)) (reach d n ys) (omega arith)

pub span_skip : (d e : ℕ) (ms : Members ℕ) (ys : Particles) → d < e → span_of d (spread e ms ++ ys) ≡ count ms + span_of d ys
unfolding span_of
span_skip d e done ys l = omega arith
span_skip d e (el q i rest) ys l = rw (lt-ltb d e l, span_of) (omega (arith, span_skip d e rest ys l))
span_skip d e (group q k ms rest) ys l =
    rw (lt-ltb d e l, span_of)
    (omega (arith, ap (λ (zs : Particles). span_of d zs) (append_assoc (spread (suc e) ms) (spread e rest) ys), span_skip d (suc e) ms (spread e rest ++ ys) (omega arith), span_skip d e rest ys l))

span_none : (d : ℕ) (ms : Members ℕ) → span_of d (spread d ms) ≡ 0
unfolding span_of
span_none d done = refl
span_none d (el q i rest) = rw (le-ltb d d (omega arith), span_of)
span_none d (group q k ms rest) = rw (le-ltb d d (omega arith), span_of)

-- where reach stands, with the members t from there on
abbrev standing : Members ℕ → ℕ → Reached
standing done p = End p
standing (el q i rest) p = Member p
standing (group q k ms rest) p = Member p

standing_on : (t : Members ℕ) (j p k : ℕ) → j + p ≡ k → onward j (standing t p) ≡ standing t k
standing_on done j p k h = ap (λ (z : ℕ). End z) h
standing_on (el q i rest) j p k h = ap (λ (z : ℕ). Member z) h
standing_on (group q g ms rest) j p k h = ap (λ (z : ℕ). Member z) h

within_none : (o : Option (Spot ℕ)) → within (λ c. c) o ≡ o
within_none none = refl
within_none (some f) = refl

within_then : (F G : Context ℕ → Context ℕ) (o : Option (Spot ℕ)) → within F (within G o) ≡ within (λ c. F (G c)) o
within_then F G none = refl
within_then F G (some f) = refl

-- n members of ms are passed, which are p particles: the members t are left, and F is what of the context they make
record Passed (d n : ℕ) (ms : Members ℕ) (F : Context ℕ → Context ℕ) (p : ℕ) (t : Members ℕ) : Type 0 where
  same : (go : Members ℕ → Option (Spot ℕ)) → after_members go n ms ≡ within F (go t)
  left : drop p (spread d ms) ≡ spread d t
  moved : (c : Context ℕ) → offset (F c) ≡ p + offset c
  held : (h : Holder) (i : ℕ) (c : Context ℕ) → holder h i (F c) ≡ holder h (i + p) c
  reached : reach d n (spread d ms) ≡ standing t p

data Walk (d n : ℕ) (ms : Members ℕ) : Type 0 where
  walked : (F : Context ℕ → Context ℕ) (p : ℕ) (t : Members ℕ) → Passed d n ms F p t → Walk d n ms
  short : reach d n (spread d ms) ≡ Few → ((go : Members ℕ → Option (Spot ℕ)) → after_members go n ms ≡ none) → Walk d n ms

reach_first : (d : ℕ) (ms : Members ℕ) → reach d zero (spread d ms) ≡ standing ms 0
unfolding reach
reach_first d done = refl
reach_first d (el q i rest) = reach_here (element_particle d q i) (spread d rest) d (le-ltb d d (omega arith)) (eq-eqb d d refl)
reach_first d (group q k ms rest) = reach_here (group_particle d q k (how_many ms)) (spread (suc d) ms ++ spread d rest) d (le-ltb d d (omega arith)) (eq-eqb d d refl)

walk : (ms : Members ℕ) (d n : ℕ) → Walk d n ms
unfolding reach after_members
walk ms d zero =
    walked (λ c. c) 0 ms
    (record {
      same = λ go. sym (within_none (go ms));
      left = refl;
      moved = λ c. omega arith;
      held = λ h i c. let e : i ≡ i + 0 = omega arith in ap (λ (j : ℕ). holder h j c) e;
      reached = reach_first d ms;
    })
walk done d (suc n) = short refl (λ go. refl)
walk (el q i rest) d (suc n) = by (walk rest d n)
  where
    one : reach d (suc n) (spread d (el q i rest)) ≡ onward 1 (reach d n (spread d rest))
    one = reach_past (element_particle d q i) (spread d rest) d n (le-ltb d d (omega arith)) (eq-eqb d d refl)

    by : Walk d n rest → Walk d (suc n) (el q i rest)
    by (walked F p t w) =
        walked (λ c. past q i (F c)) (suc p) t
        (record {
          same = λ go. ap (λ (o : Option (Spot ℕ)). within (past q i) o) (w.same go) ∙ within_then (past q i) F (go t);
          left = w.left;
          moved = λ c. omega (arith, w.moved c);
          held = λ h j c. let e : suc j + p ≡ j + suc p = omega arith in w.held h (suc j) c ∙ ap (λ (z : ℕ). holder h z c) e;
          reached = one ∙ ap (λ (r : Reached). onward 1 r) w.reached ∙ standing_on t 1 p (suc p) (omega arith);
        })
    by (short e f) = short (one ∙ ap (λ (r : Reached). onward 1 r) e) (λ go. ap (λ (o : Option (Spot ℕ)). within (past q i) o) (f go))
walk (group q k ms rest) d (suc n) = by (walk rest d n)
  where
    one : reach d (suc n) (spread d (group q k ms rest)) ≡ onward 1 (onward (count ms) (reach d n (spread d rest)))
    one =
        reach_past (group_particle d q k (how_many ms)) (spread (suc d) ms ++ spread d rest) d n (le-ltb d d (omega arith)) (eq-eqb d d refl)
        ∙ ap (λ (r : Reached). onward 1 r) (skip d n (suc d) ms (spread d rest) (omega arith))

    by : Walk d n rest → Walk d (suc n) (group q k ms rest)
    by (walked F p t w) =
        walked (λ c. over q k ms (F c)) (suc (count ms + p)) t
        (record {
          same = λ go. ap (λ (o : Option (Spot ℕ)). within (over q k ms) o) (w.same go) ∙ within_then (over q k ms) F (go t);
          left = ap (λ (z : ℕ). drop (z + p) (spread (suc d) ms ++ spread d rest)) (sym (length_spread (suc d) ms)) ∙ drop-append-add (spread (suc d) ms) (spread d rest) p ∙ w.left;
          moved = λ c. omega (arith, w.moved c);
          held = λ h j c. let e : suc (count ms + j) + p ≡ j + suc (count ms + p) = omega arith in w.held h (suc (count ms + j)) c ∙ ap (λ (z : ℕ). holder h z c) e;
          reached =
              one
              ∙ ap (λ (r : Reached). onward 1 (onward (count ms) r)) w.reached
              ∙ ap (λ (r : Reached). onward 1 r) (standing_on t (count ms) p (count ms + p) refl)
              ∙ standing_on t 1 (count ms + p) (suc (count ms + p)) (omega arith);
        })
    by (short e f) = short (one ∙ ap (λ (r : Reached). onward 1 (onward (count ms) r)) e) (λ go. ap (λ (o : Option (Spot ℕ)). within (over q k ms) o) (f go))

-- ---- a number of a place
module _ (h : Holder) (ms : Members ℕ) where
  -- what is found with t from there on
  spot_here : (F : Context ℕ → Context ℕ) (p n : ℕ) (t : Members ℕ) → Passed h.depth n ms F p t → spot_in h (within F (right t)) ≡ leads_to h (h.start + p)
  spot_here F p n t w =
      let e : offset (F here) ≡ p = omega (arith, w.moved here) in
      ap₂ (λ (g : Holder) (i : ℕ). leads_to g (h.start + i)) (w.held h 0 here) e

  gap_spot : (n : ℕ) → Walk h.depth n ms → last_of true n h (spread h.depth ms) ≡ spot_in h (gap n ms)
  gap_spot n (walked F p t w) = ap (λ (r : Reached). at_gap h r) w.reached ∙ at_t t ∙ sym (ap (λ (o : Option (Spot ℕ)). spot_in h o) (w.same right) ∙ spot_here F p n t w)
    where
      at_t : (t : Members ℕ) → at_gap h (standing t p) ≡ leads_to h (h.start + p)
      at_t done = refl
      at_t (el q i rest) = refl
      at_t (group q k ns rest) = refl
  gap_spot n (short e f) = ap (λ (r : Reached). at_gap h r) e ∙ sym (ap (λ (o : Option (Spot ℕ)). spot_in h o) (f right))

  nth_spot : (n : ℕ) → Walk h.depth n ms → at_member h (reach h.depth n (spread h.depth ms)) ≡ spot_in h (after_members present n ms)
  nth_spot n (walked F p t w) = ap (λ (r : Reached). at_member h r) w.reached ∙ at_t t w ∙ sym (ap (λ (o : Option (Spot ℕ)). spot_in h o) (w.same present))
    where
      at_t : (t : Members ℕ) → Passed h.depth n ms F p t → at_member h (standing t p) ≡ spot_in h (within F (present t))
      at_t done w = refl
      at_t (el q i rest) w = sym (spot_here F p n (el q i rest) w)
      at_t (group q k ns rest) w = sym (spot_here F p n (group q k ns rest) w)
  nth_spot n (short e f) = ap (λ (r : Reached). at_member h r) e ∙ sym (ap (λ (o : Option (Spot ℕ)). spot_in h o) (f present))

  last_spot : (insert : Bool) (n : ℕ) → last_of insert n h (spread h.depth ms) ≡ spot_in h (last_by insert n ms)
  last_spot true n = gap_spot n (walk ms h.depth n)
  last_spot false zero = refl
  last_spot false (suc n) = nth_spot n (walk ms h.depth n)

-- ---- a number that picks a group
pub code_group : (k : GroupKind) (n : ℕ) → what_of (group_code k) n ≡ Group k n
code_group Sequence n = refl
code_group Choice n = refl

first_of : (xs : Particles) (p : ℕ) (x : Deep FlatParticle) (ys : Particles) → drop p xs ≡ x ∷ ys → get_or xs p no_particle ≡ x
first_of xs p x ys e =
    let z : p + 0 ≡ p = omega arith in
    ap (λ (i : ℕ). get_or xs i no_particle) (sym z) ∙ sym (get_or-drop p xs 0 no_particle) ∙ ap (λ (l : Particles). get_or l 0 no_particle) e

rest_of : (xs : Particles) (p : ℕ) (x : Deep FlatParticle) (ys : Particles) → drop p xs ≡ x ∷ ys → drop (p + 1) xs ≡ ys
rest_of xs p x ys e = sym (drop-drop 1 p xs) ∙ ap (λ (l : Particles). drop 1 l) e

abbrev pub Placed : Bool → List ℕ → Type 0
Placed insert place = (h : Holder) (ms : Members ℕ) → spot_of insert place h (spread h.depth ms) ≡ spot_in h (find (last_by insert) place ms)

module _ (insert : Bool) (m : ℕ) (ns : List ℕ) (ih : Placed insert (m ∷ ns)) (h : Holder) (ms : Members ℕ) where
  abbrev xs : Particles
  xs = spread h.depth ms

  abbrev goes : Members ℕ → Option (Spot ℕ)
  goes t = find (last_by insert) (m ∷ ns) t

  abbrev on_from : Holder → ℕ → ℕ → Maybe Found
  on_from g from size = spot_of insert (m ∷ ns) g (take size (drop from xs))

  abbrev list_of : ℕ → Quantifier → GroupKind → Holder
  list_of p q k = record { start = h.start + (p + 1); depth = h.depth + 1; kind = k; spine = h.spine && plain q k }

  -- the part of the group at particle p
  part_is : (p : ℕ) (q : Quantifier) (k : GroupKind) (ins rest : Members ℕ) → drop p xs ≡ spread h.depth (group q k ins rest)
      → take (span_of h.depth (drop (p + 1) xs)) (drop (p + 1) xs) ≡ spread (h.depth + 1) ins
  part_is p q k ins rest e =
      let d : h.depth + 1 ≡ suc h.depth = omega arith in
      let f : drop (p + 1) xs ≡ spread (suc h.depth) ins ++ spread h.depth rest =
      rest_of xs p (group_particle h.depth q k (how_many ins)) (spread (suc h.depth) ins ++ spread h.depth rest) e in
      let n : span_of h.depth (spread (suc h.depth) ins ++ spread h.depth rest) ≡ count ins =
      omega (arith, span_skip h.depth (suc h.depth) ins (spread h.depth rest) (omega arith), span_none h.depth rest) in
      rw (f, n, d) (take_at (spread (suc h.depth) ins) (spread h.depth rest) (count ins) (length_spread (suc h.depth) ins))

  -- what the group's members give, seen from the list around it
  around : (F : Context ℕ → Context ℕ) (p n : ℕ) (q : Quantifier) (k : GroupKind) (ins rest : Members ℕ) → Passed h.depth n ms F p (group q k ins rest) → (o : Option (Spot ℕ))
      → spot_in (list_of p q k) o ≡ spot_in h (within F (within (λ c. into q k c rest) o))
  around F p n q k ins rest w none = refl
  around F p n q k ins rest w (some f) =
      let z : 0 + p ≡ p = omega arith in
      let e : h.start + (p + 1) + offset f.context ≡ h.start + offset (F (into q k f.context rest)) = omega (arith, w.moved (into q k f.context rest)) in
      let g : holder (list_of p q k) 0 f.context ≡ holder h 0 (F (into q k f.context rest)) =
      sym (w.held h 0 (into q k f.context rest) ∙ ap (λ (i : ℕ). holder h i (into q k f.context rest)) z) in
      ap₂ (λ (l : Holder) (i : ℕ). leads_to l i) g e

  entered : (F : Context ℕ → Context ℕ) (p n : ℕ) (t : Members ℕ) → Passed h.depth n ms F p t → go_on (entered_at h xs (standing t p)) on_from ≡ spot_in h (within F (inside goes t))
  unfolding particle_of
  entered F p n done w = refl
  entered F p n (el q i rest) w = rw (first_of xs p (element_particle h.depth q i) (spread h.depth rest) w.left)
  entered F p n (group q k ins rest) w =
      rw (first_of xs p (group_particle h.depth q k (how_many ins)) (spread (suc h.depth) ins ++ spread h.depth rest) w.left, code_group k (how_many ins), quantifier_code_lem q)
      (rw (part_is p q k ins rest w.left) (ih (list_of p q k) ins ∙ around F p n q k ins rest w (goes ins)))

  group_spot : (n : ℕ) → go_on (entered_of n h xs) on_from ≡ spot_in h (find (last_by insert) (n ∷ m ∷ ns) ms)
  unfolding find
  group_spot zero = refl
  group_spot (suc n) = by (walk ms h.depth n)
    where
      by : Walk h.depth n ms → go_on (entered_at h xs (reach h.depth n xs)) on_from ≡ spot_in h (after_members (inside goes) n ms)
      by (walked F p t w) = rw (w.reached, w.same (inside goes)) (entered F p n t w)
      by (short e f) = rw (e, f (inside goes))

-- THE POSITION: in the particles of a model, a place stands where the context that the rules find says
pub place_spot : (insert : Bool) (place : List ℕ) → Placed insert place
unfolding spot_of find
place_spot insert [] h ms = refl
place_spot insert (n ∷ []) h ms = last_spot h ms insert n
place_spot insert (n ∷ m ∷ ns) h ms = group_spot insert m ns (λ g ts. place_spot insert (m ∷ ns) g ts) h ms n
