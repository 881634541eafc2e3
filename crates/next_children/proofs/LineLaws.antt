-- A model's line, entry by entry: the sets of each last child are those that the automaton steps by.
use mathlib.Core.Path.{◌≡◌, refl, sym, ap, ap₂, ◌∙◌}
use mathlib.Core.Bool.{Bool, true, false, ◌&&◌, ◌||◌, and-true, and-false}
use Prim.Native.Nat.{ℕ, zero, suc, ◌+◌, ◌<◌, ◌≤◌}
use native.Mathlib.Omega.{arith}
use native.Mathlib.Numerals.{add-one}
use borrow.Author.Tests.{lt-ltb, le-ltb, ltb-true, ltb-false, eqb-true, eqb-false, ne_eqb}
use lib.Dec.{eqb, ltb}
use lib.ListN.{length, get_or, set, length-set}
use lib.Seq.{get_or-set_same, get_or-set_other}
use Rattle.rules.specs.declared.Facts.{Facts}
use Rattle.rules.specs.declared.Quantifier.{Quantifier}
use Rattle.rules.specs.declared.Quantifier.TheVariants.{None, Qmark, Star, Plus}
use Rattle.rules.specs.declared.GroupKind.{GroupKind}
use Rattle.rules.specs.declared.GroupKind.TheVariants.{Sequence, Choice}
use Rattle.rules.specs.Bytes.{numbers}
use Rattle.rules.specs.Model.{Members, done, el, group}
use Rattle.rules.specs.Automaton.{single, join, quantify_facts, facts}
use Rattle.sets.specs.Sets.{has, bit, union, whole_if}
use Rattle.sets.proofs.Laws.{has_none, has_bit, has_union, has_given}
use Rattle.model.specs.Steps.{steps, finishes}
use Rattle.model.proofs.FactsLaws.{facts_nothing, or_never}
use Rattle.automaton.specs.declared.Nexts.{Nexts}
use Rattle.next_children.specs.Nexts.{Told}
use Rattle.next_children.specs.Names.{After}
use Rattle.next_children.specs.Line.{NextsLine, LineLaid}
use Rattle.next_children.specs.declared.Line.{Line}

-- ---- what a word's first can be does not depend on x
record Alike (f g : Facts) : Type 0 where
  nothing_same : f.nothing ≡ g.nothing
  first_same : f.first ≡ g.first

alike_join : (k : GroupKind) (f g f' g' : Facts) → Alike f f' → Alike g g' → Alike (join k f g) (join k f' g')
alike_join Sequence f g f' g' t u =
    record {
      nothing_same = ap₂ (λ (i j : Bool). i && j) t.nothing_same u.nothing_same;
      first_same = ap₂ (λ (i j : Bool). i || j) t.first_same (ap₂ (λ (i j : Bool). i && j) t.nothing_same u.first_same);
    }
alike_join Choice f g f' g' t u =
    record { nothing_same = ap₂ (λ (i j : Bool). i || j) t.nothing_same u.nothing_same; first_same = ap₂ (λ (i j : Bool). i || j) t.first_same u.first_same }

alike_quantify : (q : Quantifier) (f g : Facts) → Alike f g → Alike (quantify_facts q f) (quantify_facts q g)
alike_quantify None f g t = t
alike_quantify Qmark f g t = record { nothing_same = refl; first_same = t.first_same }
alike_quantify Star f g t = record { nothing_same = refl; first_same = t.first_same }
alike_quantify Plus f g t = record { nothing_same = t.nothing_same; first_same = t.first_same }

alike_facts : (k : GroupKind) (ms : Members ℕ) (x z y : ℕ) → Alike (facts numbers k ms x y) (facts numbers k ms z y)
unfolding facts
alike_facts k done x z y = record { nothing_same = refl; first_same = refl }
alike_facts k (el q n rest) x z y =
    alike_join k (quantify_facts q (single numbers n x y)) (facts numbers k rest x y) (quantify_facts q (single numbers n z y)) (facts numbers k rest z y)
    (alike_quantify q (single numbers n x y) (single numbers n z y) (record { nothing_same = refl; first_same = refl })) (alike_facts k rest x z y)
alike_facts k (group q j ms rest) x z y =
    alike_join k (quantify_facts q (facts numbers j ms x y)) (facts numbers k rest x y) (quantify_facts q (facts numbers j ms z y)) (facts numbers k rest z y)
    (alike_quantify q (facts numbers j ms x y) (facts numbers j ms z y) (alike_facts j ms x z y)) (alike_facts k rest x z y)

-- ---- what the sets of a whole model say of the automaton
module _ (ms : Members ℕ) (x : ℕ) (r : Nexts ℕ) (t : Told r (λ y. facts numbers Sequence ms x y)) where
  first_steps : (y : ℕ) → y < 64 → has r.first y ≡ steps ms 0 y
  unfolding steps
  first_steps y h = t.first_is y h ∙ (alike_facts Sequence ms x y y).first_same

  nothing_finishes : r.nothing ≡ finishes ms 0
  unfolding finishes
  nothing_finishes = t.nothing_is x ∙ facts_nothing numbers Sequence ms x x

-- ---- the loop over the last children
-- the set with x in it where b says so
pub ends_more : (x last : ℕ) (old b : Bool) (f : ℕ → Bool) → b ≡ f x → old ≡ (ltb last x && f last) → (old || (b && eqb last x)) ≡ (ltb last (suc x) && f last)
ends_more x last old b f eb eo = by (ltb last x) refl (eqb last x) refl
  where
    by : (c : Bool) → ltb last x ≡ c → (d : Bool) → eqb last x ≡ d → (old || (b && eqb last x)) ≡ (ltb last (suc x) && f last)
    by true e d q = rw (eo, e, ne_eqb last x (λ z. omega (arith, ltb-true last x e)), lt-ltb last (suc x) (omega (arith, ltb-true last x e))) (or_never (f last) b)
    by false e true q =
        let z : last ≡ x = eqb-true last x q in
        rw (eo, e, q, lt-ltb last (suc x) (omega arith)) (and-true b ∙ eb ∙ ap f (sym z))
    by false e false q =
        let z : last ≡ x → ⊥ = eqb-false last x q in
        rw (eo, e, q, le-ltb last (suc x) (omega (arith, ltb-false last x e, z))) (and-false b)

-- of the children below n the first x are in the line
pub record Lining (n : ℕ) (ms : Members ℕ) (x lasts : ℕ) (l : Line) : Type 0 where
  pub low : x ≤ n
  pub long : length l.after ≡ 65
  pub laid : LineLaid ms x lasts l

module _ (n : ℕ) (ms : Members ℕ) where
  -- with none of them there are those that may come first, and whether no child is owed at all
  pub lining_starts : (none : Nexts ℕ) → Told none (λ y. facts numbers Sequence ms 0 y) → (l : Line) → length l.after ≡ 65
      → Lining n ms 0 0 (record { after = set l.after 0 none.first; lasts = l.lasts; nothing = none.nothing })
  lining_starts none told l long =
      record {
        low = omega arith;
        long = length-set l.after 0 none.first ∙ long;
        laid =
            record {
              next_is = next;
              ends_is = λ last h. has_none last ∙ sym (ap (λ (b : Bool). b && finishes ms (suc last)) (le-ltb last 0 (omega arith)));
              nothing_is = nothing_finishes ms 0 none told;
            };
      }
    where
      next : (last y : ℕ) → last ≤ 0 → y < 64 → has (get_or (set l.after 0 none.first) last 0) y ≡ steps ms last y
      next zero y h k = ap (λ (s : ℕ). has s y) (get_or-set_same l.after 0 none.first 0 (omega (arith, long))) ∙ first_steps ms 0 none told y k
      next (suc x) y h k = absurd (omega arith)

  module _ (x lasts : ℕ) (l : Line) (so_far : Lining n ms x lasts l) (small : n ≤ 64) where
    pub lining_on : x < n → (r : Nexts ℕ) → After ms x r → (one more all : ℕ) → one ≡ bit x → more ≡ whole_if r.last one → all ≡ union lasts more
        → Lining n ms (x + 1) all (record { after = set l.after (x + 1) r.follow; lasts = l.lasts; nothing = l.nothing })
    lining_on h r after one more all e₁ e₂ e₃ =
        record {
          low = omega arith;
          long = length-set l.after (x + 1) r.follow ∙ so_far.long;
          laid =
              record {
                next_is = λ last y k m. by last y k m (eqb last (x + 1)) refl;
                ends_is =
                    λ last k. ap (λ (s : ℕ). has s last) (e₃ ∙ ap (union lasts) (e₂ ∙ ap (whole_if r.last) e₁)) ∙ has_union lasts (whole_if r.last (bit x)) last
                    ∙ ap (λ (b : Bool). has lasts last || b) (has_given r.last (bit x) last ∙ ap (λ (b : Bool). r.last && b) (has_bit x last k))
                    ∙ ends_more x last (has lasts last) r.last (λ i. finishes ms (suc i)) after.last_is (so_far.laid.ends_is last k)
                    ∙ ap (λ (i : ℕ). ltb last i && finishes ms (suc last)) (sym (add-one x));
                nothing_is = so_far.laid.nothing_is;
              };
        }
      where
        by : (last y : ℕ) → last ≤ x + 1 → y < 64 → (b : Bool) → eqb last (x + 1) ≡ b → has (get_or (set l.after (x + 1) r.follow) last 0) y ≡ steps ms last y
        by last y k m true e =
            let z : last ≡ x + 1 = eqb-true last (x + 1) e in
            rw (z, get_or-set_same l.after (x + 1) r.follow 0 (omega (arith, so_far.long))) (after.follow_is y m ∙ ap (λ (i : ℕ). steps ms i y) (sym (add-one x)))
        by last y k m false e =
            let z : last ≡ x + 1 → ⊥ = eqb-false last (x + 1) e in
            ap (λ (s : ℕ). has s y) (get_or-set_other l.after (x + 1) last r.follow 0 z) ∙ so_far.laid.next_is last y (omega (arith, z)) m

    pub lining_ends : n ≤ x → NextsLine n ms (record { after = l.after; lasts = lasts; nothing = l.nothing })
    lining_ends h =
        record {
          next_is = λ last y k m. so_far.laid.next_is last y (omega arith) m;
          ends_is = λ i k. so_far.laid.ends_is i (omega arith) ∙ ap (λ (b : Bool). b && finishes ms (suc i)) (lt-ltb i x (omega arith));
          nothing_is = so_far.laid.nothing_is;
        }
