-- What the sets say of each name below 64, they say of the facts of any; and what does not depend on the next child.
use mathlib.Core.Path.{◌≡◌, refl, ap, ap₂, ◌∙◌}
use mathlib.Core.Bool.{Bool, ◌&&◌, ◌||◌}
use Prim.Native.Nat.{ℕ, ◌<◌}
use native.Mathlib.Omega.{arith}
use Rattle.rules.specs.declared.Facts.{Facts}
use Rattle.rules.specs.declared.Quantifier.{Quantifier}
use Rattle.rules.specs.declared.Quantifier.TheVariants.{None, Qmark, Star, Plus}
use Rattle.rules.specs.declared.GroupKind.{GroupKind}
use Rattle.rules.specs.declared.GroupKind.TheVariants.{Sequence, Choice}
use Rattle.rules.specs.Bytes.{numbers}
use Rattle.rules.specs.Model.{Members, done, el, group}
use Rattle.rules.specs.Automaton.{single, join, quantify_facts, facts}
use Rattle.sets.specs.Sets.{has}
use Rattle.automaton.specs.declared.Nexts.{Nexts}
use Rattle.automaton.specs.Nexts.{told}
use Rattle.next_children.specs.Nexts.{Told}

-- ---- whether x can be a word's last does not depend on y
record Ending (f g : Facts) : Type 0 where
  nothing_same : f.nothing ≡ g.nothing
  last_same : f.last ≡ g.last

ending_join : (k : GroupKind) (f g f' g' : Facts) → Ending f f' → Ending g g' → Ending (join k f g) (join k f' g')
ending_join Sequence f g f' g' t u =
    record {
      nothing_same = ap₂ (λ (i j : Bool). i && j) t.nothing_same u.nothing_same;
      last_same = ap₂ (λ (i j : Bool). i || j) u.last_same (ap₂ (λ (i j : Bool). i && j) u.nothing_same t.last_same);
    }
ending_join Choice f g f' g' t u =
    record { nothing_same = ap₂ (λ (i j : Bool). i || j) t.nothing_same u.nothing_same; last_same = ap₂ (λ (i j : Bool). i || j) t.last_same u.last_same }

ending_quantify : (q : Quantifier) (f g : Facts) → Ending f g → Ending (quantify_facts q f) (quantify_facts q g)
ending_quantify None f g t = t
ending_quantify Qmark f g t = record { nothing_same = refl; last_same = t.last_same }
ending_quantify Star f g t = record { nothing_same = refl; last_same = t.last_same }
ending_quantify Plus f g t = record { nothing_same = t.nothing_same; last_same = t.last_same }

ending_facts : (k : GroupKind) (ms : Members ℕ) (x y z : ℕ) → Ending (facts numbers k ms x y) (facts numbers k ms x z)
unfolding facts
ending_facts k done x y z = record { nothing_same = refl; last_same = refl }
ending_facts k (el q n rest) x y z =
    ending_join k (quantify_facts q (single numbers n x y)) (facts numbers k rest x y) (quantify_facts q (single numbers n x z)) (facts numbers k rest x z)
    (ending_quantify q (single numbers n x y) (single numbers n x z) (record { nothing_same = refl; last_same = refl })) (ending_facts k rest x y z)
ending_facts k (group q j ms rest) x y z =
    ending_join k (quantify_facts q (facts numbers j ms x y)) (facts numbers k rest x y) (quantify_facts q (facts numbers j ms x z)) (facts numbers k rest x z)
    (ending_quantify q (facts numbers j ms x y) (facts numbers j ms x z) (ending_facts j ms x y z)) (ending_facts k rest x y z)

-- ---- as `automaton` tells them
pub told_all : (r : Nexts ℕ) (k : GroupKind) (ms : Members ℕ) (x : ℕ) → ((y : ℕ) → y < 64 → told has r y ≡ facts numbers k ms x y) → Told r (λ y. facts numbers k ms x y)
told_all r k ms x t =
    record {
      nothing_is = λ y. ap (λ (f : Facts). f.nothing) (t 0 (omega arith)) ∙ (ending_facts k ms x 0 y).nothing_same;
      first_is = λ y h. ap (λ (f : Facts). f.first) (t y h);
      last_is = λ y. ap (λ (f : Facts). f.last) (t 0 (omega arith)) ∙ (ending_facts k ms x 0 y).last_same;
      follow_is = λ y h. ap (λ (f : Facts). f.follow) (t y h);
    }
