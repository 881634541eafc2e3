-- The one-pass test of a word against a model: the state is the name read last.
use Rattle.std.specs.Prelude.{Bool, true, false, ◌&&◌, ◌||◌, List, [], ◌∷◌}
use Rattle.rules.specs.declared.Facts.{Facts}
use Rattle.rules.specs.declared.Quantifier.{Quantifier}
use Rattle.rules.specs.declared.Quantifier.TheVariants.{None, Qmark, Star, Plus}
use Rattle.rules.specs.declared.GroupKind.{GroupKind}
use Rattle.rules.specs.declared.GroupKind.TheVariants.{Sequence, Choice}
use Rattle.rules.specs.Model.{Members, done, el, group, Equality, nothing}

-- Of a part of a model and two names x, y: does it accept nothing, can y be a word's first, can x be a word's last,
-- can y follow x directly.
abbrev pub single : {A : Type 0} → Equality A → A → A → A → Facts
single E i x y = record { nothing = false; first = E.same y i; last = E.same x i; follow = false }

abbrev pub empty : GroupKind → Facts
empty Sequence = record { nothing = true; first = false; last = false; follow = false }
empty Choice = record { nothing = false; first = false; last = false; follow = false }

abbrev pub join : GroupKind → Facts → Facts → Facts
join Sequence f g =
    record {
      nothing = f.nothing && g.nothing;
      first = f.first || (f.nothing && g.first);
      last = g.last || (g.nothing && f.last);
      follow = (f.follow || g.follow) || (f.last && g.first);
    }
join Choice f g =
    record {
      nothing = f.nothing || g.nothing;
      first = f.first || g.first;
      last = f.last || g.last;
      follow = f.follow || g.follow;
    }

-- of a part with a quantifier
abbrev pub quantify_facts : Quantifier → Facts → Facts
quantify_facts None f = f
quantify_facts Qmark f = record { nothing = true; first = f.first; last = f.last; follow = f.follow }
quantify_facts Star f = record { nothing = true; first = f.first; last = f.last; follow = f.follow || (f.last && f.first) }
quantify_facts Plus f = record { nothing = f.nothing; first = f.first; last = f.last; follow = f.follow || (f.last && f.first) }

unfoldable pub facts : {A : Type 0} → Equality A → GroupKind → Members A → A → A → Facts
facts E k done x y = empty k
facts E k (el q n rest) x y = join k (quantify_facts q (single E n x y)) (facts E k rest x y)
facts E k (group q j ms rest) x y = join k (quantify_facts q (facts E j ms x y)) (facts E k rest x y)

-- after the name x, do the names that follow end a word
unfoldable pub continues : {A : Type 0} → Equality A → Members A → A → List A → Bool
continues E ms x [] = (facts E Sequence ms x x).last
continues E ms x (y ∷ w) = (facts E Sequence ms x y).follow && continues E ms y w

unfoldable pub accepts : {A : Type 0} → Equality A → Members A → List A → Bool
accepts E ms [] = nothing Sequence ms
accepts E ms (y ∷ w) = (facts E Sequence ms y y).first && continues E ms y w
