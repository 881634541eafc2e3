-- Steps over the children of a row, one more and one less, in a model.
use Prim.Native.Nat.{ℕ, suc, ◌+◌, ◌-◌}
use native.Mathlib.Numerals.{add-one}
use borrow.Author.Tests.{eq-eqb, ne_eqb}
use mathlib.Core.Path.{◌≡◌, refl, sym, ap, ap₂, ◌∙◌}
use mathlib.Core.Bool.{Bool, true, false, ◌&&◌}
use Rattle.std.specs.Prelude.{Option, None, Some}
use mathlib.Core.List.{List, [], ◌∷◌, ◌++◌, append_assoc, append-nil}
use Rattle.rules.specs.Model.{Members}
use Rattle.rules.specs.Layout.{FlatRow}
use Rattle.model.specs.Steps.{steps, finishes, runs}
use Rattle.document_rows.specs.Finding.{new_name, kept_name, word, NamesStepped}

-- ---- a name stepped over, or none
module _ (ms : Members ℕ) (last : ℕ) where
  pub stepped_none : NamesStepped ms last [] (Some last)
  stepped_none = record { on = λ w. refl }

  pub stepped_one : (x y : ℕ) → y ≡ x + 1 → true ≡ steps ms last x → NamesStepped ms last (x ∷ []) (Some y)
  unfolding runs
  stepped_one x y e g = record { on = λ w. ap₂ (λ (b : Bool) (n : ℕ). b && runs ms n w) (sym g) (sym (e ∙ add-one x)) }

  pub stepped_out : (x : ℕ) → false ≡ steps ms last x → NamesStepped ms last (x ∷ []) None
  unfolding runs
  stepped_out x g = record { on = λ w. ap (λ (b : Bool). b && runs ms (suc x) w) (sym g) }

  pub as_word : {u v : List ℕ} {after : Option ℕ} → u ≡ v → NamesStepped ms last v after → NamesStepped ms last u after
  as_word e s = record { on = λ w. ap (λ (z : List ℕ). runs ms last (z ++ w)) e ∙ s.on w }

pub new_one : (p x : ℕ) → p ≡ 1 → new_name p x ≡ x ∷ []
unfolding new_name
new_one p x e = rw (eq-eqb p 1 e, new_name)

pub new_none : (p x : ℕ) → (p ≡ 1 → ⊥) → new_name p x ≡ []
unfolding new_name
new_none p x e = rw (ne_eqb p 1 e, new_name)

pub kept_one : (r : FlatRow) (skip index : ℕ) → (r.serial ≡ skip → ⊥) → index ≡ r.index → kept_name skip r ≡ index ∷ []
unfolding kept_name
kept_one r skip index e i = rw (ne_eqb r.serial skip e, kept_name) (ap (λ (n : ℕ). n ∷ []) (sym i))

pub kept_none : (r : FlatRow) (skip : ℕ) → r.serial ≡ skip → kept_name skip r ≡ []
unfolding kept_name
kept_none r skip e = rw (eq-eqb r.serial skip e, kept_name)

-- ---- all of them
-- after the first of the children: what `last` and the places that are left decide is what all decide
pub record Stepping (ms : Members ℕ) (new skip : ℕ) (all : List ℕ) (last p : ℕ) (rs : List FlatRow) : Type 0 where
  pub on : (w : List ℕ) → runs ms 0 (all ++ w) ≡ runs ms last (word p new skip rs ++ w)

module _ {ms : Members ℕ} {new skip : ℕ} {all : List ℕ} {last p : ℕ} {rs : List FlatRow} (s : Stepping ms new skip all last p rs) where
  module _ {r : FlatRow} {more : List FlatRow} (e : rs ≡ r ∷ more) where
    word_on : (w : List ℕ) → runs ms 0 (all ++ w) ≡ runs ms last (new_name p new ++ (kept_name skip r ++ (word (p - 1) new skip more ++ w)))
    unfolding word
    word_on w =
        s.on w ∙ ap (λ (z : List FlatRow). runs ms last (word p new skip z ++ w)) e
        ∙ ap (runs ms last) (append_assoc (new_name p new ++ kept_name skip r) (word (p - 1) new skip more) w
        ∙ append_assoc (new_name p new) (kept_name skip r) (word (p - 1) new skip more ++ w))

    -- the new one, or the child, may not follow
    pub new_stops : NamesStepped ms last (new_name p new) None → NamesStepped ms 0 all None
    new_stops x = record { on = λ w. word_on w ∙ x.on (kept_name skip r ++ (word (p - 1) new skip more ++ w)) }

    pub child_stops : {m : ℕ} → NamesStepped ms last (new_name p new) (Some m) → NamesStepped ms m (kept_name skip r) None → NamesStepped ms 0 all None
    child_stops x y = record { on = λ w. word_on w ∙ x.on (kept_name skip r ++ (word (p - 1) new skip more ++ w)) ∙ y.on (word (p - 1) new skip more ++ w) }

    -- both may
    pub child_steps : {m n q : ℕ} → NamesStepped ms last (new_name p new) (Some m) → NamesStepped ms m (kept_name skip r) (Some n) → q ≡ p - 1 → Stepping ms new skip all n q more
    child_steps {n = n} x y e = record {
      on = λ w. word_on w ∙ x.on (kept_name skip r ++ (word (p - 1) new skip more ++ w)) ∙ y.on (word (p - 1) new skip more ++ w)
          ∙ ap (λ (z : ℕ). runs ms n (word z new skip more ++ w)) (sym e);
    }

  -- none is left
  pub last_steps : {r : Option ℕ} → rs ≡ [] → NamesStepped ms last (new_name p new) r → NamesStepped ms 0 all r
  unfolding word
  last_steps e x = record { on = λ w. s.on w ∙ ap (λ (z : List FlatRow). runs ms last (word p new skip z ++ w)) e ∙ x.on w }

-- what all decide, and that no child is owed
module _ {ms : Members ℕ} {v : List ℕ} where
  pub takes_all : {n : ℕ} {b : Bool} → NamesStepped ms 0 v (Some n) → b ≡ finishes ms n → b ≡ runs ms 0 v
  unfolding runs
  takes_all x e = e ∙ sym (x.on []) ∙ ap (runs ms 0) (append-nil v)

  pub takes_none : NamesStepped ms 0 v None → false ≡ runs ms 0 v
  takes_none x = sym (x.on []) ∙ ap (runs ms 0) (append-nil v)
