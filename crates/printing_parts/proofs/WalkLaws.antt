-- Laws of the loops that follow the depths of records.
use mathlib.Core.Path.{◌≡◌, refl, ap, ◌∙◌}
use mathlib.Core.Bool.{Bool}
use mathlib.Core.List.{List, [], ◌∷◌, ◌++◌}
use Prim.Native.Nat.{ℕ, suc, ◌+◌, ◌-◌, ◌*◌, ◌<◌, ◌≤◌}
use native.Mathlib.Omega.{arith}
use lib.ListN.{length}
use Rattle.rules.specs.Bytes.{Bytes}
use Rattle.rules.specs.Store.{Forest, bare, tree}
use Rattle.rules.specs.Preorder.{Deep, build}
use Rattle.rules.proofs.PreorderLaws.{build_same, build_less, build_more}
use Rattle.codec.specs.Laid.{Laid}
use Rattle.codec.proofs.Writers.{laid_none, laid_then, laid_as, laid_long}
use Rattle.printing_parts.specs.Walking.{Passed, Stepped}

-- ---- the loop
-- Whoever writes the text of what is left has written all; the bool is what the text before says of the text after.
pub record Walk {A : Type 0} (records : ℕ → List (Deep A)) (text : Bool → Forest A → Bytes) (goal : Bytes) (end i₀ depth at₀ : ℕ) (out₀ : Bytes) (i at : ℕ) (q : Bool) (out : Bytes) : Type 0 where
  pub goes : (r : ℕ) (out'' : Bytes) → Laid (text q (build (records i) depth)) out at r out'' → Laid goal out₀ at₀ r out''
  pub skips : (j : ℕ) → j < depth → build (records i₀) j ≡ build (records i) j
  pub onward : i₀ ≤ i
  pub small : at + 2500 * (end - i) ≤ at₀ + 2500 * (end - i₀)
  pub long : length out ≡ length out₀

module _ {A : Type 0} {records : ℕ → List (Deep A)} {text : Bool → Forest A → Bytes} where
  pub walk_start : (end i depth at : ℕ) (q : Bool) (out : Bytes) → Walk records text (text q (build (records i) depth)) end i depth at out i at q out
  walk_start end i depth at q out = record { goes = λ r o l. l; skips = λ j h. refl; onward = omega arith; small = omega arith; long = refl }

  pub walk_as : {goal : Bytes} {end i₀ depth at₀ : ℕ} {out₀ : Bytes} {i at : ℕ} {q q' : Bool} {out : Bytes} → q' ≡ q
      → Walk records text goal end i₀ depth at₀ out₀ i at q out → Walk records text goal end i₀ depth at₀ out₀ i at q' out
  walk_as e w = rw e w

  module _ {goal : Bytes} {end i₀ depth at₀ : ℕ} {out₀ : Bytes} {i at : ℕ} {q : Bool} {out : Bytes} (w : Walk records text goal end i₀ depth at₀ out₀ i at q out) where
    -- a record that is deeper is not looked at
    pub walk_deeper : (x : Deep A) → records i ≡ x ∷ records (i + 1) → depth < x.depth → Walk records text goal end i₀ depth at₀ out₀ (i + 1) at q out
    walk_deeper x e h =
        record {
          goes = λ r o l. w.goes r o (laid_as (ap (λ (xs : List (Deep A)). text q (build xs depth)) e ∙ ap (text q) (build_less x (records (i + 1)) depth h)) l);
          skips = λ j g. w.skips j g ∙ ap (λ (xs : List (Deep A)). build xs j) e ∙ build_less x (records (i + 1)) j (omega arith);
          onward = omega (arith, w.onward);
          small = omega (arith, w.small);
          long = w.long;
        }

    -- a record of this depth is written with those below it
    pub walk_here : (x : Deep A) (q' : Bool) (w' : Bytes) {next at' : ℕ} {out' : Bytes} → records i ≡ x ∷ records (i + 1) → x.depth ≡ depth → i < end
        → ((t : Forest A) → text q (tree x.row (build (records (i + 1)) (suc depth)) t) ≡ w' ++ text q' t)
        → Stepped records w' end i depth at out next at' out'
        → Walk records text goal end i₀ depth at₀ out₀ next at' q' out'
    walk_here x q' w' {next} {at'} {out'} e d h law s =
        record {
          goes = λ r o l. w.goes r o
              (laid_as
              (ap (λ (xs : List (Deep A)). text q (build xs depth)) e ∙ ap (text q) (build_same x (records (i + 1)) depth d)
              ∙ law (build (records (i + 1)) depth) ∙ ap (λ (f : Forest A). w' ++ text q' f) (after depth (omega arith)))
              (laid_then s.laid l));
          skips = λ j g. w.skips j g ∙ ap (λ (xs : List (Deep A)). build xs j) e ∙ build_less x (records (i + 1)) j (omega arith) ∙ after j (omega arith);
          onward = omega (arith, w.onward, s.onward);
          small = omega (arith, w.small, s.small);
          long = laid_long s.laid ∙ w.long;
        }
      where
        after : (j : ℕ) → j < suc depth → build (records (i + 1)) j ≡ build (records next) j
        after j g = s.skips j g

    -- what is left is nothing: what the text then says is written
    ended : build (records i) depth ≡ bare → (w' : Bytes) {r : ℕ} {out' : Bytes} → text q bare ≡ w' → Laid w' out at r out' → Laid goal out₀ at₀ r out'
    ended e w' {r} {out'} b l = w.goes r out' (laid_as (ap (text q) e ∙ b) l)

    -- all is written
    pub walk_all : records i ≡ [] → text q bare ≡ [] → Laid goal out₀ at₀ at out
    walk_all e b = ended (ap (λ (xs : List (Deep A)). build xs depth) e) [] b laid_none

  module _ {text₀ : Forest A → Bytes} {end i₀ depth at₀ : ℕ} {out₀ : Bytes} {i at : ℕ} {q : Bool} {out : Bytes}
      (w : Walk records text (text₀ (build (records i₀) depth)) end i₀ depth at₀ out₀ i at q out) where
    -- a record that is not as deep ends the text
    pub walk_stops : (x : Deep A) (w' : Bytes) {r : ℕ} {out' : Bytes} → records i ≡ x ∷ records (i + 1) → x.depth < depth → text q bare ≡ w' → length w' ≤ 1 → Laid w' out at r out'
        → Passed records text₀ end i₀ depth at₀ out₀ i r out'
    walk_stops x w' e h b n l =
        record {
          laid = ended w (ap (λ (xs : List (Deep A)). build xs depth) e ∙ build_more x (records (i + 1)) depth h) w' b l;
          skips = w.skips;
          onward = w.onward;
          small = omega (arith, w.small, l.next);
        }

    -- and so does the end of the records
    pub walk_ends : (w' : Bytes) {r : ℕ} {out' : Bytes} → records i ≡ [] → text q bare ≡ w' → length w' ≤ 1 → Laid w' out at r out'
        → Passed records text₀ end i₀ depth at₀ out₀ i r out'
    walk_ends w' e b n l =
        record {
          laid = ended w (ap (λ (xs : List (Deep A)). build xs depth) e) w' b l;
          skips = w.skips;
          onward = w.onward;
          small = omega (arith, w.small, l.next);
        }
