-- Rounds of marking, with the mark of a target taken away after each.
use Prim.Native.Nat.{ℕ, zero, suc, ◌+◌, ◌≤◌, ◌<◌}
use native.Mathlib.Omega.{arith}
use mathlib.Core.Path.{◌≡◌, refl, ap, ap₂, ◌∙◌, sym}
use mathlib.Core.Bool.{Bool, true, false, not, ◌&&◌}
use mathlib.Core.List.{List, [], ◌∷◌}
use lib.Dec.{eqb}
use lib.ListN.{get_or, set, replicate}
use lib.Seq.{get_or-set_other}
use borrow.Author.Tests.{eq-eqb, eqb-true, eqb-false}
use Rattle.rules.specs.Bytes.{Bytes, all}
use Rattle.circle_check.specs.Deep.{has_height, raised_to, Round}
use Rattle.circle_check.specs.Avoiding.{members_avoiding, Avoids}
use Rattle.codec.proofs.Numbers.{zeros_read}
use Rattle.circle_check.proofs.RoundLaws.{Rounds, rounds_start, rounds_on, marked_is}

set_none : (l : Bytes) (i : ℕ) → get_or (set l i 0) i 0 ≡ 0
set_none [] i = refl
set_none (x ∷ l) zero = refl
set_none (x ∷ l) (suc i) = set_none l i

-- h rounds are done
pub record Avoiding (n : ℕ) (members : ℕ → List ℕ) (target : ℕ) (l : Bytes) (h : ℕ) : Type 0 where
  pub rounds : Rounds n (members_avoiding n members target) l h
  pub gone : get_or l target 0 ≡ 0
  pub past : get_or l n 0 ≡ 0

pub avoiding_starts : (n : ℕ) (members : ℕ → List ℕ) (target : ℕ) → Avoiding n members target (replicate 64 0) 0
avoiding_starts n members target = record { rounds = rounds_start n (members_avoiding n members target); gone = zeros_read 64 target; past = zeros_read 64 n }

module _ {n : ℕ} {members : ℕ → List ℕ} {target : ℕ} {old : Bytes} {h : ℕ} (s : Avoiding n members target old h) (t : target < n) where
  unmarked : has_height old n ≡ false
  unfolding has_height
  unmarked = ap not (eq-eqb (get_or old n 0) 0 s.past)

  module _ {k : ℕ} {l : Bytes} (r : Round n members k old l) where
    others : (i : ℕ) → n ≤ i → get_or (set l target 0) i 0 ≡ 0
    others i q = get_or-set_other l target i 0 0 (λ z. omega arith) ∙ r.others i q

    round_without : Round n (members_avoiding n members target) k old (set l target 0)
    round_without = record { known = λ i q. by i q (eqb i target) refl; others = others }
      where
        by : (i : ℕ) → i < n → (b : Bool) → eqb i target ≡ b → get_or (set l target 0) i 0 ≡ raised_to k (get_or old i 0) (all (has_height old) (elim b [ true ↦ n ∷ [] | false ↦ members i ]))
        by i q true e =
            let z : i ≡ target = eqb-true i target e in
            rw z (set_none l target ∙ sym (ap₂ (λ (w : ℕ) (b : Bool). raised_to k w (b && true)) s.gone unmarked))
        by i q false e = get_or-set_other l target i 0 0 (λ z. eqb-false i target e z) ∙ r.known i q

  pub avoiding_on : {l : Bytes} → h < n → Round n members (h + 1) old l → Avoiding n members target (set l target 0) (h + 1)
  avoiding_on {l} g r = record { rounds = rounds_on s.rounds g (round_without r); gone = set_none l target; past = others r n (omega arith) }

pub avoiding_ends : {n : ℕ} {members : ℕ → List ℕ} {target : ℕ} {l : Bytes} {h : ℕ} → Avoiding n members target l h → n ≤ h → Avoids n members target l
avoiding_ends {n} {members} {target} {l} {h} s g = let z : h ≡ n = omega (arith, s.rounds.low) in record { is = rw z at (marked_is s.rounds) }
