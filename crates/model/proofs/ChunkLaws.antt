-- A particle off the front of a slice, as `chunks_exact` gives it.
use mathlib.Core.Path.{◌≡◌, refl, sym, ap, ◌∙◌}
use mathlib.Core.List.{[], ◌∷◌, ◌++◌}
use Prim.Native.Nat.{ℕ, ◌+◌, ◌-◌, ◌*◌, ◌≤◌}
use native.Mathlib.Omega.{arith}
use lib.ListN.{length, take, drop}
use lib.Seq.{drop-drop}
use Rattle.rules.specs.Bytes.{Bytes}
use Rattle.rules.specs.Layout.{particle_size}
use Rattle.rules.specs.Decode.{read_particle}
use Rattle.codec.proofs.Writers.{tail_seen}

-- x is the first particle of t, and s is what follows it
pub record Front (t x s : Bytes) : Type 0 where
  pub long : particle_size ≤ length t
  pub rest : s ≡ drop particle_size t
  pub reads : read_particle x ≡ read_particle t

pub front : (t x s : Bytes) → t ≡ x ++ s → length x ≡ particle_size → Front t x s
front t [] s e h = absurd (omega arith)
front t (a ∷ []) s e h = absurd (omega arith)
front t (a ∷ b ∷ []) s e h = absurd (omega arith)
front t (a ∷ b ∷ c ∷ []) s e h = absurd (omega arith)
front t (a ∷ b ∷ c ∷ d ∷ []) s e h = rw e (record { long = omega arith; rest = refl; reads = refl })
front t (a ∷ b ∷ c ∷ d ∷ f ∷ x) s e h = absurd (omega arith)

-- t is s from particle n on
module _ (s : Bytes) {t : Bytes} (n : ℕ) where
  pub seen : {i : ℕ} → i ≡ n → t ≡ drop (particle_size * n) s → take (length s - particle_size * i) (drop (particle_size * i) s) ≡ t
  seen {i} e q = tail_seen s (particle_size * i) ∙ ap (λ (k : ℕ). drop (particle_size * k) s) e ∙ sym q

  pub past : {m : ℕ} {rest : Bytes} → m ≡ n + 1 → t ≡ drop (particle_size * n) s → rest ≡ drop particle_size t → rest ≡ drop (particle_size * m) s
  past {m} {rest} e q r =
      let z : particle_size * n + particle_size ≡ particle_size * m = omega arith in
      r ∙ ap (drop particle_size) q ∙ drop-drop particle_size (particle_size * n) s ∙ ap (λ (k : ℕ). drop k s) z
