-- Particle bytes, particle by particle; and a loop that writes moved particles.
use Prim.Native.Nat.{ℕ, zero, suc, ◌+◌, ◌-◌, ◌%◌, ◌<◌, ◌≤◌}
use native.Mathlib.Omega.{arith}
use mathlib.Core.Path.{◌≡◌, refl, sym, ap, subst, ◌∙◌}
use mathlib.Core.Bool.{Bool, true, false, not, ◌&&◌, false≢true}
use mathlib.Core.List.{[], ◌∷◌}
use borrow.Author.Tests.{ne_eqb}
use lib.Dec.{ltb, eqb}
use lib.ListN.{length, drop, length-drop}
use lib.Seq.{drop-drop}
use Rattle.rules.specs.Bytes.{Bytes}
use Rattle.rules.specs.Preorder.{Deep}
use Rattle.rules.specs.Layout.{particle_bytes, each, particle_size, FlatParticle}
use Rattle.rules.specs.Decode.{read_particle}
use Rattle.codec.specs.Laid.{Laid}
use Rattle.codec.proofs.Writers.{laid_none, laid_then, laid_as}
use Rattle.model.specs.Members.{particles_of}
use Rattle.model.specs.Places.{Particles}
use Rattle.model.proofs.ChunkLaws.{Front}
use Rattle.model.proofs.MembersLaws.{particles_few, particles_more}
use Rattle.model_writer.specs.PartAfter.{redeep, moved}
use Rattle.model_writer.specs.Writing.{shift, passing, Fitting}

-- ---- a whole number of particles
pub whole : (s : Bytes) → length s % particle_size ≡ 0 → each particle_bytes (particles_of s) ≡ s
whole [] h = ap (each particle_bytes) (particles_few [] (omega arith))
whole (a ∷ []) h = absurd (omega arith)
whole (a ∷ b ∷ []) h = absurd (omega arith)
whole (a ∷ b ∷ c ∷ []) h = absurd (omega arith)
whole (a ∷ b ∷ c ∷ e ∷ s) h =
    ap (each particle_bytes) (particles_more (a ∷ b ∷ c ∷ e ∷ s) (omega arith)) ∙ ap (λ (r : Bytes). a ∷ b ∷ c ∷ e ∷ r) (whole s (omega arith))

-- ---- the four bytes of a particle
pub particle_same : {a b c d a' b' c' d' : ℕ} → a ≡ a' → b ≡ b' → c ≡ c' → d ≡ d' → a' ∷ b' ∷ c' ∷ d' ∷ [] ≡ a ∷ b ∷ c ∷ d ∷ []
particle_same p q r s = λ i. sym p i ∷ sym q i ∷ sym r i ∷ sym s i ∷ []

-- ---- depths and counts
pub shift_deeper : (b : Bool) (n : ℕ) → b ≡ true → shift b n ≡ n + 1
shift_deeper true n e = omega arith
shift_deeper false n e = absurd (false≢true e)

pub shift_raised : (b : Bool) (n : ℕ) → b ≡ false → shift b n ≡ n - 1
shift_raised true n e = absurd (false≢true (sym e))
shift_raised false n e = refl

pub passing_member : (b : Bool) (n : ℕ) → b ≡ false → passing b n ≡ n - 1
passing_member true n e = absurd (false≢true (sym e))
passing_member false n e = refl

-- ---- one particle of those that move
module _ (g : ℕ → ℕ) (d : ℕ) (t : Bytes) (l : particle_size ≤ length t) where
  pub moved_first : (b : Bool) (m : ℕ) → ltb d (read_particle t).depth ≡ b → (eqb m 0 && not b) ≡ false
      → moved g d m (particles_of t) ≡ redeep g (read_particle t) ∷ moved g d (passing b m) (particles_of (drop particle_size t))
  unfolding moved
  moved_first true zero e f = ap (moved g d 0) (particles_more t l) ∙ rw (e, moved)
  moved_first false zero e f = absurd (false≢true (sym f))
  moved_first true (suc m) e f = ap (moved g d (suc m)) (particles_more t l) ∙ rw (e, moved)
  moved_first false (suc m) e f = let z : suc m - 1 ≡ m = omega arith in ap (moved g d (suc m)) (particles_more t l) ∙ rw (e, moved, z)

  pub moved_none : (b : Bool) (m : ℕ) → ltb d (read_particle t).depth ≡ b → (eqb m 0 && not b) ≡ true → moved g d m (particles_of t) ≡ particles_of t
  unfolding moved
  moved_none true zero e f = absurd (false≢true f)
  moved_none false zero e f = ap (moved g d 0) (particles_more t l) ∙ (rw (e, moved) (sym (particles_more t l)))
  moved_none b (suc m) e f = let z : eqb (suc m) 0 ≡ false = ne_eqb (suc m) 0 (λ q. omega arith) in absurd (false≢true (rw z at f))

-- ---- the loop: if what is left is laid from here, all is laid
pub record Going (w out₀ : Bytes) (start bound : ℕ) (g : ℕ → ℕ) (d : ℕ) (t : Bytes) (m : ℕ) (out : Bytes) (at : ℕ) : Type 0 where
  pub whole : length t % particle_size ≡ 0
  pub room : at + length t ≤ bound
  pub fitting : Fitting (moved g d m (particles_of t))
  pub long : length out ≡ length out₀
  pub goes : {r : ℕ} {out' : Bytes} → Laid (each particle_bytes (moved g d m (particles_of t))) out at r out' → Laid w out₀ start r out'

pub going_all : (out : Bytes) (start bound : ℕ) (g : ℕ → ℕ) (d : ℕ) (s : Bytes) (n : ℕ) → length s % particle_size ≡ 0 → start + length s < bound → Fitting (moved g d n (particles_of s))
    → Going (each particle_bytes (moved g d n (particles_of s))) out start bound g d s n out start
going_all out start bound g d s n h l f = record { whole = h; room = omega arith; fitting = f; long = refl; goes = λ x. x }

-- and t is what is left of s once all from `start` to `at` is written
pub record Along (s : Bytes) (start at : ℕ) (t : Bytes) : Type 0 where
  pub from : start ≤ at
  pub rest : t ≡ drop (at - start) s

pub along_all : (s : Bytes) (start : ℕ) → Along s start start s
along_all s start = record { from = omega arith; rest = let z : start - start ≡ 0 = omega arith in sym (ap (λ (k : ℕ). drop k s) z) }

module _ {w out₀ : Bytes} {start bound : ℕ} {g : ℕ → ℕ} {d : ℕ} {t : Bytes} {m : ℕ} {out : Bytes} {at : ℕ} (v : Going w out₀ start bound g d t m out at) where
  pub going_done : length t < particle_size → Laid w out₀ start at out
  unfolding moved
  going_done l = v.goes (laid_as (ap (λ (xs : Particles). each particle_bytes (moved g d m xs)) (particles_few t l) ∙ refl) laid_none)

  -- x is the first particle of t, and s is what follows it
  module _ {x s : Bytes} (there : Front t x s) (b : Bool) (deep : ltb d (read_particle x).depth ≡ b) where
    inner : ltb d (read_particle t).depth ≡ b
    inner = ap (λ (p : Deep FlatParticle). ltb d p.depth) (sym there.reads) ∙ deep

    pub going_rest : (eqb m 0 && not b) ≡ true → {r : ℕ} {out' : Bytes} → Laid t out at r out' → Laid w out₀ start r out'
    going_rest f y = v.goes (laid_as (ap (each particle_bytes) (moved_none g d t there.long b m inner f) ∙ whole t v.whole) y)

    pub going_fits : (eqb m 0 && not b) ≡ false → g (read_particle x).depth < 256
    unfolding Fitting
    going_fits f =
        subst (λ (p : Deep FlatParticle). g p.depth < 256) (sym there.reads) (rw (moved_first g d t there.long b m inner f) at v.fitting).0.depth

    pub going_step : (eqb m 0 && not b) ≡ false → {m' r : ℕ} {out' : Bytes} → m' ≡ passing b m → length out' ≡ length out → Laid (particle_bytes (redeep g (read_particle x))) out at r out'
        → Going w out₀ start bound g d s m' out' r
    unfolding Fitting
    going_step f {m'} {r} {out'} p long y =
        let first : Laid (particle_bytes (redeep g (read_particle t))) out at r out' =
        subst (λ (q : Deep FlatParticle). Laid (particle_bytes (redeep g q)) out at r out') there.reads y in
        rw (p, there.rest)
        (record {
          whole = omega (arith, v.whole, there.long, length-drop particle_size t);
          room = omega (arith, v.room, there.long, first.next, length-drop particle_size t);
          fitting = (rw (moved_first g d t there.long b m inner f) at v.fitting).1;
          long = long ∙ v.long;
          goes = λ z. v.goes (laid_as (ap (each particle_bytes) (moved_first g d t there.long b m inner f)) (laid_then first z));
        })

    pub along_on : {z : Bytes} → Along z start at t → {r : ℕ} → r ≡ at + particle_size → Along z start r s
    along_on {z} k {r} q =
        let n : at - start + particle_size ≡ r - start = omega (arith, k.from) in
        record { from = omega (arith, k.from); rest = there.rest ∙ ap (drop particle_size) k.rest ∙ drop-drop particle_size (at - start) z ∙ ap (λ (i : ℕ). drop i z) n }
