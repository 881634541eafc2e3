-- The particles of members, read back at any depth.
use Prim.Native.Nat.{ℕ, suc, ◌<◌, ◌≤◌}
use native.Mathlib.Omega.{arith}
use mathlib.Core.Path.{◌≡◌, refl, sym, ap, ap₂, ◌∙◌}
use mathlib.Core.List.{[], ◌++◌, append_assoc, append-nil}
use Rattle.rules.specs.declared.Quantifier.{Quantifier}
use Rattle.rules.specs.declared.GroupKind.{GroupKind}
use Rattle.rules.specs.declared.GroupKind.TheVariants.{Sequence, Choice}
use Rattle.rules.specs.Model.{Members, done, el, group}
use Rattle.rules.specs.Store.{bare}
use Rattle.rules.specs.Preorder.{build}
use Rattle.rules.specs.Layout.{how_many, group_code}
use Rattle.model.specs.Members.{index_member, index_members}
use Rattle.model.specs.Places.{Particles}
use Rattle.model.specs.Positions.{element_particle, group_particle, spread}
use Rattle.rules.proofs.PreorderLaws.{build_same, build_less, build_more}
use Rattle.rules.proofs.DecodeLaws.{quantifier_code_lem}

-- no particle comes next, or one less deep than d
pub record Shallow (d : ℕ) (rest : Particles) : Type 0 where
  pub none : (k : ℕ) → d ≤ k → build rest k ≡ bare

pub shallow_spread : (d : ℕ) (ms : Members ℕ) (rest : Particles) → Shallow (suc d) rest → Shallow (suc d) (spread d ms ++ rest)
shallow_spread d done rest h = h
shallow_spread d (el q i ms) rest h = record { none = λ k l. build_more (element_particle d q i) (spread d ms ++ rest) k (omega arith) }
shallow_spread d (group q j ms t) rest h = record { none = λ k l. build_more (group_particle d q j (how_many ms)) ((spread (suc d) ms ++ spread d t) ++ rest) k (omega arith) }

spread_above : (d k : ℕ) (ms : Members ℕ) (rest : Particles) → k < d → build (spread d ms ++ rest) k ≡ build rest k
spread_above d k done rest h = refl
spread_above d k (el q i ms) rest h = build_less (element_particle d q i) (spread d ms ++ rest) k h ∙ spread_above d k ms rest h
spread_above d k (group q j ms t) rest h =
    build_less (group_particle d q j (how_many ms)) ((spread (suc d) ms ++ spread d t) ++ rest) k h
    ∙ ap (λ (l : Particles). build l k) (append_assoc (spread (suc d) ms) (spread d t) rest)
    ∙ spread_above (suc d) k ms (spread d t ++ rest) (omega arith)
    ∙ spread_above d k t rest h

-- members are read back
pub spread_read : (d : ℕ) (ms : Members ℕ) (rest : Particles) → Shallow d rest → index_members (build (spread d ms ++ rest) d) ≡ ms
spread_read d done rest h = ap index_members (h.none d (omega arith))
spread_read d (el q i ms) rest h =
    ap index_members (build_same (element_particle d q i) (spread d ms ++ rest) d refl)
    ∙ ap₂ (λ (r : Quantifier) (t : Members ℕ). el r i t) (quantifier_code_lem q) (spread_read d ms rest h)
spread_read d (group q j ms t) rest h =
    ap index_members (build_same (group_particle d q j (how_many ms)) ((spread (suc d) ms ++ spread d t) ++ rest) d refl)
    ∙ ap₂ (λ (u v : Members ℕ). index_member (group_particle d q j (how_many ms)).row (group_code j) u v)
    (inner ∙ spread_read (suc d) ms (spread d t ++ rest) (shallow_spread d t rest (record { none = λ k l. h.none k (omega arith) })))
    (others ∙ spread_read d t rest h)
    ∙ by j
  where
    inner : index_members (build ((spread (suc d) ms ++ spread d t) ++ rest) (suc d)) ≡ index_members (build (spread (suc d) ms ++ (spread d t ++ rest)) (suc d))
    inner = ap (λ (l : Particles). index_members (build l (suc d))) (append_assoc (spread (suc d) ms) (spread d t) rest)

    others : index_members (build ((spread (suc d) ms ++ spread d t) ++ rest) d) ≡ index_members (build (spread d t ++ rest) d)
    others = ap (λ (l : Particles). index_members (build l d)) (append_assoc (spread (suc d) ms) (spread d t) rest) ∙ ap index_members (spread_above (suc d) d ms (spread d t ++ rest) (omega arith))

    by : (k : GroupKind) → index_member (group_particle d q k (how_many ms)).row (group_code k) ms t ≡ group q k ms t
    by Sequence = ap (λ (r : Quantifier). group r Sequence ms t) (quantifier_code_lem q)
    by Choice = ap (λ (r : Quantifier). group r Choice ms t) (quantifier_code_lem q)

pub members_spread : (d : ℕ) (ms : Members ℕ) → index_members (build (spread d ms) d) ≡ ms
members_spread d ms = ap (λ (zs : Particles). index_members (build zs d)) (sym (append-nil (spread d ms))) ∙ spread_read d ms [] (record { none = λ k l. refl })
