-- One member of a content model, written.
use mathlib.Core.Path.{◌≡◌, refl, sym, ap, ap₂, ◌∙◌}
use mathlib.Core.Bool.{Bool, true, false}
use mathlib.Core.List.{List, [], ◌++◌}
use Prim.Native.Nat.{ℕ, zero, suc, ◌+◌, ◌<◌, ◌≤◌}
use native.Mathlib.Omega.{arith}
use native.Mathlib.Numerals.{add-one}
use lib.ListN.{length}
use Rattle.std.specs.Prelude.{Option, None as Nothing, Some}
use Rattle.rules.specs.declared.Quantifier.{Quantifier}
use Rattle.rules.specs.declared.Quantifier.TheVariants.{None, Qmark, Star, Plus}
use Rattle.rules.specs.declared.GroupKind.{GroupKind}
use Rattle.rules.specs.declared.GroupKind.TheVariants.{Sequence, Choice}
use Rattle.rules.specs.Bytes.{Bytes, ascii}
use Rattle.rules.specs.Store.{Forest}
use Rattle.rules.specs.Preorder.{build}
use Rattle.rules.specs.Layout.{FlatParticle}
use Rattle.rules.specs.Decode.{name_at, quantifier_of, read_particle}
use Rattle.rules.specs.Codes.{read_group}
use Rattle.rules.specs.Print.{mark_of}
use Rattle.codec.specs.Laid.{Laid}
use Rattle.codec.proofs.Writers.{laid_none, laid_then, laid_as}
use Rattle.printing_parts.specs.Walking.{Passed, Stepped}
use Rattle.printing_parts.specs.Parts.{Named, particle_part, particles_from, names_of}
use Rattle.declaration_printing.specs.Declarations.{sign_text, members_text, member_body, member_text}

pub mark_short : (q : Quantifier) → length (mark_of q) ≤ 1
mark_short None = omega arith
mark_short Qmark = omega arith
mark_short Star = omega arith
mark_short Plus = omega arith

pub sign_short : (k : GroupKind) (first : Bool) → length (sign_text k first) ≤ 1
sign_short k true = omega arith
sign_short Sequence false = omega arith
sign_short Choice false = omega arith

-- a member by the kind of a group, or none, and its quantifier and index
abbrev body_by : List Bytes → Option GroupKind → Quantifier → ℕ → Forest FlatParticle → Bytes
body_by ns Nothing q index b = name_at index ns ++ (mark_of q ++ [])
body_by ns (Some k) q index b = ascii "(" ++ (members_text ns k true b ++ (ascii ")" ++ (mark_of q ++ [])))

body_sorted : (ns : List Bytes) (s : ℕ) (p : FlatParticle) (b : Forest FlatParticle) → member_body ns s p b ≡ body_by ns (read_group s) (quantifier_of p.quantifier) p.index b
body_sorted ns zero p b = refl
body_sorted ns (suc s) p b = refl

module _ (bs : Bytes) (end i depth : ℕ) (kind : GroupKind) (first : Bool) (p : Bytes) (at_i : p ≡ particle_part bs i) (h : i < end)
    {code : ℕ} {q : Quantifier} (code_is : code ≡ (read_particle p).row.quantifier) (q-is : q ≡ quantifier_of code)
    {at a₁ : ℕ} {out o₁ : Bytes} (signed : Laid (sign_text kind first) out at a₁ o₁) where
  abbrev here : FlatParticle
  here = (read_particle (particle_part bs i)).row

  abbrev below : Forest FlatParticle
  below = build (particles_from bs end (i + 1)) (suc depth)

  mark_here : quantifier_of here.quantifier ≡ q
  mark_here = sym (q-is ∙ ap quantifier_of (code_is ∙ ap (λ (l : Bytes). (read_particle l).row.quantifier) at_i))

  body_here : (inner : Option GroupKind) → inner ≡ read_group (read_particle p).row.sort → member_body (names_of bs) here.sort here below ≡ body_by (names_of bs) inner q here.index below
  body_here inner e =
      body_sorted (names_of bs) here.sort here below
      ∙ ap₂ (λ (o : Option GroupKind) (m : Quantifier). body_by (names_of bs) o m here.index below) (sym (e ∙ ap (λ (l : Bytes). read_group (read_particle l).row.sort) at_i)) mark_here

  pub element_stepped : (index : ℕ) {w : Bytes} {a₂ a₃ : ℕ} {o₂ o₃ : Bytes} → Nothing ≡ read_group (read_particle p).row.sort → index ≡ (read_particle p).row.index
      → Named (name_at index (names_of bs)) w → Laid w o₁ a₁ a₂ o₂ → Laid (mark_of q) o₂ a₂ a₃ o₃
      → Stepped (particles_from bs end) (member_text (names_of bs) kind first here below) end i depth at out (i + 1) a₃ o₃
  unfolding member_text
  element_stepped index {w} z e n l m =
      record {
        laid = laid_as (ap (λ (b : Bytes). sign_text kind first ++ b) (body_here Nothing z ∙ same)) (laid_then signed (laid_then l (laid_then m laid_none)));
        skips = λ j g. refl;
        onward = omega arith;
        small = omega (arith, signed.next, l.next, m.next, n.short, sign_short kind first, mark_short q);
      }
    where
      same : name_at here.index (names_of bs) ++ (mark_of q ++ []) ≡ w ++ (mark_of q ++ [])
      same =
          ap (λ (a : Bytes). a ++ (mark_of q ++ []))
          (sym (n.name_is ∙ ap (λ (k : ℕ). name_at k (names_of bs)) (e ∙ ap (λ (l : Bytes). (read_particle l).row.index) at_i)))

  pub group_stepped : (inner : GroupKind) {a₂ a₃ a₄ a₅ next : ℕ} {o₂ o₃ o₄ o₅ : Bytes} → Some inner ≡ read_group (read_particle p).row.sort → Laid (ascii "(") o₁ a₁ a₂ o₂
      → Passed (particles_from bs end) (members_text (names_of bs) inner true) end (i + 1) (depth + 1) a₂ o₂ next a₃ o₃
      → Laid (ascii ")") o₃ a₃ a₄ o₄ → Laid (mark_of q) o₄ a₄ a₅ o₅
      → Stepped (particles_from bs end) (member_text (names_of bs) kind first here below) end i depth at out next a₅ o₅
  unfolding member_text
  group_stepped inner z l b r m =
      record {
        laid = laid_as
            (ap (λ (w : Bytes). sign_text kind first ++ w) (body_here (Some inner) z ∙ same))
            (laid_then signed (laid_then l (laid_then b.laid (laid_then r (laid_then m laid_none)))));
        skips = λ j g. b.skips j (omega arith);
        onward = omega (arith, b.onward);
        small = omega (arith, signed.next, l.next, b.small, r.next, m.next, sign_short kind first, mark_short q);
      }
    where
      same : ascii "(" ++ (members_text (names_of bs) inner true below ++ (ascii ")" ++ (mark_of q ++ [])))
          ≡ ascii "(" ++ (members_text (names_of bs) inner true (build (particles_from bs end (i + 1)) (depth + 1)) ++ (ascii ")" ++ (mark_of q ++ [])))
      same = λ k. ascii "(" ++ (members_text (names_of bs) inner true (build (particles_from bs end (i + 1)) (sym (add-one depth) k)) ++ (ascii ")" ++ (mark_of q ++ [])))
