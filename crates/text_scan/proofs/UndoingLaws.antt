-- Escapes undone: the loop over the places of a text.
use Prim.Native.Nat.{ℕ, zero, suc, ◌+◌, ◌<◌, ◌≤◌}
use native.Mathlib.Omega.{arith}
use native.Mathlib.Nat.{le_of_suc-le-suc, not-suc-le-zero}
use native.Mathlib.Numerals.{add-one}
use mathlib.Core.Path.{◌≡◌, refl, sym, ap, ◌∙◌, subst}
use mathlib.Core.Bool.{true, false, false≢true}
use mathlib.Core.Option.{Option, none, some}
use mathlib.Core.List.{[], ◌∷◌}
use lib.ListN.{length, drop, get_or, set, drop_of_length-le, length-set, length-drop}
use lib.Seq.{sets, drop-drop}
use Rattle.std.proofs.lemmas.Option.{none-some, same_Some}
use Rattle.rules.specs.Bytes.{Bytes}
use Rattle.rules.specs.WellFormed.{is_there}
use Rattle.std.specs.Prelude.{None, Some}
use Rattle.text_scan.specs.declared.Character.{Character}
use Rattle.text_scan.specs.Scan.{PlainByte, plain_at, character_of, precede, unescaped, value_or, length_of, Unescapes}
use Rattle.text_scan.proofs.ScanLaws.{plain_undone}
use Rattle.text_scan.proofs.LoopLaws.{text_rest}

-- bytes that are there are skipped
unescaped_skip : (skip : ℕ) (xs : Bytes) → skip ≤ length xs → unescaped skip xs ≡ unescaped 0 (drop skip xs)
unfolding unescaped
unescaped_skip zero xs h = refl
unescaped_skip (suc skip) [] h = absurd (not-suc-le-zero h)
unescaped_skip (suc skip) (x ∷ xs) h = unescaped_skip skip xs (le_of_suc-le-suc h)

abbrev onward : Bytes → Option PlainByte → Option Bytes
onward xs place = elim place [ none ↦ none | some p ↦ precede p.byte (unescaped p.more xs) ]

unescaped_place : (x : ℕ) (xs : Bytes) → unescaped 0 (x ∷ xs) ≡ onward xs (plain_at x xs)
unfolding unescaped
unescaped_place x xs = refl

unescaped_end : unescaped 0 [] ≡ some []
unfolding unescaped
unescaped_end = refl

abbrev place_at : Bytes → ℕ → Option PlainByte
place_at raw i = plain_at (get_or raw i 0) (drop (i + 1) raw)

module _ (raw : Bytes) (i : ℕ) (h : i < length raw) where
  undone_here : (place : Option PlainByte) → place_at raw i ≡ place → unescaped 0 (drop i raw) ≡ onward (drop (i + 1) raw) place
  undone_here place e = ap (unescaped 0) (text_rest raw i h) ∙ unescaped_place (get_or raw i 0) (drop (i + 1) raw) ∙ ap (onward (drop (i + 1) raw)) e

  undone_on : (p : PlainByte) → place_at raw i ≡ some p → unescaped 0 (drop i raw) ≡ precede p.byte (unescaped 0 (drop (i + (p.more + 1)) raw))
  undone_on p e =
      let far : i + 1 + p.more ≡ i + (p.more + 1) = omega arith in
      undone_here (some p) e
      ∙ ap (precede p.byte)
      (unescaped_skip p.more (drop (i + 1) raw) (plain_undone (get_or raw i 0) (drop (i + 1) raw) p e).inside ∙ ap (unescaped 0) (drop-drop p.more (i + 1) raw ∙ ap (λ (k : ℕ). drop k raw) far))

-- once the value that the rest stands for is written, the whole value is
pub record Leaves (whole rest : Option Bytes) (out₀ out : Bytes) (at : ℕ) : Type 0 where
  pub there : is_there whole ≡ is_there rest
  pub stored : is_there rest ≡ true → sets out at (value_or rest) ≡ sets out₀ 0 (value_or whole)
  pub size : is_there rest ≡ true → at + length (value_or rest) ≡ length (value_or whole)

leaves_on : {whole : Option Bytes} (rest : Option Bytes) (x : ℕ) {out₀ out out' : Bytes} {at : ℕ}
    → Leaves whole (precede x rest) out₀ out at → out' ≡ set out at x → Leaves whole rest out₀ out' (at + 1)
leaves_on none x s e = record { there = s.there; stored = λ f. absurd (false≢true f); size = λ f. absurd (false≢true f) }
leaves_on (some v) x {out = out} {at = at} s e =
    record {
      there = s.there;
      stored = λ f. rw (e, add-one) (s.stored f);
      size = λ f. omega (arith, s.size f);
    }

-- .. and where the loop stands
pub record Undoing (raw out₀ out : Bytes) (at i : ℕ) : Type 0 where
  pub goes : Leaves (unescaped 0 raw) (unescaped 0 (drop i raw)) out₀ out at
  pub inside : i ≤ length raw
  pub behind : at ≤ i
  pub long : length out ≡ length out₀

pub undoing_start : (raw out : Bytes) → Undoing raw out out 0 0
undoing_start raw out = record { goes = record { there = refl; stored = λ f. refl; size = λ f. omega arith }; inside = omega arith; behind = omega arith; long = refl }

-- the length of a value that is there
length_there : (o : Option Bytes) {n : ℕ} → is_there o ≡ true → n ≡ length (value_or o) → Some n ≡ length_of o
length_there none e z = absurd (false≢true e)
length_there (some v) e z = ap Some z

length_absent : (o : Option Bytes) → is_there o ≡ false → None ≡ length_of o
length_absent none e = refl
length_absent (some v) e = absurd (false≢true (sym e))

-- a byte that is handed back stands there
record Found (place : Option PlainByte) (byte size : ℕ) : Type 0 where
  plain : PlainByte
  place_is : place ≡ some plain
  byte_is : byte ≡ plain.byte
  size_is : size ≡ plain.more + 1

found_by : (place : Option PlainByte) {k : Character} → Some k ≡ character_of place → Found place k.byte k.size
found_by none {k} e = absurd (none-some k (sym e))
found_by (some p) {k} e =
    let same : k ≡ record { byte = p.byte; size = p.more + 1 } = same_Some _ _ e in
    record { plain = p; place_is = refl; byte_is = ap (λ (j : Character). j.byte) same; size_is = ap (λ (j : Character). j.size) same }

none_by : (place : Option PlainByte) → None ≡ character_of place → place ≡ none
none_by none e = refl
none_by (some p) e = absurd (none-some _ e)

module _ (raw : Bytes) {out₀ out : Bytes} {at i : ℕ} (inv : Undoing raw out₀ out at i) where
  module _ (h : i < length raw) where
    module _ {k : Character} (s : Some k ≡ character_of (place_at raw i)) where
      found : Found (place_at raw i) k.byte k.size
      found = found_by (place_at raw i) s

      -- the loop may go on by so many bytes
      pub undoing_inside : i + k.size ≤ length raw
      undoing_inside =
          omega (arith, found.size_is, (plain_undone (get_or raw i 0) (drop (i + 1) raw) found.plain found.place_is).inside, length-drop (i + 1) raw)

      pub undoing_onward : i < i + k.size
      undoing_onward = omega (arith, found.size_is)

      pub undoing_on : {out' : Bytes} → out' ≡ set out at k.byte → Undoing raw out₀ out' (at + 1) (i + k.size)
      undoing_on {out'} w =
          record {
            goes = subst (λ (z : ℕ). Leaves (unescaped 0 raw) (unescaped 0 (drop (i + z) raw)) out₀ out' (at + 1)) (sym found.size_is)
                (leaves_on _ found.plain.byte (subst (λ (o : Option Bytes). Leaves (unescaped 0 raw) o out₀ out at) (undone_on raw i h found.plain found.place_is) inv.goes)
                (w ∙ ap (set out at) found.byte_is));
            inside = undoing_inside;
            behind = omega (arith, inv.behind, found.size_is);
            long = ap length w ∙ length-set out at k.byte ∙ inv.long;
          }

    pub undoing_fault : None ≡ character_of (place_at raw i) → Unescapes raw out₀ None out
    undoing_fault e =
        record {
          is = length_absent (unescaped 0 raw) (inv.goes.there ∙ ap is_there (undone_here raw i h none (none_by (place_at raw i) e)));
          stored = λ f. absurd (false≢true f);
          long = inv.long;
        }

  pub undoing_end : length raw ≤ i → Unescapes raw out₀ (Some at) out
  undoing_end h =
      let e : unescaped 0 (drop i raw) ≡ some [] = ap (unescaped 0) (drop_of_length-le raw {i = i} h) ∙ unescaped_end in
      let g : Leaves (unescaped 0 raw) (some []) out₀ out at = subst (λ (o : Option Bytes). Leaves (unescaped 0 raw) o out₀ out at) e inv.goes in
      record { is = length_there (unescaped 0 raw) g.there (omega (arith, g.size refl)); stored = λ f. g.stored refl; long = inv.long }
