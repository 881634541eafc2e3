-- The sort and the value of an attribute, as the code reads them.
use Prim.Native.Nat.{ℕ, zero, suc, min, ◌<◌, ◌≤◌}
use mathlib.Core.Path.{◌≡◌, refl, sym, ap, ap₂, ◌∙◌}
use mathlib.Core.Bool.{Bool, true, false}
use mathlib.Core.Logic.{◌⊎◌, inl, inr}
use mathlib.Core.Option.{Option, none, some}
use mathlib.Core.List.{[], ◌∷◌}
use native.Mathlib.Omega.{arith}
use native.Mathlib.Nat.{le_of_suc-le-suc, not-suc-le-zero}
use Rattle.std.specs.Prelude as code
use Rattle.std.specs.Prelude.{unwrap_or, is_some}
use lib.ListN.{length, take, drop, length-take}
use lib.Seq.{sets, take-nil, take_all}
use Rattle.rules.specs.Bytes.{Bytes, ascii}
use Rattle.rules.specs.WellFormed.{in_name}
use Rattle.rules.specs.Layout.{attribute_bytes}
use Rattle.rules.proofs.Words.{below_or}
use Rattle.codec.specs.Laid.{Laid}
use Rattle.codec.proofs.Writers.{laid_as, sets_tail}
use Rattle.layout.specs.RecordBytes.{attribute_of}
use Rattle.text_scan.specs.Scan.{starts_with, front_while, after_while, no_quote, unescaped, value_or, value_of_raw, length_of, Unescapes}
use Rattle.text_scan.proofs.ScanLaws.{leading_take}
use Rattle.declaration_scan.specs.Declared.{name_here, after_declared, declared_sort, declared_value, attribute_of_line}
use Rattle.declaration_scan.specs.Names.{NameOf}
use Rattle.attribute_scan.specs.Values.{quoted_value}

-- ---- the sort
abbrev sort_by : Bool → Bool → ℕ
sort_by a b = elim a [ true ↦ 0 | false ↦ elim b [ true ↦ 1 | false ↦ 2 ] ]

abbrev value_by : Bool → Bool → Bytes → Bytes
value_by a b v = elim a [ true ↦ [] | false ↦ elim b [ true ↦ ascii "-" | false ↦ v ] ]

-- ---- the record, by the sort
abbrev Declares : ℕ → ℕ → Bytes → Bytes → Bytes → ℕ → ℕ → Bytes → Type 0
Declares w owner name txt out at r out' = Laid (attribute_bytes w (attribute_of owner name (declared_sort txt) (take w (declared_value txt)))) out at r out'

pub declares_fixed : (w owner : ℕ) (name txt : Bytes) {out out' : Bytes} {at r : ℕ} → 2 ≡ declared_sort txt
    → Laid (attribute_bytes w (attribute_of owner name 2 (take w (quoted_value txt)))) out at r out' → Declares w owner name txt out at r out'
unfolding quoted_value
declares_fixed w owner name txt e l =
    laid_as
    (ap₂ (λ (s : ℕ) (v : Bytes). attribute_bytes w (attribute_of owner name s (take w v))) (sym e) (by (starts_with (ascii "#I") txt) (starts_with (ascii "#R") txt) (sym e)))
    l
  where
    by : (a b : Bool) → sort_by a b ≡ 2 → value_by a b (quoted_value txt) ≡ quoted_value txt
    by true b h = let z : ◌≡◌ {A = ℕ} 0 2 = h in absurd (omega arith)
    by false true h = let z : ◌≡◌ {A = ℕ} 1 2 = h in absurd (omega arith)
    by false false h = refl

-- ---- the value
-- the front of what was stored
front_sets : (k : ℕ) (l v : Bytes) → k ≤ length v → k ≤ length l → take k (sets l 0 v) ≡ take k v
front_sets zero l v p q = refl
front_sets (suc k) l [] p q = absurd (not-suc-le-zero p)
front_sets (suc k) [] (x ∷ v) p q = absurd (not-suc-le-zero q)
front_sets (suc k) (y ∷ l) (x ∷ v) p q =
    ap (take (suc k)) (sym (sets_tail (x ∷ l) v 1 (omega arith))) ∙ ap (λ (t : Bytes). x ∷ t) (front_sets k l v (le_of_suc-le-suc p) (le_of_suc-le-suc q))

take_least : (w : ℕ) (v : Bytes) → take (min (length v) w) v ≡ take w v
take_least w v = by (below_or (length v) w)
  where
    by : (length v < w) ⊎ (w ≤ length v) → take (min (length v) w) v ≡ take w v
    by (inl h) =
        let e : min (length v) w ≡ length v = omega arith in
        ap (λ (k : ℕ). take k v) e ∙ take_all (length v) v (omega arith) ∙ sym (take_all w v (omega arith))
    by (inr h) = let e : min (length v) w ≡ w = omega arith in ap (λ (k : ℕ). take k v) e

-- how long a value is, nothing where there is none
value_long : (o : Option Bytes) → unwrap_or (length_of o) 0 ≡ length (value_or o)
value_long none = refl
value_long (some v) = refl

pub value_kept : (raw value value' part : Bytes) (r : code.Option ℕ) (n w k : ℕ) → Unescapes raw value r value' → length value ≡ 256 → w < 256
    → n ≡ unwrap_or r 0 → k ≡ min n w → part ≡ take k value' → part ≡ take w (value_of_raw raw)
value_kept raw value value' part r n w k u long small z s p = by (unescaped 0 raw) refl
  where
    v : Bytes
    v = value_of_raw raw

    kept : k ≡ min (length v) w
    kept = s ∙ ap (λ (m : ℕ). min m w) (z ∙ ap (λ (o : code.Option ℕ). unwrap_or o 0) u.is ∙ value_long (unescaped 0 raw))

    by : (o : Option Bytes) → unescaped 0 raw ≡ o → part ≡ take w v
    by none e =
        let none : v ≡ [] = ap value_or e in
        let low : k ≡ 0 = omega (arith, kept, ap length none) in
        p ∙ ap (λ (m : ℕ). take m value') low ∙ sym (take-nil w) ∙ ap (take w) (sym none)
    by (some x) e =
        let there : is_some r ≡ true = ap is_some (u.is ∙ ap length_of e) in
        let low : min (length v) w ≤ length v = omega arith in
        let room : min (length v) w ≤ length value = omega arith in
        p ∙ ap₂ take kept (u.stored there) ∙ front_sets (min (length v) w) value v low room ∙ take_least w v

-- the quoted value, by its parts
pub value_quoted : (txt quoted raw part : Bytes) (n : ℕ) → quoted ≡ drop 8 txt → n ≡ length (front_while no_quote quoted) → raw ≡ take n quoted → (w : ℕ) → part ≡ take w (value_of_raw raw)
    → part ≡ take w (quoted_value txt)
unfolding quoted_value
value_quoted txt quoted raw part n q e r w p =
    p ∙ ap (λ (l : Bytes). take w (value_of_raw l)) (r ∙ ap (λ (k : ℕ). take k quoted) e ∙ leading_take no_quote quoted ∙ ap (front_while no_quote) q)

pub value_laid : (w owner : ℕ) (name part v : Bytes) (code : ℕ) {out out' : Bytes} {at r : ℕ} → part ≡ v → code ≡ 2
    → Laid (attribute_bytes w (attribute_of owner name code part)) out at r out' → Laid (attribute_bytes w (attribute_of owner name 2 v)) out at r out'
value_laid w owner name part v code e f l = laid_as (ap₂ (λ (k : ℕ) (u : Bytes). attribute_bytes w (attribute_of owner name k u)) (sym f) (sym e)) l

pub value_short : (part v : Bytes) (w : ℕ) → part ≡ take w v → length part ≤ w
value_short part v w e = omega (arith, ap length e, length-take w v)

-- ---- the line
pub line_laid : (w owner : ℕ) (line content name rest txt : Bytes) {out out' : Bytes} {at r : ℕ} → content ≡ after_declared line → NameOf (name_here content) name
    → rest ≡ after_while in_name content → txt ≡ drop 7 rest → Declares w owner name txt out at r out' → Laid (attribute_bytes w (attribute_of_line w owner line)) out at r out'
line_laid w owner line content name rest txt c n e f l =
    laid_as
    (ap₂ (λ (m t : Bytes). attribute_bytes w (attribute_of owner m (declared_sort t) (take w (declared_value t))))
    (sym (n.value ∙ ap name_here c)) (sym (f ∙ ap (drop 7) (e ∙ ap (after_while in_name) c))))
    l
