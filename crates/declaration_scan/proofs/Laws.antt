-- Marks, names and kinds as the code reads them.
use Prim.Native.Nat.{ℕ, zero, suc, ◌+◌, ◌-◌, ◌*◌, ◌<◌, ◌≤◌}
use mathlib.Core.Path.{◌≡◌, refl, sym, ap, ◌∙◌}
use mathlib.Core.Bool.{Bool, true, false}
use mathlib.Core.List.{[], ◌∷◌, map}
use native.Mathlib.Omega.{arith}
use native.Mathlib.Numerals.{add-one}
use native.Mathlib.Nat.{add-zero, zero-add}
use lib.ListN.{length, take, drop, length-take}
use lib.Seq.{drop-drop}
use Rattle.std.specs.Prelude.{Option, Some, None, MatchOption}
use Rattle.rules.specs.Bytes.{Bytes, same}
use Rattle.rules.specs.Store.{Form}
use Rattle.rules.specs.Layout.{definition_size, index_of}
use Rattle.rules.specs.WellFormed.{in_name, definition_name}
use Rattle.rules.specs.Decode.{read_definition}
use Rattle.layout.specs.Bodies.{record_at}
use Rattle.text_scan.proofs.ScanLaws.{leading_take, trailing_drop}
use Rattle.text_scan.specs.Scan.{front_while, after_while}
use Rattle.declaration_scan.specs.Declared.{name_here, place_among, declared_name, after_declared}
use Rattle.declaration_scan.specs.Names.{NameOf, written_names, PlaceIn}

-- ---- names
pub name_front : (txt a r : Bytes) (n : ℕ) → n ≡ length (front_while in_name txt) → a ≡ take n txt → r ≡ take 16 a → NameOf (name_here txt) r
name_front txt a r n e f g =
    let whole : r ≡ name_here txt = g ∙ ap (take 16) (f ∙ ap (λ (k : ℕ). take k txt) e ∙ leading_take in_name txt) in
    record { value = whole; short = omega (arith, ap length g ∙ length-take 16 a) }

pub name_passed : (txt r : Bytes) (n : ℕ) → n ≡ length (front_while in_name txt) → r ≡ drop n txt → r ≡ after_while in_name txt
name_passed txt r n e f = f ∙ ap (λ (k : ℕ). drop k txt) e ∙ trailing_drop in_name txt

pub name_declared : (l a r : Bytes) → a ≡ drop 10 l → NameOf (name_here a) r → NameOf (declared_name l) r
name_declared l a r e n = record { value = n.value ∙ ap name_here e; short = n.short }

pub rest_declared : (l a b r : Bytes) → a ≡ drop 10 l → b ≡ after_while in_name a → r ≡ drop 1 b → r ≡ after_declared l
rest_declared l a b r e f g = g ∙ ap (drop 1) (f ∙ ap (after_while in_name) e)

-- ---- the first definition of a name
-- the first i definitions do not have it
record Placing (name defs : Bytes) (n i : ℕ) : Type 0 where
  rest : place_among name (written_names n defs) ≡ i + place_among name (written_names (n - i) (drop (20 * i) defs))
  upto : i ≤ n

abbrev named_at : Bytes → Bytes → ℕ → Bool
named_at name defs i = same name (read_definition (record_at definition_size i defs)).name

module _ (name defs : Bytes) (n : ℕ) where
  module _ {i : ℕ} (p : Placing name defs n i) (h : i < n) where
    abbrev later : ℕ
    later = place_among name (written_names (n - (i + 1)) (drop (20 * (i + 1)) defs))

    placed_by : place_among name (written_names n defs) ≡ i + elim (named_at name defs i) [ true ↦ 0 | false ↦ suc later ]
    unfolding place_among written_names
    placed_by =
        let more : n - i ≡ suc (n - (i + 1)) = omega arith in
        let next : 20 * i + 20 ≡ 20 * (i + 1) = omega arith in
        p.rest ∙ ap (λ (k : ℕ). i + place_among name (written_names k (drop (20 * i) defs))) more
        ∙ ap (λ (l : Bytes). i + elim (named_at name defs i) [ true ↦ 0 | false ↦ suc (place_among name (written_names (n - (i + 1)) l)) ])
        (drop-drop 20 (20 * i) defs ∙ ap (λ (k : ℕ). drop k defs) next)

    placing_hit : named_at name defs i ≡ true → i ≡ place_among name (written_names n defs)
    placing_hit g = sym (placed_by ∙ ap (λ (b : Bool). i + elim b [ true ↦ 0 | false ↦ suc later ]) g ∙ add-zero i)

    placing_on : named_at name defs i ≡ false → Placing name defs n (i + 1)
    placing_on g =
        let on : place_among name (written_names n defs) ≡ i + suc later = placed_by ∙ ap (λ (b : Bool). i + elim b [ true ↦ 0 | false ↦ suc later ]) g in
        record { rest = omega (arith, on); upto = omega arith }

  placing_to : (i : ℕ) → i ≤ n → ((k : ℕ) → k < i → named_at name defs k ≡ false) → Placing name defs n i
  placing_to zero h f = let all : n - 0 ≡ n = omega arith in record { rest = rw (all, zero-add); upto = omega arith }
  placing_to (suc i) h f = rw (← add-one i) (placing_on (placing_to i (omega arith) (λ k l. f k (omega arith))) (omega arith) (f i (omega arith)))

  placing_end : Placing name defs n n → place_among name (written_names n defs) ≡ n
  unfolding place_among written_names
  placing_end p =
      let past : n - n ≡ 0 = omega arith in
      p.rest ∙ ap (λ (k : ℕ). n + place_among name (written_names k (drop (20 * n) defs))) past ∙ add-zero n

  -- what a search from the front says
  pub place_found : (r : Option ℕ)
      → MatchOption r ((k : ℕ) → 0 ≤ k → k < n → named_at name defs k ≡ false)
      (λ i. (0 ≤ i) × (i < n) × (named_at name defs i ≡ true) × ((k : ℕ) → 0 ≤ k → k < i → named_at name defs k ≡ false))
      → PlaceIn n (place_among name (written_names n defs)) r
  place_found None f = record { found = placing_end (placing_to n (omega arith) (λ k h. f k (omega arith) h)) }
  place_found (Some i) (z, h, e, f) = record { found = (placing_hit (placing_to i (omega arith) (λ k l. f k (omega arith) l)) h e, h) }

-- ---- the place of a name among a form's is its index
pub place_index : (n : Bytes) (form : Form) → place_among n (map definition_name form) ≡ index_of n form
unfolding place_among
place_index n [] = refl
place_index n (d ∷ ds) = ap (λ (i : ℕ). elim (same n d.name) [ true ↦ 0 | false ↦ suc i ]) (place_index n ds)
