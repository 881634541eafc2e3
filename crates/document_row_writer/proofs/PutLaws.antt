-- The rows of documents, written: what some tokens give, and what the tokens after them give, is what all of them give.
use mathlib.Core.Path.{◌≡◌, refl, sym, ap, ◌∙◌}
use mathlib.Core.Bool.{Bool, true, false, ◌&&◌, ◌||◌, false≢true}
use mathlib.Core.Option as maybe
use mathlib.Core.Option.{none, some}
use Rattle.std.specs.Prelude.{None, Some}
use mathlib.Core.List.{List, [], ◌∷◌, ◌++◌, append-nil}
use Prim.Native.Nat.{ℕ, ◌+◌, ◌<◌, ◌≤◌}
use native.Mathlib.Omega.{arith}
use native.Mathlib.Nat.{add-zero}
use borrow.Author.Tests.{ltb-true, ltb-false}
use mathlib.Core.Logic.{◌⊎◌, inl, inr, ⊎_elim}
use lib.Dec.{eqb, ltb}
use lib.ListN.{length, take, drop, length-append, length-drop}
use lib.Seq.{drop-drop}
use Rattle.rules.specs.Bytes.{Bytes, is_none}
use Rattle.rules.specs.Preorder.{Deep}
use Rattle.rules.specs.Layout.{FlatRow, row_bytes, each}
use Rattle.rules.specs.WellFormed.{is_there}
use Rattle.rules.proofs.Words.{and_split}
use Rattle.rules.proofs.LayoutLaws.{each_append}
use Rattle.codec.specs.Laid.{Laid}
use Rattle.codec.proofs.Writers.{laid_none, laid_then, laid_as}
use Rattle.document_tokens.specs.Tokens.{Declared, declared_in, Token, token_at, with_rows}
use Rattle.document_tokens.specs.Telling.{stack_of, Tells, TokenTold}
use Rattle.document_tokens.proofs.TokenLaws.{token_fits, with_none, with_append}
use Rattle.document_row_writer.specs.Putting.{documents_in, rows_or, RowsRead, rows_here, made_row, made_count, Advanced, RowsPut, Starts, PartRead, TokenPut, SomeRead, SomePut}
use Rattle.document_row_writer.specs.declared.Written.{Written}
use Rattle.document_row_writer.specs.declared.Progress.{Progress}
use Rattle.document_row_writer.proofs.RowLaws.{rows_refused, rows_ended}
use Rattle.document_row_writer.proofs.AfterLaws.{made_many, made_few, rows_made_lem, made_counted, rows_left_lem}

-- ---- what was read of a text
pub part_none : {w : ℕ} {d : Declared} {txt : Bytes} {m : ℕ} {opened : Bytes} {depth : ℕ} {tag : Bool} {out : Bytes} {at : ℕ} → depth ≤ 255
    → PartRead w d txt m opened depth tag out at 0 m opened depth tag out at
part_none {w} {d} {txt} {m} {opened} {depth} {tag} h =
    record {
      made = [];
      rows = sym (with_none (rows_here w d m opened depth tag txt));
      put = record { laid = laid_none; small = omega arith };
      counted = add-zero m;
      few = omega arith;
      within = omega arith;
      deep = h;
    }

module _ {w : ℕ} {d : Declared} {txt : Bytes} {m : ℕ} {opened : Bytes} {depth : ℕ} {tag : Bool} {out : Bytes} {at size m₁ : ℕ} {opened₁ : Bytes} {depth₁ : ℕ} {tag₁ : Bool} {out₁ : Bytes} {at₁ : ℕ}
    (p : PartRead w d txt m opened depth tag out at size m₁ opened₁ depth₁ tag₁ out₁ at₁) where
  -- .. and then from there on
  pub part_then : {t : Bytes} {more m₂ : ℕ} {opened₂ : Bytes} {depth₂ : ℕ} {tag₂ : Bool} {out₂ : Bytes} {at₂ : ℕ} → t ≡ drop size txt
      → PartRead w d t m₁ opened₁ depth₁ tag₁ out₁ at₁ more m₂ opened₂ depth₂ tag₂ out₂ at₂
      → PartRead w d txt m opened depth tag out at (size + more) m₂ opened₂ depth₂ tag₂ out₂ at₂
  part_then {t} {more} {m₂} {opened₂} {depth₂} {tag₂} {out₂} {at₂} e q =
      let xs = p.made in
      let ys = q.made in
      let left : drop more t ≡ drop (size + more) txt = ap (drop more) e ∙ drop-drop more size txt in
      let rest : rows_here w d m₁ opened₁ depth₁ tag₁ (drop size txt) ≡ with_rows ys (rows_here w d m₂ opened₂ depth₂ tag₂ (drop (size + more) txt)) =
      ap (rows_here w d m₁ opened₁ depth₁ tag₁) (sym e) ∙ q.rows ∙ ap (λ (u : Bytes). with_rows ys (rows_here w d m₂ opened₂ depth₂ tag₂ u)) left in
      record {
        made = xs ++ ys;
        rows = p.rows ∙ ap (with_rows xs) rest ∙ with_append xs ys (rows_here w d m₂ opened₂ depth₂ tag₂ (drop (size + more) txt));
        put =
            record {
              laid = laid_as (each_append (row_bytes w) xs ys) (laid_then p.put.laid q.put.laid);
              small = omega (arith, p.put.small, q.put.small, length-append xs ys);
            };
        counted = omega (arith, p.counted, q.counted, length-append xs ys);
        few = omega (arith, p.few, q.few, length-append xs ys);
        within = omega (arith, p.within, q.within, ap length e, length-drop size txt);
        deep = q.deep;
      }

  -- .. where no rows are
  pub part_refused : {t : Bytes} → t ≡ drop size txt → rows_here w d m₁ opened₁ depth₁ tag₁ t ≡ none → rows_here w d m opened depth tag txt ≡ none
  part_refused e q = p.rows ∙ ap (with_rows p.made) (ap (rows_here w d m₁ opened₁ depth₁ tag₁) (sym e) ∙ q)

-- ---- the token
module _ (w : ℕ) (d : Declared) (txt : Bytes) (m : ℕ) (opened : Bytes) (depth : ℕ) (tag : Bool) (there : 0 < length txt) where
  abbrev t : Token
  t = token_at d w (stack_of depth opened) tag txt

  pub token_refused : {value v' : Bytes} → Tells t value None v' → {out out' : Bytes} {p' : Progress} {at : ℕ} → TokenPut w d txt m opened depth tag out at None p' out'
  token_refused p = record { is = rows_refused d w (m + 1) (stack_of depth opened) tag txt there (sym p.is) }

  pub token_put : {size sort index n : ℕ} {v' v : Bytes} → t.exact ≡ true → TokenTold t size sort index n v' → v ≡ take n v'
      → {out out' : Bytes} {at at' : ℕ} → RowsPut w (made_row sort depth index (m + 1) v) out at at' out'
      → {m' depth' : ℕ} {opened' : Bytes} {tag' : Bool} → Advanced tag opened depth sort index depth' opened' → m' ≡ m + made_count sort → tag' ≡ (eqb sort 1 || eqb sort 2)
      → TokenPut w d txt m opened depth tag out at (Some (record { size = size; at = at' })) (record { opened = opened'; depth = depth'; tag = tag'; count = m' }) out'
  token_put {size} {sort} {index} {n} {v'} {v} exact told valued {out} {out'} {at} {at'} p {m'} {depth'} {opened'} {tag'} adv mm g =
      let fits = token_fits d w (stack_of depth opened) tag txt exact in
      let onward : 0 < size = omega (arith, told.size_is, fits.onward) in
      record {
        is = record {
          part =
              record {
                made = made_row sort depth index (m + 1) v;
                rows =
                    rows_made_lem w d txt m opened depth tag there exact told valued
                    ∙ ap (with_rows (made_row sort depth index (m + 1) v)) (rows_left_lem w d txt m opened depth tag there exact told valued adv refl mm g);
                put = p;
                counted = made_counted w d txt m opened depth tag there exact told valued {size' = size} adv refl mm g;
                few = omega (arith, made_many sort depth index (m + 1) v, made_few sort, onward);
                within = omega (arith, told.size_is, fits.within);
                deep = adv.low;
              };
          onward = onward;
          more = omega (arith, made_few sort);
        };
      }

-- ---- the loop
-- it goes on: the text is not at its end, and there is room for a row
pub goes_on : (size all m limit : ℕ) → (ltb size all && ltb m limit) ≡ true → (size < all) × (m < limit)
goes_on size all m limit e = let (a, b) = and_split (ltb size all) (ltb m limit) e in (ltb-true size all a, ltb-true m limit b)

-- no more rows than the limit were written
pub record Putting (w : ℕ) (d : Declared) (txt : Bytes) (m : ℕ) (opened : Bytes) (depth : ℕ) (tag : Bool) (limit : ℕ) (out : Bytes) (at : ℕ)
    (size m' : ℕ) (opened' : Bytes) (depth' : ℕ) (tag' : Bool) (out' : Bytes) (at' : ℕ) : Type 0 where
  pub part : PartRead w d txt m opened depth tag out at size m' opened' depth' tag' out' at'
  pub ceiling : m' ≤ limit

module _ {w : ℕ} {d : Declared} {txt : Bytes} {m : ℕ} {opened : Bytes} {depth : ℕ} {tag : Bool} {limit : ℕ} {out : Bytes} {at size m₁ : ℕ} {opened₁ : Bytes} {depth₁ : ℕ} {tag₁ : Bool}
    {out₁ : Bytes} {at₁ : ℕ} (p : Putting w d txt m opened depth tag limit out at size m₁ opened₁ depth₁ tag₁ out₁ at₁) where
  pub putting_room : limit ≤ 8192 → at₁ ≤ at + 2187264
  putting_room h = omega (arith, p.part.put.small, p.part.counted, p.ceiling)

  module _ {t : Bytes} (e : t ≡ drop size txt) where
    pub putting_on : {p₂ : Written} {g₂ : Progress} {out₂ : Bytes} → TokenPut w d t m₁ opened₁ depth₁ tag₁ out₁ at₁ (Some p₂) g₂ out₂ → m₁ < limit
        → Putting w d txt m opened depth tag limit out at (size + p₂.size) g₂.count g₂.opened g₂.depth g₂.tag out₂ p₂.at
    putting_on q h = record { part = part_then p.part e q.is.part; ceiling = omega (arith, q.is.more) }

    pub putting_refused : {g₂ : Progress} {out₂ : Bytes} → TokenPut w d t m₁ opened₁ depth₁ tag₁ out₁ at₁ None g₂ out₂ → rows_here w d m opened depth tag txt ≡ none
    putting_refused q = part_refused p.part e q.is

  -- the loop ends at the end of the text or at the limit
  abbrev Ended : Type 0
  Ended = (length txt ≤ size) ⊎ (limit ≤ m₁)

  ended : (ltb size (length txt) && ltb m₁ limit) ≡ false → Ended
  ended g = by (ltb size (length txt)) refl g
    where
      by : (b : Bool) → ltb size (length txt) ≡ b → (b && ltb m₁ limit) ≡ false → Ended
      by true e h = inr (ltb-false m₁ limit h)
      by false e h = inl (ltb-false size (length txt) e)

  pub putting_ended : m < limit → (ltb size (length txt) && ltb m₁ limit) ≡ false
      → SomePut w d txt m opened depth tag limit out at (Some (record { size = size; at = at₁ })) (record { opened = opened₁; depth = depth₁; tag = tag₁; count = m₁ }) out₁
  putting_ended h g =
      record {
        is = record {
          part = p.part;
          onward = λ y. ⊎_elim (λ z. omega arith) (λ z. omega (arith, p.part.few, p.part.counted)) (ended g);
          ceiling = p.ceiling;
          ends = λ y. ⊎_elim (λ z. z) (λ z. absurd (omega arith)) (ended g);
        };
      }

-- ---- all of them
rows_there : (xs : List (Deep FlatRow)) (o : maybe.Option (List (Deep FlatRow))) → is_there (with_rows xs o) ≡ true → is_there o ≡ true
rows_there xs none e = e
rows_there xs (some ys) e = refl

rows_all : (xs : List (Deep FlatRow)) (l : List ℕ) → is_there (with_rows xs (elim (is_none l) [ true ↦ some [] | false ↦ none ])) ≡ true
    → rows_or (with_rows xs (elim (is_none l) [ true ↦ some [] | false ↦ none ])) ≡ xs
rows_all xs [] e = append-nil xs
rows_all xs (x ∷ l) e = absurd (false≢true e)

-- no row is written yet, and nothing is opened
pub rows_start_lem : (w : ℕ) (form txt opened : Bytes) {depth : ℕ} {tag : Bool} {m : ℕ} → Starts depth tag m → rows_here w (declared_in form) m opened depth tag txt ≡ documents_in w form txt
unfolding stack_of
rows_start_lem w form txt opened s = λ i. rows_here w (declared_in form) (s.count_is i) opened (s.depth_is i) (s.tag_is i) txt

-- rows written up to a limit that is past the last are all rows
module _ (w : ℕ) (form txt opened : Bytes) (read : RowsRead w form txt) {depth : ℕ} {tag : Bool} {m : ℕ} (s : Starts depth tag m) {out : Bytes} {at : ℕ}
    {size m' : ℕ} {opened' : Bytes} {depth' : ℕ} {tag' : Bool} {out' : Bytes} {at' : ℕ}
    (p : SomeRead w (declared_in form) txt m opened depth tag 4097 out at size m' opened' depth' tag' out' at') where
  abbrev rows : maybe.Option (List (Deep FlatRow))
  rows = documents_in w form txt

  part : PartRead w (declared_in form) txt m opened depth tag out at size m' opened' depth' tag' out' at'
  part = p.part

  abbrev left : maybe.Option (List (Deep FlatRow))
  left = rows_here w (declared_in form) m' opened' depth' tag' (drop size txt)

  are : rows ≡ with_rows part.made left
  are = sym (rows_start_lem w form txt opened s) ∙ part.rows

  there : is_there (with_rows part.made left) ≡ true
  there = sym (ap is_there are) ∙ read.there

  many : (o : maybe.Option (List (Deep FlatRow))) → is_there o ≡ true → length part.made ≤ length (rows_or (with_rows part.made o))
  many none e = absurd (false≢true e)
  many (some ys) e = omega (arith, length-append part.made ys)

  few : m' < 4097
  few = omega (arith, s.count_is, part.counted, many left (rows_there part.made left there), ap (λ (o : maybe.Option (List (Deep FlatRow))). length (rows_or o)) are, read.few)

  over : left ≡ elim (is_none (stack_of depth' opened')) [ true ↦ some [] | false ↦ none ]
  over = rows_ended (declared_in form) w (m' + 1) (stack_of depth' opened') tag' (drop size txt) (omega (arith, p.ends few, length-drop size txt))

  all_put : Laid (each (row_bytes w) (rows_or rows)) out at at' out'
  all_put =
      let whole : rows ≡ with_rows part.made (elim (is_none (stack_of depth' opened')) [ true ↦ some [] | false ↦ none ]) = are ∙ ap (with_rows part.made) over in
      let made : rows_or rows ≡ part.made = ap rows_or whole ∙ rows_all part.made (stack_of depth' opened') (sym (ap is_there whole) ∙ read.there) in
      laid_as (ap (each (row_bytes w)) made) part.put.laid

-- .. and there are rows
pub documents_there : (w : ℕ) (form txt opened : Bytes) → RowsRead w form txt → {depth : ℕ} {tag : Bool} {m : ℕ} → Starts depth tag m → {out : Bytes} {at : ℕ}
    {p' : Progress} {out' : Bytes} → SomePut w (declared_in form) txt m opened depth tag 4097 out at None p' out' → ⊥
documents_there w form txt opened read s p = false≢true (sym (ap is_there (sym (rows_start_lem w form txt opened s) ∙ p.is.rows)) ∙ read.there)

pub documents_put : (w : ℕ) (form txt opened : Bytes) → RowsRead w form txt → {depth : ℕ} {tag : Bool} {m : ℕ} → Starts depth tag m → {out : Bytes} {at : ℕ} {k : Written}
    {p' : Progress} {out' : Bytes} → SomePut w (declared_in form) txt m opened depth tag 4097 out at (Some k) p' out'
    → Laid (each (row_bytes w) (rows_or (documents_in w form txt))) out at k.at out'
documents_put w form txt opened read s p = all_put w form txt opened read s p.is
