-- The loop over the documents of a text: what is left to judge gives the verdict.
use mathlib.Core.Path.{◌≡◌, refl, sym, ap, subst, ◌∙◌}
use mathlib.Core.Bool.{Bool, true, false, ◌&&◌}
use mathlib.Core.Option.{Option, none, some}
use Rattle.std.specs.Prelude as code
use Rattle.std.specs.Prelude.{None, Some}
use Rattle.std.specs.Bool.{then_some}
use mathlib.Core.List.{List, [], ◌∷◌}
use Prim.Native.Nat.{ℕ, ◌+◌, ◌-◌, ◌*◌, ◌<◌, ◌≤◌}
use native.Mathlib.Omega.{arith}
use native.Mathlib.Nat.{zero-add}
use lib.Dec.{eqb}
use lib.ListN.{length, take, drop, replicate}
use lib.Seq.{length-take-le}
use Rattle.rules.specs.Bytes.{Bytes, is_none}
use Rattle.rules.specs.Preorder.{Deep}
use Rattle.rules.specs.Layout.{FlatRow, row_size, row_bytes, each}
use Rattle.codec.proofs.Writers.{laid_long}
use Rattle.layout.specs.Bodies.{width_of, WidthIn}
use Rattle.row_state.specs.State.{StateFits, start_state}
use Rattle.open_levels.specs.Open.{end}
use Rattle.row_step.specs.Steps.{Before}
use Rattle.row_check.specs.Verdict.{answer_from, verdict}
use Rattle.row_check.specs.Walking.{WalkMade}
use Rattle.row_check.proofs.PassLaws.{start_fits}
use Rattle.document_tokens.specs.Tokens.{Declared, declared_in, with_rows}
use Rattle.document_tokens.specs.Telling.{stack_of}
use Rattle.document_tokens.proofs.ChoiceLaws.{stack_size}
use Rattle.document_row_writer.specs.Putting.{documents_in, rows_or, rows_here, Starts, PartRead, SomePut}
use Rattle.document_row_writer.specs.declared.Written.{Written}
use Rattle.document_row_writer.specs.declared.Progress.{Progress}
use Rattle.document_row_writer.proofs.RowLaws.{rows_ended}
use Rattle.document_row_writer.proofs.PutLaws.{rows_start_lem}
use Rattle.document_reading.specs.Judging.{fit_from, rows_fit, Judges}
use Rattle.document_reading.proofs.FitLaws.{fit_refused, fit_after, fit_many, more_rows, fit_ended, rows_front, rows_size}

-- what was put at a width that is the one of a form's bytes
pub put_at_lem : {form : Bytes} {w : ℕ} → WidthIn form w → {d : Declared} {txt : Bytes} {m : ℕ} {opened : Bytes} {depth : ℕ} {tag : Bool} {limit : ℕ} {out : Bytes} {at : ℕ}
    {r : code.Option Written} {p' : Progress} {out' : Bytes} → SomePut w d txt m opened depth tag limit out at r p' out'
    → SomePut (width_of form) d txt m opened depth tag limit out at r p' out'
put_at_lem {form} {w} v {d} {txt} {m} {opened} {depth} {tag} {limit} {out} {at} {r} {p'} {out'} p =
    subst (λ (u : ℕ). SomePut u d txt m opened depth tag limit out at r p' out') v.value p

-- m rows came, and those from here on are left
pub record Judging (b : Before) (d : Declared) (rows : Option (List (Deep FlatRow))) (s opened : Bytes) (depth : ℕ) (tag : Bool) (m : ℕ) (t : Bytes) : Type 0 where
  pub is : rows_fit b rows ≡ fit_from b m s (rows_here b.width d m opened depth tag t)
  pub counts : fit_from b m s (rows_here b.width d m opened depth tag t) ≡ true → length (rows_or rows) ≡ m + length (rows_or (rows_here b.width d m opened depth tag t))
  pub few : m ≤ 4096
  pub fits : StateFits s
  pub stack : length opened ≡ 256
  pub deep : depth ≤ 255

-- at the start the state is one of zeros
fit_start : (b : Before) (o : Option (List (Deep FlatRow))) → rows_fit b o ≡ fit_from b 0 (replicate 130 0) o
unfolding verdict answer_from start_state
fit_start b none = refl
fit_start b (some xs) = rw zero-add

pub judging_start : (b : Before) (form txt opened : Bytes) {depth : ℕ} {tag : Bool} {m : ℕ} → length opened ≡ 256 → Starts depth tag m
    → Judging b (declared_in form) (documents_in b.width form txt) (replicate 130 0) opened depth tag m txt
judging_start b form txt opened {depth} {tag} {m} h s =
    let all = rows_start_lem b.width form txt opened s in
    let first : fit_from b 0 (replicate 130 0) (documents_in b.width form txt) ≡ fit_from b m (replicate 130 0) (rows_here b.width (declared_in form) m opened depth tag txt) =
    λ i. fit_from b (sym s.count_is i) (replicate 130 0) (sym all i) in
    record {
      is = fit_start b (documents_in b.width form txt) ∙ first;
      counts = λ e. omega (arith, s.count_is, ap (λ (o : Option (List (Deep FlatRow))). length (rows_or o)) all);
      few = omega (arith, s.count_is);
      fits = start_fits;
      stack = h;
      deep = omega (arith, s.depth_is);
    }

module _ {b : Before} {d : Declared} {rows : Option (List (Deep FlatRow))} {s opened : Bytes} {depth : ℕ} {tag : Bool} {m : ℕ} {t : Bytes}
    (p : Judging b d rows s opened depth tag m t) where
  -- a token is not exact
  pub judging_inexact : {limit : ℕ} {out out' : Bytes} {p' : Progress} → SomePut b.width d t m opened depth tag limit out 0 None p' out' → Judges b rows None
  judging_inexact q = record { is = sym (p.is ∙ ap (fit_from b m s) q.is.rows); counts = tt }

  -- some rows were put into an array
  module _ {limit : ℕ} {out : Bytes} {k : Written} {p' : Progress} {out' : Bytes} (q : SomePut b.width d t m opened depth tag limit out 0 (Some k) p' out') where
    abbrev part : PartRead b.width d t m opened depth tag out 0 k.size p'.count p'.opened p'.depth p'.tag out' k.at
    part = q.is.part

    abbrev left : Option (List (Deep FlatRow))
    left = rows_here b.width d p'.count p'.opened p'.depth p'.tag (drop k.size t)

    -- the verdict on them
    fit_is : {c : Bool} → fit_from b m s (with_rows part.made left) ≡ c → rows_fit b rows ≡ c
    fit_is h = p.is ∙ ap (fit_from b m s) part.rows ∙ h

    pub judging_many : 4096 < p'.count → Judges b rows None
    judging_many h = record { is = sym (fit_is (fit_many b m s part.made left (omega (arith, part.counted)))); counts = tt }

    -- the bytes of the rows that were put, where there is room for them
    pub batch_room : limit ≤ m + 16 → k.at ≤ 4272
    batch_room h = omega (arith, part.put.small, part.counted, q.is.ceiling)

    pub batch_whole : k.at ≤ length out → k.at ≡ length (take k.at out')
    batch_whole room = sym (length-take-le k.at out' (omega (arith, laid_long part.put.laid)))

    pub batch_size : {n : ℕ} → n ≡ p'.count - m → k.at ≤ length out → row_size b.width * n ≤ length (take k.at out')
    batch_size {n} h room =
        let many : n ≡ length part.made = omega (arith, part.counted) in
        omega (arith, rows_size part.put room, ap (λ (z : ℕ). row_size b.width * z) many)

    pub batch_walked : {n : ℕ} → n ≡ p'.count - m → k.at ≤ length out → {bs : Bytes} → bs ≡ take k.at out' → {answer : Bool} {s' : Bytes} → WalkMade b s n bs answer s'
        → WalkMade b s (length part.made) (each (row_bytes b.width) part.made) answer s'
    batch_walked {n} h room {bs} g {answer} {s'} made =
        let many : n ≡ length part.made = omega (arith, part.counted) in
        subst (λ (u : Bytes). WalkMade b s (length part.made) u answer s') (g ∙ rows_front part.put room)
        (subst (λ (z : ℕ). WalkMade b s z bs answer s') many made)

    module _ {answer : Bool} {s' : Bytes} (made : WalkMade b s (length part.made) (each (row_bytes b.width) part.made) answer s') where
      pub judging_refused : answer ≡ false → Judges b rows None
      judging_refused h = record { is = sym (fit_is (fit_refused b part.made made m left h)); counts = tt }

      pub judging_on : {t' : Bytes} → answer ≡ true → p'.count ≤ 4096 → length p'.opened ≡ 256 → t' ≡ drop k.size t
          → Judging b d rows s' p'.opened p'.depth p'.tag p'.count t'
      judging_on h few stack g =
          let goes : fit_from b m s (rows_here b.width d m opened depth tag t) ≡ fit_from b p'.count s' left =
          ap (fit_from b m s) part.rows ∙ fit_after b part.made made m left h ∙ ap (λ (z : ℕ). fit_from b z s' left) part.counted in
          rw g
          (record {
            is = p.is ∙ goes;
            counts = λ x.
                p.counts (goes ∙ x)
                ∙ ap (λ (o : Option (List (Deep FlatRow))). m + length (rows_or o)) part.rows
                ∙ more_rows b part.made p'.count m s' left x
                ∙ ap (λ (z : ℕ). z + length (rows_or left)) part.counted;
            few = few;
            fits = made.fits;
            stack = stack;
            deep = part.deep;
          })

  none_left : (l : List ℕ) → length (rows_or (elim (is_none l) [ true ↦ some [] | false ↦ none ])) ≡ 0
  none_left [] = refl
  none_left (x ∷ l) = refl

  pub judging_ended : length t ≡ 0 → {ends : Bool} → ends ≡ end b.form s → {r : code.Option ℕ} → r ≡ then_some (eqb depth 0 && ends) m → Judges b rows r
  judging_ended e {ends} g {r} y =
      let left = rows_ended d b.width (m + 1) (stack_of depth opened) tag t e in
      let fit : fit_from b m s (rows_here b.width d m opened depth tag t) ≡ (eqb depth 0 && ends) =
      ap (fit_from b m s) left ∙ fit_ended b m s (stack_of depth opened) p.few (stack_size depth opened) ∙ ap (λ (x : Bool). eqb depth 0 && x) (sym g) in
      let none = ap (λ (o : Option (List (Deep FlatRow))). length (rows_or o)) left ∙ none_left (stack_of depth opened) in
      rw y (by (eqb depth 0 && ends) (p.is ∙ fit) (λ x. omega (arith, p.counts (fit ∙ x), none)))
    where
      by : (c : Bool) → rows_fit b rows ≡ c → (c ≡ true → m ≡ length (rows_or rows)) → Judges b rows (then_some c m)
      by true f z = record { is = sym f; counts = z refl }
      by false f z = record { is = sym f; counts = tt }
