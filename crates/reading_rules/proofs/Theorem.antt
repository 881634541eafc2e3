-- W2: printing is one-to-one up to canonical stores; which texts are read, and what is refused. All holds since a
-- printed text is read as the canonical store (Parsing), which passes (CanonicalGood) and prints that text (SameText).
use Prim.Native.Nat.{ℕ}
use mathlib.Core.Path.{◌≡◌, refl, sym, ap, subst, ◌∙◌}
use mathlib.Core.Logic.{inl, inr, ◌↔◌}
use mathlib.Core.Bool.{Bool, true, false, ◌&&◌, false≢true}
use mathlib.Core.Option.{Option, none, some}
use Rattle.rules.specs.Bytes.{Bytes, same, same_eq, bytes}
use Rattle.rules.specs.Store.{Store}
use Rattle.rules.specs.Passing.{Good, good}
use Rattle.rules.specs.Outcome.{Outcome, refused}
use Rattle.rules.specs.Print.{printed}
use Rattle.rules.proofs.Words.{and_split, and_both}
use Rattle.rules.proofs.PassingLaws.{good_is}
use Rattle.reading_rules.specs.Canonical.{canonical}
use Rattle.reading_rules.specs.Reader.{parsed}
use Rattle.reading_rules.specs.Reading.{store_written, Prints, ReadsText, read_text, on_text, read_outcome}
use Rattle.reading_rules.proofs.SameText.{same_text}
use Rattle.reading_rules.proofs.Parsing.{parsed_printed}
use Rattle.reading_rules.proofs.CanonicalGood.{canonical_good}

-- two stores of one version that pass and print one text are one store, but for what no text shows
pub unique : (s t : Store) → Good s → Good t → s.version ≡ t.version → printed s ≡ printed t → canonical s ≡ canonical t
unique s t g h v e = sym (parsed_printed s g) ∙ ap (λ (z : ℕ). parsed z (printed s)) v ∙ ap (parsed t.version) e ∙ parsed_printed t h

canonical_version : (s : Store) → (canonical s).version ≡ s.version
unfolding canonical
canonical_version s = refl

-- the canonical store is its own
pub canonical_twice : (s : Store) → Good s → canonical (canonical s) ≡ canonical s
canonical_twice s g = unique (canonical s) s (canonical_good s g) g (canonical_version s) (same_text s)

-- 'Every text that the printer gives is read'
pub read_printed : (s : Store) → Good s → read_text s.version (printed s) ≡ some (canonical s)
unfolding read_text
read_printed s g =
    let v : ℕ = s.version in
    let t : Bytes = printed s in
    let e : parsed v t ≡ canonical s = parsed_printed s g in
    let h : (good (canonical s) && same (printed (canonical s)) t) ≡ true =
    and_both ((good_is (canonical s)).1 (canonical_good s g)) (bytes.same← (printed (canonical s)) t (same_text s)) in
    let h' : (good (parsed v t) && same (printed (parsed v t)) t) ≡ true = subst (λ (z : Store). (good z && same (printed z) t) ≡ true) (sym e) h in
    rw (h', read_text) (ap (λ (z : Store). some z) e)

parsed_version : (version : ℕ) (txt : Bytes) → (parsed version txt).version ≡ version
unfolding parsed
parsed_version version txt = refl

-- 'and printing the result gives that text again'
pub read_some : (version : ℕ) (txt : Bytes) (u : Store) → read_text version txt ≡ some u → Prints version u txt
unfolding read_text
read_some version txt u e = by (good (parsed version txt) && same (printed (parsed version txt)) txt) refl e
  where
    p : Store
    p = parsed version txt

    by : (b : Bool) → (good p && same (printed p) txt) ≡ b → elim b as (λ z. Option Store) [ true ↦ some p | false ↦ none ] ≡ some u → Prints version u txt
    by true q f =
        let (g, h) = and_split (good p) (same (printed p) txt) q in
        let is : p ≡ u = cc in
        subst (λ (z : Store). Prints version z txt) is (parsed_version version txt, (good_is p).0 g, same_eq (printed p) txt h)
    by false q f = absurd (let z : false ≡ true = cc in false≢true z)

-- what some store prints is read as that store's canonical one
prints_read : (version : ℕ) (txt : Bytes) (s : Store) → Prints version s txt → read_text version txt ≡ some (canonical s)
prints_read version txt s (v, g, e) = ap (λ (z : ℕ). read_text z txt) (sym v) ∙ ap (read_text s.version) (sym e) ∙ read_printed s g

-- what is read is canonical
pub read_canonical : (version : ℕ) (txt : Bytes) (u : Store) → read_text version txt ≡ some u → canonical u ≡ u
read_canonical version txt u e =
    let f : read_text version txt ≡ some (canonical u) = prints_read version txt u (read_some version txt u e) in
    cc

-- the relation of texts and answers is the computed answer: there is just one
pub reads_is : (version : ℕ) (txt : Bytes) (room : ℕ) (o : Outcome) → ReadsText version txt room o ↔ (o ≡ read_outcome version txt room)
unfolding read_outcome
reads_is version txt room o = (to, from (read_text version txt) refl)
  where
    to : ReadsText version txt room o → o ≡ read_outcome version txt room
    to (inl (s, p, q)) = q ∙ ap (on_text (store_written room)) (sym (prints_read version txt s p))
    to (inr (n, q)) = q ∙ by (read_text version txt) refl
      where
        by : (r : Option Store) → read_text version txt ≡ r → refused 19 ≡ on_text (store_written room) r
        by none e = refl
        by (some u) e = absurd (n u (read_some version txt u e))

    from : (r : Option Store) → read_text version txt ≡ r → o ≡ read_outcome version txt room → ReadsText version txt room o
    from none e q =
        inr (λ s p. let z : none ≡ some (canonical s) = sym e ∙ prints_read version txt s p in let y : false ≡ true = cc in false≢true y, q ∙ ap (on_text (store_written room)) e)
    from (some u) e q =
        inl (u, read_some version txt u e, q ∙ ap (on_text (store_written room)) (e ∙ ap (λ (z : Store). some z) (sym (read_canonical version txt u e))))
