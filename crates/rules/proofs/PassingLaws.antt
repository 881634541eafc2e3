-- The tests of the check decide what passes: `good` is `Good`, and `passes` is `Passes`.
use Prim.Native.Nat.{ℕ}
use mathlib.Core.Path.{◌≡◌}
use mathlib.Core.Logic.{◌↔◌}
use mathlib.Core.Bool.{Bool, true}
use mathlib.Core.Option.{some}
use mathlib.Core.List.{List, map}
use Rattle.rules.specs.Bytes.{Bytes}
use Rattle.rules.specs.Model.{Distinct, names}
use Rattle.rules.specs.Store.{Definition, Form, Row, Forest, Store, members}
use Rattle.rules.specs.Layout.{value_width, flat}
use Rattle.rules.specs.WellFormed.{within_ceilings, well_formed, lookup, attribute_name}
use Rattle.rules.specs.Conforming.{every_row, conforming, Conforming}
use Rattle.rules.specs.Passing.{known_version, laid_row, good_serials, good, Good, passes, Passes}
use Rattle.rules.proofs.Words.{and_split, and_both}
use Rattle.rules.proofs.WellFormedLaws.{well_formed_lem, definition_good}
use Rattle.rules.proofs.ConformingLaws.{conforming_is}
use Rattle.rules.proofs.SerialLaws.{every_row_lem, good_serials_lem}
use Rattle.rules.proofs.DecodeLaws.{passes_tests}

module _ (w : ℕ) (form : Form) (ok : well_formed w form ≡ true) where
  pub once : (n : Bytes) (d : Definition) → lookup n form ≡ some d → Distinct (names (members d))
  once n d e = (definition_good w form ok n d e).once

  pub apart : (n : Bytes) (d : Definition) → lookup n form ≡ some d → Distinct (map attribute_name d.attributes)
  apart n d e = (definition_good w form ok n d e).attribute_names

-- in a well-formed form the test for conforming decides it
pub conforming_good : (version w : ℕ) (form : Form) → well_formed w form ≡ true → (docs : Forest Row) → (conforming version form docs ≡ true) ↔ Conforming version form docs
conforming_good version w form ok docs = conforming_is version form (once w form ok) (apart w form ok) docs

module _ (s : Store) where
  laid : Row → List Row → Bool
  laid r below = laid_row (value_width s.version) r

  good→ : good s ≡ true → Good s
  unfolding good laid
  good→ e =
      let (v, e₁) = and_split (known_version s.version) _ e in
      let (c, e₂) = and_split (within_ceilings (flat s)) _ e₁ in
      let (f, e₃) = and_split (well_formed (value_width s.version) s.form) _ e₂ in
      let (d, e₄) = and_split (conforming s.version s.form s.docs) _ e₃ in
      let (l, n) = and_split (every_row laid s.docs) (good_serials s.next s.docs) e₄ in
      record {
        version = v;
        ceilings = c;
        form = (well_formed_lem (value_width s.version) s.form).0 f;
        docs = (conforming_good s.version (value_width s.version) s.form f s.docs).0 d;
        values = (every_row_lem laid s.docs).0 l;
        serials = (good_serials_lem s.next s.docs).0 n;
      }

  good← : Good s → good s ≡ true
  unfolding good laid
  good← g =
      let f : well_formed (value_width s.version) s.form ≡ true = (well_formed_lem (value_width s.version) s.form).1 g.form in
      and_both g.version (and_both g.ceilings (and_both f
      (and_both ((conforming_good s.version (value_width s.version) s.form f s.docs).1 g.docs)
      (and_both ((every_row_lem laid s.docs).1 g.values) ((good_serials_lem s.next s.docs).1 g.serials)))))

  pub good_is : (good s ≡ true) ↔ Good s
  good_is = (good→, good←)

-- a byte string passes the test exactly when it is the encoding of a good store
pub passes_is : (bs : Bytes) → (passes bs ≡ true) ↔ Passes bs
passes_is bs = (
  λ e.
      let (s, h, g) = (passes_tests bs).0 e in
      (s, h, (good_is s).0 g),
  λ p.
      let (s, h, g) = p in
      (passes_tests bs).1 (s, h, (good_is s).1 g),
)
