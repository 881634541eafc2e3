-- What the code tells of a token, by the tests that it made.
use mathlib.Core.Path.{◌≡◌, refl, sym, ap, ap₂, ◌∙◌}
use mathlib.Core.Bool.{Bool, true, false, ◌&&◌, and-false}
use mathlib.Core.Option as maybe
use mathlib.Core.Option.{none, some}
use Rattle.std.specs.Prelude.{Option, None, Some}
use Rattle.std.specs.Bool.{then_some}
use Rattle.std.proofs.lemmas.Option.{none-some, same_Some}
use mathlib.Core.List.{List, [], ◌++◌}
use Prim.Native.Nat.{ℕ, zero, suc, ◌+◌, ◌≤◌}
use native.Mathlib.Omega.{arith}
use native.Mathlib.Nat.{add-zero}
use borrow.Author.Tests.{leb-true, eq-eqb, ne_eqb, lt-ltb, le-ltb}
use lib.Dec.{eqb, leb, ltb}
use lib.ListN.{length, take, drop, get_or, length-append, length-drop}
use lib.Seq.{sets-eq, take-append_seam, get_or-drop}
use Rattle.rules.specs.Bytes.{Bytes, ascii}
use Rattle.rules.specs.WellFormed.{in_name}
use Rattle.rules.specs.Layout.{header_size}
use Rattle.rules.specs.Decode.{name_at, definition_count}
use Rattle.lookup.specs.Bodies.{bodies_of}
use Rattle.printing_parts.specs.Parts.{names_of}
use Rattle.text_scan.specs.Scan.{starts_with, first_byte, front_while, after_while, no_quote, no_tag, unescaped, value_or, value_of_raw, length_of, Unescapes}
use Rattle.text_scan.proofs.ScanLaws.{leading_take, trailing_drop, starts_long}
use Rattle.declaration_scan.specs.Declared.{place_among}
use Rattle.declaration_scan.specs.Names.{written_names, PlaceIn}
use Rattle.document_tokens.specs.Tokens.{Token, declared_in, declared_names, attribute_among, short_value, element_token, attribute_token, text_token, end_tag, end_token}
use Rattle.rules.specs.declared.RowSort.TheVariants.{Element, Attribute, Text}
use Rattle.document_tokens.specs.declared.Token as code
use Rattle.document_tokens.specs.declared.Quoted.{Quoted}
use Rattle.document_tokens.specs.Telling.{sort_code, Tells, ValueRead, quoted_raw, is_quoted, QuoteTold, Quotes}
use Rattle.document_tokens.proofs.FormLaws.{definitions_many}
use Rattle.document_tokens.proofs.TokenLaws.{leading_short, starts_both, first_there}

-- ---- any token
pub tells_as : {t t' : Token} {v : Bytes} {r : Option code.Token} {v' : Bytes} → t ≡ t' → Tells t' v r v' → Tells t v r v'
tells_as e p = rw e p

-- one that is not exact
pub tells_none : (t : Token) {v v' : Bytes} → t.exact ≡ false → length v' ≡ length v → Tells t v None v'
tells_none t g l = record { is = sym g; told = tt; long = l }

-- one without a value
pub tells_bare : (t : Token) (k : code.Token) → t.exact ≡ true → k.size ≡ t.size → sort_code k.sort ≡ t.sort → k.index ≡ t.index → k.length ≡ 0 → t.value ≡ [] → Tells t [] (Some k) []
tells_bare t k e s o i z v =
    record {
      is = sym e;
      told = record { size_is = s; sort_is = o; index_is = i; length_is = z ∙ sym (ap length v); value_is = ap (λ (j : ℕ). take {A = ℕ} j []) z ∙ sym v };
      long = refl;
    }

-- .. by a test
pub tells_tested : (t : Token) (k : code.Token) (b : Bool) → b ≡ t.exact → k.size ≡ t.size → sort_code k.sort ≡ t.sort → k.index ≡ t.index → k.length ≡ 0 → t.value ≡ []
    → Tells t [] (then_some b k) []
tells_tested t k true e s o i z v = tells_bare t k (sym e) s o i z v
tells_tested t k false e s o i z v = tells_none t (sym e) refl

-- .. tells the same where a buffer is left as it was
pub tells_beside : {t : Token} (r : Option code.Token) (v : Bytes) → t.value ≡ [] → Tells t [] r [] → Tells t v r v
tells_beside None v e p = record { is = p.is; told = tt; long = refl }
tells_beside {t} (Some k) v e p =
    let a = p.told in
    let z = a.length_is ∙ ap length e in
    record {
      is = p.is;
      told = record { size_is = a.size_is; sort_is = a.sort_is; index_is = a.index_is; length_is = a.length_is; value_is = ap (λ (j : ℕ). take j v) z ∙ sym e };
      long = refl;
    }

-- ---- an end tag
-- what comes after its name
abbrev pub end_mark : ℕ → Bytes
end_mark zero = ascii ">\n"
end_mark (suc others) = ascii ">"

pub inner_mark : (others : ℕ) → (others ≡ 0 → ⊥) → end_mark others ≡ ascii ">"
inner_mark zero h = absurd (h refl)
inner_mark (suc others) h = refl

module _ (bs : Bytes) (o : ℕ) (txt : Bytes) where
  end_tag_lem : (others : ℕ) → end_tag (declared_in bs) o others ≡ ascii "</" ++ (name_at o (names_of bs) ++ end_mark others)
  unfolding names_of
  end_tag_lem zero = refl
  end_tag_lem (suc others) = refl

  -- the name and what comes after it stand there
  abbrev named_so : ℕ → Bool
  named_so others = starts_with (name_at o (names_of bs)) (drop 2 txt) && starts_with (end_mark others) (drop (length (name_at o (names_of bs))) (drop 2 txt))

  end_parts : (others : ℕ) → (end_token (declared_in bs) o others txt).exact ≡ (starts_with (ascii "</") txt && named_so others)
  end_parts others =
      ap (λ (l : Bytes). starts_with l txt) (end_tag_lem others)
      ∙ starts_both (ascii "</") (name_at o (names_of bs) ++ end_mark others) txt
      ∙ ap (λ (b : Bool). starts_with (ascii "</") txt && b) (starts_both (name_at o (names_of bs)) (end_mark others) (drop 2 txt))

  end_size : (others : ℕ) → (end_token (declared_in bs) o others txt).size ≡ 2 + (length (name_at o (names_of bs)) + length (end_mark others))
  end_size others = ap length (end_tag_lem others) ∙ omega (arith, length-append (ascii "</") (name_at o (names_of bs) ++ end_mark others), length-append (name_at o (names_of bs)) (end_mark others))

  pub end_unbegun : (others : ℕ) → starts_with (ascii "</") txt ≡ false → (end_token (declared_in bs) o others txt).exact ≡ false
  end_unbegun others e = end_parts others ∙ ap (λ (b : Bool). b && named_so others) e

  module _ {name rest : Bytes} (named : name ≡ name_at o (names_of bs)) (r : rest ≡ drop 2 txt) (begun : starts_with (ascii "</") txt ≡ true) where
    after_name : (others : ℕ) → (end_token (declared_in bs) o others txt).exact ≡ (starts_with name rest && starts_with (end_mark others) (drop (length name) rest))
    after_name others =
        end_parts others
        ∙ ap (λ (b : Bool). b && named_so others) begun
        ∙ ap₂ (λ (x y : Bytes). starts_with x y && starts_with (end_mark others) (drop (length x) y)) (sym named) (sym r)

    pub end_other : (others : ℕ) → starts_with name rest ≡ false → (end_token (declared_in bs) o others txt).exact ≡ false
    end_other others e = after_name others ∙ ap (λ (b : Bool). b && starts_with (end_mark others) (drop (length name) rest)) e

    pub end_told : (others : ℕ) (mark : Bytes) {tail : Bytes} {b : Bool} {k : code.Token} {size : ℕ} {r : Option code.Token} → end_mark others ≡ mark → tail ≡ drop (length name) rest
        → starts_with name rest ≡ true → b ≡ starts_with mark tail → k ≡ record { size = size; sort = None; index = 0; length = 0 } → size ≡ 2 + (length name + length mark)
        → r ≡ then_some b k → Tells (end_token (declared_in bs) o others txt) [] r []
    end_told others mark {tail} {b} {k} m t s e z q g =
        rw g
        (tells_tested (end_token (declared_in bs) o others txt) k b
        (e ∙ ap₂ (λ (x y : Bytes). starts_with x y) (sym m) t ∙ sym (after_name others ∙ ap (λ (b : Bool). b && starts_with (end_mark others) (drop (length name) rest)) s))
        (ap (λ (j : code.Token). j.size) z ∙ q ∙ sym (end_size others ∙ ap₂ (λ (x y : Bytes). 2 + (length x + length y)) (sym named) m))
        (ap (λ (j : code.Token). sort_code j.sort) z) (ap (λ (j : code.Token). j.index) z) (ap (λ (j : code.Token). j.length) z) refl)

-- ---- a value
pub value_none : {w : ℕ} {raw value v' : Bytes} → Unescapes raw value None v' → ValueRead w raw value None v'
value_none {w} {raw} {value} {v'} u = by (unescaped 0 raw) refl u.is
  where
    by : (o : maybe.Option Bytes) → unescaped 0 raw ≡ o → None ≡ length_of o → ValueRead w raw value None v'
    by none e f = record { is = sym (ap (short_value w) e); told = tt; long = u.long }
    by (some v) e f = absurd (none-some _ f)

pub value_read : {w n : ℕ} {raw value v' : Bytes} → w ≤ length value → Unescapes raw value (Some n) v' → {r : Option ℕ} → r ≡ then_some (leb n w) n → ValueRead w raw value r v'
value_read {w} {n} {raw} {value} {v'} h u {r} g = rw g (by (unescaped 0 raw) refl u.is (leb n w) refl)
  where
    by : (o : maybe.Option Bytes) → unescaped 0 raw ≡ o → Some n ≡ length_of o → (b : Bool) → leb n w ≡ b → ValueRead w raw value (then_some b n) v'
    by none e f b l = absurd (none-some _ (sym f))
    by (some v) e f true l =
        let z : n ≡ length v = same_Some _ _ f in
        let whole : value_of_raw raw ≡ v = ap value_or e in
        let room : 0 + length (value_of_raw raw) ≤ length value = omega (arith, z, leb-true n w l, ap length whole) in
        let sized : n ≡ length (value_of_raw raw) = z ∙ ap length (sym whole) in
        record {
          is = sym l ∙ ap (λ (k : ℕ). leb k w) z ∙ sym (ap (short_value w) e);
          told = record {
            size = sized;
            stored = ap₂ (λ (k : ℕ) (s : Bytes). take k s) sized (u.stored refl ∙ sets-eq (value_of_raw raw) value 0 room)
                ∙ take-append_seam (value_of_raw raw) (drop (0 + length (value_of_raw raw)) value);
          };
          long = u.long;
        }
    by (some v) e f false l = record { is = sym l ∙ ap (λ (k : ℕ). leb k w) (same_Some _ _ f) ∙ sym (ap (short_value w) e); told = tt; long = u.long }

-- ---- a text
module _ (txt : Bytes) {rest raw : Bytes} {n : ℕ} (r : rest ≡ drop 1 txt) (z : n ≡ length (front_while no_tag rest)) (g : raw ≡ take n rest) where
  raw_text : raw ≡ front_while no_tag (drop 1 txt)
  raw_text = g ∙ ap (λ (k : ℕ). take k rest) z ∙ leading_take no_tag rest ∙ ap (front_while no_tag) r

  -- its value is none
  pub text_none : {w : ℕ} {value v' : Bytes} → ValueRead w raw value None v' → Tells (text_token w txt) value None v'
  text_none {w} v =
      tells_none (text_token w txt)
      (ap (λ (b : Bool). eqb (first_byte txt) 62 && b) (sym (v.is ∙ ap (λ (l : Bytes). short_value w (unescaped 0 l)) raw_text)) ∙ and-false (eqb (first_byte txt) 62)) v.long

  pub text_told : {w m : ℕ} {value v' : Bytes} {x : ℕ} → ValueRead w raw value (Some m) v' → x ≡ get_or txt 0 0 → x ≡ 62
      → Tells (text_token w txt) value (Some (record { size = 1 + n; sort = Some Text; index = 0; length = m })) v'
  text_told {w} {m} {value} {v'} v y h =
      record {
        is = ap₂ (λ (a b : Bool). a && b) (sym (eq-eqb (first_byte txt) 62 (sym y ∙ h))) (v.is ∙ ap (λ (l : Bytes). short_value w (unescaped 0 l)) raw_text);
        told = record {
          size_is = ap (λ (k : ℕ). 1 + k) (z ∙ ap (λ (l : Bytes). length (front_while no_tag l)) r);
          sort_is = refl;
          index_is = refl;
          length_is = v.told.size ∙ ap (λ (l : Bytes). length (value_of_raw l)) raw_text;
          value_is = v.told.stored ∙ ap value_of_raw raw_text;
        };
        long = v.long;
      }

pub text_other : (w : ℕ) (txt value : Bytes) {x : ℕ} → x ≡ get_or txt 0 0 → (x ≡ 62 → ⊥) → Tells (text_token w txt) value None value
text_other w txt value y h = tells_none (text_token w txt) (ap (λ (b : Bool). b && short_value w (unescaped 0 (front_while no_tag (drop 1 txt)))) (ne_eqb (first_byte txt) 62 (λ e. h (y ∙ e)))) refl

-- ---- a value in quotes
module _ (txt : Bytes) {rest front : Bytes} {raw : ℕ} (r : rest ≡ drop 2 txt) (z : raw ≡ length (front_while no_quote rest)) (g : front ≡ take raw rest) where
  front_is : front ≡ quoted_raw txt
  front_is = g ∙ ap (λ (k : ℕ). take k rest) z ∙ leading_take no_quote rest ∙ ap (front_while no_quote) r

  quote_at : get_or rest raw 0 ≡ first_byte (after_while no_quote (drop 2 txt))
  quote_at =
      ap (λ (k : ℕ). get_or rest k 0) (sym (add-zero raw)) ∙ sym (get_or-drop raw rest 0 0)
      ∙ ap (λ (k : ℕ). first_byte (drop k rest)) z ∙ ap first_byte (trailing_drop no_quote rest) ∙ ap (λ (l : Bytes). first_byte (after_while no_quote l)) r

  -- no `"` ends it
  pub quote_open : {w x : ℕ} (value : Bytes) → x ≡ get_or rest raw 0 → (x ≡ 34 → ⊥) → Quotes w txt value None value
  unfolding is_quoted
  quote_open {w} value y h =
      record {
        is = sym
            (ap (λ (b : Bool). starts_with (ascii "=\"") txt && (b && short_value w (unescaped 0 (quoted_raw txt))))
            (ne_eqb (first_byte (after_while no_quote (drop 2 txt))) 34 (λ e. h (y ∙ quote_at ∙ e)))
            ∙ and-false (starts_with (ascii "=\"") txt));
        told = tt;
        long = refl;
      }

  pub quote_none : {w : ℕ} {value v' : Bytes} → ValueRead w front value None v' → Quotes w txt value None v'
  unfolding is_quoted
  quote_none {w} v =
      record {
        is = sym
            (ap (λ (b : Bool). starts_with (ascii "=\"") txt && (eqb (first_byte (after_while no_quote (drop 2 txt))) 34 && b))
            (sym (v.is ∙ ap (λ (l : Bytes). short_value w (unescaped 0 l)) front_is))
            ∙ ap (λ (b : Bool). starts_with (ascii "=\"") txt && b) (and-false (eqb (first_byte (after_while no_quote (drop 2 txt))) 34))
            ∙ and-false (starts_with (ascii "=\"") txt));
        told = tt;
        long = v.long;
      }

  pub quote_told : {w m : ℕ} {value v' : Bytes} {x : ℕ} → ValueRead w front value (Some m) v' → x ≡ get_or rest raw 0 → x ≡ 34 → starts_with (ascii "=\"") txt ≡ true
      → Quotes w txt value (Some (record { raw = raw; length = m })) v'
  unfolding is_quoted
  quote_told {w} {m} {value} {v'} v y f a =
      let ends : eqb (first_byte (after_while no_quote (drop 2 txt))) 34 ≡ true = eq-eqb _ 34 (sym (y ∙ quote_at) ∙ f) in
      let there = first_there 33 (after_while no_quote (drop 2 txt)) ends in
      let long = z ∙ ap (λ (l : Bytes). length (front_while no_quote l)) r in
      record {
        is = v.is ∙ ap (λ (l : Bytes). short_value w (unescaped 0 l)) front_is ∙ ap₂ (λ (a b : Bool). a && (b && short_value w (unescaped 0 (quoted_raw txt)))) (sym a) (sym ends);
        told = record {
          raw_is = long;
          room = omega (arith, long, there, leading_short no_quote (drop 2 txt), length-drop 2 txt, starts_long (ascii "=\"") txt a);
          length_is = v.told.size ∙ ap (λ (l : Bytes). length (value_of_raw l)) front_is;
          value_is = v.told.stored ∙ ap value_of_raw front_is;
        };
        long = v.long;
      }

-- no `="` begins it
pub quote_unbegun : {w : ℕ} (txt value : Bytes) → starts_with (ascii "=\"") txt ≡ false → Quotes w txt value None value
unfolding is_quoted
quote_unbegun {w} txt value e =
    record { is = sym (ap (λ (b : Bool). b && (eqb (first_byte (after_while no_quote (drop 2 txt))) 34 && short_value w (unescaped 0 (quoted_raw txt)))) e); told = tt; long = refl }

-- ---- an attribute
-- the test of the place stands between those of the quotes
and_between : (a b x y : Bool) → (x && (a && (b && y))) ≡ (a && (b && (x && y)))
and_between true true x y = refl
and_between true false true y = refl
and_between true false false y = refl
and_between false b true y = refl
and_between false b false y = refl

module _ (bs : Bytes) (w o : ℕ) (txt : Bytes) {rest name : Bytes} {n : ℕ} (r : rest ≡ drop 1 txt) (z : n ≡ length (front_while in_name rest)) (a : name ≡ take n rest) where
  abbrev place : ℕ
  place = attribute_among o (front_while in_name (drop 1 txt)) (bodies_of bs).attributes

  exact_is : (ltb place (length (bodies_of bs).attributes) && is_quoted w (after_while in_name (drop 1 txt))) ≡ (attribute_token (declared_in bs) w o txt).exact
  unfolding is_quoted
  exact_is =
      let t : Bytes = after_while in_name (drop 1 txt) in
      and_between (starts_with (ascii "=\"") t) (eqb (first_byte (after_while no_quote (drop 2 t))) 34) (ltb place (length (bodies_of bs).attributes)) (short_value w (unescaped 0 (quoted_raw t)))

  named : name ≡ front_while in_name (drop 1 txt)
  named = a ∙ ap (λ (k : ℕ). take k rest) z ∙ leading_take in_name rest ∙ ap (front_while in_name) r

  name_size : n ≡ length (front_while in_name (drop 1 txt))
  name_size = z ∙ ap (λ (l : Bytes). length (front_while in_name l)) r

  placed : {i : Option ℕ} → PlaceIn (length (bodies_of bs).attributes) (attribute_among o name (bodies_of bs).attributes) i → PlaceIn (length (bodies_of bs).attributes) place i
  placed p = rw named at p

  -- there is no such attribute
  pub attribute_unplaced : (value : Bytes) → PlaceIn (length (bodies_of bs).attributes) (attribute_among o name (bodies_of bs).attributes) None
      → Tells (attribute_token (declared_in bs) w o txt) value None value
  attribute_unplaced value p =
      let past : place ≡ length (bodies_of bs).attributes = (placed p).found in
      tells_none (attribute_token (declared_in bs) w o txt)
      (sym exact_is ∙ ap (λ (b : Bool). b && is_quoted w (after_while in_name (drop 1 txt))) (le-ltb place (length (bodies_of bs).attributes) (omega (arith, past)))) refl

  module _ {tail : Bytes} (t : tail ≡ drop n rest) where
    left : tail ≡ after_while in_name (drop 1 txt)
    left = t ∙ ap (λ (k : ℕ). drop k rest) z ∙ trailing_drop in_name rest ∙ ap (after_while in_name) r

    -- its value is none
    pub attribute_unquoted : {value v' : Bytes} → Quotes w tail value None v' → Tells (attribute_token (declared_in bs) w o txt) value None v'
    attribute_unquoted {value} {v'} q =
        let none : false ≡ is_quoted w (after_while in_name (drop 1 txt)) = q.is ∙ ap (is_quoted w) left in
        tells_none (attribute_token (declared_in bs) w o txt)
        (sym exact_is ∙ ap (λ (b : Bool). ltb place (length (bodies_of bs).attributes) && b) (sym none) ∙ and-false (ltb place (length (bodies_of bs).attributes))) q.long

    module _ {value v' : Bytes} {k : Quoted} (q : Quotes w tail value (Some k) v') where
      quoted_so : QuoteTold (after_while in_name (drop 1 txt)) k.raw k.length v'
      quoted_so = (rw left at q).told

      pub attribute_room : 4 + (n + k.raw) ≤ length txt
      attribute_room = omega (arith, name_size, quoted_so.room, leading_short in_name (drop 1 txt), length-drop 1 txt)

      pub attribute_told : {i : ℕ} → PlaceIn (length (bodies_of bs).attributes) (attribute_among o name (bodies_of bs).attributes) (Some i)
          → Tells (attribute_token (declared_in bs) w o txt) value (Some (record { size = 4 + (n + k.raw); sort = Some Attribute; index = i; length = k.length })) v'
      attribute_told p =
          let (same, low) = (placed p).found in
          record {
            is = ap₂ (λ (a b : Bool). a && b) (sym (lt-ltb place (length (bodies_of bs).attributes) (omega (arith, same, low)))) (q.is ∙ ap (is_quoted w) left) ∙ exact_is;
            told = record {
              size_is = ap₂ (λ (j l : ℕ). 4 + (j + l)) name_size quoted_so.raw_is;
              sort_is = refl;
              index_is = same;
              length_is = quoted_so.length_is;
              value_is = quoted_so.value_is;
            };
            long = q.long;
          }

-- ---- the start of an element
names_declared : (bs : Bytes) → written_names (definition_count bs) (drop header_size bs) ≡ declared_names (declared_in bs)
unfolding written_names bodies_of
names_declared bs = refl

module _ (bs txt : Bytes) {rest name defs : Bytes} {n count x : ℕ} (r : rest ≡ drop 1 txt) (z : n ≡ length (front_while in_name rest)) (a : name ≡ take n rest) (d : defs ≡ drop header_size bs)
    (c : count ≡ definition_count bs) (y : x ≡ get_or txt 0 0) (b : x ≡ 60) where
  start_name : name ≡ front_while in_name (drop 1 txt)
  start_name = a ∙ ap (λ (k : ℕ). take k rest) z ∙ leading_take in_name rest ∙ ap (front_while in_name) r

  place_is : place_among name (written_names count defs) ≡ (element_token (declared_in bs) txt).index
  place_is = ap₂ (λ (l : Bytes) (ns : List Bytes). place_among l ns) start_name (ap₂ (λ (k : ℕ) (l : Bytes). written_names k l) c d ∙ names_declared bs)

  begun : eqb (first_byte txt) 60 ≡ true
  begun = eq-eqb (first_byte txt) 60 (sym y ∙ b)

  -- there is no such definition
  pub element_unplaced : PlaceIn count (place_among name (written_names count defs)) None → Tells (element_token (declared_in bs) txt) [] None []
  element_unplaced p =
      tells_none (element_token (declared_in bs) txt)
      (ap₂ (λ (a b : Bool). a && b) begun (le-ltb _ (length (bodies_of bs).definitions) (omega (arith, place_is, p.found, c, definitions_many bs)))) refl

  pub element_told : {i : ℕ} → PlaceIn count (place_among name (written_names count defs)) (Some i)
      → Tells (element_token (declared_in bs) txt) [] (Some (record { size = 1 + n; sort = Some Element; index = i; length = 0 })) []
  element_told {i} p =
      tells_bare (element_token (declared_in bs) txt) (record { size = 1 + n; sort = Some Element; index = i; length = 0 })
      (ap₂ (λ (a b : Bool). a && b) begun (lt-ltb _ (length (bodies_of bs).definitions) (omega (arith, place_is, p.found.0, p.found.1, c, definitions_many bs))))
      (ap (λ (k : ℕ). 1 + k) (z ∙ ap (λ (l : Bytes). length (front_while in_name l)) r)) refl (p.found.0 ∙ place_is) refl refl

-- no `<` begins it
pub element_other : (bs txt : Bytes) {x : ℕ} → x ≡ get_or txt 0 0 → (x ≡ 60 → ⊥) → Tells (element_token (declared_in bs) txt) [] None []
element_other bs txt y h = tells_none (element_token (declared_in bs) txt)
    (ap (λ (b : Bool). b && ltb (element_token (declared_in bs) txt).index (length (bodies_of bs).definitions)) (ne_eqb (first_byte txt) 60 (λ e. h (y ∙ e)))) refl
