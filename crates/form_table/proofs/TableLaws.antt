-- The table is filled line by line, attribute by attribute; and what is looked up in it is what the form says.
use Prim.Native.Nat.{ℕ, suc, ◌+◌, ◌-◌, ◌<◌, ◌≤◌}
use native.Mathlib.Omega.{arith}
use native.Mathlib.Numerals.{add-one}
use mathlib.Core.Path.{◌≡◌, refl, sym, ap, ◌∙◌}
use mathlib.Core.Logic.{◌↔◌}
use mathlib.Core.Bool.{Bool, true, false, not, ◌&&◌, ◌||◌, and-false}
use mathlib.Core.List.{List}
use borrow.Author.Tests.{not-true, not-false, le-ltb, eqb-true, eqb-false, ne_eqb, not-true as has-not}
use lib.Dec.{eqb, ltb}
use lib.ListN.{length, get_or, set, length-set}
use lib.Seq.{get_or-set_same, get_or-set_other}
use Rattle.std.proofs.lemmas.Bool.{not_from_false}
use Rattle.rules.specs.Bytes.{Bytes}
use Rattle.rules.proofs.Words.{same_truth}
use Rattle.sets.specs.Sets.{has, bit, union}
use Rattle.sets.proofs.Laws.{has_none, has_with}
use Rattle.model.specs.Members.{all_members}
use Rattle.model.specs.Steps.{steps, finishes}
use Rattle.next_children.specs.Line.{NextsLine}
use Rattle.next_children.proofs.LineLaws.{ends_more}
use Rattle.form_index.specs.Reading.{model_part}
use Rattle.form_table.specs.Every.{every}
use Rattle.layout.specs.declared.Form.{Form}
use Rattle.layout.specs.Form.{FormOf}
use Rattle.form_table.specs.declared.Entry.{Entry}
use Rattle.form_table.specs.declared.Model.{Model}
use Rattle.form_table.specs.Lent.{members_of}
use Rattle.form_table.specs.Table.{wants, entry_at, Tabled, form_in, Lined, LinesStay, OneNeed, Needs}
use Rattle.form_table.proofs.Numbers.{every→, every←}

-- ---- the loop over the definitions
pub record Lining (f : Form) (i : ℕ) (t t' : List Entry) : Type 0 where
  pub long : length t' ≡ length t
  pub lined : Lined f i t'

module _ (f : Form) (t : List Entry) where
  abbrev model_of : ℕ → Bytes
  model_of k = model_part f.definitions.now f.particles.now k

  pub lining_starts : Lining f 0 t t
  lining_starts = record { long = refl; lined = record { models = record { line = λ k h. absurd (omega arith) }; blank = λ k h. absurd (omega arith) } }

  module _ (i : ℕ) (t₁ : List Entry) (l : Lining f i t t₁) (small : f.definition_count ≤ 64) (room : 64 ≤ length t) where
    pub lining_on : i < f.definition_count → (e : Entry) (part : Bytes) → part ≡ model_of i → NextsLine f.definition_count (all_members part) e.line → e.needed ≡ 0
        → Lining f (i + 1) t (set t₁ i e)
    lining_on h e part p line blank =
        record {
          long = length-set t₁ i e ∙ l.long;
          lined = record { models = record { line = λ k q. lines k q (eqb k i) refl }; blank = λ k q. blanks k q (eqb k i) refl };
        }
      where
        here : entry_at (set t₁ i e) i ≡ e
        here = get_or-set_same t₁ i e _ (omega (arith, l.long))

        other : (k : ℕ) → (k ≡ i → ⊥) → entry_at (set t₁ i e) k ≡ entry_at t₁ k
        other k q = get_or-set_other t₁ i k e _ q

        lines : (k : ℕ) → k < i + 1 → (b : Bool) → eqb k i ≡ b → NextsLine f.definition_count (all_members (model_of k)) (entry_at (set t₁ i e) k).line
        lines k q true z = rw (eqb-true k i z, here, ← p) line
        lines k q false z = let u : k ≡ i → ⊥ = eqb-false k i z in rw (other k u) (l.lined.models.line k (omega (arith, u)))

        blanks : (k : ℕ) → k < i + 1 → (b : Bool) → eqb k i ≡ b → (entry_at (set t₁ i e) k).needed ≡ 0
        blanks k q true z = rw (eqb-true k i z, here) blank
        blanks k q false z = let u : k ≡ i → ⊥ = eqb-false k i z in rw (other k u) (l.lined.blank k (omega (arith, u)))

-- ---- one attribute
apart_same : (t : List Entry) → LinesStay t t
apart_same t = record { same = λ i. refl }

stays : (a w c : Bool) → w ≡ false → a ≡ (a || (w && c))
stays true w c e = refl
stays false w c e = rw e

-- attribute j has the owner o and the sort s
-- o: its owner; s: whether a row of it must be there
module _ (f : Form) (j : ℕ) (t : List Entry) (o : ℕ) (s : Bool) (r : (i : ℕ) → (eqb o i && s) ≡ wants f i j) where
  not_wanted : ((i : ℕ) → i < f.definition_count → (eqb o i && s) ≡ false) → OneNeed f j t t
  not_wanted unwanted = record { apart = apart_same t; wanted = λ i k h m. stays (has (entry_at t i).needed k) (wants f i j) (eqb k j) (sym (r i) ∙ unwanted i h) }

  pub need_other : not s ≡ true → OneNeed f j t t
  need_other h = not_wanted (λ i m. ap (λ (b : Bool). eqb o i && b) (not-true s h) ∙ and-false (eqb o i))

  pub need_past : f.definition_count ≤ o → OneNeed f j t t
  need_past h = not_wanted (λ i m. ap (λ (b : Bool). b && s) (ne_eqb o i (λ z. omega arith)))

  module _ (v : ℕ) (put : v ≡ union (entry_at t o).needed (bit j)) where
    abbrev wider : Entry
    wider = record { line = (entry_at t o).line; needed = v }

    pub need_put : not s ≡ false → o < f.definition_count → f.definition_count ≤ 64 → 64 ≤ length t → OneNeed f j t (set t o wider)
    need_put h l small room = record { apart = record { same = λ i. same i (eqb i o) refl }; wanted = λ i k q m. by i k m (eqb o i) refl }
      where
        here : entry_at (set t o wider) o ≡ wider
        here = get_or-set_same t o wider _ (omega arith)

        other : (i : ℕ) → (i ≡ o → ⊥) → entry_at (set t o wider) i ≡ entry_at t i
        other i q = get_or-set_other t o i wider _ q

        same : (i : ℕ) (b : Bool) → eqb i o ≡ b → (entry_at (set t o wider) i).line ≡ (entry_at t i).line
        same i true z = rw (eqb-true i o z) (ap (λ (x : Entry). x.line) here)
        same i false z = ap (λ (x : Entry). x.line) (other i (eqb-false i o z))

        by : (i k : ℕ) → k < 64 → (b : Bool) → eqb o i ≡ b
            → has (entry_at (set t o wider) i).needed k ≡ (has (entry_at t i).needed k || (wants f i j && eqb k j))
        by i k m true z =
            let u : o ≡ i = eqb-true o i z in
            let y : wants f i j ≡ true = sym (r i) ∙ rw (z, not-false s h) in
            rw (y, ← u) (ap (λ (x : Entry). has x.needed k) here ∙ ap (λ (x : ℕ). has x k) put ∙ has_with (entry_at t o).needed j k m)
        by i k m false z =
            let u : o ≡ i → ⊥ = eqb-false o i z in
            ap (λ (x : Entry). has x.needed k) (other i (λ q. u (sym q)))
            ∙ stays (has (entry_at t i).needed k) (wants f i j) (eqb k j) (sym (r i) ∙ ap (λ (b : Bool). b && s) z)

-- ---- the loop over the attributes
pub record Needing (f : Form) (j : ℕ) (t t' : List Entry) : Type 0 where
  pub long : length t' ≡ length t
  pub needs : Needs f j t t'

module _ (f : Form) (t : List Entry) where
  pub needing_starts : Needing f 0 t t
  needing_starts =
      record {
        long = refl;
        needs = record { apart = apart_same t; wanted = λ i k h m z. ap (λ (s : ℕ). has s k) z ∙ has_none k ∙ sym (ap (λ (b : Bool). b && wants f i k) (le-ltb k 0 (omega arith))) };
      }

  module _ (j : ℕ) (t₁ : List Entry) (l : Needing f j t t₁) where
    pub needing_on : (t₂ : List Entry) → OneNeed f j t₁ t₂ → length t₂ ≡ length t₁ → Needing f (j + 1) t t₂
    needing_on t₂ o long =
        record {
          long = long ∙ l.long;
          needs =
              record {
                apart = record { same = λ i. o.apart.same i ∙ l.needs.apart.same i };
                wanted =
                    λ i k q m z. o.wanted i k q m ∙ ends_more j k (has (entry_at t₁ i).needed k) (wants f i j) (wants f i) refl (l.needs.wanted i k q m z)
                    ∙ ap (λ (x : ℕ). ltb k x && wants f i k) (sym (add-one j));
              };
        }

-- ---- the whole table
-- two forms of which a table says the same
module _ {f f' : Form} (v : f.version ≡ f'.version) (w : f.width ≡ f'.width) (n : f.definition_count ≡ f'.definition_count)
    (c : f.attribute_count ≡ f'.attribute_count) (d : f.definitions.now ≡ f'.definitions.now) (p : f.particles.now ≡ f'.particles.now)
    (s : f.attributes.now ≡ f'.attributes.now) where
  tabled_same : {t : List Entry} → Tabled f t → Tabled f' t
  tabled_same {t} x =
      record {
        long = x.long;
        models = record { line = λ k h. rw (← n, ← d, ← p) (x.models.line k (omega (arith, n))) };
        needed = λ i h. record { is = λ j m. rw (← c, ← v, ← w, ← s) ((x.needed i (omega (arith, n))).is j m) };
      }

-- the table of the form of a byte string, and of that form however it is lent
module _ {bs : Bytes} {f : Form} (x : FormOf bs f) {t : List Entry} where
  pub tabled_in : Tabled f t → Tabled (form_in bs) t
  tabled_in y = tabled_same x.version x.width x.definition_count x.attribute_count x.definitions x.particles x.attributes y

  pub tabled_of : Tabled (form_in bs) t → Tabled f t
  tabled_of y =
      tabled_same (sym x.version) (sym x.width) (sym x.definition_count) (sym x.attribute_count) (sym x.definitions) (sym x.particles) (sym x.attributes) y

-- ---- children, looked up
module _ (m : Model) (last : ℕ) (b : Bool) where
  pub follow_found : (y : ℕ) → last ≤ m.count → y < 64 → b ≡ has (get_or m.line.now.after last 0) y → b ≡ steps (members_of m) last y
  follow_found y l k e = e ∙ m.laid.next_is last y l k

  pub finish_none : last ≡ 0 → b ≡ m.line.now.nothing → b ≡ finishes (members_of m) last
  finish_none z e = rw z (e ∙ m.laid.nothing_is)

  pub finish_child : (last ≡ 0 → ⊥) → last ≤ m.count → b ≡ has m.line.now.lasts (last - 1) → b ≡ finishes (members_of m) last
  finish_child z l e =
      let u : suc (last - 1) ≡ last = omega (arith, z) in
      e ∙ m.laid.ends_is (last - 1) (omega (arith, z)) ∙ ap (finishes (members_of m)) u

-- ---- attributes, looked up
pub none_spares : (s from to : ℕ) (b : Bool) → ((b ≡ true) ↔ ((k : ℕ) → from ≤ k → k < to → has s k ≡ false)) → b ≡ every (λ j. not (has s j)) to from
none_spares s from to b e =
    same_truth b (every (λ j. not (has s j)) to from) (λ z. every← (λ j. not (has s j)) to from (λ k h l. not_from_false (has s k) (e.0 z k h l)))
    (λ z. e.1 (λ k h l. has-not (has s k) (every→ (λ j. not (has s j)) to from z k h l)))
