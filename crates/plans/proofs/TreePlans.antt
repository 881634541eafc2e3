-- A plan by indices that follows a plan of the rules does on the
-- documents, written by indices, what that plan does on them.
use Prim.Native.Nat.{ℕ}
use mathlib.Core.Path.{◌≡◌, refl, sym, ap, ap₂, ◌∙◌}
use mathlib.Core.Logic.{◌⊎◌, inl, inr}
use mathlib.Core.Bool.{Bool, true, false, ◌&&◌, ◌||◌, not, and-true}
use mathlib.Core.List.{List, []}
use lib.Dec.{eqb}
use Rattle.rules.specs.Bytes.{Bytes}
use Rattle.rules.specs.Store.{Form, Row, Forest, bare, tree}
use Rattle.rules.specs.Preorder.{Deep, preorder}
use Rattle.rules.specs.Layout.{FlatRow, indexed}
use Rattle.rules.specs.Lines.{ground}
use Rattle.rules.specs.Change.{changed}
use Rattle.rules.specs.Change as change
use Rattle.rules.proofs.Words.{and_split}
use Rattle.change_laws.proofs.RowEdits.{revalued}
use Rattle.store_check.proofs.AttributeRows.{row_written}
use Rattle.row_walk.specs.declared.Plan.{Plan}
use Rattle.row_walk.specs.Walk.{matches, is_everything, names_ground, place_mark, is_later, owed}
use Rattle.plans.specs.Trees.{taken_at, filled_at, documents_walk}
use Rattle.plans.specs.Following.{Fills, RowFollows, Follows, DocumentsFollow, Plain}
use Rattle.plans.specs.Kept.{BothTake, FollowsKept}
use Rattle.plans.specs.Simulation.{planted, Going, Staying}
use Rattle.plans.proofs.SimulationLaws.{documents_simulate}

module _ (p : Plan) (plain : Plain p) where
  taken_plain : (sel due : Bool) (x : FlatRow) → taken_at p sel due x ≡ ((is_everything p.above || sel) && matches p.takes x)
  taken_plain sel due x =
      ap (λ (k : Bool). ((is_everything p.above || sel) && matches p.takes x) && not (k && due)) plain.keeps ∙ and-true ((is_everything p.above || sel) && matches p.takes x)

  filled_plain : (due : Bool) (x : FlatRow) → filled_at p due x ≡ (due && is_later p.marks p.later x)
  filled_plain due x =
      ap (λ (k : Bool). due && (is_later p.marks p.later x && not (k && (eqb x.sort 1 && eqb (place_mark p.marks x) 2)))) plain.spares
      ∙ ap (λ (k : Bool). due && k) (and-true (is_later p.marks p.later x))

module _ (form new : Form) (q : change.Plan) (p : Plan) (v : Bytes) (fill : ℕ → List (Deep FlatRow)) (plain : Plain p) where
  -- what is due is the same, below rows of `above` alone, and so are the fillings
  pub record Alike (sel due owes : Bool) (w u : Row) (f : Forest Row) : Type 0 where
    pub same : owes ≡ due
    pub chosen : due ≡ true → (sel ≡ true) × (p.fills ≡ true)
    pub fills : due ≡ true → Fills form new q p v fill u.name
    pub rows : FollowsKept form new q p v fill sel w u f

  filling_alike : (due owes : Bool) (u : Row) (a c : Bool) → owes ≡ due → (due ≡ true → Fills form new q p v fill u.name) → (due ≡ true → a ≡ c) → (d : ℕ)
      → owed (due && a) (fill d) ≡ planted form new q p v fill (owes && c) u.name d
  filling_alike true owes u true c e g h d = g refl d ∙ ap₂ (λ (o z : Bool). planted form new q p v fill (o && z) u.name d) (sym e) (h refl)
  filling_alike true owes u false c e g h d = ap₂ (λ (o z : Bool). planted form new q p v fill (o && z) u.name d) (sym e) (h refl)
  filling_alike false owes u a c e g h d = ap (λ (o : Bool). planted form new q p v fill (o && c) u.name d) (sym e)

  due_alike : (due owes a c : Bool) → owes ≡ due → (due ≡ true → a ≡ c) → (owes && not c) ≡ (due && not a)
  due_alike true owes a c e h = ap₂ (λ (o z : Bool). o && not z) e (sym (h refl))
  due_alike false owes a c e h = ap (λ (o : Bool). o && not c) e

  alike_step : (sel due owes : Bool) (w u r : Row) (b t : Forest Row) → Alike sel due owes w u (tree r b t)
      → (Going form new q p v fill sel due u r × Alike sel due owes w u t)
      ⊎ (Staying form new q p v fill sel due owes w u r
      × Alike (matches p.above (row_written form u.name r)) (matches p.above (row_written form u.name r) && p.fills) (q.fills (revalued q r)) (revalued q r) r b
      × Alike sel (due && not (is_later p.marks p.later (row_written form u.name r))) (owes && not (q.later w (revalued q r))) w u t)
  alike_step sel due owes w u r b t k = by k.rows
    where
      x : FlatRow
      x = row_written form u.name r

      m : Bool
      m = matches p.above x

      rest : FollowsKept form new q p v fill sel w u t → Alike sel due owes w u t
      rest h = record { same = k.same; chosen = k.chosen; fills = k.fills; rows = h }

      by : (BothTake form new q p v fill sel u r ⊎ (RowFollows form new q p v fill sel w u r × FollowsKept form new q p v fill m (revalued q r) r b)) × FollowsKept form new q p v fill sel w u t
          → (Going form new q p v fill sel due u r × Alike sel due owes w u t)
          ⊎ (Staying form new q p v fill sel due owes w u r × Alike m (m && p.fills) (q.fills (revalued q r)) (revalued q r) r b
          × Alike sel (due && not (is_later p.marks p.later x)) (owes && not (q.later w (revalued q r))) w u t)
      by (inl h, ht) = inl (record { taken = h.taken; takes = taken_plain p plain sel due x ∙ h.takes }, rest ht)
      by (inr (h, hb), ht) = kept (q.takes u r) refl
        where
          kept : (c : Bool) → q.takes u r ≡ c
              → (Going form new q p v fill sel due u r × Alike sel due owes w u t)
              ⊎ (Staying form new q p v fill sel due owes w u r × Alike m (m && p.fills) (q.fills (revalued q r)) (revalued q r) r b
              × Alike sel (due && not (is_later p.marks p.later x)) (owes && not (q.later w (revalued q r))) w u t)
          kept true e = inl (record { taken = e; takes = taken_plain p plain sel due x ∙ h.takes ∙ e }, rest ht)
          kept false e =
              inr (
                record {
                  taken = e;
                  takes = taken_plain p plain sel due x ∙ h.takes ∙ e;
                  filling = λ d.
                      ap (λ (c : Bool). owed c (fill d)) (filled_plain p plain due x)
                      ∙ filling_alike due owes u (is_later p.marks p.later x) (q.later w (revalued q r)) k.same k.fills (λ z. let (a, c) = k.chosen z in h.later a c) d;
                  index = h.index;
                  value = h.value;
                },
                record { same = sym h.fills; chosen = λ z. and_split m p.fills z; fills = λ z. h.filling (sym h.fills ∙ z); rows = hb },
                record {
                  same = due_alike due owes (is_later p.marks p.later x) (q.later w (revalued q r)) k.same (λ z. let (a, c) = k.chosen z in h.later a c);
                  chosen = λ z. k.chosen (and_split due (not (is_later p.marks p.later x)) z).0;
                  fills = λ z. k.fills (and_split due (not (is_later p.marks p.later x)) z).0;
                  rows = ht;
                },
              )

  alike_end : (sel due owes : Bool) (w u : Row) → Alike sel due owes w u bare → (d : ℕ) → owed due (fill d) ≡ planted form new q p v fill owes u.name d
  alike_end sel due owes w u k d =
      ap (λ (c : Bool). owed c (fill d)) (sym (and-true due))
      ∙ filling_alike due owes u true true k.same k.fills (λ z. refl) d
      ∙ ap (λ (c : Bool). planted form new q p v fill c u.name d) (and-true owes)

  pub documents_kept : (docs : Forest Row) → (names_ground p.above && p.fills) ≡ q.fills ground → (q.fills ground ≡ true → Fills form new q p v fill [])
      → FollowsKept form new q p v fill (names_ground p.above) ground ground docs
      → documents_walk p v fill (indexed form [] docs) ≡ preorder 0 (indexed new [] (changed q docs))
  documents_kept docs e f h =
      documents_simulate form new q p v fill Alike record { ends = alike_end; steps = alike_step } docs
      record { same = sym e; chosen = λ z. and_split (names_ground p.above) p.fills z; fills = λ z. f (sym e ∙ z); rows = h }

  follows_kept : (sel : Bool) (w u : Row) (f : Forest Row) → Follows form new q p v fill sel w u f → FollowsKept form new q p v fill sel w u f
  follows_kept sel w u bare h = tt
  follows_kept sel w u (tree r b t) (h, hb, ht) = (inr (h, follows_kept (matches p.above (row_written form u.name r)) (revalued q r) r b hb), follows_kept sel w u t ht)

  pub documents_follow : (docs : Forest Row) → DocumentsFollow form new q p v fill docs → documents_walk p v fill (indexed form [] docs) ≡ preorder 0 (indexed new [] (changed q docs))
  documents_follow docs h = documents_kept docs h.fills h.filling (follows_kept (names_ground p.above) ground ground docs h.rows)
