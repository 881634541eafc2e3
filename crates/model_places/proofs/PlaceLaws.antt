-- What the code finds at a place in the part of a definition is what the rules find in its model.
use Prim.Native.Nat.{ℕ, ◌+◌, ◌*◌, ◌<◌, ◌≤◌}
use native.Mathlib.Omega.{arith}
use mathlib.Core.Path.{◌≡◌, refl, sym, ap, ◌∙◌}
use mathlib.Core.Bool.{Bool, true, false, false≢true}
use mathlib.Core.Option.{Option, none, some, none-ne-some}
use mathlib.Core.List.{List, ◌++◌}
use lib.Dec.{leb}
use lib.ListN.{length, drop, length-append}
use Rattle.rules.specs.declared.Quantifier.{Quantifier}
use Rattle.rules.specs.declared.GroupKind.{GroupKind}
use Rattle.rules.specs.declared.GroupKind.TheVariants.{Sequence}
use Rattle.rules.specs.Bytes.{Bytes}
use Rattle.rules.specs.Model.{Members, done, rename}
use Rattle.rules.specs.Preorder.{build}
use Rattle.rules.specs.Layout.{particle_size}
use Rattle.rules.specs.Decode.{definition_count}
use Rattle.rules.specs.Place.{Context, here, past, over, into, Found as Spot, find, plug, kind_at, rename_around}
use Rattle.rules.specs.Edit.{insert, remove, quantify, convert, flatten, place, place_of as placed}
use Rattle.rules.specs.Passing.{passes}
use Rattle.rules.specs.Refusal.{found_at}
use Rattle.rules.proofs.Places.{found_gap, found_nth}
use Rattle.rules.proofs.RenamingPlaces.{plug_rename, spine_rename}
use Rattle.model.specs.declared.place.Holder.{Holder}
use Rattle.model.specs.declared.place.Found.{Found}
use Rattle.std.specs.Prelude.{Option as Maybe, Some, None}
use Rattle.model.specs.Members.{index_members, particles_of, members_from, all_members}
use Rattle.model.specs.Places.{Particles, leads_to, top, spot_of, place_in, last_by, PlaceTold, told, shown}
use Rattle.model.specs.Positions.{spread, offset, holder, spot_in, leading, trailing, level}
use Rattle.model.proofs.ParticleLaws.{length_particles}
use Rattle.model.proofs.FindLaws.{found_placed}
use Rattle.model.proofs.PositionLaws.{place_spot, spread_plug, length_leading}
use Rattle.model.proofs.WrittenLaws.{particles_written, members_written}
use Rattle.model.proofs.NamedPlaces.{rename_found, find_gap_named, find_nth_named}
use Rattle.store_laws.specs.Stores.{store_in}
use Rattle.model_places.specs.Placing.{index_of_name, model_in, part_in, leads, found_by, Placed}
use Rattle.model_places.proofs.OwnParts.{own_particles}
use Rattle.model.proofs.MembersLaws.{particles_past}

-- ---- the places of the changes
pub found_remove : (o : ℕ) (p : List ℕ) (bs : Bytes) → found_at remove o p (store_in bs) ≡ found_by false p (model_in bs o)
unfolding placed place found_by
found_remove o p bs = refl

pub found_quantify : (r : Quantifier) (o : ℕ) (p : List ℕ) (bs : Bytes) → found_at (quantify r) o p (store_in bs) ≡ found_by false p (model_in bs o)
unfolding placed place found_by
found_quantify r o p bs = refl

pub found_convert : (j : GroupKind) (n o : ℕ) (p : List ℕ) (bs : Bytes) → found_at (convert j n) o p (store_in bs) ≡ found_by false p (model_in bs o)
unfolding placed place found_by
found_convert j n o p bs = refl

pub found_flatten : (o : ℕ) (p : List ℕ) (bs : Bytes) → found_at flatten o p (store_in bs) ≡ found_by false p (model_in bs o)
unfolding placed place found_by
found_flatten o p bs = refl

pub found_insert : (q : Quantifier) (n : Bytes) (o : ℕ) (p : List ℕ) (bs : Bytes) → found_at (insert q n) o p (store_in bs) ≡ found_by true p (model_in bs o)
unfolding placed place found_by
found_insert q n o p bs = refl

-- ---- other names
kind_rename : {A B : Type 0} (f : A → B) (k : GroupKind) (c : Context A) → kind_at k (rename_around f c) ≡ kind_at k c
unfolding kind_at rename_around
kind_rename f k here = refl
kind_rename f k (past q n c) = kind_rename f k c
kind_rename f k (over q j ms c) = kind_rename f k c
kind_rename f k (into q j c rest) = kind_rename f j c

leads_named : {B : Type 0} (f : B → ℕ) (i : Bool) (place : List ℕ) (ms : Members B) → find (last_by i) place (rename f ms) ≡ rename_found f (leads i place ms)
leads_named f true place ms = find_gap_named f place ms
leads_named f false place ms = find_nth_named f place ms

leads_right : {A : Type 0} (i : Bool) (place : List ℕ) (ms : Members A) (x : Spot A) → leads i place ms ≡ some x → plug x.context x.picked ≡ ms
leads_right true place ms x e = found_gap place ms x e
leads_right false place ms x e = found_nth place ms x e

pub found_right : {A : Type 0} (i : Bool) (place : List ℕ) (ms : Members A) (x : Spot A) → found_by i place ms ≡ some x → plug x.context x.picked ≡ ms
unfolding found_by
found_right {A} i place ms x e = by (leb (length place) 5) e
  where
    by : (b : Bool) → elim b as (λ z. Option (Spot A)) [ true ↦ leads i place ms | false ↦ none ] ≡ some x → plug x.context x.picked ≡ ms
    by true e = leads_right i place ms x e
    by false e = absurd (none-ne-some _ e)

-- ---- in the part of a definition
abbrev picked_of : Option PlaceTold → Members ℕ
picked_of none = done
picked_of (some t) = t.picked

abbrev kind_of : GroupKind → Option PlaceTold → GroupKind
kind_of k none = k
kind_of k (some t) = t.kind

abbrev spine_of : Option PlaceTold → Bool
spine_of none = false
spine_of (some t) = t.spine

abbrev is_at : Maybe Found → Bool
is_at None = false
is_at (Some f) = true

abbrev held_in : Maybe Found → Holder
held_in None = top
held_in (Some f) = f.holder

abbrev stands_in : Maybe Found → ℕ
stands_in None = 0
stands_in (Some f) = f.particle

module _ (bs : Bytes) (pass : passes bs ≡ true) (o : ℕ) (l : o < definition_count bs) where
  members_own : all_members (part_in bs o) ≡ rename (index_of_name bs) (model_in bs o)
  unfolding members_from
  members_own =
      ap (λ (xs : Particles). index_members (build xs 0)) (own_particles bs pass o l ∙ sym (particles_written (spread 0 (rename (index_of_name bs) (model_in bs o)))))
      ∙ members_written (rename (index_of_name bs) (model_in bs o))

  module _ (i : Bool) (place : List ℕ) where
    -- WHERE THE CODE FINDS IT
    pub spot_is : place_in i place (part_in bs o) ≡ spot_in top (rename_found (index_of_name bs) (found_by i place (model_in bs o)))
    unfolding place_in found_by
    spot_is = by (leb (length place) 5)
      where
        by : (b : Bool)
            → ◌≡◌ {A = Maybe Found} (elim b [ true ↦ spot_of i place top (particles_of (part_in bs o)) | false ↦ None ])
            (spot_in top (rename_found (index_of_name bs) (elim b [ true ↦ leads i place (model_in bs o) | false ↦ none ])))
        by true =
            ap (spot_of i place top) (own_particles bs pass o l)
            ∙ place_spot i place top (rename (index_of_name bs) (model_in bs o))
            ∙ ap (spot_in top) (leads_named (index_of_name bs) i place (model_in bs o))
        by false = refl

    shown_is : shown (particles_of (part_in bs o)) (place_in i place (part_in bs o)) ≡ told Sequence true (rename_found (index_of_name bs) (found_by i place (model_in bs o)))
    unfolding found_by
    shown_is = found_placed i place (part_in bs o) ∙ by (leb (length place) 5)
      where
        by : (b : Bool)
            → told Sequence true (elim b [ true ↦ find (last_by i) place (all_members (part_in bs o)) | false ↦ none ])
            ≡ told Sequence true (rename_found (index_of_name bs) (elim b [ true ↦ leads i place (model_in bs o) | false ↦ none ]))
        by true =
            ap (λ (ms : Members ℕ). told Sequence true (find (last_by i) place ms)) members_own
            ∙ ap (told Sequence true) (leads_named (index_of_name bs) i place (model_in bs o))
        by false = refl

    -- absent for both
    pub absent : place_in i place (part_in bs o) ≡ None → found_by i place (model_in bs o) ≡ none
    absent e = by (found_by i place (model_in bs o)) refl
      where
        by : (x : Option (Spot Bytes)) → found_by i place (model_in bs o) ≡ x → x ≡ none
        by none q = refl
        by (some x) q = absurd (false≢true (sym (ap is_at e) ∙ ap is_at (spot_is ∙ ap (λ (z : Option (Spot Bytes)). spot_in top (rename_found (index_of_name bs) z)) q)))

    -- .. or there for both
    module _ (h : Holder) (p : ℕ) (e : place_in i place (part_in bs o) ≡ leads_to h p) where
      module _ (x : Spot Bytes) (q : found_by i place (model_in bs o) ≡ some x) where
        abbrev context : Context ℕ
        context = rename_around (index_of_name bs) x.context

        abbrev chosen : Members ℕ
        chosen = rename (index_of_name bs) x.picked

        same_spot : leads_to (holder top 0 context) (0 + offset context) ≡ leads_to h p
        same_spot = sym (spot_is ∙ ap (λ (z : Option (Spot Bytes)). spot_in top (rename_found (index_of_name bs) z)) q) ∙ e

        same_told : shown (particles_of (part_in bs o)) (leads_to h p) ≡ told Sequence true (some (record { context = context; picked = chosen }))
        same_told = ap (shown (particles_of (part_in bs o))) (sym e) ∙ shown_is ∙ ap (λ (z : Option (Spot Bytes)). told Sequence true (rename_found (index_of_name bs) z)) q

        own_spread : particles_of (part_in bs o) ≡ spread 0 (plug context chosen)
        own_spread =
            own_particles bs pass o l ∙ ap (λ (ms : Members Bytes). spread 0 (rename (index_of_name bs) ms)) (sym (found_right i place (model_in bs o) x q))
            ∙ ap (spread 0) (plug_rename (index_of_name bs) x.context x.picked)

        stands_at : offset context ≡ p
        stands_at = let z : 0 + offset context ≡ p = ap stands_in same_spot in omega arith

        long : particle_size * p ≤ length (part_in bs o)
        long =
            let n : length (spread 0 (plug context chosen)) ≡ offset context + length (spread (level 0 context) chosen ++ trailing 0 context) =
            ap length (spread_plug 0 context chosen) ∙ length-append (leading 0 context chosen) (spread (level 0 context) chosen ++ trailing 0 context)
            ∙ ap (λ (z : ℕ). z + length (spread (level 0 context) chosen ++ trailing 0 context)) (length_leading 0 context chosen) in
            omega (arith, stands_at, ap length own_spread, length_particles (part_in bs o))

        members_at_lem : members_from h.depth (drop (particle_size * p) (part_in bs o)) ≡ chosen
        unfolding members_from
        members_at_lem = ap (λ (xs : Particles). index_members (build xs h.depth)) (particles_past p (part_in bs o)) ∙ ap picked_of same_told

        there_is : Placed bs o i place h p
        there_is =
            record {
              at = e;
              found = x;
              there = q;
              particles = own_spread;
              held = ap held_in same_spot;
              stands = stands_at;
              inside = long;
              kind = ap (kind_of Sequence) same_told ∙ kind_rename (index_of_name bs) Sequence x.context;
              spine = ap spine_of same_told ∙ spine_rename (index_of_name bs) x.context;
              picked = members_at_lem;
            }

      pub present_at : Placed bs o i place h p
      present_at = by (found_by i place (model_in bs o)) refl
        where
          by : (x : Option (Spot Bytes)) → found_by i place (model_in bs o) ≡ x → Placed bs o i place h p
          by none q = absurd (false≢true (sym (ap is_at (spot_is ∙ ap (λ (z : Option (Spot Bytes)). spot_in top (rename_found (index_of_name bs) z)) q)) ∙ ap is_at e))
          by (some x) q = there_is x q
