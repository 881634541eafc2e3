-- The particles of a model after an edit at a place.
use Prim.Native.Nat.{ℕ, zero, suc, ◌+◌, ◌≤◌}
use native.Mathlib.Omega.{arith}
use mathlib.Core.Path.{◌≡◌, refl, sym, ap, ap₂, ◌∙◌}
use mathlib.Core.Bool.{Bool, true, false, false≢true}
use mathlib.Core.Option.{none, some}
use mathlib.Core.List.{List, ◌++◌}
use lib.Dec.{leb}
use lib.ListN.{length, take, drop}
use lib.Seq.{take_at, drop_at}
use Rattle.rules.specs.Bytes.{Bytes}
use Rattle.rules.specs.Model.{Members, done, el, group, rename}
use Rattle.rules.specs.Layout.{particle_bytes, each}
use Rattle.rules.specs.Place.{Context, here, past, over, into, plug, Found as Spot, rename_around, find}
use Rattle.rules.specs.Edit.{Edit, insert, remove, quantify, convert, flatten, first_members, later_members, has_members, edited, place, place_of as placed, model_after, ◌⊕◌}
use Rattle.rules.proofs.RenamingPlaces.{plug_rename}
use Rattle.change_laws.proofs.ModelAfter.{place_of_lem, place_right}
use Rattle.model.specs.declared.place.Holder.{Holder}
use Rattle.model.specs.declared.place.Found.{Found}
use Rattle.std.specs.Prelude.{Option as Maybe, Some, None}
use Rattle.model.specs.Members.{particles_of}
use Rattle.model.specs.Places.{Particles, leads_to, top, place_in, last_by}
use Rattle.model.specs.Positions.{spread, offset, holder, spot_in, leading, trailing, level}
use Rattle.model.proofs.PositionLaws.{spread_plug, length_leading}
use Rattle.model.proofs.NamedPlaces.{rename_found, find_gap_named, find_nth_named}
use Rattle.model.proofs.WrittenLaws.{particles_written, place_written}
use Rattle.model_writer.specs.PartAfter.{suits, rename_edit, inserts, tail_after, count_after, recounted, part_after}
use Rattle.model_writer.proofs.TailAfter.{Stops, stops_spread, stops_append, tail_after_lem}
use Rattle.model_writer.proofs.HeadAfter.{start_top, depth_holder, head_after_lem, count_after_lem}

-- ---- after a place no particle of its list's depth or deeper is left
pub deep_level : (d : ℕ) (c : Context ℕ) → d ≤ level d c
deep_level d here = omega arith
deep_level d (past q i c) = deep_level d c
deep_level d (over q k ms c) = deep_level d c
deep_level d (into q k c rest) = omega (arith, deep_level (suc d) c)

stops_trailing : (d : ℕ) (c : Context ℕ) → Stops (level d c) (trailing d c)
stops_trailing d here = tt
stops_trailing d (past q i c) = stops_trailing d c
stops_trailing d (over q k ms c) = stops_trailing d c
stops_trailing d (into q k c rest) =
    stops_append (level (suc d) c) (trailing (suc d) c) (spread d rest) (stops_trailing (suc d) c) (stops_spread d (level (suc d) c) rest (omega (arith, deep_level (suc d) c)))

-- THE PARTICLES AFTER AN EDIT, over indices
pub part_after_lem : (e : Edit ℕ) (c : Context ℕ) (t : Members ℕ) → suits e t ≡ true → spread 0 (plug c (edited e t)) ≡ part_after e (holder top 0 c) (offset c) (spread 0 (plug c t))
unfolding part_after
part_after_lem e c t s =
    let lv : ℕ = level 0 c in
    let front : Particles = leading 0 c t in
    let back : Particles = spread lv t ++ trailing 0 c in
    let first : take (offset c) (spread 0 (plug c t)) ≡ front = ap (take (offset c)) (spread_plug 0 c t) ∙ take_at front back (offset c) (length_leading 0 c t) in
    let last : drop (offset c) (spread 0 (plug c t)) ≡ back = ap (drop (offset c)) (spread_plug 0 c t) ∙ drop_at front back (offset c) (length_leading 0 c t) in
    let heads : leading 0 c (edited e t) ≡ recounted (count_after e (drop (offset c) (spread 0 (plug c t)))) (holder top 0 c).start (take (offset c) (spread 0 (plug c t))) =
    head_after_lem (count_after e back) t (edited e t) (count_after_lem e lv t (trailing 0 c) s) 0 c ∙ (λ i. recounted (count_after e (sym last i)) (sym (start_top c) i) (sym first i)) in
    let tails : spread lv (edited e t) ++ trailing 0 c ≡ tail_after e (holder top 0 c).depth (drop (offset c) (spread 0 (plug c t))) =
    tail_after_lem e lv t (trailing 0 c) s (stops_trailing 0 c) ∙ (λ i. tail_after e (sym (depth_holder top 0 c) i) (sym last i)) in
    spread_plug 0 c (edited e t) ∙ ap₂ (λ (u v : Particles). u ++ v) heads tails

-- ---- an edit under other names
module _ {A B : Type 0} (f : A → B) where
  beside_named : (s t : Members A) → rename f (s ⊕ t) ≡ rename f s ⊕ rename f t
  unfolding rename ◌⊕◌
  beside_named done t = refl
  beside_named (el q x s) t = ap (el q (f x)) (beside_named s t)
  beside_named (group q k ms s) t = ap (group q k (rename f ms)) (beside_named s t)

  first_named : (n : ℕ) (t : Members A) → rename f (first_members n t) ≡ first_members n (rename f t)
  unfolding rename
  first_named zero t = refl
  first_named (suc n) done = refl
  first_named (suc n) (el q x t) = ap (el q (f x)) (first_named n t)
  first_named (suc n) (group q k ms t) = ap (group q k (rename f ms)) (first_named n t)

  later_named : (n : ℕ) (t : Members A) → rename f (later_members n t) ≡ later_members n (rename f t)
  unfolding rename
  later_named zero t = refl
  later_named (suc n) done = refl
  later_named (suc n) (el q x t) = later_named n t
  later_named (suc n) (group q k ms t) = later_named n t

  pub has_named : (n : ℕ) (t : Members A) → has_members n (rename f t) ≡ has_members n t
  unfolding rename
  has_named zero t = refl
  has_named (suc n) done = refl
  has_named (suc zero) (el q x t) = refl
  has_named (suc (suc n)) (el q x t) = has_named (suc n) t
  has_named (suc zero) (group q k ms t) = refl
  has_named (suc (suc n)) (group q k ms t) = has_named (suc n) t

  edited_named : (e : Edit A) (t : Members A) → rename f (edited e t) ≡ edited (rename_edit f e) (rename f t)
  unfolding rename edited
  edited_named (insert q n) t = refl
  edited_named remove done = refl
  edited_named remove (el q x t) = refl
  edited_named remove (group q k ms t) = refl
  edited_named (quantify r) done = refl
  edited_named (quantify r) (el q x t) = refl
  edited_named (quantify r) (group q k ms t) = refl
  edited_named (convert j n) t = rw (first_named n t, later_named n t)
  edited_named flatten done = refl
  edited_named flatten (el q x t) = refl
  edited_named flatten (group q k ms t) = beside_named ms t

  pub suits_named : (e : Edit A) (t : Members A) → suits (rename_edit f e) (rename f t) ≡ suits e t
  unfolding rename
  suits_named (insert q n) t = refl
  suits_named remove done = refl
  suits_named remove (el q x t) = refl
  suits_named remove (group q k ms t) = refl
  suits_named (quantify r) done = refl
  suits_named (quantify r) (el q x t) = refl
  suits_named (quantify r) (group q k ms t) = refl
  suits_named (convert j n) t = has_named n t
  suits_named flatten done = refl
  suits_named flatten (el q x t) = refl
  suits_named flatten (group q k ms t) = refl

-- the code finds the place, where the rules do
module _ (f : Bytes → ℕ) where
  spot_named : (e : Edit Bytes) (p : List ℕ) (ms : Members Bytes) → find (last_by (inserts e)) p (rename f ms) ≡ rename_found f (place e p ms)
  unfolding place
  spot_named (insert q n) p ms = find_gap_named f p ms
  spot_named remove p ms = find_nth_named f p ms
  spot_named (quantify r) p ms = find_nth_named f p ms
  spot_named (convert j n) p ms = find_nth_named f p ms
  spot_named flatten p ms = find_nth_named f p ms

  pub place_here : (e : Edit Bytes) (p : List ℕ) (ms : Members Bytes) (x : Spot Bytes) → placed e p ms ≡ some x
      → place_in (inserts e) p (each particle_bytes (spread 0 (rename f ms))) ≡ leads_to (holder top 0 (rename_around f x.context)) (offset (rename_around f x.context))
  unfolding placed
  place_here e p ms x at = place_written (inserts e) p (rename f ms) ∙ by (leb (length p) 5) refl
    where
      by : (b : Bool) → leb (length p) 5 ≡ b
          → ◌≡◌ {A = Maybe Found} (elim (leb (length p) 5) [ true ↦ spot_in top (find (last_by (inserts e)) p (rename f ms)) | false ↦ None ])
          (leads_to (holder top 0 (rename_around f x.context)) (offset (rename_around f x.context)))
      by true q =
          let z : 0 + offset (rename_around f x.context) ≡ offset (rename_around f x.context) = omega arith in
          rw q (ap (spot_in top) (spot_named e p ms ∙ ap (rename_found f) (place_of_lem e p ms x at)) ∙ ap (λ (n : ℕ). leads_to (holder top 0 (rename_around f x.context)) n) z)
      by false q =
          let z : none ≡ some x = rw (q, placed) at at in
          let y : false ≡ true = cc z in
          absurd (false≢true y)

-- where a place leads, the list and the particle are given by it
abbrev list_of : Maybe Found → Holder
list_of None = top
list_of (Some f) = f.holder

abbrev number_of : Maybe Found → ℕ
number_of None = 0
number_of (Some f) = f.particle

module _ {h g : Holder} {p n : ℕ} (e : leads_to h p ≡ leads_to g n) where
  pub same_list : h ≡ g
  same_list = ap list_of e

  pub same_particle : p ≡ n
  same_particle = ap number_of e

-- THE PART AFTER AN EDIT: from the bytes of the part before it and the place found in them
pub edited_part : (f : Bytes → ℕ) (e : Edit Bytes) (p : List ℕ) (ms : Members Bytes) (x : Spot Bytes) (bs : Bytes) (h : Holder) (at : ℕ)
    → bs ≡ each particle_bytes (spread 0 (rename f ms)) → placed e p ms ≡ some x → suits e x.picked ≡ true → place_in (inserts e) p bs ≡ leads_to h at
    → spread 0 (rename f (model_after e x)) ≡ part_after (rename_edit f e) h at (particles_of bs)
edited_part f e p ms x bs h at eb found fits w =
    let c : Context ℕ = rename_around f x.context in
    let same : leads_to (holder top 0 c) (offset c) ≡ leads_to h at = sym (place_here f e p ms x found) ∙ ap (place_in (inserts e) p) (sym eb) ∙ w in
    let held : holder top 0 c ≡ h = same_list same in
    let stands : offset c ≡ at = same_particle same in
    let old : spread 0 (plug c (rename f x.picked)) ≡ particles_of bs =
    ap (spread 0) (sym (plug_rename f x.context x.picked) ∙ ap (rename f) (place_right e p ms x found)) ∙ sym (ap particles_of eb ∙ particles_written (spread 0 (rename f ms))) in
    ap (spread 0) (plug_rename f x.context (edited e x.picked) ∙ ap (plug c) (edited_named f e x.picked))
    ∙ part_after_lem (rename_edit f e) c (rename f x.picked) (suits_named f e x.picked ∙ fits)
    ∙ (λ i. part_after (rename_edit f e) (held i) (stands i) (old i))
