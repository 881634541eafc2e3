-- Where the members of a group begin among the particles, and that they are read from there.
use Prim.Native.Nat.{ℕ, zero, suc, ◌+◌, ◌<◌}
use native.Mathlib.Omega.{arith}
use mathlib.Core.Path.{◌≡◌, refl, sym, ap, ◌∙◌}
use mathlib.Core.Option.{some}
use mathlib.Core.List.{List, [], ◌∷◌, ◌++◌, map, append_assoc}
use lib.ListN.{length, drop}
use lib.Seq.{drop-drop, drop-append-add}
use Rattle.rules.specs.declared.Quantifier.{Quantifier}
use Rattle.rules.specs.declared.GroupKind.{GroupKind}
use Rattle.rules.specs.Bytes.{Bytes}
use Rattle.rules.specs.Model.{Members, group, rename}
use Rattle.rules.specs.Place.{Context, here, past, over, into, plug, rename_around}
use Rattle.rules.specs.Edit.{Edit, place_of}
use Rattle.rules.specs.Store.{Content, empty, pcdata, complex, Definition, Form, Store, members}
use Rattle.rules.specs.Preorder.{build}
use Rattle.rules.specs.Layout.{index_of, content_particles, flat_definition, all_particles, flat}
use Rattle.rules.specs.Change.{definition_at}
use Rattle.rules.proofs.RenamingPlaces.{plug_rename}
use Rattle.change_laws.proofs.ModelAfter.{place_right}
use Rattle.change_laws.proofs.EditConditions.{complex_content, picked_complex}
use Rattle.model.specs.Members.{index_members, start_of}
use Rattle.model.specs.Places.{Particles}
use Rattle.model.specs.Positions.{spread, offset, leading, trailing, level}
use Rattle.model.proofs.PositionLaws.{spread_named, spread_plug, length_leading}
use Rattle.model.proofs.SpreadLaws.{Shallow, shallow_spread, spread_read}
use Rattle.planned_rows.specs.Planned.{members_at}

-- after a place nothing deeper than it comes
shallow_trailing : (d : ℕ) (c : Context ℕ) (rest : Particles) → Shallow (suc d) rest → Shallow (suc (level d c)) (trailing d c ++ rest)
shallow_trailing d here rest h = h
shallow_trailing d (past q i c) rest h = shallow_trailing d c rest h
shallow_trailing d (over q k ms c) rest h = shallow_trailing d c rest h
shallow_trailing d (into q k c t) rest h =
    let low : Shallow (suc d) (spread d t ++ rest) = shallow_spread d t rest h in
    let x : Shallow (suc (level (suc d) c)) (trailing (suc d) c ++ (spread d t ++ rest)) = shallow_trailing (suc d) c (spread d t ++ rest) (record { none = λ k l. low.none k (omega arith) }) in
    record { none = λ k l. ap (λ (z : Particles). build z k) (append_assoc (trailing (suc d) c) (spread d t) rest) ∙ x.none k l }

-- THE MEMBERS OF A GROUP at a place c of a model whose particles begin with number `start`
pub group_begins : (start : ℕ) (ps others : Particles) (c : Context ℕ) (q : Quantifier) (j : GroupKind) (ms rest : Members ℕ)
    → drop start ps ≡ spread 0 (plug c (group q j ms rest)) ++ others → Shallow 1 others
    → index_members (build (drop (start + (offset c + 1)) ps) (suc (level 0 c))) ≡ ms
group_begins start ps others c q j ms rest e h =
    ap (λ (l : Particles). index_members (build l (suc (level 0 c)))) seen
    ∙ spread_read (suc (level 0 c)) ms (spread (level 0 c) rest ++ (trailing 0 c ++ others)) (shallow_spread (level 0 c) rest (trailing 0 c ++ others) (shallow_trailing 0 c others h))
  where
    t : Members ℕ
    t = group q j ms rest

    lev : ℕ
    lev = level 0 c

    own : Particles
    own = spread (suc lev) ms ++ spread lev rest

    seen : drop (start + (offset c + 1)) ps ≡ spread (suc lev) ms ++ (spread lev rest ++ (trailing 0 c ++ others))
    seen =
        sym (drop-drop (offset c + 1) start ps)
        ∙ ap (λ (l : Particles). drop (offset c + 1) l) (e ∙ ap (λ (l : Particles). l ++ others) (spread_plug 0 c t) ∙ append_assoc (leading 0 c t) (spread lev t ++ trailing 0 c) others)
        ∙ ap (λ (n : ℕ). drop (n + 1) (leading 0 c t ++ ((spread lev t ++ trailing 0 c) ++ others))) (sym (length_leading 0 c t))
        ∙ drop-append-add (leading 0 c t) ((spread lev t ++ trailing 0 c) ++ others) 1
        ∙ append_assoc own (trailing 0 c) others
        ∙ append_assoc (spread (suc lev) ms) (spread lev rest) (trailing 0 c ++ others)

-- ---- in a store
module _ (form : Form) where
  abbrev index : Bytes → ℕ
  index n = index_of n form

  shallow_all : (ds : Form) → Shallow 1 (all_particles form ds)
  shallow_all [] = record { none = λ k l. refl }
  shallow_all (d ∷ ds) = by d.content (shallow_all ds)
    where
      by : (c : Content) → Shallow 1 (all_particles form ds) → Shallow 1 (content_particles form c ++ all_particles form ds)
      by empty h = h
      by pcdata h = h
      by (complex ms) h =
          let x : Shallow 1 (spread 0 (rename index ms) ++ all_particles form ds) = shallow_spread 0 (rename index ms) (all_particles form ds) h in
          record { none = λ k l. ap (λ (z : Particles). build (z ++ all_particles form ds) k) (spread_named form 0 ms) ∙ x.none k l }

  part_from : (o : ℕ) (ds : Form) → o < length ds
      → (rest : Form)
      × (drop (start_of o (map (flat_definition form) ds)) (all_particles form ds) ≡ content_particles form (definition_at o ds).content ++ all_particles form rest)
  part_from o [] l = absurd (omega arith)
  part_from zero (d ∷ ds) l = (ds, refl)
  part_from (suc o) (d ∷ ds) l =
      let (rest, e) = part_from o ds (omega arith) in
      (rest, drop-append-add (content_particles form d.content) (all_particles form ds) (start_of o (map (flat_definition form) ds)) ∙ e)

-- THE MEMBERS OF A GROUP that is found at a place of the model of definition o
pub group_at_lem : (s : Store) (o : ℕ) → o < length s.form → (e : Edit Bytes) (p : List ℕ) (c : Context Bytes) (q : Quantifier) (j : GroupKind) (ms rest : Members Bytes)
    → place_of e p (members (definition_at o s.form)) ≡ some (record { context = c; picked = group q j ms rest })
    → members_at (flat s) (start_of o (flat s).definitions + (offset (rename_around (λ n. index_of n s.form) c) + 1))
    (suc (level 0 (rename_around (λ n. index_of n s.form) c)))
    ≡ rename (λ n. index_of n s.form) ms
unfolding members_at rename
group_at_lem s o l e p c q j ms rest at =
    let (others, from) = part_from s.form o s.form l in
    group_begins (start_of o (flat s).definitions) (flat s).particles (all_particles s.form others) (rename_around ix c) q j (rename ix ms) (rename ix rest)
    (from ∙ ap (λ (z : Particles). z ++ all_particles s.form others) own) (shallow_all s.form others)
  where
    ix : Bytes → ℕ
    ix n = index_of n s.form

    d : Definition
    d = definition_at o s.form

    right : plug c (group q j ms rest) ≡ members d
    right = place_right e p (members d) (record { context = c; picked = group q j ms rest }) at

    own : content_particles s.form d.content ≡ spread 0 (plug (rename_around ix c) (rename ix (group q j ms rest)))
    own =
        ap (content_particles s.form) (complex_content d.content (picked_complex d.content c (group q j ms rest) right refl))
        ∙ spread_named s.form 0 (members d)
        ∙ ap (spread 0) (ap (rename ix) (sym right) ∙ plug_rename ix c (group q j ms rest))
