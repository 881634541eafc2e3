-- What a place leads to in the part of a definition.
use Rattle.std.specs.Prelude.{ℕ, ◌*◌, ◌≤◌, ◌≡◌, Bool, true, false, List, leb, length, drop, Option as Maybe, Some, None, Result, Ok, Err}
use Rattle.std.proofs.Math.Option.{Option, none, some}
use Rattle.rules.specs.declared.Quantifier.{Quantifier}
use Rattle.rules.specs.declared.GroupKind.{GroupKind}
use Rattle.rules.specs.declared.GroupKind.TheVariants.{Sequence}
use Rattle.rules.specs.declared.Refusal.{Refusal}
use Rattle.rules.specs.Bytes.{Bytes}
use Rattle.rules.specs.Model.{Members, el, group, rename}
use Rattle.rules.specs.Store.{members}
use Rattle.rules.specs.Layout.{particle_size, index_of, how_many}
use Rattle.rules.specs.Place.{Found as Spot, gap, nth, find, plug, kind_at, spine, rename_around}
use Rattle.rules.specs.Change.{definition_at}
use Rattle.model.specs.declared.What.{What}
use Rattle.model.specs.declared.What.TheVariants.{Element, Group}
use Rattle.model.specs.declared.place.Holder.{Holder}
use Rattle.model.specs.Members.{particles_of, members_from}
use Rattle.model.specs.declared.place.Found.{Found}
use Rattle.model.specs.Places.{top, leads_to, place_in}
use Rattle.model.specs.Positions.{spread, offset, holder}
use Rattle.form_index.specs.Reading.{model_part}
use Rattle.layout.specs.Bodies.{definitions_in, particles_in}
use Rattle.store_laws.specs.Stores.{store_in}
use Rattle.model_places.specs.declared.Picked.{Picked}

-- the index of a name
abbrev pub index_of_name : Bytes → Bytes → ℕ
index_of_name bs n = index_of n (store_in bs).form

-- the model of definition o, and its part of the particle body
abbrev pub model_in : Bytes → ℕ → Members Bytes
model_in bs o = members (definition_at o (store_in bs).form)

abbrev pub part_in : Bytes → ℕ → Bytes
part_in bs o = model_part (definitions_in bs) (particles_in bs) o

-- what a place leads to: for insertion a gap, else a member
abbrev pub leads : {A : Type 0} → Bool → List ℕ → Members A → Option (Spot A)
leads true place ms = find gap place ms
leads false place ms = find nth place ms

unfoldable pub found_by : {A : Type 0} → Bool → List ℕ → Members A → Option (Spot A)
found_by insert place ms = elim (leb (length place) 5) [ true ↦ leads insert place ms | false ↦ none ]

-- THE PLACE: in the part of definition o the code finds the list h and
-- the particle p in it, the rules `found` in its model
pub record Placed (bs : Bytes) (o : ℕ) (insert : Bool) (place : List ℕ) (h : Holder) (p : ℕ) : Type 0 where
  pub at : place_in insert place (part_in bs o) ≡ leads_to h p
  pub found : Spot Bytes
  pub there : found_by insert place (model_in bs o) ≡ some found
  pub particles : particles_of (part_in bs o) ≡ spread 0 (plug (rename_around (index_of_name bs) found.context) (rename (index_of_name bs) found.picked))
  pub held : holder top 0 (rename_around (index_of_name bs) found.context) ≡ h
  pub stands : offset (rename_around (index_of_name bs) found.context) ≡ p
  pub inside : particle_size * p ≤ length (part_in bs o)
  pub kind : h.kind ≡ kind_at Sequence found.context
  pub spine : h.spine ≡ spine found.context
  pub picked : members_from h.depth (drop (particle_size * p) (part_in bs o)) ≡ rename (index_of_name bs) found.picked

pub record ElementAt (bs : Bytes) (o : ℕ) (place : List ℕ) (h : Holder) (p : ℕ) (q : Quantifier) : Type 0 where
  pub placed : Placed bs o false place h p
  pub name : Bytes
  pub rest : Members Bytes
  pub is : placed.found.picked ≡ el q name rest

-- n: how many members it has
pub record GroupAt (bs : Bytes) (o : ℕ) (place : List ℕ) (h : Holder) (p : ℕ) (q : Quantifier) (k : GroupKind) (n : ℕ) : Type 0 where
  pub placed : Placed bs o false place h p
  pub inner : Members Bytes
  pub rest : Members Bytes
  pub is : placed.found.picked ≡ group q k inner rest
  pub many : n ≡ how_many inner

-- the one or the other
abbrev pub MemberAt : Bytes → ℕ → List ℕ → Found → Quantifier → What → Type 0
MemberAt bs o place f q (Element i) = ElementAt bs o place f.holder f.particle q
MemberAt bs o place f q (Group k n) = GroupAt bs o place f.holder f.particle q k n

abbrev pub Picks : Bytes → ℕ → List ℕ → Maybe Picked → Type 0
Picks bs o place (Some x) = MemberAt bs o place x.place x.member.quantifier x.member.what
Picks bs o place None = found_by false place (model_in bs o) ≡ none

pub record Picking (bs : Bytes) (o : ℕ) (place : List ℕ) (r : Maybe Picked) : Type 0 where
  pub is : Picks bs o place r

-- THE PLACE FOUND ONCE: where no refusal applies, the place that a call goes on with
abbrev pub Finds : Bytes → ℕ → Bool → List ℕ → Result Found Refusal → Type 0
Finds bs o insert place (Ok f) = Placed bs o insert place f.holder f.particle
Finds bs o insert place (Err e) = Unit {0}
