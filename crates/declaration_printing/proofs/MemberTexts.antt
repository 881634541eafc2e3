-- The text of a content model is the texts of its members, one after the other.
use Prim.Native.Nat.{ℕ, zero, suc}
use mathlib.Core.Bool.{Bool, false}
use mathlib.Core.List.{List, [], ◌++◌, append-nil, append_assoc}
use mathlib.Core.Path.{◌≡◌, refl}
use Rattle.rules.specs.declared.GroupKind.{GroupKind}
use Rattle.rules.specs.Bytes.{Bytes, concat}
use Rattle.rules.specs.Store.{Forest, bare, tree}
use Rattle.rules.specs.Layout.{FlatParticle}
use Rattle.rules.specs.Decode.{read_members, member_of}
use Rattle.rules.specs.Print.{member_tokens}
use Rattle.rules.proofs.BooleanLaws.{concat_append}
use Rattle.declaration_printing.specs.Declarations.{sign_text, members_text, member_body, member_text}

members_step : (ns : List Bytes) (k : GroupKind) (first : Bool) (p : FlatParticle) (b t : Forest FlatParticle) (s : ℕ)
    → concat (member_tokens k (sign_text k first) (member_of ns p s (read_members ns b) (read_members ns t))) ≡ (sign_text k first ++ member_body ns s p b) ++ members_text ns k false t
unfolding members_text
members_step ns k first p b t zero = simp (append_assoc, append-nil)
members_step ns k first p b t (suc s) = simp (concat_append, append_assoc, append-nil)

pub members_tree : (ns : List Bytes) (k : GroupKind) (first : Bool) (p : FlatParticle) (b t : Forest FlatParticle)
    → members_text ns k first (tree p b t) ≡ member_text ns k first p b ++ members_text ns k false t
unfolding member_text members_text
members_tree ns k first p b t = members_step ns k first p b t p.sort

pub members_bare : (ns : List Bytes) (k : GroupKind) (first : Bool) → members_text ns k first bare ≡ []
unfolding members_text
members_bare ns k first = refl
