-- The text of a form in terms of its records: content models, and the lines of definitions and attributes.
use Rattle.std.specs.Prelude.{ℕ, zero, suc, ◌+◌, ◌≤◌, Bool, true, false, List, [], ◌++◌, map}
use Rattle.rules.specs.declared.GroupKind.{GroupKind}
use Rattle.rules.specs.Bytes.{Bytes, ascii, concat}
use Rattle.rules.specs.Store.{Attribute, Forest, bare, tree}
use Rattle.rules.specs.Preorder.{Deep, build}
use Rattle.rules.specs.Layout.{FlatDefinition, FlatParticle, FlatAttribute}
use Rattle.rules.specs.Decode.{name_at, quantifier_of, group_of, content_of, sort_of, read_members}
use Rattle.rules.specs.Print.{mark_of, separator, member_tokens, content_tokens, default_tokens, attribute_line, attribute_lines}
use Rattle.codec.specs.Laid.{Laid}

-- ---- content models
-- before a member: nothing at the first
abbrev pub sign_text : GroupKind → Bool → Bytes
sign_text k true = []
sign_text k false = separator k

unfoldable pub members_text : List Bytes → GroupKind → Bool → Forest FlatParticle → Bytes
members_text ns k first f = concat (member_tokens k (sign_text k first) (read_members ns f))

-- a member, by its sort, with the particles below it
abbrev pub member_body : List Bytes → ℕ → FlatParticle → Forest FlatParticle → Bytes
member_body ns zero p b = name_at p.index ns ++ (mark_of (quantifier_of p.quantifier) ++ [])
member_body ns (suc s) p b = ascii "(" ++ (members_text ns (group_of (suc s)) true b ++ (ascii ")" ++ (mark_of (quantifier_of p.quantifier) ++ [])))

unfoldable pub member_text : List Bytes → GroupKind → Bool → FlatParticle → Forest FlatParticle → Bytes
member_text ns k first p b = sign_text k first ++ member_body ns p.sort p b

-- ---- lines
-- w was written, in at most k bytes
pub record LaidWithin (k : ℕ) (w out : Bytes) (at r : ℕ) (out' : Bytes) : Type 0 where
  pub laid : Laid w out at r out'
  pub small : r ≤ at + k

-- an attribute as it stands in the form
abbrev pub attribute_read : FlatAttribute → Attribute
attribute_read x = record { name = x.name; sort = sort_of x.sort; value = x.value }

unfoldable pub default_text : FlatAttribute → Bytes
default_text x = concat (default_tokens (attribute_read x))

unfoldable pub attribute_line_text : Bytes → FlatAttribute → Bytes
attribute_line_text owner x = concat (attribute_line owner (attribute_read x))

unfoldable pub attributes_text : Bytes → List Attribute → Bytes
attributes_text owner table = concat (map concat (attribute_lines owner table))

abbrev pub is_tree : {A : Type 0} → Forest A → Bool
is_tree bare = false
is_tree (tree x b t) = true

unfoldable pub content_text : List Bytes → ℕ → Forest FlatParticle → Bytes
content_text ns kind f = concat (content_tokens (content_of kind (read_members ns f)))

unfoldable pub definition_text : List Bytes → FlatDefinition → List (Deep FlatParticle) → Bytes
definition_text ns d ps = ascii "<!ELEMENT " ++ (d.name ++ (ascii " " ++ (content_text ns d.kind (build ps 0) ++ (ascii ">\n" ++ []))))
