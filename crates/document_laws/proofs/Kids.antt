-- The rows right below an element that conforms: attribute rows with names of its table, then its content.
use Prim.Native.Nat.{ℕ}
use mathlib.Core.Path.{◌≡◌, refl, ap, subst}
use mathlib.Core.Bool.{Bool, true, false}
use mathlib.Core.List.Memᴰ
use mathlib.Core.List.{List, [], ◌∷◌, ◌++◌, map, Memᴰ}
use lib.Dec.{eqb}
use Rattle.rules.specs.Store.{Content, empty, pcdata, complex, Definition, element, attribute, text, Row}
use Rattle.rules.specs.Layout.{kind_code}
use Rattle.rules.specs.WellFormed.{attribute_name}
use Rattle.rules.specs.Conforming.{name_of, Sorted, ContentRows, ElementRows}
use Rattle.rules.proofs.ConformingLaws.{in_order_lem}

-- `true`: the start tag is not ended yet
pub data Kids (d : Definition) : Bool → List Row → Type 0 where
  attribute_kid : {r : Row} {rs : List Row} → r.sort ≡ attribute → Memᴰ r.name (map attribute_name d.attributes) → Kids d true rs → Kids d true (r ∷ rs)
  text_kid : {r : Row} → eqb (kind_code d.content) 1 ≡ true → r.sort ≡ text → Kids d true (r ∷ [])
  start_ended : {rs : List Row} → eqb (kind_code d.content) 1 ≡ false → Kids d false rs → Kids d true rs
  no_kid : Kids d false []
  element_kid : {r : Row} {rs : List Row} → r.sort ≡ element → Kids d false rs → Kids d false (r ∷ rs)

element_kids : (d : Definition) (rs : List Row) → Sorted element rs → Kids d false rs
element_kids d [] q = no_kid
element_kids d (r ∷ rs) q = element_kid (q r (Memᴰ.head refl)) (element_kids d rs (λ u m. q u (Memᴰ.tail m)))

content_kids : (d : Definition) (rs : List Row) → ContentRows d.content rs → Kids d true rs
content_kids d rs x = by d.content refl x
  where
    by : (c : Content) → d.content ≡ c → ContentRows c rs → Kids d true rs
    by empty q e = rw e (start_ended (ap (λ (z : Content). eqb (kind_code z) 1) q) no_kid)
    by pcdata q (r, e, s) = rw e (text_kid (ap (λ (z : Content). eqb (kind_code z) 1) q) s)
    by (complex ms) q (s, l) = start_ended (ap (λ (z : Content). eqb (kind_code z) 1) q) (element_kids d rs s)

front_kids : (d : Definition) (front rest : List Row) → Sorted attribute front → ((r : Row) → Memᴰ r front → Memᴰ r.name (map attribute_name d.attributes)) → Kids d true rest
    → Kids d true (front ++ rest)
front_kids d [] rest q h k = k
front_kids d (r ∷ front) rest q h k =
    attribute_kid (q r (Memᴰ.head refl)) (h r (Memᴰ.head refl)) (front_kids d front rest (λ u m. q u (Memᴰ.tail m)) (λ u m. h u (Memᴰ.tail m)) k)

pub element_rows : (version : ℕ) (d : Definition) (below : List Row) → ElementRows version d below → Kids d true below
element_rows version d below x =
    subst (λ (z : List Row). Kids d true z) x.split
    (front_kids d x.front x.back x.attributes.sorts (λ r m. in_order_lem (map name_of x.front) (map attribute_name d.attributes) x.attributes.owned r.name (Memᴰ.map name_of m))
    (content_kids d x.back x.content))
