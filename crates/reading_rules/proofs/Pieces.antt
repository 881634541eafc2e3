-- A text as tokens and lines in front of a rest: by induction on the tokens and lines.
use mathlib.Core.Path.{◌≡◌, refl, ap, ◌∙◌}
use mathlib.Core.List.{List, [], ◌∷◌, ◌++◌, append_assoc, map}
use Rattle.rules.specs.Bytes.{Bytes, concat}
use Rattle.rules.specs.Print.{Tokens}

-- ---- tokens and lines in front of a rest
unfoldable pub put_tokens : Tokens → Bytes → Bytes
put_tokens [] r = r
put_tokens (w ∷ ws) r = w ++ put_tokens ws r

unfoldable pub put_lines : List Tokens → Bytes → Bytes
put_lines [] r = r
put_lines (l ∷ ls) r = put_tokens l (put_lines ls r)

pub tokens_concat : (ws : Tokens) (r : Bytes) → concat ws ++ r ≡ put_tokens ws r
unfolding put_tokens
tokens_concat [] r = refl
tokens_concat (w ∷ ws) r = append_assoc w (concat ws) r ∙ ap (λ (z : Bytes). w ++ z) (tokens_concat ws r)

pub tokens_append : (ws vs : Tokens) (r : Bytes) → put_tokens (ws ++ vs) r ≡ put_tokens ws (put_tokens vs r)
unfolding put_tokens
tokens_append [] vs r = refl
tokens_append (w ∷ ws) vs r = ap (λ (z : Bytes). w ++ z) (tokens_append ws vs r)

pub put_lines_append : (ls ms : List Tokens) (r : Bytes) → put_lines (ls ++ ms) r ≡ put_lines ls (put_lines ms r)
unfolding put_lines
put_lines_append [] ms r = refl
put_lines_append (l ∷ ls) ms r = ap (λ (z : Bytes). put_tokens l z) (put_lines_append ls ms r)

-- a text is its lines in front of nothing
pub lines_concat : (ls : List Tokens) → concat (map concat ls) ≡ put_lines ls []
unfolding put_lines
lines_concat [] = refl
lines_concat (l ∷ ls) = tokens_concat l (concat (map concat ls)) ∙ ap (λ (z : Bytes). put_tokens l z) (lines_concat ls)
