-- What it is for facts on pairs of elements to describe a language; the
-- smallest languages; an equal language, more letters.
use mathlib.Core.Path.{◌≡◌, refl}
use mathlib.Core.Bool.{true, false≢true}
use mathlib.Core.List.{List, [], ◌∷◌, cons≢nil, nil≢cons, head-eq_of_cons-eq, tail-eq_of_cons-eq}
use Rattle.rules.specs.declared.GroupKind.TheVariants.{Sequence, Choice}
use Rattle.rules.specs.Model.{Equality}
use Rattle.rules.specs.Language.{Language}
use Rattle.rules.specs.declared.Facts.{Facts}
use Rattle.rules.specs.Automaton.{single, empty}

-- `F x y` describes `L`, whose letters are in `S`. `rest x w`: after the letter x, w ends a word of `L`.
pub record Auto {A : Type 0} (L : Language A) (S : A → Type 0) (F : A → A → Facts) : Type 1 where
  pub rest : A → Language A
  pub nil→ : (x y : A) → L [] → (F x y).nothing ≡ true
  pub nil← : (x y : A) → (F x y).nothing ≡ true → L []
  pub cons→ : (x y : A) (w : List A) → L (y ∷ w) → ((F x y).first ≡ true) × rest y w
  pub cons← : (x y : A) (w : List A) → (F x y).first ≡ true → rest y w → L (y ∷ w)
  pub end→ : (x y : A) → rest x [] → (F x y).last ≡ true
  pub end← : (x y : A) → (F x y).last ≡ true → rest x []
  pub step→ : (x y : A) (w : List A) → rest x (y ∷ w) → ((F x y).follow ≡ true) × rest y w
  pub step← : (x y : A) (w : List A) → (F x y).follow ≡ true → rest y w → rest x (y ∷ w)
  pub in_first : (x y : A) → (F x y).first ≡ true → S y
  pub in_follow : (x y : A) → (F x y).follow ≡ true → S y
  pub in_rest : (x : A) (w : List A) → rest x w → S x

-- the same words, and letters that may be more
pub auto_map : {A : Type 0} {L M : Language A} {S R : A → Type 0} {F : A → A → Facts} → ((w : List A) → L w → M w) → ((w : List A) → M w → L w) → ((x : A) → S x → R x) → Auto L S F → Auto M R F
auto_map to from grow a =
    record {
      rest = a.rest;
      nil→ = λ x y m. a.nil→ x y (from [] m);
      nil← = λ x y e. to [] (a.nil← x y e);
      cons→ = λ x y w m. a.cons→ x y w (from (y ∷ w) m);
      cons← = λ x y w e k. to (y ∷ w) (a.cons← x y w e k);
      end→ = a.end→;
      end← = a.end←;
      step→ = a.step→;
      step← = a.step←;
      in_first = λ x y e. grow y (a.in_first x y e);
      in_follow = λ x y e. grow y (a.in_follow x y e);
      in_rest = λ x w k. grow x (a.in_rest x w k);
    }

pub auto_nil : {A : Type 0} → Auto {A = A} (λ w. w ≡ []) (λ x. ⊥) (λ x y. empty Sequence)
auto_nil =
    record {
      rest = λ x w. ⊥;
      nil→ = λ x y e. refl;
      nil← = λ x y e. refl;
      cons→ = λ x y w e. absurd (cons≢nil e);
      cons← = λ x y w e k. absurd k;
      end→ = λ x y k. absurd k;
      end← = λ x y e. false≢true e;
      step→ = λ x y w k. absurd k;
      step← = λ x y w e k. k;
      in_first = λ x y e. false≢true e;
      in_follow = λ x y e. false≢true e;
      in_rest = λ x w k. k;
    }

pub auto_never : {A : Type 0} → Auto {A = A} (λ w. ⊥) (λ x. ⊥) (λ x y. empty Choice)
auto_never =
    record {
      rest = λ x w. ⊥;
      nil→ = λ x y k. absurd k;
      nil← = λ x y e. false≢true e;
      cons→ = λ x y w k. absurd k;
      cons← = λ x y w e k. k;
      end→ = λ x y k. absurd k;
      end← = λ x y e. false≢true e;
      step→ = λ x y w k. absurd k;
      step← = λ x y w e k. k;
      in_first = λ x y e. false≢true e;
      in_follow = λ x y e. false≢true e;
      in_rest = λ x w k. k;
    }

pub auto_single : {A : Type 0} (E : Equality A) (i : A) → Auto (λ w. w ≡ i ∷ []) (λ x. x ≡ i) (single E i)
auto_single E i =
    record {
      rest = λ x w. (x ≡ i) × (w ≡ []);
      nil→ = λ x y e. absurd (nil≢cons e);
      nil← = λ x y e. absurd (false≢true e);
      cons→ = λ x y w e. (E.same← y i (head-eq_of_cons-eq e), (head-eq_of_cons-eq e, tail-eq_of_cons-eq e));
      cons← = λ x y w e k. rw (k.0, k.1);
      end→ = λ x y k. E.same← x i k.0;
      end← = λ x y e. (E.same→ x i e, refl);
      step→ = λ x y w k. absurd (cons≢nil k.1);
      step← = λ x y w e k. absurd (false≢true e);
      in_first = λ x y e. E.same→ y i e;
      in_follow = λ x y e. absurd (false≢true e);
      in_rest = λ x w k. k.0;
    }
