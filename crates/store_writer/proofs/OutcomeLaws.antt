-- What a call on a byte string comes to, by the store that it is read as.
use Prim.Native.Nat.{ℕ, suc}
use native.Mathlib.Omega.{arith}
use lib.Dec.{leb}
use mathlib.Core.Path.{◌≡◌, refl, sym, ap, ◌∙◌}
use mathlib.Core.Bool.{Bool, true, false, false≢true}
use mathlib.Core.Option.{Option, none, some}
use mathlib.Core.List.{List, [], ◌∷◌, ◌++◌}
use Rattle.rules.specs.Bytes.{Bytes}
use Rattle.rules.specs.Store.{Store}
use Rattle.rules.specs.Layout.{FlatStore, flat, encode}
use Rattle.rules.specs.WellFormed.{is_there}
use Rattle.rules.specs.Passing.{read_store, passes}
use Rattle.rules.specs.Change.{Call, after}
use Rattle.rules.specs.Refusal.{Condition, first, conditions, limits, refusal}
use Rattle.rules.specs.Outcome.{Outcome, refused, unless_refused, on_store, outcome}
use Rattle.rules.proofs.Words.{and_split}
use Rattle.change_laws.proofs.Conditions.{numbered, conditions_numbered}
use Rattle.store_laws.specs.Stores.{store_in}
use Rattle.store_writer.specs.Writing.{limited}
use Rattle.store_laws.proofs.StoreLaws.{Holds}

first_after : (cs ds : List Condition) → numbered cs ≡ true → first cs ≡ 0 → first (cs ++ ds) ≡ first ds
first_after [] ds k e = refl
first_after (c ∷ cs) ds k e = by c.holds refl (first_after cs ds (and_split (leb 1 c.number) (numbered cs) k).1)
  where
    by : (b : Bool) → c.holds ≡ b → (first cs ≡ 0 → first (cs ++ ds) ≡ first ds) → first (c ∷ cs ++ ds) ≡ first ds
    by true q f = let z : c.number ≡ 0 = rw q at e in absurd (false≢true (sym (ap (λ (x : ℕ). leb 1 x) z) ∙ (and_split (leb 1 c.number) (numbered cs) k).0))
    by false q f = let z : first cs ≡ 0 = rw q at e in rw (q, f z)

first_held : (cs ds : List Condition) (n : ℕ) → first cs ≡ suc n → first (cs ++ ds) ≡ suc n
first_held [] ds n e = absurd (omega arith)
first_held (c ∷ cs) ds n e = by c.holds refl (first_held cs ds n)
  where
    by : (b : Bool) → c.holds ≡ b → (first cs ≡ suc n → first (cs ++ ds) ≡ suc n) → first (c ∷ cs ++ ds) ≡ suc n
    by true q f = let z : c.number ≡ suc n = rw q at e in rw (q, z)
    by false q f = let z : first cs ≡ suc n = rw q at e in rw (q, f z)

module _ (c : Call) (bs : Bytes) (room : ℕ) where
  -- what it does with the store that is read
  unfoldable acts : Store → Outcome
  acts s = unless_refused (refusal room c s) (encode (after c s))

  pub outcome_bad : passes bs ≡ false → outcome c bs room ≡ refused 1
  unfolding outcome acts
  outcome_bad h = from (read_store bs) refl h
    where
      from : (o : Option Store) → read_store bs ≡ o → is_there o ≡ false → outcome c bs room ≡ refused 1
      from none q h = ap (on_store acts) q
      from (some s) q h = absurd (false≢true (sym h))

  pub outcome_refused : Holds bs → (n : ℕ) → first (conditions c (store_in bs)) ≡ suc n → outcome c bs room ≡ refused (suc n)
  unfolding outcome refusal acts
  outcome_refused h n e =
      ap (on_store acts) h.read
      ∙ ap (λ (k : ℕ). unless_refused k (encode (after c (store_in bs)))) (first_held (conditions c (store_in bs)) (limits room (after c (store_in bs))) n e)

  -- f: the bodies of the store that is left
  pub outcome_limited : Holds bs → first (conditions c (store_in bs)) ≡ 0 → (f : FlatStore) → flat (after c (store_in bs)) ≡ f → outcome c bs room ≡ limited room f
  unfolding outcome refusal limited acts
  outcome_limited h e f g =
      ap (on_store acts) h.read
      ∙ ap (λ (k : ℕ). unless_refused k (encode (after c (store_in bs)))) (first_after (conditions c (store_in bs)) (limits room (after c (store_in bs))) (conditions_numbered c (store_in bs)) e)
      ∙ ap (limited room) g
