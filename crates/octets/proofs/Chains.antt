-- What `any`, `all` and `find` give over an iterator that is seen as the list of what it has left (`TakesFirst (λ x. x)`), in the words of specs/Lists.
use Rattle.std.specs.Prelude.{Option, None, Some, MatchOption, ⊤}
use Rattle.std.proofs.Common.{◌≡◌, refl, sym, ◌∙◌, ap, Bool, true, false, ◌&&◌, ◌||◌, List, [], ◌∷◌, Bor}
use Rattle.std.specs.List.{FoldsTo, find, list_any, list_all}
use Rattle.std.specs.Option.{option_map}
use Rattle.std.specs.Fn.{Called, CalledAt}
use Rattle.std.specs.Iterator.{YieldsThen}
use Rattle.std.specs.Map.Iter.{TakesFirst}
use Rattle.std.proofs.lemmas.Iterator.Consumers.{YieldsList-from_rest}
use Rattle.std.proofs.lemmas.Iterator.Search.{any_from_yields_List, all_from_yields_List, find_from_yields_List}
use denote.Param.Members.{Mut}
use Rattle.octets.specs.Lists.{any_of, all_of}

module _ {A : Type 0} (test : A → Bool) where
  pub any_is : (l : List A) → any_of test l ≡ list_any test l
  unfolding any_of
  any_is [] = refl
  any_is (x ∷ l) = ap (λ b. test x || b) (any_is l)

  pub all_is : (l : List A) → all_of test l ≡ list_all test l
  unfolding all_of
  all_is [] = refl
  all_is (x ∷ l) = ap (λ b. test x && b) (all_is l)

option_same : {A : Type 0} (o : Option A) → option_map (λ x. x) o ≡ o
option_same None = refl
option_same (Some x) = refl

module _ {A F : Type 0} {test : A → Bool} {s all u : List A} {f : F} where
  pub any_gives : {g : Mut F (A × Unit {0}) Bool} {r : Bool}
      → (xs : List A) × (o : Option A) × (j : F) × YieldsThen (TakesFirst (λ (x : A). x)) s xs o u × FoldsTo (λ p x q. Called g p (x, tt) false q) f xs j × MatchOption o (r ≡ false) (λ x. (r ≡ true) × ((h : F) × Called g j (x, tt) true h))
      → s ≡ all → ((x : A) (b : Bool) (q : F) → Called g f (x, tt) b q → (q ≡ f) × (b ≡ test x)) → r ≡ any_of test all
  any_gives {g} {r} ran e k = any_from_yields_List {v = λ x. x} test u f r ran (YieldsList-from_rest all e) k ∙ sym (any_is test all)

  pub all_gives : {g : Mut F (A × Unit {0}) Bool} {r : Bool}
      → (xs : List A) × (o : Option A) × (j : F) × YieldsThen (TakesFirst (λ (x : A). x)) s xs o u × FoldsTo (λ p x q. Called g p (x, tt) true q) f xs j × MatchOption o (r ≡ true) (λ x. (r ≡ false) × ((h : F) × Called g j (x, tt) false h))
      → s ≡ all → ((x : A) (b : Bool) (q : F) → Called g f (x, tt) b q → (q ≡ f) × (b ≡ test x)) → r ≡ all_of test all
  all_gives {g} {r} ran e k = all_from_yields_List {v = λ x. x} test u f r ran (YieldsList-from_rest all e) k ∙ sym (all_is test all)

module _ {A F : Type 0} {test : A → Bool} {s all : List A} (u : List A) {f : F} where
  pub find_gives : {g : Mut F (Bor A × Unit {0}) Bool} {r : Option A}
      → (xs : List A) × (j : F) × YieldsThen (TakesFirst (λ (x : A). x)) s xs r u × FoldsTo (λ p x q. CalledAt g p x false q) f xs j × MatchOption r ⊤ (λ x. (h : F) × CalledAt g j x true h)
      → s ≡ all → ((x : A) (b : Bool) (q : F) → CalledAt g f x b q → (q ≡ f) × (b ≡ test x)) → r ≡ find test all
  find_gives {g} {r} ran e k = sym (option_same r) ∙ find_from_yields_List {v = λ x. x} test u f r ran (YieldsList-from_rest all e) k
