-- What `any`, `all` and `position` give over an iterator of slices that is seen as the list of what it has left (`YieldsFirstRef (λ x. x)`), in the words of
-- specs/Lists and the library.
use Rattle.std.specs.Prelude.{Option, None, Some, MatchOption}
use Rattle.std.proofs.Common.{◌≡◌, sym, ◌∙◌, ℕ, Bool, true, false, List, length, Bor}
use Rattle.std.specs.List.{FoldsTo, position_from}
use Rattle.std.specs.Fn.{Called}
use Rattle.std.specs.Iterator.{YieldsThen, YieldsFirstRef}
use Rattle.std.proofs.lemmas.Iterator.Adapters.{position_from-zero}
use Rattle.std.proofs.lemmas.Iterator.Consumers.{YieldsList-from_first}
use Rattle.std.proofs.lemmas.Iterator.Search.{any_from_yields_List, position_from_yields_List}
use denote.Param.Members.{Mut}
use Rattle.octets.specs.Lists.{any_of}
use Rattle.octets.proofs.Chains.{any_is}

abbrev Step : (A : Type 0) → List A → Option (Bor A) → List A → Type 0
Step A = YieldsFirstRef (λ x. x)

module _ {A F : Type 0} (test : A → Bool) {s all u : List A} {f : F} where
  pub any_seen : {g : Mut F (Bor A × Unit {0}) Bool} {r : Bool}
      → (xs : List (Bor A)) × (o : Option (Bor A)) × (j : F) × YieldsThen (Step A) s xs o u × FoldsTo (λ p x q. Called g p (x, tt) false q) f xs j × MatchOption o (r ≡ false) (λ x. (r ≡ true) × ((h : F) × Called g j (x, tt) true h))
      → s ≡ all → ((x : Bor A) (b : Bool) (q : F) → Called g f (x, tt) b q → (q ≡ f) × (b ≡ test x.now)) → r ≡ any_of test all
  any_seen {g} {r} ran e k = any_from_yields_List {v = λ x. x.now} test u f r ran (YieldsList-from_first (λ x. x.now) (λ x. x) all e) k ∙ sym (any_is test all)

  pub position_seen : {g : Mut F (Bor A × Unit {0}) Bool} {r : Option ℕ}
      → (xs : List (Bor A)) × (o : Option (Bor A)) × (j : F) × YieldsThen (Step A) s xs o u × FoldsTo (λ p x q. Called g p (x, tt) false q) f xs j × MatchOption o (r ≡ None) (λ x. (r ≡ Some (length xs)) × ((h : F) × Called g j (x, tt) true h))
      → s ≡ all → ((x : Bor A) (b : Bool) (q : F) → Called g f (x, tt) b q → (q ≡ f) × (b ≡ test x.now)) → r ≡ position_from test 0 all
  position_seen {g} {r} ran e k = position_from_yields_List {v = λ x. x.now} test u f r ran (YieldsList-from_first (λ x. x.now) (λ x. x) all e) k ∙ position_from-zero test all
