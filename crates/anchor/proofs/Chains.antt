-- What `nth` and `fold` give over an iterator that is seen as the list of what it has left, as octets/proofs/Chains has it of `any`, `all` and `find`.
use Rattle.std.specs.Prelude.{Option, Some, None, MatchOption, slice_get}
use Rattle.std.proofs.Common.{ℕ, ◌≡◌, ◌≤◌, refl, sym, ◌∙◌, List, length}
use Rattle.std.specs.List.{FoldsTo, fold}
use Rattle.std.specs.Option.{option_map}
use Rattle.std.specs.Fn.{Called}
use Rattle.std.specs.Iterator.{YieldsThen, Drains}
use Rattle.std.specs.Map.Iter.{TakesFirst}
use Rattle.std.proofs.lemmas.Iterator.Consumers.{YieldsList-from_rest, nth_from_yields_List, fold_from_yields_List}
use denote.Param.Members.{Mut}

option_same : {A : Type 0} (o : Option A) → option_map (λ x. x) o ≡ o
option_same None = refl
option_same (Some x) = refl

pub nth_gives : {A : Type 0} {s all : List A} {r : Option A} (u : List A) (n : ℕ)
    → (xs : List A) × YieldsThen (TakesFirst (λ (x : A). x)) s xs r u × MatchOption r (length xs ≤ n) (λ _. length xs ≡ n)
    → s ≡ all → r ≡ slice_get all n
nth_gives {r = r} u n ran e = sym (option_same r) ∙ nth_from_yields_List {v = λ x. x} r u n ran (YieldsList-from_rest _ e)

pub fold_gives : {A B F : Type 0} {s all : List A} {f : F} {g : Mut F (B × (A × Unit {0})) B} (h : B → A → B) {init r : B}
    → (xs : List A) × (q : F) × Drains (TakesFirst (λ (x : A). x)) s xs × FoldsTo {P = F × B} (λ a x b. Called g a.0 (a.1, (x, tt)) b.1 b.0) (f, init) xs (q, r)
    → s ≡ all → ((a : B) (x : A) (b : B) (q : F) → Called g f (a, (x, tt)) b q → (q ≡ f) × (b ≡ h a x)) → r ≡ fold h init all
fold_gives {g = g} h {init} {r} ran e k = fold_from_yields_List {v = λ x. x} g h init r ran (YieldsList-from_rest _ e) k
