-- Laws of `and_then`, `held` and `each`: what a loop over a run of elements does at each turn.
use Rattle.std.specs.Prelude.{Ok, Err}
use Prim.Native.Nat.{ℕ, ◌≤◌, ◌<◌}
use mathlib.Core.Bool.{Bool, true, false, not, false≢true}
use mathlib.Core.List.{List, [], ◌∷◌}
use mathlib.Core.Path.{◌≡◌, refl, sym, ap, ◌∙◌}
use native.Mathlib.Omega.{arith}
use lib.Dec.{ltb}
use borrow.Author.Tests.{ltb-true, ltb-false, not-true, not-false}
use Rattle.octets.proofs.Lists.{by_test}
use Rattle.der.specs.declared.Element.{Element}
use Rattle.der.specs.Element.{element_at, elements}
use Rattle.der.specs.Contract.Reading.{next_at}
use Rattle.der.specs.Fit.{and_then, held, kept, each_from, each, applies_if, given_at, Fit}
use Rattle.der.proofs.Elements.{valid_within, elements_end, elements_broken, elements_turn}
use Rattle.der.proofs.Runs.{next_valid, run_turn}

-- kept or broken
pub breaks≢fits : {o : ℕ} → ◌≡◌ {A = Fit} (Err o) (Ok tt) → ⊥
breaks≢fits e = false≢true (ap kept e)

pub then_fits : {f : Fit} (g : Fit) → f ≡ Ok tt → and_then f g ≡ g
unfolding and_then
then_fits g e = rw e

pub then_breaks : {f : Fit} (g : Fit) {o : ℕ} → f ≡ Err o → and_then f g ≡ Err o
unfolding and_then
then_breaks g e = rw e

-- the rows of 01's table: one that is a test, and one that is past
module _ {A : Type 0} where
  -- an answer that is none of a row's: the row does not apply, and what comes next gives it
  pub past_row : {x : A} (f : Fit) (answer : ℕ → A) (next : A) → ((o : ℕ) → answer o ≡ x → ⊥) → given_at f answer next ≡ x → (f ≡ Ok tt) × (next ≡ x)
  unfolding given_at
  past_row (Ok _) answer next n e = (refl, e)
  past_row (Err o) answer next n e = absurd (n o e)

pub applies_not : (b : Bool) → applies_if b ≡ Ok tt → b ≡ false
unfolding applies_if
applies_not true h = absurd (breaks≢fits h)
applies_not false h = refl

pub held_fits : (at : ℕ) {b : Bool} → b ≡ true → held at b ≡ Ok tt
unfolding held
held_fits at e = rw e

pub held_true : (at : ℕ) (b : Bool) → held at b ≡ Ok tt → b ≡ true
unfolding held
held_true at true e = refl
held_true at false e = absurd (breaks≢fits e)

pub held_breaks : (at : ℕ) {b : Bool} → b ≡ false → held at b ≡ Err at
unfolding held
held_breaks at e = rw e

module _ (judge : Element → Element → Fit) (s : List ℕ) (at stop : ℕ) where
  -- the first has itself before it
  pub each_start : each_from judge (element_at s at stop) (elements s at stop) ≡ each judge (elements s at stop)
  unfolding each each_from
  each_start =
      let e = element_at s at stop in
      by_test (ltb at stop)
      (λ t.
      by_test e.valid
      (λ g. rw (elements_turn s at stop refl g))
      (λ g. rw (elements_broken s at stop refl (ltb-true at stop t) g)))
      (λ t. rw (elements_end s at stop (ltb-false at stop t)))

  pub each_end : (former : Element) → stop ≤ at → each_from judge former (elements s at stop) ≡ Ok tt
  unfolding each_from
  each_end former h = rw (elements_end s at stop h)

  module _ (former : Element) {e : Element} (q : e ≡ element_at s at stop) where
    pub each_step : at < stop → {n : ℕ} → n ≡ next_at e stop
        → each_from judge former (elements s at stop)
        ≡ and_then (and_then (held e.at e.valid) (judge former e)) (each_from judge e (elements s n stop))
    unfolding each_from
    each_step l m = ap (each_from judge former) (run_turn s at stop q l m)

    each_valid : e.valid ≡ true
        → each_from judge former (elements s at stop) ≡ and_then (judge former e) (each_from judge e (elements s e.stop stop))
    each_valid g =
        let w = valid_within s at stop q g in
        each_step (omega arith) (sym (next_valid e stop g)) ∙ ap (λ (f : Fit). and_then f (each_from judge e (elements s e.stop stop))) (then_fits _ (held_fits e.at g))

    pub each_breaks : {o : ℕ} → e.valid ≡ true → judge former e ≡ Err o → each_from judge former (elements s at stop) ≡ Err o
    each_breaks g j = each_valid g ∙ then_breaks _ j

    pub each_turn : e.valid ≡ true → judge former e ≡ Ok tt
        → each_from judge former (elements s at stop) ≡ each_from judge e (elements s e.stop stop)
    each_turn g j = each_valid g ∙ then_fits _ j

then_assoc : (f g h : Fit) → and_then (and_then f g) h ≡ and_then f (and_then g h)
unfolding and_then
then_assoc (Ok _) g h = refl
then_assoc (Err o) g h = refl

-- a loop over a run in which each element is read by f and then tested after the one before it by p; its laws have the premises of those in Loops
module _ (f : Element → Fit) (p : Element → Element → Bool) where
  abbrev pub judge_by : Element → Element → Fit
  judge_by former e = and_then (f e) (held e.at (p former e))

  module _ (former : Element) {l : List Element} {x : Fit} (rest : each_from judge_by former l ≡ x) where
    pub each_fits : l ≡ [] → Ok tt ≡ x
    unfolding each_from
    each_fits h = sym (ap (each_from judge_by former) h) ∙ rest

    module _ {e : Element} {m : List Element} (q : l ≡ e ∷ m) {r : Fit} (h : r ≡ and_then (held e.at e.valid) (f e)) where
      one : x ≡ and_then (and_then r (held e.at (p former e))) (each_from judge_by e m)
      unfolding each_from
      one =
          sym rest
          ∙ ap (each_from judge_by former) q
          ∙ ap (λ (y : Fit). and_then y (each_from judge_by e m))
          (sym (then_assoc (held e.at e.valid) (f e) (held e.at (p former e))) ∙ ap (λ (y : Fit). and_then y (held e.at (p former e))) (sym h))

      pub each_fails : {o : ℕ} → r ≡ Err o → Err o ≡ x
      each_fails k = sym (one ∙ then_breaks _ (then_breaks _ k))

      module _ (k : r ≡ Ok tt) {b : Bool} (w : b ≡ p former e) where
        pub each_misplaced : not b ≡ true → Err e.at ≡ x
        each_misplaced t = sym (one ∙ then_breaks _ (then_fits _ k ∙ held_breaks e.at (sym w ∙ not-true b t)))

        pub each-later : not b ≡ false → each_from judge_by e m ≡ x
        each-later t = sym (one ∙ then_fits _ (then_fits _ k ∙ held_fits e.at (sym w ∙ not-false b t)))
