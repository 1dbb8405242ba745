-- The members of a run: what stands among them.
use Prim.Native.Nat.{ℕ, ◌≤◌, ◌<◌}
use native.Mathlib.Omega.{arith}
use mathlib.Core.Bool.{true}
use mathlib.Core.List.{List, [], ◌∷◌}
use mathlib.Core.Path.{◌≡◌, refl, sym, ap, subst, ◌∙◌}
use lib.Dec.{eqb}
use borrow.Author.Tests.{eqb-true}
use Rattle.octets.specs.Lists.{Among, first, later}
use Rattle.octets.proofs.Lists.{by_test, among_none, among_either, among_one}
use Rattle.der.specs.declared.Element.{Element}
use Rattle.der.specs.Element.{absent, element_at, elements, with_tag}
use Rattle.der.proofs.Bools.{on_true, on_false}
use Rattle.der.proofs.Elements.{valid_within, bounded, elements_end, elements_broken, elements_turn}
use Rattle.der.proofs.Runs.{by_run, again}

-- the first, and those after it
module _ (s : List ℕ) (at stop : ℕ) where
  pub among_first : at < stop → Among (element_at s at stop) (elements s at stop)
  among_first l =
      by_test (element_at s at stop).valid
      (λ g. rw (elements_turn s at stop refl g) first)
      (λ g. rw (elements_broken s at stop refl l g) first)

  pub among_later : (element_at s at stop).valid ≡ true → {m : Element} → Among m (elements s (element_at s at stop).stop stop) → Among m (elements s at stop)
  among_later g {m} i = subst (Among m) (sym (elements_turn s at stop refl g)) (later i)

-- a member is the element at its place, in the run's window
pub record MemberAt (s : List ℕ) (at stop : ℕ) (e : Element) : Type 0 where
  pub element : e ≡ element_at s e.at stop
  pub from : at ≤ e.at
  pub before : e.at < stop

pub member_is : (s : List ℕ) (at stop : ℕ) {e : Element} → Among e (elements s at stop) → MemberAt s at stop e
member_is s at stop {e} =
    let here : (at : ℕ) → at < stop → e ≡ element_at s at stop → MemberAt s at stop e =
    λ at l q.
    let k : e.at ≡ at = ap (λ (y : Element). y.at) q ∙ (bounded s at stop refl).here in
    record { element = q ∙ ap (λ (a : ℕ). element_at s a stop) (sym k); from = omega arith; before = omega arith }
    in
    by_run s stop (λ (at : ℕ). Among e (elements s at stop) → MemberAt s at stop e)
    (λ at l i. absurd (among_none (subst (Among e) (elements_end s at stop l) i)))
    (λ at l g i. here at l (among_one (subst (Among e) (elements_broken s at stop refl l g) i)))
    (λ at g f i.
    let w = valid_within s at stop refl g in
    among_either (subst (Among e) (elements_turn s at stop refl g) i)
    (here at (omega arith))
    (λ j. let m = f j in record { element = m.element; from = omega (arith, m.from, w); before = m.before }))
    at

-- the run of an element by itself
pub run_of_one : (s : List ℕ) (at stop : ℕ) {e : Element} → e ≡ element_at s at stop → e.valid ≡ true → elements s at e.stop ≡ e ∷ []
run_of_one s at stop {e} q g =
    elements_turn s at e.stop (sym (again s at stop q g)) g ∙ ap (λ (r : List Element). e ∷ r) (elements_end s e.stop e.stop (omega arith))

-- what a search by tag gives: nothing, or a member with the tag
pub with_tag_among : {X : Type 0} (t : ℕ) (l : List Element) → (with_tag t l ≡ absent 0 → X) → ((e : Element) → with_tag t l ≡ e → Among e l → e.tag ≡ t → X) → X
unfolding with_tag
with_tag_among t [] f g = f refl
with_tag_among t (e ∷ es) f g =
    by_test (eqb e.tag t)
    (λ h. g e (on_true (eqb e.tag t) e (with_tag t es) h) first (eqb-true e.tag t h))
    (λ h.
    let k = on_false (eqb e.tag t) e (with_tag t es) h in
    with_tag_among t es (λ n. f (k ∙ n)) (λ m q i. g m (k ∙ q) (later i)))
