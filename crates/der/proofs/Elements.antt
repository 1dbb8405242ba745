-- The laws of elements and of runs that everything above cites: nothing else opens `element_at` or `elements`.
use Prim.Native.Nat.{ℕ, zero, suc, ◌+◌, ◌-◌, ◌≤◌, ◌<◌}
use native.Mathlib.Omega.{arith}
use mathlib.Core.Bool.{true, false, true≢false}
use mathlib.Core.List.{List, [], ◌∷◌}
use mathlib.Core.Path.{◌≡◌, refl, sym, ap, ◌∙◌}
use lib.ListN.{length}
use lib.Dec.{ltb, eqb}
use borrow.Author.Tests.{ltb-true, ltb-false, lt-ltb, le-ltb, eq-eqb, ne_eqb}
use Rattle.octets.proofs.Lists.{by_test}
use Rattle.der.specs.declared.Element.{Element}
use Rattle.der.specs.Element.{absent, element_at, elements_from, elements, with_tag}
use Rattle.der.proofs.Bools.{on_true, on_false}
use Rattle.der.proofs.Header.{header_or_not, element_is, element-absent}

-- where a good element at `at` stands: two octets of header at least, then the contents, in the window and in the octets
pub record InWindow (s : List ℕ) (at stop : ℕ) (e : Element) : Type 0 where
  pub here : e.at ≡ at
  pub opens : at + 2 ≤ e.start
  pub closes : e.start ≤ e.stop
  pub ends : e.stop ≤ stop
  pub inside : stop ≤ length s

-- where what stands at `at` lies, an element or not
pub record Bounded (at stop : ℕ) (e : Element) : Type 0 where
  pub here : e.at ≡ at
  pub opens : at ≤ e.start
  pub closes : e.start ≤ e.stop
  pub ends : at ≤ stop → e.stop ≤ stop

module _ (s : List ℕ) (at stop : ℕ) {e : Element} (q : e ≡ element_at s at stop) where
  pub valid_within : e.valid ≡ true → InWindow s at stop e
  valid_within g =
      header_or_not s at stop
      (λ h.
      rw (q ∙ element_is s at stop h)
      (record { here = refl; opens = omega arith; closes = omega arith; ends = h.ends; inside = h.within }))
      (λ n. absurd (true≢false (sym g ∙ ap (λ (x : Element). x.valid) (q ∙ element-absent s at stop n))))

  pub bounded : Bounded at stop e
  bounded =
      header_or_not s at stop
      (λ h. rw (q ∙ element_is s at stop h) (record { here = refl; opens = omega arith; closes = omega arith; ends = λ l. h.ends }))
      (λ n. rw (q ∙ element-absent s at stop n) (record { here = refl; opens = omega arith; closes = omega arith; ends = λ l. l }))

  pub bad_tag : e.valid ≡ false → e.tag ≡ 0
  bad_tag g =
      header_or_not s at stop
      (λ h. absurd (true≢false (sym (ap (λ (x : Element). x.valid) (q ∙ element_is s at stop h)) ∙ g)))
      (λ n. ap (λ (x : Element). x.tag) (q ∙ element-absent s at stop n))

-- the elements of a run, with enough of the number that bounds them

from_end : (n : ℕ) (s : List ℕ) (at stop : ℕ) → stop ≤ at → elements_from n s at stop ≡ []
unfolding elements_from
from_end zero s at stop h = refl
from_end (suc n) s at stop h = rw (le-ltb _ _ h, elements_from)

module _ (n : ℕ) (s : List ℕ) (at stop : ℕ) (l : at < stop) {e : Element} (q : e ≡ element_at s at stop) where
  from_broken : e.valid ≡ false → elements_from (suc n) s at stop ≡ e ∷ []
  unfolding elements_from
  from_broken g =
      let x = element_at s at stop in
      rw (q, lt-ltb _ _ l, elements_from) (on_false x.valid (x ∷ elements_from n s x.stop stop) (x ∷ []) (rw q at g))

  from_turn : e.valid ≡ true → elements_from (suc n) s at stop ≡ e ∷ elements_from n s e.stop stop
  unfolding elements_from
  from_turn g =
      let x = element_at s at stop in
      rw (q, lt-ltb _ _ l, elements_from) (on_true x.valid (x ∷ elements_from n s x.stop stop) (x ∷ []) (rw q at g))

enough : (n m : ℕ) (s : List ℕ) (at stop : ℕ) → stop - at ≤ n → stop - at ≤ m → elements_from n s at stop ≡ elements_from m s at stop
enough zero m s at stop h k = from_end zero s at stop (omega arith) ∙ sym (from_end m s at stop (omega arith))
enough (suc n) zero s at stop h k = from_end (suc n) s at stop (omega arith) ∙ sym (from_end zero s at stop (omega arith))
enough (suc n) (suc m) s at stop h k =
    let e = element_at s at stop in
    let more : e.valid ≡ true → elements_from n s e.stop stop ≡ elements_from m s e.stop stop =
    λ g. let w = valid_within s at stop refl g in enough n m s e.stop stop (omega arith) (omega arith)
    in
    by_test (ltb at stop)
    (λ t.
    let l = ltb-true at stop t in
    by_test e.valid
    (λ g. from_turn n s at stop l refl g ∙ ap (λ (r : List Element). e ∷ r) (more g) ∙ sym (from_turn m s at stop l refl g))
    (λ g. from_broken n s at stop l refl g ∙ sym (from_broken m s at stop l refl g)))
    (λ t.
    let l = ltb-false at stop t in
    from_end (suc n) s at stop l ∙ sym (from_end (suc m) s at stop l))

-- a run: at its end, at a place where no element stands, and one element further

pub elements_end : (s : List ℕ) (at stop : ℕ) → stop ≤ at → elements s at stop ≡ []
unfolding elements
elements_end s at stop h = from_end (stop - at) s at stop h

module _ (s : List ℕ) (at stop : ℕ) {e : Element} (q : e ≡ element_at s at stop) where
  pub elements_broken : at < stop → e.valid ≡ false → elements s at stop ≡ e ∷ []
  unfolding elements
  elements_broken l g =
      let n : stop - at ≡ suc (stop - at - 1) = omega arith in
      ap (λ (k : ℕ). elements_from k s at stop) n ∙ from_broken (stop - at - 1) s at stop l q g

  pub elements_turn : e.valid ≡ true → elements s at stop ≡ e ∷ elements s e.stop stop
  unfolding elements
  elements_turn g =
      let w = valid_within s at stop q g in
      let n : stop - at ≡ suc (stop - at - 1) = omega arith in
      ap (λ (k : ℕ). elements_from k s at stop) n
      ∙ from_turn (stop - at - 1) s at stop (omega arith) q g
      ∙ ap (λ (r : List Element). e ∷ r) (enough (stop - at - 1) (stop - e.stop) s e.stop stop (omega arith) (omega arith))

-- the first element with a tag, in the same three cases, and where it is found

module _ (t : ℕ) (s : List ℕ) (at stop : ℕ) where
  pub with_tag_end : stop ≤ at → with_tag t (elements s at stop) ≡ absent 0
  unfolding with_tag
  with_tag_end h = rw (elements_end s at stop h)

  module _ {e : Element} (q : e ≡ element_at s at stop) where
    pub with_tag-found : at < stop → e.tag ≡ t → with_tag t (elements s at stop) ≡ e
    unfolding with_tag
    with_tag-found l h =
        by_test e.valid
        (λ g. ap (with_tag t) (elements_turn s at stop q g) ∙ on_true (eqb e.tag t) e (with_tag t (elements s e.stop stop)) (eq-eqb _ _ h))
        (λ g. ap (with_tag t) (elements_broken s at stop q l g) ∙ on_true (eqb e.tag t) e (absent 0) (eq-eqb _ _ h))

    pub with_tag_broken : at < stop → e.valid ≡ false → (e.tag ≡ t → ⊥) → with_tag t (elements s at stop) ≡ absent 0
    unfolding with_tag
    with_tag_broken l g n =
        ap (with_tag t) (elements_broken s at stop q l g) ∙ on_false (eqb e.tag t) e (absent 0) (ne_eqb _ _ n)

    pub with_tag_turn : e.valid ≡ true → (e.tag ≡ t → ⊥) → with_tag t (elements s at stop) ≡ with_tag t (elements s e.stop stop)
    unfolding with_tag
    with_tag_turn g n =
        ap (with_tag t) (elements_turn s at stop q g) ∙ on_false (eqb e.tag t) e (with_tag t (elements s e.stop stop)) (ne_eqb _ _ n)
