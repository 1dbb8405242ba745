-- `fit` step by step: what stands at a place of a window, and what is known where it fits.
use Rattle.std.specs.Prelude.{Ok, Err}
use Prim.Native.Nat.{ℕ, ◌≤◌, ◌<◌}
use native.Mathlib.Omega.{arith}
use mathlib.Core.Bool.{true, false}
use mathlib.Core.List.{List}
use mathlib.Core.Path.{◌≡◌, sym, ◌∙◌}
use lib.Dec.{ltb, leb, eqb}
use borrow.Author.Tests.{ltb-true, ltb-false, lt-ltb, le-ltb, leb-true, eq-eqb, ne_eqb, eqb-true, eqb-false}
use Rattle.octets.specs.Octets.{slice}
use Rattle.octets.proofs.Lists.{by_test}
use Rattle.der.specs.declared.Element.{Element}
use Rattle.der.specs.Element.{element_at, elements}
use Rattle.der.specs.Fit.{and_then, held, Fit}
use Rattle.syntax.specs.Grammar.{Rule, obeyed, Syntax, end, obeys, optional, one, any_optional, many, by_element, fit}
use Rattle.der.proofs.Elements.{valid_within}
use Rattle.der.proofs.Bools.{on_true, on_false}
use Rattle.der.proofs.Fits.{breaks≢fits, held_true}
use Rattle.der.proofs.Runs.{again}
use Rattle.syntax.proofs.Each.{Every, every_member, then_both}

-- an element stands at the place
pub record Met (s : List ℕ) (at stop : ℕ) (e : Element) : Type 0 where
  pub is : e ≡ element_at s at stop
  pub room : at < stop
  pub valid : e.valid ≡ true

pub met : {s : List ℕ} {at stop : ℕ} {e : Element} → e ≡ element_at s at stop → e.valid ≡ true → Met s at stop e
met {s} {at} {stop} q g = let w = valid_within s at stop q g in record { is = q; room = omega arith; valid = g }

-- it stands in the window of its own octets too
pub own_window : {s : List ℕ} {at stop : ℕ} {e : Element} → Met s at stop e → Met s at e.stop e
own_window {s} {at} {stop} m = met (sym (again s at stop m.is m.valid)) m.valid

-- the three ways: no element is left, what stands there is none, one stands there

module _ (s : List ℕ) (at stop outer : ℕ) where
  module _ (l : stop ≤ at) where
    pub optional_end : (t : ℕ) (g next : Syntax) → fit (optional t g next) s at stop outer ≡ fit next s at stop outer
    unfolding fit
    optional_end t g next = on_false (ltb at stop) _ _ (le-ltb at stop l)

    pub one_end : (g next : Syntax) → fit (one g next) s at stop outer ≡ Err outer
    unfolding fit
    one_end g next = on_false (ltb at stop) _ _ (le-ltb at stop l)

    pub any_end : (next : Syntax) → fit (any_optional next) s at stop outer ≡ fit next s at stop outer
    unfolding fit
    any_end next = on_false (ltb at stop) _ _ (le-ltb at stop l)

  module _ {e : Element} (q : e ≡ element_at s at stop) (l : at < stop) (b : e.valid ≡ false) where
    at_broken : (x y : Fit) → by_element (ltb at stop) at (element_at s at stop).valid x y ≡ Err at
    at_broken x y = on_true (ltb at stop) _ x (lt-ltb at stop l) ∙ on_false (element_at s at stop).valid y (Err at) (rw q at b)

    pub optional_broken : (t : ℕ) (g next : Syntax) → fit (optional t g next) s at stop outer ≡ Err at
    unfolding fit
    optional_broken t g next = at_broken _ _

    pub one_broken : (g next : Syntax) → fit (one g next) s at stop outer ≡ Err at
    unfolding fit
    one_broken g next = at_broken _ _

    pub any_broken : (next : Syntax) → fit (any_optional next) s at stop outer ≡ Err at
    unfolding fit
    any_broken next = at_broken _ _

module _ {s : List ℕ} {at stop : ℕ} {e : Element} (m : Met s at stop e) where
  pub at_met : (x y : Fit) → by_element (ltb at stop) at (element_at s at stop).valid x y ≡ y
  at_met x y = on_true (ltb at stop) _ x (lt-ltb at stop m.room) ∙ on_true (element_at s at stop).valid y (Err at) (rw m.is at m.valid)

  module _ (outer t : ℕ) (g next : Syntax) where
    pub optional_other : (e.tag ≡ t → ⊥) → fit (optional t g next) s at stop outer ≡ fit next s at stop outer
    unfolding fit
    optional_other n = at_met _ _ ∙ on_false (eqb (element_at s at stop).tag t) _ _ (rw m.is at (ne_eqb e.tag t n))

    pub optional_here : e.tag ≡ t → fit (optional t g next) s at stop outer ≡ and_then (fit g s e.start e.stop at) (fit next s e.stop stop outer)
    unfolding fit
    optional_here n = rw m.is (at_met _ _ ∙ on_true (eqb (element_at s at stop).tag t) _ _ (rw m.is at (eq-eqb e.tag t n)))

  module _ (outer : ℕ) where
    pub one_turn : (g next : Syntax) → fit (one g next) s at stop outer ≡ and_then (fit g s at e.stop outer) (fit next s e.stop stop outer)
    unfolding fit
    one_turn g next = rw m.is (at_met _ _)

    pub any_turn : (next : Syntax) → fit (any_optional next) s at stop outer ≡ fit next s e.stop stop outer
    unfolding fit
    any_turn next = rw m.is (at_met _ _)

-- where it fits: the ways through

module _ (s : List ℕ) (at stop outer : ℕ) {e : Element} (q : e ≡ element_at s at stop) where
  pub optional_fits : {P : Type 0} (t : ℕ) (g next : Syntax) → fit (optional t g next) s at stop outer ≡ Ok tt
      → (stop ≤ at → fit next s at stop outer ≡ Ok tt → P)
      → (at < stop → e.valid ≡ true → eqb e.tag t ≡ false → fit next s at stop outer ≡ Ok tt → P)
      → (at < stop → e.valid ≡ true → eqb e.tag t ≡ true → fit g s e.start e.stop at ≡ Ok tt → fit next s e.stop stop outer ≡ Ok tt → P)
      → P
  optional_fits t g next h none other here =
      by_test (ltb at stop)
      (λ r.
      let l = ltb-true at stop r in
      by_test e.valid
      (λ b.
      let m = met q b in
      by_test (eqb e.tag t)
      (λ n.
      let two = then_both (fit g s e.start e.stop at) (fit next s e.stop stop outer) (sym (optional_here m outer t g next (eqb-true e.tag t n)) ∙ h) in
      here l b n two.0 two.1)
      (λ n. other l b n (sym (optional_other m outer t g next (eqb-false e.tag t n)) ∙ h)))
      (λ b. absurd (breaks≢fits (sym (optional_broken s at stop outer q l b t g next) ∙ h))))
      (λ r. let l = ltb-false at stop r in none l (sym (optional_end s at stop outer l t g next) ∙ h))

  pub record First (g next : Syntax) : Type 0 where
    pub valid : e.valid ≡ true
    pub alone : fit g s at e.stop outer ≡ Ok tt
    pub rest : fit next s e.stop stop outer ≡ Ok tt

  pub one_fits : (g next : Syntax) → fit (one g next) s at stop outer ≡ Ok tt → First g next
  one_fits g next h =
      by_test (ltb at stop)
      (λ r.
      by_test e.valid
      (λ b.
      let two = then_both (fit g s at e.stop outer) (fit next s e.stop stop outer) (sym (one_turn (met q b) outer g next) ∙ h) in
      record { valid = b; alone = two.0; rest = two.1 })
      (λ b. absurd (breaks≢fits (sym (one_broken s at stop outer q (ltb-true at stop r) b g next) ∙ h))))
      (λ r. absurd (breaks≢fits (sym (one_end s at stop outer (ltb-false at stop r) g next) ∙ h)))

module _ (s : List ℕ) (at stop outer : ℕ) where
  pub end_fits : fit end s at stop outer ≡ Ok tt → stop ≤ at
  unfolding fit
  end_fits h = leb-true stop at (held_true at (leb stop at) h)

  pub obeys_fits : (r : Rule) (g : Syntax) → fit (obeys r g) s at stop outer ≡ Ok tt → (fit g s at stop outer ≡ Ok tt) × (obeyed r (slice s at stop) ≡ true)
  unfolding fit
  obeys_fits r g h =
      let two = then_both (fit g s at stop outer) (held outer (obeyed r (slice s at stop))) h in
      (two.0, held_true outer (obeyed r (slice s at stop)) two.1)

  pub many_fits : (g : Syntax) → fit (many g) s at stop outer ≡ Ok tt
      → Every (λ m. (m.valid ≡ true) × (fit g s m.at m.stop outer ≡ Ok tt)) (elements s at stop)
  unfolding fit
  many_fits g h =
      every_member (λ former m. fit g s m.at m.stop outer) (λ m. (m.valid ≡ true) × (fit g s m.at m.stop outer ≡ Ok tt))
      (λ former m b f. (b, f))
      (elements s at stop)
      h
