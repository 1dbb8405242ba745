-- Elements and their own windows: an element that was read in some window is read again in the window of its own octets; and the members of a run.
use Prim.Native.Nat.{ℕ, ◌≤◌, ◌<◌}
use native.Mathlib.Omega.{arith}
use mathlib.Core.Bool.{true, false≢true}
use mathlib.Core.List.{List, ◌∷◌}
use mathlib.Core.Path.{◌≡◌, refl, sym, ap, subst, ◌∙◌}
use lib.Dec.{eqb}
use borrow.Author.Tests.{eqb-true, eqb-false}
use Rattle.octets.specs.Lists.{Among}
use Rattle.octets.proofs.Lists.{by_test}
use Rattle.der.specs.declared.Element.{Element}
use Rattle.der.specs.Element.{element_at, elements, with_tag}
use Rattle.der.proofs.Elements.{InWindow, valid_within, bounded, elements_turn}
use Rattle.der.proofs.Runs.{by_run, again}
use Rattle.der.proofs.Members.{member_is, with_tag_among}
use Rattle.der.proofs.Elements.{with_tag_end, with_tag_broken, with_tag-found, with_tag_turn}
use Rattle.syntax.proofs.Each.{Every, every_weaken, every_among, among_every}

-- an element of the octets, which it is whatever window it was found in
pub record Own (s : List ℕ) (e : Element) : Type 0 where
  pub is : e ≡ element_at s e.at e.stop
  pub valid : e.valid ≡ true

pub own_within : (s : List ℕ) (e : Element) → Own s e → InWindow s e.at e.stop e
own_within s e o = valid_within s e.at e.stop o.is o.valid

pub own : (s : List ℕ) (at stop : ℕ) {e : Element} → e ≡ element_at s at stop → e.valid ≡ true → Own s e
own s at stop {e} q g =
    record { is = sym (again s at stop q g) ∙ ap (λ (i : ℕ). element_at s i e.stop) (sym (valid_within s at stop q g).here); valid = g }

-- a member of a run in a window
pub record Member (s : List ℕ) (at stop : ℕ) (m : Element) : Type 0 where
  pub own : m.valid ≡ true → Own s m
  pub from : at ≤ m.at
  pub ends : m.stop ≤ stop

pub members : (s : List ℕ) (at stop : ℕ) → Every (Member s at stop) (elements s at stop)
members s at stop =
    every_weaken (λ m. Among m (elements s at stop)) (Member s at stop)
    (λ m i.
    let k = member_is s at stop i in
    let b = bounded s m.at stop k.element in
    record { own = own s m.at stop k.element; from = k.from; ends = b.ends (omega (arith, k.before)) })
    (elements s at stop)
    (among_every (elements s at stop))

-- what holds of every member holds of the first with a tag, and of all after it

pub tagged-member : (P : Element → Type 0) (t : ℕ) (es : List Element) → Every P es → (with_tag t es).valid ≡ true → P (with_tag t es)
tagged-member P t es h g =
    with_tag_among t es
    (λ q. absurd (false≢true (sym (ap (λ (x : Element). x.valid) q) ∙ g)))
    (λ e q i _. subst P (sym q) (every_among P es h i))

pub after-member : (P : Element → Type 0) (t : ℕ) (s : List ℕ) (at stop : ℕ) → Every P (elements s at stop) → (with_tag t (elements s at stop)).valid ≡ true
    → Every P (elements s (with_tag t (elements s at stop)).stop stop)
after-member P t s at stop =
    by_run s stop
    (λ (at : ℕ). Every P (elements s at stop) → (with_tag t (elements s at stop)).valid ≡ true → Every P (elements s (with_tag t (elements s at stop)).stop stop))
    (λ at l h g. absurd (false≢true (sym (ap (λ (x : Element). x.valid) (with_tag_end t s at stop l)) ∙ g)))
    (λ at l b h g.
    let e = element_at s at stop in
    absurd
    (false≢true
    (by_test (eqb e.tag t)
    (λ n. sym b ∙ ap (λ (x : Element). x.valid) (sym (with_tag-found t s at stop refl l (eqb-true e.tag t n))) ∙ g)
    (λ n. ap (λ (x : Element). x.valid) (sym (with_tag_broken t s at stop refl l b (eqb-false e.tag t n))) ∙ g))))
    (λ at b ih h g.
    let e = element_at s at stop in
    let w = valid_within s at stop refl b in
    let l : at < stop = omega arith in
    let k : Every P (e ∷ elements s e.stop stop) = rw (elements_turn s at stop refl b) at h in
    by_test (eqb e.tag t)
    (λ n. rw (with_tag-found t s at stop refl l (eqb-true e.tag t n)) k.1)
    (λ n.
    let turn = with_tag_turn t s at stop refl b (eqb-false e.tag t n) in
    rw turn (ih k.1 (rw turn at g))))
    at
