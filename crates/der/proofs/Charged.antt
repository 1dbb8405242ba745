-- 02, E3: what a rule charges is an identifier octet of what it reads.
use Rattle.std.specs.Prelude.{Ok, Err}
use Prim.Native.Nat.{ℕ, zero, suc, ◌≤◌, ◌<◌}
use native.Mathlib.Omega.{arith}
use mathlib.Core.Bool.{Bool, true, false, true≢false}
use mathlib.Core.List.{List, [], ◌∷◌}
use mathlib.Core.Path.{◌≡◌, refl, sym, ap, ◌∙◌}
use lib.ListN.{length}
use lib.Dec.{ltb, eqb}
use borrow.Author.Tests.{ltb-true, ltb-false, eqb-false}
use Rattle.octets.specs.Lists.{Among, first, later}
use Rattle.octets.proofs.Lists.{by_test}
use Rattle.der.specs.declared.Element.{Element}
use Rattle.der.specs.Element.{element_at, inside, root, contents, constructed}
use Rattle.der.specs.Fit.{and_then, held, each_from, each, Fit}
use Rattle.der.specs.Contents.{contents_ok}
use Rattle.der.specs.Check.{sorted_in, der, spans}
use Rattle.der.specs.Identifier.{IdentifierOctet, own, of_member}
use Rattle.der.proofs.Elements.{valid_within, bounded, bad_tag}
use Rattle.der.proofs.Members.{MemberAt, member_is}
use Rattle.der.proofs.Fits.{breaks≢fits, held_true}
use Rattle.der.proofs.Checks.{spans-none, spans_one}

-- a break is the first rule's or the second's
module _ {X : Type 0} {o : ℕ} where
  pub then_charges : (f g : Fit) → (f ≡ Err o → X) → (f ≡ Ok tt → g ≡ Err o → X) → and_then f g ≡ Err o → X
  unfolding and_then
  then_charges (Ok _) g l r e = r refl e
  then_charges (Err p) g l r e = l e

  -- of a test it is the element that the test charges
  pub held_charges : (at : ℕ) (b : Bool) → (b ≡ false → at ≡ o → X) → held at b ≡ Err o → X
  unfolding held
  held_charges at true f e = absurd (breaks≢fits (sym e))
  held_charges at false f e = f refl (cc)

  -- of a run it is a member's header, or what the judge charges
  from_charges : (judge : Element → Element → Fit) (l : List Element)
      → ((e : Element) → Among e l → e.at ≡ o → X)
      → ((former e : Element) → Among e l → e.valid ≡ true → judge former e ≡ Err o → X)
      → (former : Element) → each_from judge former l ≡ Err o → X
  unfolding each_from
  from_charges judge [] f g former h = absurd (breaks≢fits (sym h))
  from_charges judge (e ∷ es) f g former h =
      then_charges (and_then (held e.at e.valid) (judge former e)) (each_from judge e es)
      (then_charges (held e.at e.valid) (judge former e)
      (held_charges e.at e.valid (λ _. f e first))
      (λ k. g former e first (held_true e.at e.valid k)))
      (λ _. from_charges judge es (λ m i. f m (later i)) (λ b m i. g b m (later i)) e)
      h

  pub each_charges : (judge : Element → Element → Fit) (l : List Element)
      → ((e : Element) → Among e l → e.at ≡ o → X)
      → ((former e : Element) → Among e l → e.valid ≡ true → judge former e ≡ Err o → X)
      → each judge l ≡ Err o → X
  unfolding each
  each_charges judge [] f g h = absurd (breaks≢fits (sym h))
  each_charges judge (e ∷ es) f g h = from_charges judge (e ∷ es) f g e h

-- an element that is not DER: one of its identifier octets
pub der_charges : (d : ℕ) (s : List ℕ) (e : Element) {o : ℕ} → der d s e ≡ Err o → IdentifierOctet s o e
unfolding der
der_charges zero s e {o} h = let k : e.at ≡ o = cc in own k
der_charges (suc d) s e {o} h =
    by_test e.valid
    (λ v.
    by_test (constructed e.tag)
    (λ c.
    each_charges (λ former m. and_then (der d s m) (held m.at (sorted_in e.tag s former m))) (inside s e)
    (λ m i k. of_member c i (own k))
    (λ former m i g.
    then_charges (der d s m) (held m.at (sorted_in e.tag s former m))
    (λ k. of_member c i (der_charges d s m k))
    (λ _. held_charges m.at (sorted_in e.tag s former m) (λ _ k. of_member c i (own k))))
    (rw (der, v, c) at h))
    (λ c. held_charges e.at (contents_ok e.tag (contents s e)) (λ _ k. own k) (rw (der, v, c) at h)))
    (λ v. let w = rw v at h in let k : e.at ≡ o = cc in own k)

-- octets that are not one element: they are none, the element breaks a rule, or octets stand after it
pub spans_charges : {X : Type 0} (d : ℕ) (s : List ℕ) (at stop outer : ℕ) {o : ℕ}
    → (stop ≤ at → outer ≡ o → X)
    → (at < stop → IdentifierOctet s o (element_at s at stop) → X)
    → (der d s (element_at s at stop) ≡ Ok tt → (element_at s at stop).stop ≡ o → ((element_at s at stop).stop ≡ stop → ⊥) → X)
    → spans d s at stop outer ≡ Err o → X
spans_charges d s at stop outer f g h b =
    let e = element_at s at stop in
    by_test (ltb at stop)
    (λ t.
    let l = ltb-true at stop t in
    then_charges (der d s e) (held e.stop (eqb e.stop stop))
    (λ k. g l (der_charges d s e k))
    (λ k. held_charges e.stop (eqb e.stop stop) (λ n i. h k i (eqb-false e.stop stop n)))
    (sym (spans_one d s at stop outer l refl) ∙ b))
    (λ t.
    let l = ltb-false at stop t in
    let k = sym (spans-none d s at stop outer l) ∙ b in
    f l (cc))

-- an identifier octet stands in the octets
pub octet-within : (s : List ℕ) {o : ℕ} {e : Element} → IdentifierOctet s o e → (at stop : ℕ) → MemberAt s at stop e → stop ≤ length s → o < length s
octet-within s (own k) at stop m l = omega (arith, m.before)
octet-within s {o} {e} (of_member c i d) at stop m l =
    let g : e.valid ≡ true =
    by_test e.valid (λ v. v) (λ v. absurd (true≢false (sym c ∙ ap constructed (bad_tag s e.at stop m.element v))))
    in
    let w = valid_within s e.at stop m.element g in
    octet-within s d e.start e.stop (member_is s e.start e.stop i) (omega (arith, w))

pub root-octet : (s : List ℕ) {o : ℕ} → 0 < length s → IdentifierOctet s o (root s) → o < length s
root-octet s l d =
    let b = bounded s 0 (length s) refl in
    octet-within s d 0 (length s)
    (record { element = ap (λ (a : ℕ). element_at s a (length s)) (sym b.here); from = omega arith; before = omega (arith, b.here) })
    (omega arith)
