-- 01, DER: what is known of an element that passed status 1's check, to some depth: all in it passed with one level less, and more levels are no worse.
use Rattle.std.specs.Prelude.{Ok}
use Prim.Native.Nat.{ℕ, zero, suc, ◌+◌, ◌-◌, ◌≤◌, ◌<◌}
use native.Mathlib.Nat.{zero-add, suc-add}
use native.Mathlib.Omega.{arith}
use mathlib.Core.Bool.{true, false}
use mathlib.Core.List.{List}
use mathlib.Core.Path.{◌≡◌, sym, ◌∙◌}
use lib.Dec.{ltb, eqb}
use borrow.Author.Tests.{lt-ltb, eqb-true, eq-eqb}
use Rattle.octets.proofs.Lists.{by_test}
use Rattle.der.specs.declared.Element.{Element}
use Rattle.der.specs.Element.{element_at, inside, contents, constructed}
use Rattle.der.specs.Contents.{contents_ok}
use Rattle.der.specs.Fit.{held, each}
use Rattle.der.specs.Check.{sorted_in, der, spans}
use Rattle.der.proofs.Fits.{breaks≢fits, then_fits, held_fits, held_true}
use Rattle.der.proofs.Checks.{member_fit, der_bad, der_run_lem, der-leaf}
use Rattle.der.proofs.Bools.{on_true, on_false}
use Rattle.syntax.proofs.Once.{not-zero}
use Rattle.syntax.proofs.Each.{Every, every_member, each_weaker, then_both}

der_members : (d : ℕ) (s : List ℕ) (e : Element) → e.valid ≡ true → constructed e.tag ≡ true → der (suc d) s e ≡ each (member_fit d s e.tag) (inside s e)
der_members d s e g c = let p : suc d - 1 ≡ d = omega arith in rw p at (der_run_lem s e (suc d) (not-zero d) g c)

pub der_valid : (d : ℕ) (s : List ℕ) (e : Element) → der d s e ≡ Ok tt → e.valid ≡ true
unfolding der
der_valid zero s e h = absurd (breaks≢fits h)
der_valid (suc d) s e h = by_test e.valid (λ g. g) (λ g. absurd (breaks≢fits (sym (der_bad s e (suc d) g) ∙ h)))

-- the members of a constructed element have one level less
pub inside-der : (d : ℕ) (s : List ℕ) (e : Element) → der (suc d) s e ≡ Ok tt → constructed e.tag ≡ true → Every (λ m. der d s m ≡ Ok tt) (inside s e)
inside-der d s e h c =
    every_member (member_fit d s e.tag) (λ m. der d s m ≡ Ok tt)
    (λ former m g f. (then_both (der d s m) (held m.at (sorted_in e.tag s former m)) f).0)
    (inside s e)
    (sym (der_members d s e (der_valid (suc d) s e h) c) ∙ h)

-- the contents of any other are as its tag asks
pub contents-der : (d : ℕ) (s : List ℕ) (e : Element) → der (suc d) s e ≡ Ok tt → constructed e.tag ≡ false → contents_ok e.tag (contents s e) ≡ true
contents-der d s e h c =
    held_true e.at (contents_ok e.tag (contents s e)) (sym (der-leaf s e (suc d) (not-zero d) (der_valid (suc d) s e h) c) ∙ h)

-- more levels are no worse
pub deeper : (d : ℕ) (s : List ℕ) (e : Element) → der d s e ≡ Ok tt → der (suc d) s e ≡ Ok tt
unfolding der
deeper zero s e h = absurd (breaks≢fits h)
deeper (suc d) s e h =
    let g = der_valid (suc d) s e h in
    by_test (constructed e.tag)
    (λ c.
    der_members (suc d) s e g c
    ∙ each_weaker (member_fit d s e.tag) (member_fit (suc d) s e.tag)
    (λ former m f.
    let two = then_both (der d s m) (held m.at (sorted_in e.tag s former m)) f in
    then_fits (held m.at (sorted_in e.tag s former m)) (deeper d s m two.0) ∙ two.1)
    (inside s e)
    (sym (der_members d s e g c) ∙ h))
    (λ c. der-leaf s e (suc (suc d)) (not-zero (suc d)) g c ∙ sym (der-leaf s e (suc d) (not-zero d) g c) ∙ h)

pub deeper_by : (n d : ℕ) (s : List ℕ) (e : Element) → der d s e ≡ Ok tt → der (n + d) s e ≡ Ok tt
deeper_by zero d s e h = rw zero-add h
deeper_by (suc n) d s e h = rw suc-add (deeper (n + d) s e (deeper_by n d s e h))

pub deeper_to : (d n : ℕ) (s : List ℕ) (e : Element) → d ≤ n → der d s e ≡ Ok tt → der n s e ≡ Ok tt
deeper_to d n s e l h =
    let k : n - d + d ≡ n = omega arith in
    rw k at (deeper_by (n - d) d s e h)

-- one element spans a window
pub spans_fits : (d : ℕ) (s : List ℕ) (at stop outer : ℕ) → spans d s at stop outer ≡ Ok tt
    → (der d s (element_at s at stop) ≡ Ok tt) × ((element_at s at stop).stop ≡ stop)
unfolding spans
spans_fits d s at stop outer h =
    let e = element_at s at stop in
    by_test (ltb at stop)
    (λ l.
    let two = then_both (der d s e) (held e.stop (eqb e.stop stop)) (sym (on_true (ltb at stop) _ _ l) ∙ h) in
    (two.0, eqb-true e.stop stop (held_true e.stop (eqb e.stop stop) two.1)))
    (λ l. absurd (breaks≢fits (sym (on_false (ltb at stop) _ _ l) ∙ h)))

pub spans_holds : (d : ℕ) (s : List ℕ) (at stop outer : ℕ) → at < stop → der d s (element_at s at stop) ≡ Ok tt → (element_at s at stop).stop ≡ stop
    → spans d s at stop outer ≡ Ok tt
unfolding spans
spans_holds d s at stop outer l h e =
    on_true (ltb at stop) _ _ (lt-ltb at stop l) ∙ then_fits _ h ∙ held_fits (element_at s at stop).stop (eq-eqb (element_at s at stop).stop stop e)
