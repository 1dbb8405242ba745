-- `der`, `sorted_in` and `spans`, one way through their tests at a time.
use Rattle.std.specs.Prelude.{Err}
use Prim.Native.Nat.{ℕ, zero, suc, ◌-◌, ◌≤◌, ◌<◌}
use native.Mathlib.Omega.{arith}
use mathlib.Core.Bool.{true, false}
use mathlib.Core.List.{List, [], ◌∷◌}
use mathlib.Core.Path.{◌≡◌, refl, sym, ◌∙◌}
use lib.Dec.{eqb}
use borrow.Author.Tests.{lt-ltb, le-ltb, eq-eqb, ne_eqb}
use Rattle.octets.specs.Octets.{ordered}
use Rattle.octets.proofs.Lists.{by_test}
use Rattle.octets.proofs.Compare.{ordered_refl}
use Rattle.octets.proofs.Parts.{slice-none}
use Rattle.der.specs.declared.Element.{Element}
use Rattle.der.specs.Element.{absent, element_at, inside, encoding, contents, constructed}
use Rattle.der.specs.Fit.{and_then, held, each_from, each, Fit}
use Rattle.der.specs.Contents.{contents_ok}
use Rattle.der.specs.Check.{sorted_in, der, spans}
use Rattle.der.proofs.Bools.{on_true, on_false}
use Rattle.der.proofs.Fits.{then_fits, then_breaks, held_fits, held_breaks, judge_by}

-- the judge of a run: the member m of an element with this tag, with d levels left for it
abbrev pub member_fit : ℕ → List ℕ → ℕ → Element → Element → Fit
member_fit d s tag = judge_by (der d s) (sorted_in tag s)

module _ (tag : ℕ) (s : List ℕ) (former e : Element) where
  pub sorted_other : (tag ≡ 49 → ⊥) → sorted_in tag s former e ≡ true
  unfolding sorted_in
  sorted_other n = on_false (eqb tag 49) (ordered (encoding s former) (encoding s e)) true (ne_eqb _ _ n)

  pub sorted_set : tag ≡ 49 → sorted_in tag s former e ≡ ordered (encoding s former) (encoding s e)
  unfolding sorted_in
  sorted_set h = on_true (eqb tag 49) (ordered (encoding s former) (encoding s e)) true (eq-eqb _ _ h)

-- the first member of a run has itself before it, and might as well have nothing: both are in order
module _ (tag : ℕ) (s : List ℕ) (at : ℕ) where
  sorted_first : (e : Element) → sorted_in tag s (absent at) e ≡ sorted_in tag s e e
  unfolding sorted_in ordered
  sorted_first e =
      let n : at ≤ at = omega arith in
      by_test (eqb tag 49) (λ t. rw (t, sorted_in, slice-none s at at n, ordered_refl (encoding s e))) (λ t. rw (t, sorted_in))

  pub each_first : (d : ℕ) (es : List Element) → each_from (member_fit d s tag) (absent at) es ≡ each (member_fit d s tag) es
  unfolding each each_from
  each_first d [] = refl
  each_first d (e ∷ es) = rw (sorted_first e)

module _ (s : List ℕ) (e : Element) where
  opened : ℕ → Fit
  opened d =
      elim (constructed e.tag) [ true ↦ each (member_fit d s e.tag) (inside s e) | false ↦ held e.at (contents_ok e.tag (contents s e)) ]

  pub der_deep : (d : ℕ) → d ≡ 0 → der d s e ≡ Err e.at
  unfolding der
  der_deep d h = rw h

  pub der_bad : (d : ℕ) → e.valid ≡ false → der d s e ≡ Err e.at
  unfolding der opened
  der_bad zero g = refl
  der_bad (suc d) g = on_false e.valid (opened d) (Err e.at) g

  pub der_run_lem : (d : ℕ) → (d ≡ 0 → ⊥) → e.valid ≡ true → constructed e.tag ≡ true → der d s e ≡ each (member_fit (d - 1) s e.tag) (inside s e)
  unfolding der opened
  der_run_lem zero n g k = absurd (n refl)
  der_run_lem (suc d) n g k =
      let p : suc d - 1 ≡ d = omega arith in
      rw p
      (on_true e.valid (opened d) (Err e.at) g
      ∙ on_true
      (constructed e.tag)
      (each (member_fit d s e.tag) (inside s e))
      (held e.at (contents_ok e.tag (contents s e)))
      k)

  pub der-leaf : (d : ℕ) → (d ≡ 0 → ⊥) → e.valid ≡ true → constructed e.tag ≡ false
      → der d s e ≡ held e.at (contents_ok e.tag (contents s e))
  unfolding der opened
  der-leaf zero n g k = absurd (n refl)
  der-leaf (suc d) n g k =
      on_true e.valid (opened d) (Err e.at) g
      ∙ on_false
      (constructed e.tag)
      (each (member_fit d s e.tag) (inside s e))
      (held e.at (contents_ok e.tag (contents s e)))
      k

  -- an element with a bad header breaks the rule of its header as it breaks this one
  pub der_valid : (d : ℕ) {r : Fit} → r ≡ der d s e → r ≡ and_then (held e.at e.valid) (der d s e)
  der_valid d q =
      q
      ∙ by_test e.valid
      (λ g. sym (then_fits _ (held_fits e.at g)))
      (λ g. der_bad d g ∙ sym (then_breaks _ (held_breaks e.at g)))

module _ (d : ℕ) (s : List ℕ) (at stop outer : ℕ) where
  pub spans-none : stop ≤ at → spans d s at stop outer ≡ Err outer
  unfolding spans
  spans-none h = rw (le-ltb _ _ h, spans)

  pub spans_one : at < stop → {e : Element} → e ≡ element_at s at stop
      → spans d s at stop outer ≡ and_then (der d s e) (held e.stop (eqb e.stop stop))
  unfolding spans
  spans_one l q = rw (q, lt-ltb _ _ l, spans)
