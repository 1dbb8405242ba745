-- A run of elements as a loop reads it, one element a turn.
use Prim.Native.Nat.{ℕ, zero, suc, ◌+◌, ◌-◌, ◌≤◌, ◌<◌}
use native.Mathlib.Omega.{arith}
use mathlib.Core.Bool.{true, false, true≢false}
use mathlib.Core.List.{List, [], ◌∷◌, ◌++◌, append_assoc}
use lib.ListN.{length}
use mathlib.Core.Path.{◌≡◌, refl, sym, ap, ◌∙◌}
use lib.Dec.{ltb}
use borrow.Author.Tests.{ltb-true, ltb-false}
use Rattle.octets.proofs.Lists.{by_test}
use Rattle.der.specs.declared.Element.{Element}
use Rattle.der.specs.Element.{length_at, contents_at, element_at, elements}
use Rattle.der.specs.Contract.Reading.{next_at}
use Rattle.der.proofs.Header.{header_or_not, element_is, element-absent}
use Rattle.der.proofs.Elements.{valid_within, elements_end, elements_broken, elements_turn}

pub next_valid : (e : Element) (stop : ℕ) → e.valid ≡ true → next_at e stop ≡ e.stop
unfolding next_at
next_valid e stop g = rw g

pub next_broken : (e : Element) (stop : ℕ) → e.valid ≡ false → next_at e stop ≡ stop
unfolding next_at
next_broken e stop g = rw g

module _ (s : List ℕ) (at stop : ℕ) {e : Element} (q : e ≡ element_at s at stop) (l : at < stop) where
  -- the run is its first element and the run after it
  pub run_turn : {n : ℕ} → n ≡ next_at e stop → elements s at stop ≡ e ∷ elements s n stop
  run_turn {n} m =
      by_test e.valid
      (λ g. elements_turn s at stop q g ∙ ap (λ (k : ℕ). e ∷ elements s k stop) (sym (m ∙ next_valid e stop g)))
      (λ g.
      let b : n ≡ stop = m ∙ next_broken e stop g in
      elements_broken s at stop q l g ∙ ap (λ (r : List Element). e ∷ r) (sym (elements_end s n stop (omega arith))))

  -- which is shorter
  pub run_on : {n : ℕ} → n ≡ next_at e stop → (at < n) × (n ≤ stop)
  run_on {n} m =
      by_test e.valid
      (λ g.
      let b : n ≡ e.stop = m ∙ next_valid e stop g in
      let w = valid_within s at stop q g in
      (omega arith, omega arith))
      (λ g.
      let b : n ≡ stop = m ∙ next_broken e stop g in
      (omega arith, omega arith))

-- what holds at the end of a run, where no element stands, and at an element if it holds after it, holds of every run
module _ (s : List ℕ) (stop : ℕ) (P : ℕ → Type 0) (none : (at : ℕ) → stop ≤ at → P at)
    (broken : (at : ℕ) → at < stop → (element_at s at stop).valid ≡ false → P at)
    (turn : (at : ℕ) → (element_at s at stop).valid ≡ true → P (element_at s at stop).stop → P at) where
  by_fuel : (n at : ℕ) → stop - at ≤ n → P at
  by_fuel zero at l = none at (omega arith)
  by_fuel (suc n) at l =
      let e = element_at s at stop in
      by_test (ltb at stop)
      (λ t.
      by_test e.valid
      (λ g.
      let w = valid_within s at stop refl g in
      let m = ltb-true at stop t in
      turn at g (by_fuel n e.stop (omega arith)))
      (λ g. broken at (ltb-true at stop t) g))
      (λ t. none at (ltb-false at stop t))

  pub by_run : (at : ℕ) → P at
  by_run at = by_fuel (stop - at) at (omega arith)

-- an element stands alike in each window that it does not pass
pub element_window : (s : List ℕ) (at stop w : ℕ) {e : Element} → e ≡ element_at s at stop → e.valid ≡ true → e.stop ≤ w → w ≤ length s → element_at s at w ≡ e
element_window s at stop w {e} q g h l =
    header_or_not s at stop
    (λ k.
    let i = q ∙ element_is s at stop k in
    let b : contents_at s at + length_at s at ≤ w = rw i at h in
    element_is s at w
    (record { within = l; room = omega (arith, b); low_tag = k.low_tag; begins = omega (arith, b); shortest = k.shortest; ends = b })
    ∙ sym i)
    (λ n. absurd (true≢false (sym g ∙ ap (λ (x : Element). x.valid) (q ∙ element-absent s at stop n))))

-- .. and so in the window of its own octets
pub again : (s : List ℕ) (at stop : ℕ) {e : Element} → e ≡ element_at s at stop → e.valid ≡ true → element_at s at e.stop ≡ e
again s at stop {e} q g = let w = valid_within s at stop q g in element_window s at stop e.stop q g (omega arith) (omega arith)

-- a run goes from one place to the other: each run that goes on from there begins with it
pub record Reached (s : List ℕ) (from to : ℕ) : Type 0 where
  pub splits : (w : ℕ) → to ≤ w → w ≤ length s → elements s from w ≡ elements s from to ++ elements s to w
  pub onward : from ≤ to

pub reached-none : (s : List ℕ) (at : ℕ) → Reached s at at
reached-none s at =
    record {
      splits = λ w h l. ap (λ (r : List Element). r ++ elements s at w) (sym (elements_end s at at (omega arith)));
      onward = omega arith;
    }

module _ {s : List ℕ} {from to : ℕ} (r : Reached s from to) (stop : ℕ) {e : Element} (q : e ≡ element_at s to stop) (g : e.valid ≡ true) where
  -- the run that goes on to w begins with that element
  pub reached_head : (w : ℕ) → e.stop ≤ w → w ≤ length s → elements s from w ≡ elements s from to ++ (e ∷ elements s e.stop w)
  reached_head w h l =
      let b = valid_within s to stop q g in
      r.splits w (omega (arith, h, b)) l ∙ ap (λ (x : List Element). elements s from to ++ x) (elements_turn s to w (sym (element_window s to stop w q g h l)) g)

  pub reached_on : Reached s from e.stop
  reached_on =
      let b = valid_within s to stop q g in
      record {
        splits =
            λ w h l.
            reached_head w h l
            ∙ sym (append_assoc (elements s from to) (e ∷ []) (elements s e.stop w))
            ∙ ap (λ (x : List Element). x ++ elements s e.stop w) (sym (reached_head e.stop (omega arith) (omega (arith, b)) ∙ ap (λ (x : List Element). elements s from to ++ (e ∷ x)) (elements_end s e.stop e.stop (omega arith))));
        onward = omega (arith, b, r.onward);
      }
