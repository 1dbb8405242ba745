-- The search, digit by digit; and keys that lead to places before one.
use Prim.Native.Nat.{ℕ, zero, suc, ◌+◌, ◌-◌, ◌/◌, ◌≤◌, ◌<◌}
use native.Mathlib.Omega.{arith}
use mathlib.Core.Bool.{Bool, true, false, true≢false, and-eq-true_iff}
use mathlib.Core.List.{List, [], ◌∷◌, ◌++◌, map}
use mathlib.Core.Path.{◌≡◌, sym, ap, ◌∙◌}
use lib.Dec.{ltb}
use borrow.Author.Tests.{ltb-true}
use Rattle.octets.specs.Lists.{all_of}
use Rattle.octets.specs.Octets.{same, member}
use Rattle.octets.proofs.Lists.{by_test, same→≡, member-none, member-append}
use Rattle.repeats.specs.Contract.Order.{step, find, Below}
use Rattle.repeats.proofs.Keys.{member-cons}

module _ (before : ℕ → Bool) (weight low : ℕ) where
  pub find_end : (left : ℕ) → left ≡ 0 → find before left weight low ≡ low
  unfolding find
  find_end left h = rw h

  module _ (left : ℕ) (p : 0 < left) where
    turn : find before (left - 1) (weight / 2) (step before weight low) ≡ find before left weight low
    unfolding find
    turn = elim left as (λ n. 0 < n → find before (n - 1) (weight / 2) (step before weight low) ≡ find before n weight low) [ zero ↦ λ q. absurd (omega (arith, q)) | suc n ↦ λ q. let m : suc n - 1 ≡ n = omega arith in rw m ] p

    pub turn_more : before (low + weight) ≡ true → find before (left - 1) (weight / 2) (low + weight) ≡ find before left weight low
    unfolding step
    turn_more h = rw (h, step) at turn

    pub turn_not : before (low + weight) ≡ false → find before (left - 1) (weight / 2) low ≡ find before left weight low
    unfolding step
    turn_not h = rw (h, step) at turn

pub below_none : (led : List ℕ → ℕ) (place : ℕ) → Below led place []
below_none led place k h = absurd (true≢false (sym h ∙ member-none k))

module _ (led : List ℕ → ℕ) (place : ℕ) (keys : List (List ℕ)) (b : Below led place keys) (k : List ℕ) where
  -- a key that leads there itself is not among them
  pub below_new : led k ≡ place → member k keys ≡ false
  below_new h = by_test (member k keys) (λ t. absurd (omega (arith, b k t, h))) (λ t. t)

  -- one more
  pub below_first : led k < place → Below led place (k ∷ keys)
  below_first l x h =
      by_test (same x k)
      (λ t. let e = ap led (same→≡ x k t) in omega (arith, l, e))
      (λ t. b x (sym (member-cons x k keys ∙ rw t) ∙ h))

pub below_later : (led : List ℕ → ℕ) (place : ℕ) (keys : List (List ℕ)) → Below led place keys → {next : ℕ} → place ≤ next → Below led next keys
below_later led place keys b l k h = omega (arith, b k h, l)

-- if a test says so of each
pub below_all : (led : List ℕ → ℕ) (place : ℕ) {A : Type 0} (key : A → List ℕ) (l : List A) → all_of (λ x. ltb (led (key x)) place) l ≡ true → Below led place (map key l)
unfolding all_of
below_all led place key [] h = below_none led place
below_all led place key (x ∷ l) h =
    let p = (and-eq-true_iff _ _).0 h in
    below_first led place (map key l) (below_all led place key l p.1) (key x) (ltb-true _ _ p.0)

pub below_more : (led : List ℕ → ℕ) (place : ℕ) (keys : List (List ℕ)) → Below led place keys → (k : List ℕ) → led k ≡ place → {next : ℕ} → place < next
    → Below led next (keys ++ (k ∷ []))
below_more led place keys b k e {next} l x h =
    by_test (member x keys)
    (λ t. omega (arith, b x t, l))
    (λ t. below_first led next [] (below_none led next) k (omega (arith, l, e)) x (sym (member-append x keys (k ∷ []) ∙ rw t) ∙ h))
