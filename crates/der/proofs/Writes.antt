-- What is written: length octets and elements, their sizes, and two parts one call after the other.
use Prim.Native.Nat.{ℕ, ◌+◌, ◌≤◌, ◌<◌}
use native.Mathlib.Omega.{arith}
use mathlib.Core.List.{List, [], ◌∷◌, ◌++◌}
use mathlib.Core.Path.{◌≡◌, sym, ap}
use lib.ListN.{length, length-append}
use lib.Dec.{ltb}
use borrow.Author.Tests.{lt-ltb, le-ltb, ltb-true, ltb-false}
use Rattle.octets.specs.Octets.{placed}
use Rattle.octets.specs.Number.{digits}
use Rattle.octets.proofs.Lists.{by_test}
use Rattle.octets.proofs.Number.{length_digits}
use Rattle.octets.proofs.Turns.{Unwritten, left_start, left_fits, left_step, last_fits, last_step}
use Rattle.der.specs.Write.{length_octets, header, element}

pub short_octets : (n : ℕ) → n < 128 → length_octets n ≡ n ∷ []
unfolding length_octets
short_octets n h = rw (lt-ltb _ _ h, length_octets)

pub long_octets : (n : ℕ) → 128 ≤ n → length_octets n ≡ (128 + length (digits 256 8 n)) ∷ digits 256 8 n
unfolding length_octets
long_octets n h = rw (le-ltb _ _ h, length_octets)

-- the length octets are nine at most
pub length_octets_lem : (n : ℕ) → length (length_octets n) ≤ 9
length_octets_lem n =
    by_test (ltb n 128)
    (λ t. omega (arith, ap length (short_octets n (ltb-true n 128 t))))
    (λ t. omega (arith, ap length (long_octets n (ltb-false n 128 t)), length_digits 8 n))

pub length-element : (tag : ℕ) (c : List ℕ) → length (element tag c) ≡ length (length_octets (length c)) + 1 + length c
unfolding element
length-element tag c = omega (arith, length-append (header tag (length c)) c)

-- an element whose contents have n octets
pub element_is : (tag : ℕ) {n : ℕ} (c : List ℕ) → n ≡ length c → element tag c ≡ header tag n ++ c
unfolding element
element_is tag c e = ap (λ (m : ℕ). header tag m ++ c) (sym e)

-- a call at place p of d wrote s: it gives the place m, and leaves r
abbrev pub Wrote : List ℕ → ℕ → List ℕ → ℕ → List ℕ → Type 0
Wrote d p s m r = (m ≡ p + length s) × (r ≡ placed d p s)

-- octets that are written in two parts
module _ (d : List ℕ) (at : ℕ) {all : List ℕ} (room : at + length all ≤ length d) (s t : List ℕ) (is : all ≡ s ++ t) where
  pub first_fits : at + length s ≤ length d
  first_fits = left_fits d at all room (left_start d at all) s t is

  module _ {m : ℕ} {r : List ℕ} (k : Wrote d at s m r) where
    after_first : Unwritten d at all r m t
    after_first = left_step d at all room (left_start d at all) s t is k

    pub second_fits : m + length t ≤ length r
    second_fits = last_fits d at all room after_first

    pub both-written : {n : ℕ} {u : List ℕ} → Wrote r m t n u → Wrote d at all n u
    both-written = last_step d at all room after_first
