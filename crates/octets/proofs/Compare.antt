-- `same` as a loop reads it, from the last octet on; `ordered` as the library's order.
use Prim.Native.Nat.{ℕ, ◌+◌, ◌≤◌, ◌<◌}
use native.Mathlib.Numerals.{add-one}
use native.Mathlib.Omega.{arith}
use mathlib.Core.Bool.{true, false}
use mathlib.Core.List.{List, [], ◌∷◌}
use mathlib.Core.Path.{◌≡◌, refl, sym, ap, ◌∙◌}
use lib.ListN.{length, get_or, drop, drop_of_length-le}
use lib.Seq.{drop-cons}
use borrow.Author.Tests.{eq-eqb, le-ltb}
use Rattle.std.proofs.Common.{nat_cmp}
use Rattle.std.specs.declared.cmp.Ordering.{Ordering}
use Rattle.std.specs.Ordering.{is_le}
use Rattle.std.specs.Cmp.Lexicographic.{slice_cmp}
use Rattle.std.proofs.lemmas.Cmp.{same_from_slice_cmp}
use Rattle.std.proofs.lemmas.Bool.Decides.{nat_tests}
use Rattle.octets.specs.Octets.{same, ordered}
use Rattle.octets.proofs.Lists.{same_refl, ≢→same}

-- octet strings differ that have two lengths, or two octets at one place
module _ (s t : List ℕ) where
  pub same_lengths : (length s ≡ length t → ⊥) → same s t ≡ false
  same_lengths h = ≢→same s t (λ e. h (ap length e))

  pub same_differ : (i : ℕ) → (get_or s i 0 ≡ get_or t i 0 → ⊥) → same s t ≡ false
  same_differ i h = ≢→same s t (λ e. h (ap (λ (l : List ℕ). get_or l i 0) e))

  -- from the last octet to the first: what stands from a place on is equal
  pub rest-none : length s ≡ length t → drop (length s) s ≡ drop (length s) t
  rest-none e =
      let p : length s ≤ length s = omega arith in
      let q : length t ≤ length s = omega arith in
      drop_of_length-le s p ∙ sym (drop_of_length-le t q)

  pub rest_more : (i : ℕ) → i < length s → i < length t → get_or s i 0 ≡ get_or t i 0 → drop (i + 1) s ≡ drop (i + 1) t → drop i s ≡ drop i t
  rest_more i p q e r = rw (drop-cons s i 0 p, drop-cons t i 0 q, e, ← add-one i, r)

  pub rest_all : drop 0 s ≡ drop 0 t → same s t ≡ true
  rest_all e = rw e (same_refl t)

-- the library's order is that of X.690, 11.6
pub ordered_by_cmp : (s t : List ℕ) (o : Ordering) → o ≡ slice_cmp nat_cmp s t → is_le o ≡ ordered s t
unfolding ordered
ordered_by_cmp = same_from_slice_cmp nat_cmp is_le ordered refl (λ _ _. refl) (λ _ _. refl) (λ x y xs ys o h. grind (arith, nat_tests))

pub ordered_refl : (s : List ℕ) → ordered s s ≡ true
unfolding ordered
ordered_refl [] = refl
ordered_refl (x ∷ s) =
    let n : x ≤ x = omega arith in
    rw (le-ltb x x n, eq-eqb x x refl) (ordered_refl s)
