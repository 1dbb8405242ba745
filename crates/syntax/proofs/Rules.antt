-- The rules of a window as a whole: a SeqNumber (RFC 5934) is at most 9223372036854775807, and NULL is empty.
use Prim.Native.Nat.{ℕ, suc, ◌+◌, ◌-◌, ◌*◌, ◌^◌, ◌≤◌, ◌<◌}
use native.Mathlib.Nat.{lt_of_lt_of_le, mul-le-mul_left, pow-le-pow_right}
use native.Mathlib.Omega.{arith}
use mathlib.Core.Bool.{Bool, true, false, ◌&&◌, and-eq-true_iff}
use mathlib.Core.List.{List, [], ◌∷◌}
use mathlib.Core.Path.{◌≡◌, refl, sym}
use lib.ListN.{length, drop}
use lib.Dec.{leb, ltb, eqb, lit<, lit≤}
use borrow.Author.Tests.{leb-true, ltb-true, le-leb, ne_eqb}
use Rattle.octets.specs.Limits.{max_number}
use Rattle.octets.specs.Octets.{Octets, octet, slice, same}
use Rattle.octets.specs.Number.{number_from, number}
use Rattle.octets.proofs.Number.{number-below, octets_take, octets_drop}
use Rattle.syntax.specs.Grammar.{obeyed, seq_number}

-- NULL
pub same_none : (o : List ℕ) → same o [] ≡ eqb (length o) 0
unfolding same
same_none [] = refl
same_none (x ∷ o) = sym (ne_eqb (length (x ∷ o)) 0 (λ z. omega arith))

-- 128 times seven more octets is 2 ^ 63
below : (x : ℕ) (o : List ℕ) → Octets o → x < 128 → length o ≤ 7 → number_from x o ≤ max_number
below x o b h l =
    let n : number_from x o < 128 * 256 ^ length o = number-below x 128 o b h in
    let m : 128 * 256 ^ length o ≤ 128 * 256 ^ 7 = mul-le-mul_left 128 (pow-le-pow_right (lit< tt) l) in
    let k : number_from x o < 128 * 256 ^ 7 = lt_of_lt_of_le n m in
    omega arith

small : (o : List ℕ) → Octets o → leb (length o) 8 ≡ true → ltb (octet o 0) 128 ≡ true → number o ≤ max_number
unfolding number_from
small [] b h k = lit≤ tt
small (x ∷ o) b h k =
    let l = leb-true (suc (length o)) 8 h in
    let f : 0 * 256 + x ≡ x = omega arith in
    rw f (below x o (λ i. b (suc i)) (ltb-true x 128 k) (omega arith))

-- of octets, what has 8 at most and is not negative is at most max_number
pub seq_number_is : (o : List ℕ) → Octets o → leb (length o) 8 && ltb (octet o 0) 128 ≡ obeyed seq_number o
unfolding obeyed
seq_number_is o b = go (leb (length o) 8) (ltb (octet o 0) 128) refl refl
  where
    go : (x y : Bool) → leb (length o) 8 ≡ x → ltb (octet o 0) 128 ≡ y → x && y ≡ x && (y && leb (number o) max_number)
    go false y p q = refl
    go true false p q = refl
    go true true p q = sym (le-leb (number o) max_number (small o b p q))

pub seq_number_number : (o : List ℕ) → obeyed seq_number o ≡ true → (length o ≤ 8) × (number o ≤ max_number)
unfolding obeyed
seq_number_number o h =
    let two = (and-eq-true_iff (leb (length o) 8) (ltb (octet o 0) 128 && leb (number o) max_number)).0 h in
    (leb-true (length o) 8 two.0, leb-true (number o) max_number ((and-eq-true_iff (ltb (octet o 0) 128) (leb (number o) max_number)).0 two.1).1)

-- a part of an octet string is one
pub octets_slice : (s : List ℕ) (a e : ℕ) → Octets s → Octets (slice s a e)
octets_slice s a e o = octets_take (drop a s) (e - a) (octets_drop s a o)
