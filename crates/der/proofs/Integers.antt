-- An INTEGER that is written (specs/Write): its size, that it is the number's, and that it is the shortest.
use Prim.Native.Nat.{ℕ, zero, suc, ◌+◌, ◌-◌, ◌*◌, ◌/◌, ◌%◌, ◌^◌, ◌≤◌, ◌<◌}
use native.Mathlib.Nat.{pow-zero, pow-suc}
use native.Mathlib.Omega.{arith}
use mathlib.Core.Bool.{true}
use mathlib.Core.List.{List, [], ◌∷◌, ◌++◌}
use mathlib.Core.Path.{◌≡◌, refl, ap, ap₂, ◌∙◌}
use lib.ListN.{length}
use lib.Dec.{eqb, ltb}
use borrow.Author.Tests.{le-ltb, ltb-true, ltb-false, eqb-true, ne_eqb}
use Rattle.octets.specs.Octets.{Octets}
use Rattle.octets.specs.Number.{number, big_endian, digits}
use Rattle.octets.proofs.Lists.{by_test}
use Rattle.octets.proofs.Number.{number_fits, length-big_endian, octets_big_endian, number-big_endian, digits-none, digits-big_endian, number_digits, fewer}
use Rattle.der.specs.Contents.{integer_ok}
use Rattle.der.specs.Write.{integer_contents}

abbrev pub integer_octets : ℕ → ℕ
integer_octets n = 1 + length (digits 256 8 (n / 128))

pub length-integer : (n : ℕ) → length (integer_contents n) ≡ integer_octets n
unfolding integer_contents
length-integer n = length-big_endian (integer_octets n) n

pub integer_is : {k : ℕ} (n : ℕ) → k ≡ length (integer_contents n) → big_endian k n ≡ integer_contents n
unfolding integer_contents
integer_is {k} n e = let h : k ≡ integer_octets n = omega (arith, length-integer n) in ap (λ (m : ℕ). big_endian m n) h

-- what the digits of a number hold
digits_hold : (k m : ℕ) → m < 256 ^ k → m < 256 ^ length (digits 256 k m)
digits_hold k m h =
    let d = digits 256 k m in
    let o : Octets d = rw (digits-big_endian k m) (octets_big_endian (length d) m) in
    rw (number_digits k m h) at (number_fits d o)

-- it writes n
pub number-integer : (n : ℕ) → n < 256 ^ 8 → number (integer_contents n) ≡ n
unfolding integer_contents
number-integer n h =
    let m = n / 128 in
    let k = length (digits 256 8 m) in
    let z : integer_octets n ≡ suc k = omega arith in
    let p : 256 ^ integer_octets n ≡ 256 ^ k * 256 = ap (λ (i : ℕ). 256 ^ i) z ∙ pow-suc 256 k in
    number-big_endian (integer_octets n) n (omega (arith, p, digits_hold 8 m (omega arith)))

-- .. in the fewest octets: by its digits, the last one first
more_octets : (s : List ℕ) (x : ℕ) → 1 < length s → integer_ok s ≡ true → integer_ok (s ++ (x ∷ [])) ≡ true
unfolding integer_ok
more_octets [] x h e = absurd (omega arith)
more_octets (a ∷ []) x h e = absurd (omega arith)
more_octets (a ∷ b ∷ s) x h e = e

two_octets : (a b : ℕ) → a < 128 → (a ≡ 0 → 128 ≤ b) → integer_ok (a ∷ b ∷ []) ≡ true
unfolding integer_ok
two_octets a b h g =
    by_test (eqb a 0)
    (λ t. rw (t, le-ltb b 128 (g (eqb-true a 0 t)), ne_eqb a 255 (λ z. omega arith)))
    (λ t. rw (t, ne_eqb a 255 (λ z. omega arith)))

abbrev written : ℕ → ℕ → List ℕ
written w n = big_endian (1 + length (digits 256 w (n / 128))) n

-- no digit in front of the octet
one_octet : (w n : ℕ) → length (digits 256 w (n / 128)) ≡ 0 → written w n ≡ n % 256 ∷ []
unfolding big_endian
one_octet w n e = ap (λ (k : ℕ). big_endian (1 + k) n) e

one_more : (w n : ℕ) {k : ℕ} → k ≡ length (digits 256 w (n / 256 / 128)) → big_endian (1 + (k + 1)) n ≡ written w (n / 256) ++ (n % 256 ∷ [])
unfolding big_endian
one_more w n {k} e = let z : 1 + (k + 1) ≡ suc (1 + k) = omega arith in ap (λ (m : ℕ). big_endian m n) z ∙ ap (λ (m : ℕ). big_endian (1 + m) (n / 256) ++ (n % 256 ∷ [])) e

shortest : (w n : ℕ) → n / 128 < 256 ^ w → integer_ok (written w n) ≡ true
unfolding integer_ok digits
shortest zero n h = ap integer_ok (one_octet 0 n refl)
shortest (suc w) n h =
    let q = n / 256 in
    let d = length (digits 256 w (q / 128)) in
    by_test (ltb n 128)
    (λ t. ap integer_ok (one_octet (suc w) n (ap length (digits-none 256 w (n / 128) (omega (arith, ltb-true n 128 t))))))
    (λ t.
    let large = ltb-false n 128 t in
    let f = fewer (suc w) (n / 128) (omega (arith, large)) h in
    let z : suc w - 1 ≡ w = omega arith in
    let e : n / 128 / 256 ≡ q / 128 = omega arith in
    let below : q / 128 < 256 ^ w = rw (z, e) at f.below in
    let count = f.count ∙ ap₂ (λ (k x : ℕ). length (digits 256 k x) + 1) z e in
    ap (λ (k : ℕ). integer_ok (big_endian (1 + k) n)) count
    ∙ ap integer_ok (one_more w n refl)
    ∙ by_test (ltb 0 d)
    (λ p. more_octets (written w q) (n % 256) (omega (arith, length-big_endian (1 + d) q, ltb-true 0 d p)) (shortest w q below))
    (λ p.
    let none : d ≡ 0 = omega (arith, ltb-false 0 d p) in
    let small : q / 128 < 1 = rw (none, pow-zero 256) at (digits_hold w (q / 128) below) in
    ap (λ (s : List ℕ). integer_ok (s ++ (n % 256 ∷ []))) (one_octet w q none) ∙ two_octets (q % 256) (n % 256) (omega arith) (λ y. omega (arith, large))))

pub integer_shortest : (n : ℕ) → n < 256 ^ 8 → integer_ok (integer_contents n) ≡ true
unfolding integer_contents
integer_shortest n h = shortest 8 n (omega arith)
