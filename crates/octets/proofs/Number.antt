-- Laws of numbers in octets, over any width.
use Prim.Native.Nat.{ℕ, zero, suc, ◌+◌, ◌-◌, ◌*◌, ◌/◌, ◌%◌, ◌^◌, ◌≤◌, ◌<◌}
use native.Mathlib.Nat.{div-add-mod', div-lt_iff_lt-mul, mod-lt, mul_assoc, mul-one, mul-suc, one-mul, pow-suc, pow-succ', pow-zero, le_refl, lt_of_lt_of_le}
use native.Mathlib.Nat.{pow-le-pow_right, le-div_iff_mul-le, mul-div-le}
use Rattle.std.proofs.Common.{pow-add}
use native.Mathlib.Numerals.{add-one}
use native.Mathlib.Omega.{arith}
use mathlib.Core.List.{List, [], ◌∷◌, ◌++◌}
use mathlib.Core.Path.{◌≡◌, refl, sym, ap, ap₂, ◌∙◌}
use lib.ListN.{length, get_or, take, drop, length-append, length-take, get_or-eq_default, get_or-append}
use lib.Seq.{length-take-le, take-suc, take_all, get_or-take, get_or-drop}
use lib.Dec.{eqb, ltb, lit<}
use lib.Arith.{digits_lt, digits_div, digits_mod}
use borrow.Author.Tests.{eq-eqb, ne_eqb, eqb-true, eqb-false, ltb-true, ltb-false}
use Rattle.octets.specs.Octets.{Octets}
use Rattle.octets.specs.Number.{number_from, number, big_endian, digits}
use Rattle.octets.proofs.Lists.{by_test}

-- parts of an octet string are octet strings
pub octets_drop : (s : List ℕ) (k : ℕ) → Octets s → Octets (drop k s)
octets_drop s k o i = rw (get_or-drop k s i 0) (o (k + i))

pub octets_take : (s : List ℕ) (k : ℕ) → Octets s → Octets (take k s)
octets_take s k o i =
    by_test (ltb i k)
    (λ e. rw (get_or-take k s i 0 (ltb-true i k e)) (o i))
    (λ e.
    let l : length (take k s) ≤ i = rw (length-take k s) (omega (arith, ltb-false i k e)) in
    rw (get_or-eq_default (take k s) 0 l) (lit< tt))

pub octets_append : (s t : List ℕ) → Octets s → Octets t → Octets (s ++ t)
octets_append [] t o p i = p i
octets_append (x ∷ s) t o p zero = o 0
octets_append (x ∷ s) t o p (suc i) = octets_append s t (λ k. o (suc k)) p i

-- numbers: digits in front, the last digit, a bound

pub number_append : (n : ℕ) (s t : List ℕ) → number_from n (s ++ t) ≡ number_from (number_from n s) t
unfolding number_from
number_append n [] t = refl
number_append n (x ∷ s) t = number_append (n * 256 + x) s t

pub number_grows : (n : ℕ) (s : List ℕ) → n ≤ number_from n s
unfolding number_from
number_grows n [] = le_refl n
number_grows n (x ∷ s) = omega (arith, number_grows (n * 256 + x) s)

pub number-below : (n m : ℕ) (s : List ℕ) → Octets s → n < m → number_from n s < m * 256 ^ length s
unfolding number_from
number-below n m [] o h = rw (pow-zero 256, mul-one m) h
number-below n m (x ∷ s) o h =
    rw (pow-succ' 256 (length s), ← mul_assoc m 256 (256 ^ length s))
    (number-below (n * 256 + x) (m * 256) s (λ i. o (suc i)) (digits_lt h (o 0)))

pub number_fits : (s : List ℕ) → Octets s → number s < 256 ^ length s
number_fits s o = rw one-mul at (number-below 0 1 s o (lit< tt))

-- the octets up to place i, and one more
pub number_turn : (s : List ℕ) (i : ℕ) → i < length s → number (take (i + 1) s) ≡ number (take i s) * 256 + get_or s i 0
unfolding number_from
number_turn s i h = rw (add-one, take-suc s i 0 h) (number_append 0 (take i s) (get_or s i 0 ∷ []))

-- one digit more, and a wider bound
pub one_more : (n x i : ℕ) → n < 256 ^ i → x < 256 → n * 256 + x < 256 ^ (i + 1)
one_more n x i h b = rw (add-one, pow-suc 256 i) (digits_lt h b)

pub in_wider : (n i k : ℕ) → n < 256 ^ i → i ≤ k → n < 256 ^ k
in_wider n i k h l = lt_of_lt_of_le h (pow-le-pow_right (lit< tt) l)

-- k octets that write a number

pub length-big_endian : (k n : ℕ) → length (big_endian k n) ≡ k
unfolding big_endian
length-big_endian zero n = refl
length-big_endian (suc k) n = length-append (big_endian k (n / 256)) (n % 256 ∷ []) ∙ ap (λ (m : ℕ). m + 1) (length-big_endian k (n / 256)) ∙ add-one k

pub octets_big_endian : (k n : ℕ) → Octets (big_endian k n)
unfolding big_endian
octets_big_endian zero n = λ i. lit< tt
octets_big_endian (suc k) n = octets_append (big_endian k (n / 256)) (n % 256 ∷ []) (octets_big_endian k (n / 256)) one
  where
    one : Octets (n % 256 ∷ [])
    one zero = mod-lt n (lit< tt)
    one (suc i) = lit< tt

pub number-big_endian : (k n : ℕ) → n < 256 ^ k → number (big_endian k n) ≡ n
unfolding big_endian number_from
number-big_endian zero n h = omega (arith, rw (pow-zero 256) at h)
number-big_endian (suc k) n h =
    number_append 0 (big_endian k (n / 256)) (n % 256 ∷ [])
    ∙ ap (λ (m : ℕ). m * 256 + n % 256) (number-big_endian k (n / 256) ((div-lt_iff_lt-mul (lit< tt)).1 (rw (pow-suc 256 k) at h)))
    ∙ div-add-mod' n 256

-- all octets but the last, and the last
module _ (s : List ℕ) (k : ℕ) (e : length s ≡ suc k) where
  all_but_last : take k s ++ (get_or s k 0 ∷ []) ≡ s
  all_but_last = sym (take-suc s k 0 (omega arith)) ∙ take_all (suc k) s (omega arith)

  number_last : number s ≡ number (take k s) * 256 + get_or s k 0
  unfolding number_from
  number_last = ap number (sym all_but_last) ∙ number_append 0 (take k s) (get_or s k 0 ∷ [])

  module _ (o : Octets s) where
    front_digits : number s / 256 ≡ number (take k s)
    front_digits = ap (λ (n : ℕ). n / 256) number_last ∙ digits_div (number (take k s)) (o k)

    last_digit : number s % 256 ≡ get_or s k 0
    last_digit = ap (λ (n : ℕ). n % 256) number_last ∙ digits_mod (number (take k s)) (o k)

big_endian_of : (k : ℕ) (s : List ℕ) → length s ≡ k → Octets s → big_endian k (number s) ≡ s
unfolding big_endian
big_endian_of zero [] e o = refl
big_endian_of zero (x ∷ s) e o = absurd (omega (arith, e))
big_endian_of (suc k) s e o =
    ap₂ (λ (q r : ℕ). big_endian k q ++ (r ∷ [])) (front_digits s k e o) (last_digit s k e o)
    ∙ ap (λ (r : List ℕ). r ++ (get_or s k 0 ∷ [])) (big_endian_of k (take k s) (length-take-le k s (omega arith)) (octets_take s k o))
    ∙ all_but_last s k e

pub big_endian-number : (s : List ℕ) → Octets s → big_endian (length s) (number s) ≡ s
big_endian-number s o = big_endian_of (length s) s refl o

-- the digits of a number, with no zero in front

module _ (b k n : ℕ) where
  pub digits-none : n ≡ 0 → digits b (suc k) n ≡ []
  unfolding digits
  digits-none e = rw (eq-eqb n 0 e, digits)

  pub digits_turn : (n ≡ 0 → ⊥) → digits b (suc k) n ≡ digits b k (n / b) ++ (n % b ∷ [])
  unfolding digits
  digits_turn e = rw (ne_eqb n 0 e, digits)

pub digits-zero : (k : ℕ) → digits 256 k 0 ≡ []
unfolding digits
digits-zero zero = refl
digits-zero (suc k) = digits-none 256 k 0 refl

pub length_digits : (k n : ℕ) → length (digits 256 k n) ≤ k
unfolding digits
length_digits zero n = le_refl 0
length_digits (suc k) n =
    let ih = length_digits k (n / 256) in
    by_test (eqb n 0)
    (λ e. rw (digits-none 256 k n (eqb-true n 0 e)) (omega arith))
    (λ e. rw (digits_turn 256 k n (eqb-false n 0 e), length-append (digits 256 k (n / 256)) (n % 256 ∷ [])) (omega arith))

-- how many digits there are, by powers of 256 and by powers of 2
pub digits_long : (k i n : ℕ) → 256 ^ i ≤ n → n < 256 ^ suc i → i < k → length (digits 256 k n) ≡ suc i
unfolding digits
digits_long zero i n low high l = absurd (omega arith)
digits_long (suc k) i n low high l =
    let start : 0 ≤ i = omega arith in
    let one : 256 ^ 0 ≤ 256 ^ i = pow-le-pow_right (lit< tt) start in
    let q : n ≡ 0 → ⊥ = λ z. omega (arith, rw (pow-zero 256) at one) in
    let below : n / 256 < 256 ^ i = (div-lt_iff_lt-mul (lit< tt)).1 (rw (pow-suc 256 i) at high) in
    rw (digits_turn 256 k n q, length-append (digits 256 k (n / 256)) (n % 256 ∷ [])) (add-one _ ∙ ap suc (rest (λ i. digits_long k i (n / 256)) i low below l))
  where
    rest : ((i : ℕ) → 256 ^ i ≤ n / 256 → n / 256 < 256 ^ suc i → i < k → length (digits 256 k (n / 256)) ≡ suc i)
        → (i : ℕ) → 256 ^ i ≤ n → n / 256 < 256 ^ i → i < suc k → length (digits 256 k (n / 256)) ≡ i
    rest ih zero low below l = let z : n / 256 ≡ 0 = omega (arith, rw (pow-zero 256) at below) in rw (z, digits-zero k) refl
    rest ih (suc i) low below l = ih i ((le-div_iff_mul-le (lit< tt)).1 (rw (pow-suc 256 i) at low)) below (omega arith)

eights : (i : ℕ) → 2 ^ (8 * i) ≡ 256 ^ i
eights zero = refl
eights (suc i) = rw (mul-suc 8 i, pow-add 2 (8 * i) 8, eights i, pow-suc 256 i) refl

pub digits_of_bits : (k m n : ℕ) → n < 2 ^ m → 2 ^ m ≤ 2 * n + 1 → m ≤ 8 * k → length (digits 256 k n) ≡ (m + 7) / 8
digits_of_bits k zero n high low l = let z : n ≡ 0 = omega (arith, rw (pow-zero 2) at high) in rw (z, digits-zero k) refl
digits_of_bits k (suc j) n high low l =
    let i = j / 8 in
    let under : 2 ^ (8 * i) ≤ 2 ^ j = pow-le-pow_right (lit< tt) (mul-div-le j 8) in
    let over : 2 ^ suc j ≤ 2 ^ (8 * suc i) = pow-le-pow_right (lit< tt) (omega arith) in
    digits_long k i n (omega (arith, eights i, under, pow-suc 2 j)) (omega (arith, eights (suc i), over)) (omega arith) ∙ omega arith

pub digits-big_endian : (k n : ℕ) → digits 256 k n ≡ big_endian (length (digits 256 k n)) n
unfolding digits big_endian
digits-big_endian zero n = refl
digits-big_endian (suc k) n =
    let ih = digits-big_endian k (n / 256) in
    by_test (eqb n 0)
    (λ e. rw (digits-none 256 k n (eqb-true n 0 e)))
    (λ e.
    rw (digits_turn 256 k n (eqb-false n 0 e), length-append (digits 256 k (n / 256)) (n % 256 ∷ []), add-one)
    (ap (λ (r : List ℕ). r ++ (n % 256 ∷ [])) ih))

pub number_digits : (k n : ℕ) → n < 256 ^ k → number (digits 256 k n) ≡ n
unfolding digits number_from
number_digits zero n h = omega (arith, rw (pow-zero 256) at h)
number_digits (suc k) n h =
    let ih = number_digits k (n / 256) ((div-lt_iff_lt-mul (lit< tt)).1 (rw (pow-suc 256 k) at h)) in
    by_test (eqb n 0)
    (λ e. rw (digits-none 256 k n (eqb-true n 0 e)) (sym (eqb-true n 0 e)))
    (λ e.
    rw (digits_turn 256 k n (eqb-false n 0 e))
    (number_append 0 (digits 256 k (n / 256)) (n % 256 ∷ []) ∙ ap (λ (m : ℕ). m * 256 + n % 256) ih ∙ div-add-mod' n 256))

-- octets with no zero in front
abbrev pub NoZeroInFront : List ℕ → Type 0
NoZeroInFront s = 0 < length s → get_or s 0 0 ≡ 0 → ⊥

-- they are the digits of the number that they write
pub digits_number : (k : ℕ) (s : List ℕ) → Octets s → NoZeroInFront s → number s < 256 ^ k → digits 256 k (number s) ≡ s
unfolding number_from
digits_number zero [] o f h = digits-zero 0
digits_number zero (x ∷ s) o f h =
    absurd (f (omega arith) (omega (arith, rw (pow-zero 256) at h, number_grows (0 * 256 + x) s)))
digits_number (suc k) s o f h = go (digits_number k) s o f h
  where
    go : ((s : List ℕ) → Octets s → NoZeroInFront s → number s < 256 ^ k → digits 256 k (number s) ≡ s)
        → (s : List ℕ) → Octets s → NoZeroInFront s → number s < 256 ^ suc k → digits 256 (suc k) (number s) ≡ s
    go ih [] o f h = digits-zero (suc k)
    go ih (x ∷ s) o f h =
        let m = length s in
        let t = x ∷ s in
        let front = front_digits t m refl o in
        let z : number t ≡ 0 → ⊥ = λ e. f (omega arith) (omega (arith, e, number_grows (0 * 256 + x) s)) in
        let g : NoZeroInFront (take m t) = λ p e. f (omega arith) (sym (get_or-take m t 0 0 (omega (arith, length-take m t, p))) ∙ e) in
        let b : number (take m t) < 256 ^ k = rw front at ((div-lt_iff_lt-mul (lit< tt)).1 (rw (pow-suc 256 k) at h)) in
        digits_turn 256 k (number t) z
        ∙ ap₂ (λ (q r : ℕ). digits 256 k q ++ (r ∷ [])) front (last_digit t m refl o)
        ∙ ap (λ (u : List ℕ). u ++ (get_or t m 0 ∷ [])) (ih (take m t) (octets_take t m o) g b)
        ∙ all_but_last t m refl

-- no digit in front is zero
pub digits_front : (k n : ℕ) → n < 256 ^ k → NoZeroInFront (digits 256 k n)
unfolding digits number_from
digits_front zero n h p e = omega arith
digits_front (suc k) n h p e =
    let q = n / 256 in
    let d = digits 256 k q in
    let b : q < 256 ^ k = (div-lt_iff_lt-mul (lit< tt)).1 (rw (pow-suc 256 k) at h) in
    let ih = digits_front k q b in
    by_test (eqb n 0)
    (λ t. omega (arith, ap length (digits-none 256 k n (eqb-true n 0 t))))
    (λ t.
    let z = eqb-false n 0 t in
    let u : digits 256 (suc k) n ≡ d ++ (n % 256 ∷ []) = digits_turn 256 k n z in
    let first : get_or (d ++ (n % 256 ∷ [])) 0 0 ≡ 0 = rw u at e in
    by_test (eqb (length d) 0)
    (λ l.
    let none : d ≡ [] = sym (take_all 0 d (omega (arith, eqb-true (length d) 0 l))) in
    let v : q ≡ 0 = sym (number_digits k q b) ∙ ap number none in
    let w : n % 256 ≡ 0 = rw none at first in
    z (omega (arith, div-add-mod' n 256)))
    (λ l.
    let some : 0 < length d = omega (arith, eqb-false (length d) 0 l) in
    ih some (sym (get_or-append d (n % 256 ∷ []) 0 0 some) ∙ first)))

-- one digit less
pub record Fewer (w n : ℕ) : Type 0 where
  pub some : 0 < w
  pub count : length (digits 256 w n) ≡ length (digits 256 (w - 1) (n / 256)) + 1
  pub below : n / 256 < 256 ^ (w - 1)

pub fewer : (w n : ℕ) → 0 < n → n < 256 ^ w → Fewer w n
fewer zero n p h = absurd (omega (arith, rw (pow-zero 256) at h))
fewer (suc w) n p h =
    let e : suc w - 1 ≡ w = omega arith in
    let q : n ≡ 0 → ⊥ = λ z. omega arith in
    record {
      some = omega arith;
      count =
          rw e (ap length (digits_turn 256 w n q) ∙ length-append (digits 256 w (n / 256)) (n % 256 ∷ []));
      below = rw e ((div-lt_iff_lt-mul (lit< tt)).1 (rw (pow-suc 256 w) at h));
    }
