-- 01, Target: "bound it as big-endian numbers": of octet strings with one length, the order octet by octet is the order of the numbers that they write.
use Prim.Native.Nat.{ℕ, suc, ◌+◌, ◌*◌, ◌<◌}
use native.Mathlib.Omega.{arith}
use mathlib.Core.Bool.{◌&&◌}
use mathlib.Core.List.{List, [], ◌∷◌}
use mathlib.Core.Path.{◌≡◌, sym}
use lib.ListN.{length}
use lib.Dec.{eqb, leb, ltb}
use borrow.Author.Tests.{ltb-true, ltb-false, eqb-true, eqb-false, le-leb, lt-leb}
use Rattle.octets.specs.Octets.{Octets, ordered}
use Rattle.octets.specs.Number.{number_from, number}
use Rattle.octets.proofs.Lists.{by_test}
use Rattle.protocol.specs.Target.{block_names}

-- the digits in front decide
front : (m n : ℕ) (s t : List ℕ) → Octets s → length s ≡ length t → m < n → number_from m s < number_from n t
unfolding number_from
front m n [] [] o e h = h
front m n [] (y ∷ t) o e h = absurd (omega (arith, e))
front m n (x ∷ s) [] o e h = absurd (omega (arith, e))
front m n (x ∷ s) (y ∷ t) o e h =
    let b : x < 256 = o 0 in
    front (m * 256 + x) (n * 256 + y) s t (λ i. o (suc i)) (omega (arith, e)) (omega arith)

order_from : (n : ℕ) (s t : List ℕ) → Octets s → Octets t → length s ≡ length t → leb (number_from n s) (number_from n t) ≡ ordered s t
unfolding number_from ordered
order_from n [] [] o p e = le-leb n n (omega arith)
order_from n [] (y ∷ t) o p e = absurd (omega (arith, e))
order_from n (x ∷ s) [] o p e = absurd (omega (arith, e))
order_from n (x ∷ s) (y ∷ t) o p e =
    let k : length s ≡ length t = omega (arith, e) in
    let a = n * 256 + x in
    let b = n * 256 + y in
    let next = order_from a s t (λ i. o (suc i)) (λ i. p (suc i)) k in
    by_test (ltb x y)
    (λ l.
    let h = ltb-true x y l in
    let less = front a b s t (λ i. o (suc i)) k (omega arith) in
    rw l (le-leb (number_from a s) (number_from b t) (omega (arith, less))))
    (λ l.
    by_test (eqb x y)
    (λ q. let same = eqb-true x y q in rw (l, q, ← same) next)
    (λ q.
    let h = ltb-false x y l in
    let u = eqb-false x y q in
    let less = front b a t s (λ i. p (suc i)) (sym k) (omega (arith, u)) in
    rw (l, q) (lt-leb (number_from a s) (number_from b t) less)))

pub order_number : (s t : List ℕ) → Octets s → Octets t → length s ≡ length t → leb (number s) (number t) ≡ ordered s t
order_number s t o p e = order_from 0 s t o p e

-- so a block may be told by octets
pub block_ordered : (serial low high : List ℕ) → Octets serial → Octets low → Octets high
    → block_names serial low high ≡ eqb (length low) (length serial) && eqb (length high) (length serial) && ordered low serial && ordered serial high
unfolding block_names
block_ordered serial low high o p q =
    by_test (eqb (length low) (length serial))
    (λ l.
    by_test (eqb (length high) (length serial))
    (λ h. rw (l, h, order_number low serial p o (eqb-true _ _ l), order_number serial high o q (sym (eqb-true _ _ h))))
    (λ h. rw (l, h)))
    (λ l. rw l)
