-- 01, The store image: "lengths and numbers big-endian".
use Rattle.std.specs.Prelude.{ℕ, zero, suc, ◌+◌, ◌*◌, ◌/◌, ◌%◌, true, false, List, [], ◌∷◌, ◌++◌, eqb}

-- the number that begins with the digits n and goes on with the octets
unfoldable pub number_from : ℕ → List ℕ → ℕ
number_from n [] = n
number_from n (x ∷ s) = number_from (n * 256 + x) s

-- the number that the octets write, the first the most significant
abbrev pub number : List ℕ → ℕ
number s = number_from 0 s

-- the last k digits of n to the base 256, as k octets
unfoldable pub big_endian : ℕ → ℕ → List ℕ
big_endian zero n = []
big_endian (suc k) n = big_endian k (n / 256) ++ (n % 256 ∷ [])

-- n to the base b with no zero in front; none for 0. (At most k digits.)
unfoldable pub digits : ℕ → ℕ → ℕ → List ℕ
digits b zero n = []
digits b (suc k) n = elim (eqb n 0) [ true ↦ [] | false ↦ digits b k (n / b) ++ (n % b ∷ []) ]
