-- Writing DER: the length octets, shortest, an element, and an INTEGER.
use Rattle.std.specs.Prelude.{ℕ, ◌+◌, ◌/◌, true, false, List, [], ◌∷◌, ◌++◌, length, ltb}
use Rattle.octets.specs.Number.{big_endian, digits}

-- X.690, 10.1: the shortest length octets, for any length below 256 ^ 8
unfoldable pub length_octets : ℕ → List ℕ
length_octets n = elim (ltb n 128) [ true ↦ n ∷ [] | false ↦ (128 + length (digits 256 8 n)) ∷ digits 256 8 n ]

abbrev pub header : ℕ → ℕ → List ℕ
header tag n = tag ∷ length_octets n

-- an element with this tag and these contents
unfoldable pub element : ℕ → List ℕ → List ℕ
element tag c = header tag (length c) ++ c

-- X.690, 8.3.2: the contents of the INTEGER n, below 2 ^ 64, in the fewest octets. The first bit is the sign's, so that the first octet holds 7 bits, and each
-- digit of n / 128 to the base 256 is an octet more
unfoldable pub integer_contents : ℕ → List ℕ
integer_contents n = big_endian (1 + length (digits 256 8 (n / 128))) n

abbrev pub integer : ℕ → List ℕ
integer n = element 0x02 (integer_contents n)
