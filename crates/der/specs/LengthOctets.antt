-- 02, E5: "for each length up to 65,535 it accepts exactly the octets that the reply writer puts for it, and returns that length". It holds of every length that
-- the writer takes, those below 256 ^ 8.
use Rattle.std.specs.Prelude.{ℕ, ◌+◌, ◌%◌, ◌^◌, ◌≤◌, ◌<◌, true, List, ◌↔◌, ◌≡◌, length}
use Rattle.octets.specs.Octets.{Octets, octet, slice}
use Rattle.der.specs.Element.{contents_at, length_at, length_shortest, element_at}
use Rattle.der.specs.Write.{length_octets}

-- the reader accepts the octets after the identifier octet at `at`, up to `start`: they are all the length octets, in shortest form, and say the length n
abbrev pub Accepted : List ℕ → ℕ → ℕ → ℕ → Type 0
Accepted s at start n = (contents_at s at ≡ start) × ((length_shortest s at ≡ true) × (length_at s at ≡ n))

-- they are the octets that the writer puts for n
abbrev pub Written : List ℕ → ℕ → ℕ → ℕ → Type 0
Written s at start n = slice s (at + 1) start ≡ length_octets n

-- of the length octets alone, whatever stands after them
abbrev pub LengthOctets : Type 0
LengthOctets = (s : List ℕ) (at start n : ℕ) → Octets s → start ≤ length s → n < 256 ^ 8 → Accepted s at start n ↔ Written s at start n

-- and of an element in a window, where n octets of contents have room after them
abbrev pub ElementsRead : Type 0
ElementsRead =
    (s : List ℕ) (at stop start n : ℕ) → Octets s → stop ≤ length s → n < 256 ^ 8 →
    (element_at s at stop ≡ record { valid = true; tag = octet s at; at = at; start = start; stop = start + n })
    ↔ ((octet s at % 32 ≡ 31 → ⊥) × (Written s at start n × (start + n ≤ stop)))
