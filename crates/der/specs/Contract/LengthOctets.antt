-- 02, E5 (specs/LengthOctets) for the code: where the promises of `length_at` and `is_shortest` meet that of `put_length`. `Read` and `Put` are these promises;
-- `promise`, in the proof of each of the three functions, holds them to its contract.
use Rattle.std.specs.Prelude.{ℕ, ◌+◌, ◌-◌, ◌^◌, ◌≤◌, ◌<◌, Bool, true, List, ◌≡◌, length, Option, Some}
use Rattle.octets.specs.Octets.{Octets, slice, placed}
use Rattle.der.specs.Element.{length_shortest}
use Rattle.der.specs.Write.{length_octets}
use Rattle.der.specs.Contract.Reading.{length_in}

-- of the length octets after `at`, in the window that ends at `stop`, `length_at` answered r and `is_shortest` b
abbrev pub Read : List ℕ → ℕ → ℕ → Option (ℕ × ℕ) → Bool → Type 0
Read s at stop r b = (r ≡ length_in s at stop) × (b ≡ length_shortest s at)

-- `put_length` put the length n into a buffer at a place, returned `next` and left the buffer as it is after it
abbrev pub Put : List ℕ → ℕ → ℕ → ℕ → List ℕ → Type 0
Put before at n next after = (next ≡ at + length (length_octets n)) × (after ≡ placed before at (length_octets n))

pub record LengthOctetsOfCode : Type 0 where
  -- what is put for n is accepted, where n octets have room after it, and gives n and the place after it
  pub put_accepted :
      (before after : List ℕ) (at n next stop : ℕ) (r : Option (ℕ × ℕ)) (b : Bool) → Octets after → n < 256 ^ 8 →
      at + 1 + length (length_octets n) ≤ length before → Put before (at + 1) n next after →
      next + n ≤ stop → stop ≤ length after → Read after at stop r b →
      (r ≡ Some (next, n)) × (b ≡ true)
  -- octets that are accepted and give n are those that are put for n, into any buffer
  pub accepted_put :
      (s before after : List ℕ) (at stop start n to next : ℕ) → Octets s → n < 256 ^ 8 → stop ≤ length s → Read s at stop (Some (start, n)) true →
      Put before to n next after →
      (next ≡ to + (start - (at + 1))) × (after ≡ placed before to (slice s (at + 1) start))
