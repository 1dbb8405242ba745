-- The records of an image, cut from its octets.
use Rattle.std.specs.Prelude.{ℕ, zero, suc, ◌+◌, List, [], ◌∷◌, take, drop}
use Rattle.octets.specs.Octets.{octet, slice}
use Rattle.octets.specs.Number.{number}

-- Record is 01's term: "An anchor's record runs from its number present to the end of its TrustAnchorInfo." It is 1 octet, 8, 2
-- with the length, and so many.
unfoldable pub records_from : ℕ → List ℕ → List (List ℕ)
records_from zero s = []
records_from (suc n) s = let k = 11 + number (slice s 9 11) in take k s ∷ records_from n (drop k s)

-- after the device section: its count, hwType after its length, serial after its length
unfoldable pub anchor_section : List ℕ → List ℕ
anchor_section image = let hw_type = octet image 1 in drop (3 + hw_type + octet image (2 + hw_type)) image

unfoldable pub records_of : List ℕ → List (List ℕ)
records_of image = let section = anchor_section image in records_from (octet section 0) (drop 1 section)
