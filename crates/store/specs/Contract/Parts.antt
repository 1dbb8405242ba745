-- The parts of an image by their places, and what is sought among its records. All of it is total, as `records_of` is: on octets that are no image too.
use Rattle.std.specs.Prelude.{ℕ, zero, suc, ◌+◌, min, Bool, true, false, List, [], ◌∷◌, map, length, take, drop, Option, Some, None}
use Rattle.octets.specs.Octets.{octet, slice, same}
use Rattle.octets.specs.Number.{number}
use Rattle.anchor.specs.Info.{public_key, untagged, key_identifier}
use Rattle.store.specs.declared.Sought.{Sought}
use Rattle.store.specs.declared.Sought.TheVariants.{PublicKey, TaggedPublicKey}
use Rattle.store.specs.Store.{Anchor}
use Rattle.store.specs.Image.{present_number}
use Rattle.store.specs.Records.{records_from}

-- Device, count 1: hwType after its length, serial after its length

unfoldable pub hw_type_in : List ℕ → List ℕ
hw_type_in image = slice image 2 (2 + octet image 1)

-- where the serial's length stands
abbrev pub serial_place : List ℕ → ℕ
serial_place image = 2 + octet image 1

unfoldable pub serial_in : List ℕ → List ℕ
serial_in image = slice image (serial_place image + 1) (serial_place image + 1 + octet image (serial_place image))

-- Anchors: where their count stands, the count, and where the first record stands

abbrev pub anchor_place : List ℕ → ℕ
anchor_place image = serial_place image + 1 + octet image (serial_place image)

unfoldable pub anchor_count : List ℕ → ℕ
anchor_count image = octet image (anchor_place image)

unfoldable pub first_record : List ℕ → ℕ
first_record image = anchor_place image + 1

-- where the record at place p ends, or the octets do
unfoldable pub record_end : List ℕ → ℕ → ℕ
record_end s p = min (p + (11 + number (take 2 (drop 9 (drop p s))))) (length s)

abbrev pub record_at : List ℕ → ℕ → List ℕ
record_at s p = slice s p (record_end s p)

-- where the record stands that is i further than the one at place p
unfoldable pub record_place : List ℕ → ℕ → ℕ → ℕ
record_place s p zero = p
record_place s p (suc i) = record_place s (record_end s p) i

-- where the record with a position stands; after the last one, the communities' count
abbrev pub place_of : List ℕ → ℕ → ℕ
place_of image i = record_place image (first_record image) i

-- a record's parts

abbrev pub info_in : List ℕ → List ℕ
info_in r = drop 11 r

abbrev pub identifier_in : List ℕ → List ℕ
identifier_in r = key_identifier (info_in r)

abbrev pub public_key_in : List ℕ → List ℕ
public_key_in r = public_key (info_in r)

unfoldable pub number_in : List ℕ → Option ℕ
number_in r = present_number (octet r 0) (number (take 8 (drop 1 r)))

-- the anchor of a record
abbrev pub anchor_in : List ℕ → Anchor
anchor_in r = record { number = number_in r; info = info_in r }

-- the TrustAnchorInfo at a position
abbrev pub info_at : List ℕ → ℕ → List ℕ
info_at image i = info_in (record_at image (place_of image i))

-- Communities: where their count stands after the last record, the count, and they themselves

unfoldable pub community_place : List ℕ → ℕ
community_place image = place_of image (anchor_count image)

unfoldable pub community_count : List ℕ → ℕ
community_count image = octet image (community_place image)

-- where the name at place p ends, or the octets do; a name is a length of one octet and so many octets
unfoldable pub name_end : List ℕ → ℕ → ℕ
name_end s p = min (p + 1 + octet s p) (length s)

abbrev pub name_at : List ℕ → ℕ → List ℕ
name_at s p = slice s (p + 1) (name_end s p)

-- the names at the head of octets, and how many octets they take
unfoldable pub names_from : ℕ → List ℕ → List (List ℕ)
names_from zero s = []
names_from (suc n) s = take (octet s 0) (drop 1 s) ∷ names_from n (drop (1 + octet s 0) s)

unfoldable pub names_size : ℕ → List ℕ → ℕ
names_size zero s = 0
names_size (suc n) s = 1 + octet s 0 + names_size n (drop (1 + octet s 0) s)

-- the communities' octets, after their count and up to where the last one ends
unfoldable pub community_octets : List ℕ → List ℕ
community_octets image =
    let names = drop (community_place image + 1) image in
    take (names_size (community_count image) names) names

unfoldable pub communities_of : List ℕ → List (List ℕ)
communities_of image = names_from (community_count image) (community_octets image)

-- Searches

-- what a TrustAnchorInfo is sought by: its public key, as it is or as a message tags it
unfoldable pub is_sought : Sought → List ℕ → List ℕ → Bool
is_sought PublicKey wanted info = same (public_key info) wanted
is_sought TaggedPublicKey wanted info = same (public_key info) (untagged wanted)

module _ {A : Type 0} where
  -- the position of the first member that passes, where the first has position i
  unfoldable pub first_from : ℕ → (A → Bool) → List A → Option ℕ
  first_from i p [] = None
  first_from i p (x ∷ l) = elim (p x) [ true ↦ Some i | false ↦ first_from (suc i) p l ]

-- the TrustAnchorInfos of the records at the head of octets
abbrev pub infos_from : ℕ → List ℕ → List (List ℕ)
infos_from n s = map info_in (records_from n s)
