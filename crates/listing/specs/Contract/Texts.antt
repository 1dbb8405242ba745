-- The listing's text (01, Checked examples), part by part as it is written: from the octets of an image, by the places of its parts.
use Rattle.std.specs.Prelude.{ℕ, ◌+◌, ◌/◌, ◌≤◌, ◌≡◌, length, drop, Option}
use mathlib.Core.List.{List, [], ◌∷◌, ◌++◌, map, flat_map}
use Rattle.octets.specs.Ascii.{ascii}
use Rattle.octets.specs.Octets.{slice, placed}
use Rattle.listing.specs.declared.Text.{Text}
use Rattle.octets.specs.Number.{digits}
use Rattle.anchor.specs.declared.AnchorRole.{AnchorRole}
use Rattle.anchor.specs.declared.AnchorRole.TheVariants.{Apex, Management, Identity}
use Rattle.store.specs.Records.{records_from}
use Rattle.store.specs.Listing.{hex, decimal, blank, newline, number_text, anchor_line, anchor_lines, count_line}
use Rattle.store.specs.Contract.Parts.{hw_type_in, serial_in, anchor_count, first_record, identifier_in, number_in, anchor_in, names_from, community_count, community_octets}

-- a text has room for octets more, and they are written: at its place in the lent buffer, where nothing else changes
abbrev pub HasRoom : Text → List ℕ → Type 0
HasRoom t s = t.at + length s ≤ length t.buf.now

abbrev pub Writes : Text → List ℕ → Text → Type 0
Writes t s u = (length u.buf.now ≡ length t.buf.now) × (u.at ≡ t.at + length s) × (u.buf.now ≡ placed t.buf.now t.at s)

-- "Octets are in hex": those at the head of s whose digits `room` octets hold
abbrev pub hex_within : ℕ → List ℕ → List ℕ
hex_within room s = hex (slice s 0 (room / 2))

unfoldable pub hex_line : List ℕ → List ℕ
hex_line s = hex s ++ (newline ∷ [])

-- the digits of n in decimal, at most k, none for 0
unfoldable pub decimal_digits : ℕ → ℕ → List ℕ
decimal_digits k n = map (λ d. 48 + d) (digits 10 k n)

unfoldable pub decimal_line : ℕ → List ℕ
decimal_line n = decimal n ++ (newline ∷ [])

unfoldable pub number_line : Option ℕ → List ℕ
number_line o = number_text o ++ (newline ∷ [])

-- a role, and the blank after it
unfoldable pub role_field : AnchorRole → List ℕ
role_field Apex = ascii "apex "
role_field Management = ascii "management "
role_field Identity = ascii "identity "

-- an anchor's record: the end of its line, from the key identifier on
unfoldable pub key_line : List ℕ → List ℕ
key_line r = hex (identifier_in r) ++ (blank ∷ number_line (number_in r))

unfoldable pub record_line : ℕ → List ℕ → List ℕ
record_line position r = anchor_line position (anchor_in r)

-- the lines of the n records at the head of octets, of which the first has the position i
unfoldable pub record_lines : ℕ → ℕ → List ℕ → List ℕ
record_lines i n s = anchor_lines i (map anchor_in (records_from n s))

-- the lines of the n names at the head of octets
unfoldable pub name_lines : ℕ → List ℕ → List ℕ
name_lines n s = flat_map hex_line (names_from n s)

-- the text of an image

unfoldable pub device_line : List ℕ → List ℕ
device_line image = ascii "device " ++ (hex (hw_type_in image) ++ (blank ∷ hex_line (serial_in image)))

unfoldable pub anchors_text : List ℕ → List ℕ
anchors_text image = count_line (ascii "anchors ") (anchor_count image) ++ record_lines 0 (anchor_count image) (drop (first_record image) image)

unfoldable pub communities_text : List ℕ → List ℕ
communities_text image = count_line (ascii "communities ") (community_count image) ++ name_lines (community_count image) (community_octets image)

unfoldable pub image_text : List ℕ → List ℕ
image_text image = device_line image ++ (anchors_text image ++ communities_text image)
