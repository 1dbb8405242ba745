-- 01, Checked examples: the text that the listing program prints for an image.
use Rattle.std.specs.Prelude.{ℕ, suc, ◌+◌, ◌/◌, ◌%◌, true, false, length, ltb, eqb, Option, Some, None}
use mathlib.Core.List.{List, [], ◌∷◌, ◌++◌, map, flat_map}
use Rattle.octets.specs.Ascii.{ascii}
use Rattle.octets.specs.Number.{digits}
use Rattle.anchor.specs.declared.AnchorRole.{AnchorRole}
use Rattle.anchor.specs.declared.AnchorRole.TheVariants.{Apex, Management, Identity}
use Rattle.anchor.specs.Role.{role_of}
use Rattle.store.specs.Store.{Anchor, Store, anchors, identifier_of}
use Rattle.store.specs.Image.{decode}

-- "Octets are in hex": two digits each, upper case
unfoldable pub hex_digit : ℕ → ℕ
hex_digit n = elim (ltb n 10) [ true ↦ 48 + n | false ↦ 55 + n ]

unfoldable pub hex : List ℕ → List ℕ
hex [] = []
hex (x ∷ s) = hex_digit (x / 16) ∷ hex_digit (x % 16) ∷ hex s

-- a number in decimal, of at most 20 digits
unfoldable pub decimal : ℕ → List ℕ
decimal n = elim (eqb n 0) [ true ↦ 48 ∷ [] | false ↦ map (λ d. 48 + d) (digits 10 20 n) ]

abbrev pub blank : ℕ
blank = 32

abbrev pub newline : ℕ
newline = 10

-- "number or -"
unfoldable pub number_text : Option ℕ → List ℕ
number_text None = ascii "-"
number_text (Some n) = decimal n

-- "role (apex, management if it has constraints, else identity)"
unfoldable pub role_text : AnchorRole → List ℕ
role_text Apex = ascii "apex"
role_text Management = ascii "management"
role_text Identity = ascii "identity"

-- "position, role .., key identifier, number or -"
unfoldable pub anchor_line : ℕ → Anchor → List ℕ
anchor_line i a =
    decimal i ++ (blank ∷ (role_text (role_of i a.info) ++ (blank ∷ (hex (identifier_of a) ++ (blank ∷ (number_text a.number ++ (newline ∷ [])))))))

unfoldable pub anchor_lines : ℕ → List Anchor → List ℕ
anchor_lines i [] = []
anchor_lines i (a ∷ l) = anchor_line i a ++ anchor_lines (suc i) l

unfoldable pub count_line : List ℕ → ℕ → List ℕ
count_line word n = word ++ (decimal n ++ (newline ∷ []))

-- hwType and serial; count, then a line for each anchor; count, then one OID per line
unfoldable pub store_text : Store → List ℕ
store_text σ =
    (ascii "device " ++ (hex σ.device.hw_type ++ (blank ∷ (hex σ.device.serial ++ (newline ∷ [])))))
    ++ (count_line (ascii "anchors ") (length (anchors σ))
    ++ (anchor_lines 0 (anchors σ)
    ++ (count_line (ascii "communities ") (length σ.communities)
    ++ flat_map (λ c. hex c ++ (newline ∷ [])) σ.communities)))

unfoldable pub listing_of : Option Store → List ℕ
listing_of None = ascii "refused 201\n"
listing_of (Some σ) = store_text σ

-- "The listing program reads an image"; a bad image prints "refused 201"
unfoldable pub listing : List ℕ → List ℕ
listing image = listing_of (decode image)
