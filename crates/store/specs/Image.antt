-- 01, The store image: reading and writing it. Status 201 is "decode gives nothing".
use Rattle.std.specs.Option.{option_map_or}
use Rattle.std.specs.Prelude.{ℕ, zero, suc, ◌-◌, Bool, true, false, ◌&&◌, ◌||◌, length, take, drop, leb, eqb, Option, Some, None}
use mathlib.Core.List.{List, [], ◌∷◌, ◌++◌, map, flat_map}
use Rattle.octets.specs.Limits.{max_anchors, max_communities, max_name_octets, max_anchor_octets, max_number}
use Rattle.octets.specs.Lists.{all_of}
use Rattle.octets.specs.Octets.{distinct}
use Rattle.octets.specs.Number.{number, big_endian}
use Rattle.der.specs.Contents.{oid_ok}
use Rattle.anchor.specs.Judge.{storable}
use Rattle.store.specs.Store.{Device, Anchor, Store, anchors, public_key_of}

-- Writing

-- a length of one octet, and as many octets
abbrev pub encode_name : List ℕ → List ℕ
encode_name o = length o ∷ o

-- number present, and the number: zero if absent
unfoldable pub encode_number : Option ℕ → List ℕ
encode_number None = 0 ∷ big_endian 8 0
encode_number (Some n) = 1 ∷ big_endian 8 n

-- an anchor's record (01's term): "from its number present to the end of its TrustAnchorInfo"
unfoldable pub encode_anchor : Anchor → List ℕ
encode_anchor a = encode_number a.number ++ (big_endian 2 (length a.info) ++ a.info)

module _ {A : Type 0} where
  -- "each after its count (one octet)"
  abbrev pub encode_section : (A → List ℕ) → List A → List ℕ
  encode_section f l = length l ∷ flat_map f l

unfoldable pub encode_device : Device → List ℕ
encode_device d = encode_name d.hw_type ++ encode_name d.serial

-- "Three sections in this order, each after its count (one octet), nothing behind them"
unfoldable pub encode : Store → List ℕ
encode σ =
    encode_section encode_device (σ.device ∷ [])
    ++ (encode_section encode_anchor (anchors σ) ++ encode_section encode_name σ.communities)

-- Reading: what stands first in the octets, and the octets after it

abbrev pub Reader : Type 0 → Type 0
Reader A = List ℕ → Option (A × List ℕ)

module _ {A : Type 0} where
  abbrev pub found : A → Reader A
  found x s = Some (x, s)

  -- the rest of a reader, under a rule
  unfoldable pub provided : Bool → Reader A → Reader A
  provided true r s = r s
  provided false r s = None

module _ {A B : Type 0} where
  unfoldable pub pass_on : Option (A × List ℕ) → (A → Reader B) → Option (B × List ℕ)
  pass_on None f = None
  pass_on (Some p) f = f p.0 p.1

  abbrev pub ◌>>=◌ : Reader A → (A → Reader B) → Reader B
  ◌>>=◌ r f s = pass_on (r s) f

-- n octets
unfoldable pub read_octets : ℕ → Reader (List ℕ)
read_octets n s = provided (leb n (length s)) (λ s. Some (take n s, drop n s)) s

-- a number of so many octets
unfoldable pub read_number : ℕ → Reader ℕ
read_number width = do
  o ← read_octets width
  found (number o)

-- a length of so many octets, from 1 up to most, and as many octets
unfoldable pub read_sized : ℕ → ℕ → Reader (List ℕ)
read_sized width most = do
  n ← read_number width
  provided (leb 1 n && leb n most) (read_octets n)

-- "hwType length (1 octet, 1 to 32), OID contents, serial length (1 octet, 1 to 32), serial"
unfoldable pub read_device : Reader Device
read_device = do
  hw_type ← read_sized 1 max_name_octets
  serial ← read_sized 1 max_name_octets
  provided (oid_ok hw_type) (found (record { hw_type = hw_type; serial = serial }))

-- "number present (0 or 1), number (8 octets, at most 9223372036854775807, zero if absent)"
unfoldable pub present_number : ℕ → ℕ → Option ℕ
present_number present n = elim (eqb present 1) [ true ↦ Some n | false ↦ None ]

unfoldable pub number_ok : ℕ → ℕ → Bool
number_ok present n = leb present 1 && leb n max_number && (eqb present 1 || eqb n 0)

-- ".. length (2 octets, 1 to 1,024), a TrustAnchorInfo"
unfoldable pub read_anchor : Reader Anchor
read_anchor = do
  present ← read_number 1
  n ← read_number 8
  info ← read_sized 2 max_anchor_octets
  provided (number_ok present n && storable info) (found (record { number = present_number present n; info = info }))

-- "length (1 octet, 1 to 32), OID contents"
unfoldable pub read_community : Reader (List ℕ)
read_community = do
  o ← read_sized 1 max_name_octets
  provided (oid_ok o) (found o)

module _ {A : Type 0} where
  unfoldable pub read_times : ℕ → Reader A → Reader (List A)
  read_times zero r = found []
  read_times (suc n) r = do
    x ← r
    l ← read_times n r
    found (x ∷ l)

-- Device, count 1
unfoldable pub read_device_section : Reader Device
read_device_section = do
  count ← read_number 1
  provided (eqb count 1) read_device

-- Anchors, count 1 to 32, the apex first; no two public keys equal
unfoldable pub read_anchor_section : Reader (Anchor × List Anchor)
read_anchor_section = do
  count ← read_number 1
  apex ← provided (leb 1 count && leb count max_anchors) read_anchor
  others ← read_times (count - 1) read_anchor
  provided (distinct (map public_key_of (apex ∷ others))) (found (apex, others))

-- Communities, count 0 to 16; no two equal
unfoldable pub read_community_section : Reader (List (List ℕ))
read_community_section = do
  count ← read_number 1
  communities ← provided (leb count max_communities) (read_times count read_community)
  provided (distinct communities) (found communities)

-- "Three sections in this order"
unfoldable pub read_store : Reader Store
read_store = do
  device ← read_device_section
  both ← read_anchor_section
  communities ← read_community_section
  found (record { device = device; apex = both.0; others = both.1; communities = communities })

-- "nothing behind them"
unfoldable pub alone : {A : Type 0} → Option (A × List ℕ) → Option A
alone None = None
alone (Some p) = elim p.1 [ [] ↦ Some p.0 | x ∷ r ↦ None ]

-- the store of an image that breaks no rule (01's term: well-formed), else nothing: status 201
unfoldable pub decode : List ℕ → Option Store
decode image = alone (read_store image)

-- well-formed, of a store: what every store of a well-formed image has
unfoldable pub name_ok : List ℕ → Bool
name_ok o = leb 1 (length o) && leb (length o) max_name_octets

unfoldable pub anchor_ok : Anchor → Bool
anchor_ok a = option_map_or (λ n. leb n max_number) a.number true && storable a.info

unfoldable pub well_formed : Store → Bool
well_formed σ =
    name_ok σ.device.hw_type && oid_ok σ.device.hw_type && name_ok σ.device.serial
    && leb (length (anchors σ)) max_anchors && all_of anchor_ok (anchors σ) && distinct (map public_key_of (anchors σ))
    && leb (length σ.communities) max_communities && all_of (λ c. name_ok c && oid_ok c) σ.communities && distinct σ.communities
