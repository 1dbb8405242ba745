-- How long an image is (01, The store image: "The largest image is 33,717 octets").
use Rattle.std.specs.Option.{option_map_or}
use Rattle.std.specs.Prelude.{Option, Some, None}
use Prim.Native.Nat.{ℕ, suc, ◌+◌, ◌*◌, ◌≤◌}
use native.Mathlib.Nat.{mul-suc}
use native.Mathlib.Omega.{arith}
use mathlib.Core.Bool.{Bool, true, and-eq-true_iff}
use mathlib.Core.List.{List, [], ◌∷◌, ◌++◌, flat_map}
use mathlib.Core.Path.{◌≡◌, ap}
use lib.ListN.{length, length-append}
use lib.Dec.{leb}
use borrow.Author.Tests.{leb-true}
use Rattle.octets.specs.Limits.{max_name_octets, max_anchor_octets, max_number, image_room}
use Rattle.octets.specs.Lists.{all_of}
use Rattle.octets.specs.Number.{big_endian}
use Rattle.octets.proofs.Number.{length-big_endian}
use Rattle.der.specs.Contents.{oid_ok}
use Rattle.anchor.specs.Judge.{storable}
use Rattle.store.specs.Store.{Device, Anchor, Store, anchors}
use Rattle.store.specs.Image.{encode_name, encode_number, encode_anchor, encode_section, encode_device, encode, name_ok, anchor_ok, well_formed}
use Rattle.store.proofs.Storable.{storable_size}
use Rattle.store.proofs.Formats.{write_device, community_ok, rules}

-- what the tests say of sizes

pub name_size : (o : List ℕ) → name_ok o ≡ true → (1 ≤ length o) × (length o ≤ max_name_octets)
unfolding name_ok
name_size o g =
    let h = (and-eq-true_iff (leb 1 (length o)) (leb (length o) max_name_octets)).0 g in
    (leb-true 1 (length o) h.0, leb-true (length o) max_name_octets h.1)

pub community_name : (c : List ℕ) → community_ok c ≡ true → name_ok c ≡ true
community_name c g = ((and-eq-true_iff (name_ok c) (oid_ok c)).0 g).0

pub community_size : (c : List ℕ) → community_ok c ≡ true → (1 ≤ length c) × (length c ≤ max_name_octets)
community_size c g = name_size c (community_name c g)

pub info_storable : (a : Anchor) → anchor_ok a ≡ true → storable a.info ≡ true
unfolding anchor_ok
info_storable a g = ((and-eq-true_iff (option_map_or (λ n. leb n max_number) a.number true) (storable a.info)).0 g).1

pub info_size : (a : Anchor) → anchor_ok a ≡ true → (1 ≤ length a.info) × (length a.info ≤ max_anchor_octets)
info_size a g = storable_size a.info (info_storable a g)

-- lengths

pub length-encode_number : (o : Option ℕ) → length (encode_number o) ≡ 9
unfolding encode_number
length-encode_number None = ap suc (length-big_endian 8 0)
length-encode_number (Some n) = ap suc (length-big_endian 8 n)

-- 1 octet, 8, 2 and the TrustAnchorInfo
pub length-encode_anchor : (a : Anchor) → length (encode_anchor a) ≡ 11 + length a.info
unfolding encode_anchor
length-encode_anchor a =
    omega (
      arith,
      length-append (encode_number a.number) (big_endian 2 (length a.info) ++ a.info),
      length-encode_number a.number,
      length-append (big_endian 2 (length a.info)) a.info,
      length-big_endian 2 (length a.info),
    )

pub length-encode_device : (d : Device) → length (encode_device d) ≡ 2 + length d.hw_type + length d.serial
unfolding encode_device
length-encode_device d = omega (arith, length-append d.hw_type (encode_name d.serial))

pub length_flat_map : {A : Type 0} (w : A → List ℕ) (ok : A → Bool) (most : ℕ) → ((x : A) → ok x ≡ true → length (w x) ≤ most)
    → (l : List A) → all_of ok l ≡ true → length (flat_map w l) ≤ most * length l
unfolding all_of flat_map
length_flat_map w ok most f [] g = omega arith
length_flat_map w ok most f (x ∷ l) g =
    let h = (and-eq-true_iff (ok x) (all_of ok l)).0 g in
    omega (arith, mul-suc most (length l), length-append (w x) (flat_map w l), f x h.0, length_flat_map w ok most f l h.1)

-- "The largest image is 33,717 octets": 1 + 33 + 33, 1 + 32 * (11 + 1,024), 1 + 16 * 33
pub encode-length : (σ : Store) → well_formed σ ≡ true → length (encode σ) ≤ image_room
unfolding encode flat_map
encode-length σ g =
    let p = rules σ g in
    let wa = encode_section encode_anchor (anchors σ) in
    let wc = encode_section encode_name σ.communities in
    let la = length_flat_map encode_anchor anchor_ok 1035 (λ a h. omega (arith, length-encode_anchor a, (info_size a h).1)) (anchors σ) p.each_anchor in
    let lc = length_flat_map encode_name community_ok 33 (λ c h. omega (arith, (community_size c h).1)) σ.communities p.each_community in
    omega (
      arith,
      length-append (write_device σ.device) (wa ++ wc),
      length-append wa wc,
      length-append (encode_device σ.device) [],
      length-encode_device σ.device,
      (name_size σ.device.hw_type p.hw_type).1,
      (name_size σ.device.serial p.serial).1,
      la,
      lc,
    )
