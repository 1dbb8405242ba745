-- The law of each edit: the image of a store becomes the image of the store after a step of 01, After acceptance.
use Rattle.std.specs.Prelude.{Some}
use Prim.Native.Nat.{ℕ, suc, ◌+◌, ◌-◌}
use native.Mathlib.Omega.{arith}
use mathlib.Core.Bool.{true}
use mathlib.Core.List.{List, [], ◌∷◌, ◌++◌, flat_map, append_assoc, append-nil}
use mathlib.Core.Path.{◌≡◌, refl, sym, ap, ap₂, ◌∙◌}
use lib.ListN.{length, length-append}
use Rattle.octets.specs.Octets.{placed}
use Rattle.octets.specs.Number.{big_endian}
use Rattle.store.specs.Store.{Anchor, Store, anchors}
use Rattle.store.specs.Image.{encode_name, encode_number, encode_anchor, encode_section, encode, well_formed}
use Rattle.store.specs.Contract.Parts.{anchor_place, anchor_count, record_end, place_of, community_place, community_octets}
use Rattle.store.specs.Steps.{with_others, with_communities, unnumbered, numbered}
use Rattle.store.proofs.Formats.{write_device}
use Rattle.store.proofs.Sizes.{length-encode_number, length-encode_anchor}
use Rattle.store.proofs.RoundTrip.{decode-encode}
use Rattle.store.proofs.Parts.{count_of_anchors}
use Rattle.store.proofs.Standing.{section_split, section_front, up_to, anchor_place_lem, image_parts, record_end_lem, place_is, community_place_lem, communities_are}
use Rattle.edit.specs.Contract.Edits.{replaced, recounted, one_more}
use Rattle.edit.proofs.Replaced.{replaced_at, placed-replaced, section_replaced}

-- the anchors m after the apex become others
pub anchors-replaced : (σ : Store) → well_formed σ ≡ true → (x m m' y : List Anchor) → σ.others ≡ x ++ (m ++ y)
    → recounted (encode σ) (anchor_place (encode σ)) (suc (length (x ++ (m' ++ y)))) (place_of (encode σ) (suc (length x))) (length (flat_map encode_anchor m))
    (flat_map encode_anchor m')
    ≡ encode (with_others (x ++ (m' ++ y)) σ)
unfolding encode
anchors-replaced σ g x m m' y e =
    let dev = write_device σ.device in
    let rest = encode_section encode_name σ.communities in
    let all = ap (λ (l : List Anchor). σ.apex ∷ l) e in
    let n = length (σ.apex ∷ (x ++ (m' ++ y))) in
    ap₂ (λ (c p : ℕ). recounted (encode σ) c n p (length (flat_map encode_anchor m)) (flat_map encode_anchor m')) (anchor_place_lem σ)
    (place_is σ g (σ.apex ∷ x) (m ++ y) all)
    ∙ ap (λ (l : List Anchor). recounted (dev ++ (encode_section encode_anchor l ++ rest)) (length dev) n (up_to σ (σ.apex ∷ x)) (length (flat_map encode_anchor m))
    (flat_map encode_anchor m')) all
    ∙ section_replaced encode_anchor dev rest (σ.apex ∷ x) m m' y refl refl

-- add: "appended without a number"
pub append_law : (σ : Store) → well_formed σ ≡ true → (info : List ℕ)
    → recounted (encode σ) (anchor_place (encode σ)) (anchor_count (encode σ) + 1) (community_place (encode σ)) 0 (encode_anchor (unnumbered info))
    ≡ encode (one_more info σ)
unfolding community_place flat_map
append_law σ g info =
    let a = unnumbered info in
    let s = encode σ in
    let n = count_of_anchors s σ (decode-encode σ g) in
    let k : anchor_count s + 1 ≡ suc (length (σ.others ++ (a ∷ []))) = omega (arith, length-append σ.others (a ∷ [])) in
    ap₂ (λ (i p : ℕ). recounted s (anchor_place s) i p 0 (encode_anchor a)) k (ap (place_of s) n)
    ∙ ap (recounted s (anchor_place s) (suc (length (σ.others ++ (a ∷ [])))) (place_of s (suc (length σ.others))) 0) (sym (append-nil (encode_anchor a)))
    ∙ anchors-replaced σ g σ.others [] (a ∷ []) [] (sym (append-nil σ.others))

-- remove: "later anchors move up"
pub remove_law : (σ : Store) → well_formed σ ≡ true → (x y : List Anchor) (a : Anchor) → σ.others ≡ x ++ (a ∷ y)
    → let s = encode σ in
    let p = place_of s (suc (length x)) in
    recounted s (anchor_place s) (anchor_count s - 1) p (record_end s p - p) [] ≡ encode (with_others (x ++ y) σ)
unfolding flat_map
remove_law σ g x y a e =
    let s = encode σ in
    let p = place_of s (suc (length x)) in
    let all = ap (λ (l : List Anchor). σ.apex ∷ l) e in
    let n = count_of_anchors s σ (decode-encode σ g) in
    let k : anchor_count s - 1 ≡ suc (length (x ++ y)) = omega (arith, ap length e, length-append x (a ∷ y), length-append x y) in
    let q = place_is σ g (σ.apex ∷ x) (a ∷ y) all in
    let r : record_end s p - p ≡ length (encode_anchor a ++ []) =
    omega (arith, q, ap (record_end s) q, record_end_lem σ g (σ.apex ∷ x) y a all, length-append (encode_anchor a) [], length-encode_anchor a)
    in
    ap₂ (λ (i j : ℕ). recounted s (anchor_place s) i p j []) k r ∙ anchors-replaced σ g x (a ∷ []) [] y e

-- a number, over the one that stands there
pub number-placed : (dev rest : List ℕ) (x y : List Anchor) (a : Anchor) (n : ℕ)
    → placed (dev ++ (encode_section encode_anchor (x ++ (a ∷ y)) ++ rest)) (length dev + 1 + length (flat_map encode_anchor x)) (encode_number (Some n))
    ≡ dev ++ (encode_section encode_anchor (x ++ (numbered n a ∷ y)) ++ rest)
unfolding flat_map encode_anchor
number-placed dev rest x y a n =
    let c = length (x ++ (a ∷ y)) in
    let f = dev ++ (c ∷ flat_map encode_anchor x) in
    let b = big_endian 2 (length a.info) ++ a.info in
    let r = flat_map encode_anchor y in
    let l : length (x ++ (numbered n a ∷ y)) ≡ c = omega (arith, length-append x (numbered n a ∷ y), length-append x (a ∷ y)) in
    let split : (a : Anchor) → encode_anchor a ++ r ++ rest ≡ encode_number a.number ++ ((big_endian 2 (length a.info) ++ a.info) ++ (r ++ rest)) =
    λ a. append_assoc (encode_anchor a) r rest ∙ append_assoc (encode_number a.number) (big_endian 2 (length a.info) ++ a.info) (r ++ rest)
    in
    ap (λ (s : List ℕ). placed s (length dev + 1 + length (flat_map encode_anchor x)) (encode_number (Some n)))
    (section_split encode_anchor dev rest x (a ∷ y) refl ∙ ap (λ (r : List ℕ). f ++ r) (split a))
    ∙ placed-replaced _ _ (encode_number (Some n))
    ∙ replaced_at f (encode_number a.number) (b ++ (r ++ rest)) (encode_number (Some n)) (section_front encode_anchor dev x c) (length-encode_number a.number ∙ sym (length-encode_number (Some n)))
    ∙ sym (section_split encode_anchor dev rest x (numbered n a ∷ y) l ∙ ap (λ (r : List ℕ). f ++ r) (split (numbered n a)))

-- the section of communities
pub communities-replaced : (σ : Store) → well_formed σ ≡ true → (l : List (List ℕ))
    → replaced (encode σ) (community_place (encode σ)) (1 + length (community_octets (encode σ))) (encode_section encode_name l) ≡ encode (with_communities l σ)
unfolding flat_map
communities-replaced σ g l =
    let all = sym (append-nil (anchors σ)) in
    let old = encode_section encode_name σ.communities in
    let new = encode_section encode_name l in
    let n : length old ≡ 1 + length (community_octets (encode σ)) = omega (arith, ap length (communities_are σ g)) in
    let p = section_front encode_anchor (write_device σ.device) (anchors σ) (length (anchors σ)) ∙ sym (community_place_lem σ g) in
    let f = write_device σ.device ++ (length (anchors σ) ∷ flat_map encode_anchor (anchors σ)) in
    ap (λ (s : List ℕ). replaced s (community_place (encode σ)) (1 + length (community_octets (encode σ))) new)
    (image_parts σ (anchors σ) [] all ∙ ap (λ (r : List ℕ). f ++ r) (sym (append-nil old)))
    ∙ replaced_at f old [] new p n
    ∙ ap (λ (r : List ℕ). f ++ r) (append-nil new)
    ∙ sym (image_parts (with_communities l σ) (anchors σ) [] all)
