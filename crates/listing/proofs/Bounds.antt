-- How long a listing is: never over 8,192 octets (at most 5,015).
use Rattle.std.specs.Prelude.{Option, Some, None, Result}
use Rattle.anchor.specs.declared.AnchorFault.{AnchorFault}
use Prim.Native.Nat.{ℕ, zero, suc, ◌+◌, ◌-◌, ◌*◌, ◌/◌, ◌%◌, ◌≤◌}
use native.Mathlib.Nat.{mul-suc}
use native.Mathlib.Omega.{arith}
use mathlib.Core.Bool.{Bool, true, false, not, and-eq-true_iff, true≢false}
use mathlib.Core.List.{List, [], ◌∷◌, ◌++◌, flat_map}
use mathlib.Core.Path.{◌≡◌, refl, sym, ap, ◌∙◌}
use lib.ListN.{length, drop, length-append, length-map, length-take}
use lib.Dec.{leb, eqb}
use borrow.Author.Tests.{leb-true}
use Rattle.octets.specs.Limits.{max_key_identifier}
use Rattle.octets.specs.First.{given_if}
use Rattle.octets.specs.Octets.{slice, written}
use Rattle.octets.specs.Ascii.{ascii, codes_from}
use Rattle.octets.specs.Lists.{all_of}
use Rattle.octets.specs.Number.{digits}
use Rattle.octets.proofs.Lists.{by_test}
use Rattle.octets.proofs.Placed.{length-placed}
use Rattle.syntax.specs.Asn.{StoredTrustAnchorInfo}
use Rattle.anchor.specs.declared.AnchorRole.{AnchorRole}
use Rattle.anchor.specs.declared.AnchorRole.TheVariants.{Apex, Management, Identity}
use Rattle.anchor.specs.Info.{key_identifier}
use Rattle.anchor.specs.Role.{role_of}
use Rattle.anchor.specs.Judge.{check_status, passes, conforms, judge, storable, identifier_outside}
use Rattle.store.specs.Store.{Anchor, Store, anchors, identifier_of}
use Rattle.store.specs.Image.{decode, anchor_ok, well_formed}
use Rattle.store.specs.Listing.{hex, decimal, blank, newline, number_text, role_text, anchor_line, anchor_lines, count_line, store_text, listing_of, listing}
use Rattle.store.proofs.Formats.{community_ok, rules}
use Rattle.store.proofs.RoundTrip.{decode-well_formed}
use Rattle.store.proofs.Sizes.{name_size, community_size, info_storable, length_flat_map}
use Rattle.listing.specs.Contract.Texts.{hex_within, hex_line}
use Rattle.listing.proofs.Texts.{hex_line-length, decimal_line-length, count-length}

-- an answer that is no pass was not given
past : (b : Bool) (answer next : Result (Unit {0}) AnchorFault) → passes answer ≡ false → passes (given_if b answer next) ≡ true → (b ≡ false) × (passes next ≡ true)
unfolding given_if
past true answer next h e = absurd (true≢false (sym e ∙ h))
past false answer next h e = (refl, e)

not_false : (b : Bool) → not b ≡ false → b ≡ true
not_false true e = refl
not_false false e = absurd (true≢false e)

-- a stored TrustAnchorInfo passes the checks of an add: its identifier is not outside 1 to 32 octets
pub storable_identifier : (t : List ℕ) → storable t ≡ true → length (key_identifier t) ≤ max_key_identifier
unfolding storable judge check_status identifier_outside
storable_identifier t e =
    let a = past _ _ _ refl ((and-eq-true_iff (conforms StoredTrustAnchorInfo t) (passes (judge t))).0 e).1 in
    let b = past _ _ _ refl a.1 in
    let c = past _ _ _ refl b.1 in
    let d = past _ _ _ refl c.1 in
    let f = past _ _ _ refl d.1 in
    let g = past _ _ _ refl f.1 in
    let h = past _ _ _ refl g.1 in
    let i = past _ _ _ refl h.1 in
    let j = past _ _ _ refl i.1 in
    let n = length (key_identifier t) in
    leb-true n max_key_identifier ((and-eq-true_iff (leb 1 n) (leb n max_key_identifier)).0 (not_false _ j.0)).1

pub length-hex : (s : List ℕ) → length (hex s) ≡ length s + length s
unfolding hex
length-hex [] = refl
length-hex (x ∷ s) = omega (arith, length-hex s)

-- half as many octets as there is room for have their digits in it
pub hex_fits : (room : ℕ) (s : List ℕ) → length (hex_within room s) ≤ room
hex_fits room s = omega (arith, length-hex (slice s 0 (room / 2)), length-take (room / 2 - 0) (drop 0 s))

length_digits : (k n : ℕ) → length (digits 10 k n) ≤ k
unfolding digits
length_digits zero n = omega arith
length_digits (suc k) n =
    by_test (eqb n 0)
    (λ e. rw (e, digits) (omega arith))
    (λ e. rw (e, digits) (omega (arith, length-append (digits 10 k (n / 10)) (n % 10 ∷ []), length_digits k (n / 10))))

length-decimal : (n : ℕ) → length (decimal n) ≤ 20
unfolding decimal
length-decimal n =
    by_test (eqb n 0)
    (λ e. rw (e, decimal) (omega arith))
    (λ e. rw (e, decimal, length-map (digits 10 20 n) (λ d. 48 + d)) (length_digits 20 n))

length-number : (o : Option ℕ) → length (number_text o) ≤ 20
unfolding number_text ascii codes_from
length-number None = omega arith
length-number (Some n) = length-decimal n

length_role : (role : AnchorRole) → length (role_text role) ≤ 10
unfolding role_text ascii codes_from
length_role Apex = omega arith
length_role Management = omega arith
length_role Identity = omega arith

length_anchor : (i : ℕ) (a : Anchor) → anchor_ok a ≡ true → length (anchor_line i a) ≤ 118
unfolding anchor_line
length_anchor i a g =
    let n = number_text a.number in
    let k = hex (identifier_of a) in
    let r = role_text (role_of i a.info) in
    omega (
      arith,
      length-append (decimal i) (blank ∷ (r ++ (blank ∷ (k ++ (blank ∷ (n ++ (newline ∷ []))))))),
      length-append r (blank ∷ (k ++ (blank ∷ (n ++ (newline ∷ []))))),
      length-append k (blank ∷ (n ++ (newline ∷ []))),
      length-append n (newline ∷ []),
      length-decimal i,
      length_role (role_of i a.info),
      length-hex (identifier_of a),
      storable_identifier a.info (info_storable a g),
      length-number a.number,
    )

length-anchors : (i : ℕ) (l : List Anchor) → all_of anchor_ok l ≡ true → length (anchor_lines i l) ≤ 118 * length l
unfolding anchor_lines all_of
length-anchors i [] g = omega arith
length-anchors i (a ∷ l) g =
    let h = (and-eq-true_iff (anchor_ok a) (all_of anchor_ok l)).0 g in
    omega (
      arith,
      mul-suc 118 (length l),
      length-append (anchor_line i a) (anchor_lines (suc i) l),
      length_anchor i a h.0,
      length-anchors (suc i) l h.1,
    )

length-count : (word : List ℕ) (n : ℕ) → length (count_line word n) ≤ length word + 21
length-count word n = omega (arith, count-length word n, decimal_line-length n, length-decimal n)

length-name : (c : List ℕ) → community_ok c ≡ true → length (hex_line c) ≤ 65
length-name c g = omega (arith, hex_line-length c, length-hex c, (community_size c g).1)

-- 7 + 64 + 1 + 64 + 1, 8 + 21, 32 * 118, 12 + 21, 16 * 65
length_text : (σ : Store) → well_formed σ ≡ true → length (store_text σ) ≤ 5015
unfolding store_text hex_line ascii codes_from
length_text σ g =
    let p = rules σ g in
    let h = σ.device.hw_type in
    let s = σ.device.serial in
    let d = ascii "device " ++ (hex h ++ (blank ∷ hex_line s)) in
    let ca = count_line (ascii "anchors ") (length (anchors σ)) in
    let la = anchor_lines 0 (anchors σ) in
    let cc = count_line (ascii "communities ") (length σ.communities) in
    let lc = flat_map hex_line σ.communities in
    omega (
      arith,
      length-append d (ca ++ (la ++ (cc ++ lc))),
      length-append ca (la ++ (cc ++ lc)),
      length-append la (cc ++ lc),
      length-append cc lc,
      length-append (hex h) (blank ∷ hex_line s),
      hex_line-length s,
      length-hex h,
      length-hex s,
      (name_size h p.hw_type).1,
      (name_size s p.serial).1,
      length-count (ascii "anchors ") (length (anchors σ)),
      length-anchors 0 (anchors σ) p.each_anchor,
      length-count (ascii "communities ") (length σ.communities),
      length_flat_map hex_line community_ok 65 length-name σ.communities p.each_community,
    )

-- a listing fits a buffer of 8,192 octets
pub listing-length : (image : List ℕ) → length (listing image) ≤ 8192
unfolding listing listing_of ascii codes_from
listing-length image = go (decode image) refl
  where
    go : (o : Option Store) → decode image ≡ o → length (listing_of o) ≤ 8192
    go None e = omega arith
    go (Some σ) e = omega (arith, length_text σ (decode-well_formed image σ e))

-- after `list`, the text is a beginning of the lent buffer
pub text_fits : (out image now : List ℕ) {n : ℕ} → length out ≡ 8192 → (n ≡ length (listing image)) × (now ≡ written out (listing image)) → n ≤ length now
text_fits out image now e k =
    let h = listing-length image in
    let l = length-placed out 0 (listing image) (omega arith) in
    omega (arith, k.0, ap length k.1)
