-- The rights that a store's anchors have are valid ones (rights, proofs/Witness): the image is octets, a stored anchor passes every check of an add up to 17 for size, and the apex's one type is an OID.
use Rattle.std.specs.Option.{option_map_or}
use Rattle.std.specs.Prelude.{Some}
use Prim.Native.Nat.{ℕ, zero, suc}
use native.Mathlib.Omega.{arith}
use mathlib.Core.Bool.{true, and-eq-true_iff}
use mathlib.Core.List.{List, [], ◌∷◌, ◌++◌, map, flat_map}
use mathlib.Core.Path.{◌≡◌, refl}
use lib.ListN.{length, get_or}
use lib.Dec.{leb}
use Rattle.octets.specs.Limits.{max_number}
use Rattle.octets.specs.Lists.{all_of}
use Rattle.octets.specs.Number.{big_endian}
use Rattle.octets.specs.Octets.{Octets}
use Rattle.der.specs.Contents.{arcs_ok, oid_ok}
use Rattle.syntax.specs.Asn.{StoredTrustAnchorInfo}
use Rattle.syntax.proofs.Each.{Every}
use Rattle.rights.specs.Rights.{Rights, any_content_type, everything, nothing}
use Rattle.rights.specs.Valid.{is_type}
use Rattle.rights.proofs.Witness.{ValidRights}
use Rattle.anchor.specs.Info.{rights_of}
use Rattle.anchor.specs.Judge.{conforms, judge, passes, storable}
use Rattle.anchor.proofs.Passed.{valid_rights}
use Rattle.store.specs.Store.{Anchor, Store, anchors, rights_in}
use Rattle.store.specs.Image.{encode_name, encode_number, encode_anchor, encode_section, encode_device, encode, decode, anchor_ok}
use Rattle.store.proofs.Readers.{octets_front, octets_after}
use Rattle.store.proofs.Formats.{rules}
use Rattle.store.proofs.RoundTrip.{encode-decode, decode-well_formed}
use Rattle.protocol.specs.Acceptance.{rights_at}

infos : (l : List Anchor) → Octets (flat_map encode_anchor l) → Every (λ a. Octets a.info) l
unfolding flat_map encode_anchor
infos [] o = tt
infos (a ∷ l) o =
    let n = encode_number a.number in
    let size = big_endian 2 (length a.info) in
    let more = flat_map encode_anchor l in (
      octets_after size a.info _ refl (octets_after n (size ++ a.info) _ refl (octets_front (encode_anchor a) more _ refl o)),
      infos l (octets_after (encode_anchor a) more _ refl o),
    )

others_valid : (l : List Anchor) → Every (λ a. Octets a.info) l → all_of anchor_ok l ≡ true → Every ValidRights (map (λ a. rights_of a.info) l)
unfolding all_of anchor_ok storable
others_valid [] o g = tt
others_valid (a ∷ l) o g =
    let h = (and-eq-true_iff (anchor_ok a) (all_of anchor_ok l)).0 g in
    let s = ((and-eq-true_iff (option_map_or (λ n. leb n max_number) a.number true) (storable a.info)).0 h.0).1 in
    let p = ((and-eq-true_iff (conforms StoredTrustAnchorInfo a.info) (passes (judge a.info))).0 s).1 in
    (valid_rights a.info o.0 p, others_valid l o.1 h.1)

apex_valid : ValidRights everything
unfolding everything any_content_type is_type all_of oid_ok arcs_ok
apex_valid = record { keyed = ((refl, tt), tt); few = (tt, tt); entries = omega arith }

at_valid : (l : List Rights) (i : ℕ) → Every ValidRights l → ValidRights (get_or l i nothing)
unfolding nothing
at_valid [] i h = record { keyed = tt; few = tt; entries = omega arith }
at_valid (r ∷ l) zero h = h.0
at_valid (r ∷ l) (suc i) h = at_valid l i h.1

pub signer_valid : (image : List ℕ) (σ : Store) → Octets image → decode image ≡ Some σ → (i : ℕ) → ValidRights (rights_at σ i)
unfolding encode all_of
signer_valid image σ o d i =
    let stored = encode_section encode_anchor (anchors σ) in
    let names = encode_section encode_name σ.communities in
    let device = encode_section encode_device (σ.device ∷ []) in
    let section = octets_front stored names _ refl (octets_after device (stored ++ names) image (encode-decode image σ o d) o) in
    let g = (and-eq-true_iff (anchor_ok σ.apex) (all_of anchor_ok σ.others)).0 (rules σ (decode-well_formed image σ d)).each_anchor in
    at_valid (rights_in σ) i (apex_valid, others_valid σ.others (infos (anchors σ) (λ k. section (suc k))).1 g.1)
