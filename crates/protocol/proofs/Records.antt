-- The records that demand 3 cuts from an image are those of its store's anchors.
use Prim.Native.Nat.{ℕ, ◌+◌}
use native.Mathlib.Omega.{arith}
use mathlib.Core.Bool.{true, and-eq-true_iff}
use mathlib.Core.List.{List, [], ◌∷◌, ◌++◌, map, flat_map, append_assoc, append-nil}
use mathlib.Core.Path.{◌≡◌, refl, sym, ap, ap₂, ◌∙◌}
use lib.ListN.{length, take, drop, length-append}
use lib.Seq.{take_at, drop_at, get_or_at}
use Rattle.octets.specs.Lists.{all_of}
use Rattle.octets.specs.Octets.{octet}
use Rattle.octets.specs.Number.{number}
use Rattle.store.specs.Store.{Anchor, Store, anchors}
use Rattle.store.specs.Image.{encode_name, encode_anchor, encode_section, encode_device, encode, anchor_ok, well_formed}
use Rattle.store.proofs.Formats.{rules}
use Rattle.store.proofs.Sizes.{length-encode_anchor}
use Rattle.store.proofs.Places.{record_size, record_info}
use Rattle.store.specs.Records.{records_from, anchor_section, records_of}

pub info_of_record : (a : Anchor) → drop 11 (encode_anchor a) ≡ a.info
info_of_record = record_info

pub records_from_lem : (l : List Anchor) (rest : List ℕ) → all_of anchor_ok l ≡ true → records_from (length l) (flat_map encode_anchor l ++ rest) ≡ map encode_anchor l
unfolding records_from all_of flat_map
records_from_lem [] rest g = refl
records_from_lem (a ∷ l) rest g =
    let h = (and-eq-true_iff (anchor_ok a) (all_of anchor_ok l)).0 g in
    let t = flat_map encode_anchor l ++ rest in
    let k : length (encode_anchor a) ≡ 11 + number (take 2 (drop 9 (encode_anchor a ++ t))) =
    length-encode_anchor a ∙ ap (λ (n : ℕ). 11 + n) (sym (record_size a t h.0))
    in
    rw (append_assoc (encode_anchor a) (flat_map encode_anchor l) rest)
    (ap₂ ◌∷◌ (take_at (encode_anchor a) t _ k) (ap (records_from (length l)) (drop_at (encode_anchor a) t _ k) ∙ records_from_lem l rest h.1))

-- what stands after a count and two names
after_names : (h v rest : List ℕ) → anchor_section ((1 ∷ encode_name h) ++ (encode_name v ++ rest)) ≡ rest
unfolding anchor_section
after_names h v rest =
    let e : octet ((1 ∷ encode_name h) ++ (encode_name v ++ rest)) (2 + length h) ≡ length v =
    get_or_at (1 ∷ encode_name h) (length v) (v ++ rest) 0 (2 + length h) (omega arith)
    in
    rw (e, ← append_assoc (1 ∷ encode_name h) (encode_name v) rest)
    (drop_at ((1 ∷ encode_name h) ++ encode_name v) rest (3 + length h + length v) (omega (arith, length-append h (encode_name v))))

-- the anchors' section stands after the device's
anchor_section_lem : (σ : Store) → anchor_section (encode σ) ≡ encode_section encode_anchor (anchors σ) ++ encode_section encode_name σ.communities
unfolding encode encode_device flat_map
anchor_section_lem σ =
    let h = σ.device.hw_type in
    let v = σ.device.serial in
    let t = encode_section encode_anchor (anchors σ) ++ encode_section encode_name σ.communities in
    let e : encode σ ≡ (1 ∷ encode_name h) ++ (encode_name v ++ t) =
    ap (λ (d : List ℕ). 1 ∷ (d ++ t)) (append-nil (encode_name h ++ encode_name v)) ∙ ap (λ (r : List ℕ). 1 ∷ r) (append_assoc (encode_name h) (encode_name v) t)
    in
    ap anchor_section e ∙ after_names h v t

pub records_encode : (σ : Store) → well_formed σ ≡ true → records_of (encode σ) ≡ map encode_anchor (anchors σ)
unfolding records_of
records_encode σ g = rw (anchor_section_lem σ) (records_from_lem (anchors σ) (encode_section encode_name σ.communities) (rules σ g).each_anchor)
