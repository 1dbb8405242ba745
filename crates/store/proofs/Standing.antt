-- Where the parts of a store stand in its image, and what the readers find there.
use Prim.Native.Nat.{ℕ, zero, suc, ◌+◌, ◌-◌, ◌≤◌, ◌<◌}
use native.Mathlib.Omega.{arith}
use mathlib.Core.Bool.{true, and-eq-true_iff}
use mathlib.Core.List.{List, [], ◌∷◌, ◌++◌, flat_map, append_assoc, append-nil}
use mathlib.Core.Path.{◌≡◌, refl, sym, ap, ap₂, ◌∙◌}
use lib.ListN.{length, take, drop, length-append}
use lib.Seq.{take_at, drop_at, drop-drop, get_or_at}
use Rattle.octets.specs.Lists.{all_of}
use Rattle.octets.specs.Octets.{octet}
use Rattle.octets.specs.Number.{number}
use Rattle.store.specs.Store.{Anchor, Store, anchors}
use Rattle.store.specs.Image.{encode_name, encode_anchor, encode_section, encode_device, encode, anchor_ok, well_formed}
use Rattle.store.specs.Contract.Parts.{anchor_place, first_record, record_end, record_at, record_place, place_of, info_in, info_at, community_place, community_count}
use Rattle.store.specs.Contract.Parts.{community_octets, names_size}
use Rattle.store.proofs.Formats.{write_device, rules}
use Rattle.store.proofs.RoundTrip.{decode-encode}
use Rattle.store.proofs.Parts.{count_of_anchors, sizes_are}
use Rattle.store.proofs.Walk.{first_octet}
use Rattle.store.proofs.Places.{record_size, record_info}
use Rattle.store.proofs.Sizes.{length-encode_anchor, length-encode_device}

module _ {A : Type 0} (w : A → List ℕ) where
  pub flat_map_append : (x y : List A) → flat_map w (x ++ y) ≡ flat_map w x ++ flat_map w y
  unfolding flat_map
  flat_map_append [] y = refl
  flat_map_append (a ∷ x) y = ap (λ (r : List ℕ). w a ++ r) (flat_map_append x y) ∙ sym (append_assoc (w a) (flat_map w x) (flat_map w y))

  -- the octets h before a section, then its items x and y, and the octets t after it
  pub section_split : (h t : List ℕ) (x y : List A) {n : ℕ} → length (x ++ y) ≡ n
      → h ++ (encode_section w (x ++ y) ++ t) ≡ (h ++ (n ∷ flat_map w x)) ++ (flat_map w y ++ t)
  section_split h t x y {n} e =
      rw (e, flat_map_append x y)
      (ap (λ (r : List ℕ). h ++ (n ∷ r)) (append_assoc (flat_map w x) (flat_map w y) t) ∙ sym (append_assoc h (n ∷ flat_map w x) (flat_map w y ++ t)))

  pub section_front : (h : List ℕ) (x : List A) (n : ℕ) → length (h ++ (n ∷ flat_map w x)) ≡ length h + 1 + length (flat_map w x)
  section_front h x n = omega (arith, length-append h (n ∷ flat_map w x))

-- where the record stands that is after those of the anchors x
abbrev pub up_to : Store → List Anchor → ℕ
up_to σ x = length (write_device σ.device) + 1 + length (flat_map encode_anchor x)

anchor_ok_lem : (x y : List Anchor) (a : Anchor) → all_of anchor_ok (x ++ (a ∷ y)) ≡ true → anchor_ok a ≡ true
unfolding all_of
anchor_ok_lem [] y a g = ((and-eq-true_iff (anchor_ok a) (all_of anchor_ok y)).0 g).0
anchor_ok_lem (b ∷ x) y a g = anchor_ok_lem x y a ((and-eq-true_iff (anchor_ok b) (all_of anchor_ok (x ++ (a ∷ y)))).0 g).1

module _ (σ : Store) where
  abbrev dev : List ℕ
  dev = write_device σ.device

  abbrev rest : List ℕ
  rest = encode_section encode_name σ.communities

  -- the anchors' count stands after the device's count, and hwType and serial after their lengths
  pub anchor_place_lem : anchor_place (encode σ) ≡ length dev
  unfolding encode encode_device flat_map
  anchor_place_lem =
      let h = σ.device.hw_type in
      let v = σ.device.serial in
      let t = encode_section encode_anchor (anchors σ) ++ rest in
      let e : encode σ ≡ (1 ∷ encode_name h) ++ (encode_name v ++ t) =
      ap (λ (d : List ℕ). 1 ∷ (d ++ t)) (append-nil (encode_name h ++ encode_name v)) ∙ ap (λ (r : List ℕ). 1 ∷ r) (append_assoc (encode_name h) (encode_name v) t)
      in
      let o : octet (encode σ) (2 + length h) ≡ length v =
      ap (λ (s : List ℕ). octet s (2 + length h)) e ∙ get_or_at (1 ∷ encode_name h) (length v) (v ++ t) 0 (2 + length h) (omega arith)
      in
      omega (arith, o, length-append (encode_device σ.device) [], length-encode_device σ.device)

  module _ (x y : List Anchor) (e : anchors σ ≡ x ++ y) where
    -- the octets up to a record, and from there on
    pub image_parts : encode σ ≡ (dev ++ (length (anchors σ) ∷ flat_map encode_anchor x)) ++ (flat_map encode_anchor y ++ rest)
    unfolding encode
    image_parts =
        ap (λ (l : List Anchor). dev ++ (encode_section encode_anchor l ++ rest)) e
        ∙ section_split encode_anchor dev rest x y (ap length (sym e))

    pub from_there : drop (up_to σ x) (encode σ) ≡ flat_map encode_anchor y ++ rest
    from_there =
        ap (drop (up_to σ x)) image_parts
        ∙ drop_at (dev ++ (length (anchors σ) ∷ flat_map encode_anchor x)) (flat_map encode_anchor y ++ rest) (up_to σ x)
        (section_front encode_anchor dev x (length (anchors σ)))

    pub image-length : length (encode σ) ≡ up_to σ x + (length (flat_map encode_anchor y) + length rest)
    image-length =
        omega (
          arith,
          ap length image_parts,
          length-append (dev ++ (length (anchors σ) ∷ flat_map encode_anchor x)) (flat_map encode_anchor y ++ rest),
          section_front encode_anchor dev x (length (anchors σ)),
          length-append (flat_map encode_anchor y) rest,
        )

  -- one record on
  pub next_place : (x : List Anchor) (a : Anchor) → up_to σ (x ++ (a ∷ [])) ≡ up_to σ x + (11 + length a.info)
  unfolding flat_map
  next_place x a =
      omega (
        arith,
        ap length (flat_map_append encode_anchor x (a ∷ [])),
        length-append (flat_map encode_anchor x) (encode_anchor a ++ []),
        length-append (encode_anchor a) [],
        length-encode_anchor a,
      )

  module _ (g : well_formed σ ≡ true) where
    module _ (x y : List Anchor) (a : Anchor) (e : anchors σ ≡ x ++ (a ∷ y)) where
      abbrev after : List ℕ
      after = flat_map encode_anchor y ++ rest

      record_there : drop (up_to σ x) (encode σ) ≡ encode_anchor a ++ after
      unfolding flat_map
      record_there = from_there x (a ∷ y) e ∙ append_assoc (encode_anchor a) (flat_map encode_anchor y) rest

      pub record_inside : up_to σ x + (11 + length a.info) < length (encode σ)
      unfolding flat_map
      record_inside =
          omega (arith, image-length x (a ∷ y) e, length-append (encode_anchor a) (flat_map encode_anchor y), length-encode_anchor a)

      pub record_end_lem : record_end (encode σ) (up_to σ x) ≡ up_to σ x + (11 + length a.info)
      unfolding record_end
      record_end_lem =
          let ok : anchor_ok a ≡ true = anchor_ok_lem x y a (rw e at (rules σ g).each_anchor) in
          let n : number (take 2 (drop 9 (drop (up_to σ x) (encode σ)))) ≡ length a.info =
          ap (λ (s : List ℕ). number (take 2 (drop 9 s))) record_there ∙ record_size a after ok
          in
          omega (arith, n, record_inside)

      pub info_here : info_in (record_at (encode σ) (up_to σ x)) ≡ a.info
      info_here =
          let n : length (encode_anchor a) ≡ record_end (encode σ) (up_to σ x) - up_to σ x = omega (arith, length-encode_anchor a, record_end_lem) in
          ap info_in (ap (take (record_end (encode σ) (up_to σ x) - up_to σ x)) record_there ∙ take_at (encode_anchor a) after _ n) ∙ record_info a

    -- from one record on to a later one
    places_on : (n : ℕ) (x y : List Anchor) → anchors σ ≡ x ++ y → n ≤ length y → record_place (encode σ) (up_to σ x) n ≡ up_to σ (x ++ take n y)
    unfolding record_place
    places_on zero x y e h = ap (up_to σ) (sym (append-nil x))
    places_on (suc n) x [] e h = absurd (omega arith)
    places_on (suc n) x (a ∷ y) e h =
        ap (λ (p : ℕ). record_place (encode σ) p n) (record_end_lem x y a e ∙ sym (next_place x a))
        ∙ places_on n (x ++ (a ∷ [])) y (e ∙ sym (append_assoc x (a ∷ []) y)) (omega arith)
        ∙ ap (up_to σ) (append_assoc x (a ∷ []) (take n y))

    pub place_is : (x y : List Anchor) → anchors σ ≡ x ++ y → place_of (encode σ) (length x) ≡ up_to σ x
    unfolding first_record flat_map
    place_is x y e =
        let z : length dev + 1 ≡ up_to σ [] = omega arith in
        let t : take (length x) (anchors σ) ≡ x = ap (take (length x)) e ∙ take_at x y (length x) refl in
        ap (λ (p : ℕ). record_place (encode σ) p (length x)) (ap (λ (n : ℕ). n + 1) anchor_place_lem ∙ z)
        ∙ places_on (length x) [] (anchors σ) refl (omega (arith, ap length e, length-append x y))
        ∙ ap (up_to σ) t

    pub community_place_lem : community_place (encode σ) ≡ up_to σ (anchors σ)
    unfolding community_place
    community_place_lem =
        ap (place_of (encode σ)) (count_of_anchors (encode σ) σ (decode-encode σ g)) ∙ place_is (anchors σ) [] (sym (append-nil (anchors σ)))

    pub communities_are : community_octets (encode σ) ≡ flat_map encode_name σ.communities
    unfolding community_octets community_count flat_map
    communities_are =
        let s = encode σ in
        let l = σ.communities in
        let r = flat_map encode_name l in
        let b : drop (community_place s) s ≡ rest =
        ap (λ (p : ℕ). drop p s) community_place_lem ∙ from_there (anchors σ) [] (sym (append-nil (anchors σ)))
        in
        let n : octet s (community_place s) ≡ length l = sym (first_octet s (community_place s)) ∙ ap (λ (c : List ℕ). octet c 0) b in
        let names : drop (community_place s + 1) s ≡ r ++ [] = sym (drop-drop 1 (community_place s) s) ∙ ap (drop 1) b ∙ sym (append-nil r) in
        ap₂ (λ (m : ℕ) (c : List ℕ). take (names_size m c) c) n names ∙ take_at r [] _ (sym (sizes_are l []))

    pub info_at_lem : (x y : List Anchor) (a : Anchor) → anchors σ ≡ x ++ (a ∷ y) → info_at (encode σ) (length x) ≡ a.info
    info_at_lem x y a e = ap (λ (p : ℕ). info_in (record_at (encode σ) p)) (place_is x (a ∷ y) e) ∙ info_here x y a e
