-- What is read from a scratch that holds a store, and what the edits leave in it.
use Rattle.std.specs.Prelude.{Option}
use Prim.Native.Nat.{ℕ, suc, ◌+◌, ◌-◌, ◌≤◌, ◌<◌}
use native.Mathlib.Omega.{arith}
use mathlib.Core.Bool.{true}
use mathlib.Core.List.{List, [], ◌∷◌, ◌++◌, map, flat_map, append-nil}
use mathlib.Core.Path.{◌≡◌, refl, sym, ap, ap₂, ◌∙◌}
use lib.ListN.{length, take, drop, get_or, length-append}
use lib.Seq.{split_at, length-take-le}
use Rattle.octets.specs.Octets.{placed}
use Rattle.octets.specs.Number.{big_endian}
use Rattle.octets.proofs.Placed.{length-placed}
use Rattle.store.specs.declared.Sought.{Sought}
use Rattle.store.specs.Store.{Anchor, Store, anchors}
use Rattle.store.specs.Image.{encode_number, encode_anchor, encode, well_formed}
use Rattle.store.specs.Records.{records_of}
use Rattle.store.specs.Contract.Parts.{anchor_place, anchor_count, record_end, place_of, info_in, info_at, community_place, is_sought, first_from}
use Rattle.store.specs.Steps.{with_others, unnumbered}
use Rattle.store.proofs.Formats.{rules}
use Rattle.store.proofs.RoundTrip.{decode-encode}
use Rattle.store.proofs.Parts.{of_anchors, count_of_anchors}
use Rattle.store.proofs.Sizes.{encode-length}
use Rattle.store.proofs.Standing.{up_to, anchor_place_lem, image-length, next_place, record_inside, record_end_lem, community_place_lem, info_at_lem}
use Rattle.store.proofs.Standing as standing
use Rattle.edit.specs.Contract.Edits.{recounted, one_more}
use Rattle.edit.proofs.Replaced.{take-all-placed}
use Rattle.edit.proofs.Stores.{append_law, remove_law}
use Rattle.apply.specs.Contract.Scratch.{Holds}
use Rattle.apply.specs.Contract.Edits.{Growable, Appends, CanRemove, RemovesAnchor}
use Rattle.apply.proofs.Found.{first_map}

module _ (σ : Store) (d : List ℕ) (len : ℕ) (h : Holds σ d len) where
  pub size : length (encode σ) ≡ len
  size = ap length (sym h.image) ∙ length-take-le len d h.inside

  pub count_place : anchor_place (take len d) ≡ up_to σ [] - 1
  unfolding flat_map
  count_place = let e = ap anchor_place h.image ∙ anchor_place_lem σ in omega arith

  pub counted : anchor_count (take len d) ≡ length (anchors σ)
  counted = ap anchor_count h.image ∙ count_of_anchors (encode σ) σ (decode-encode σ h.valid)

  pub few : {items : ℕ} → items ≡ anchor_count (take len d) → (1 ≤ items) × (items ≤ 32)
  few e = let n = (rules σ h.valid).anchor_count_lem in (omega (arith, counted), omega (arith, counted))

  -- a search in the image is the search in its store
  pub search_is : (by : Sought) (wanted : List ℕ) {p : Option ℕ} → p ≡ first_from 0 (is_sought by wanted) (map info_in (records_of (take len d)))
      → first_from 0 (λ a. is_sought by wanted a.info) (anchors σ) ≡ p
  search_is by wanted f =
      let infos = ap (λ (s : List ℕ). map info_in (records_of s)) h.image ∙ of_anchors (λ a. a.info) (encode σ) σ (decode-encode σ h.valid) in
      sym (first_map (λ a. a.info) (is_sought by wanted) 0 (anchors σ))
      ∙ ap (first_from 0 (is_sought by wanted)) (sym infos)
      ∙ sym f

  -- where the communities' count stands
  pub end_is : community_place (take len d) ≡ up_to σ (anchors σ)
  end_is = ap community_place h.image ∙ community_place_lem σ h.valid

  pub end_before : up_to σ (anchors σ) < len
  end_before = omega (arith, size, image-length σ (anchors σ) [] (sym (append-nil (anchors σ))))

  pub place_is : (x y : List Anchor) → anchors σ ≡ x ++ y → place_of (take len d) (length x) ≡ up_to σ x
  place_is x y e = ap (λ (s : List ℕ). place_of s (length x)) h.image ∙ standing.place_is σ h.valid x y e

  module _ (x y : List Anchor) (a : Anchor) (e : anchors σ ≡ x ++ (a ∷ y)) where
    pub info_is : info_at (take len d) (length x) ≡ a.info
    info_is = ap (λ (s : List ℕ). info_at s (length x)) h.image ∙ info_at_lem σ h.valid x y a e

    pub record_end_is : record_end (take len d) (up_to σ x) ≡ up_to σ x + (11 + length a.info)
    record_end_is = ap (λ (s : List ℕ). record_end s (up_to σ x)) h.image ∙ record_end_lem σ h.valid x y a e

    pub inside_is : up_to σ x + (11 + length a.info) < len
    inside_is = omega (arith, size, record_inside σ h.valid x y a e)

-- a store that an edit has written
pub written : {τ : Store} (d : List ℕ) {d' : List ℕ} (s : List ℕ) {r : ℕ} → s ≡ encode τ → well_formed τ ≡ true → length s ≤ length d → r ≡ length s → d' ≡ placed d 0 s
    → (length d' ≡ length d) × Holds τ d' r
written {τ} d {d'} s {r} e g l n f =
    let k = ap length f ∙ length-placed d 0 s (omega arith) in
    (k, record { image = ap₂ take n f ∙ take-all-placed d s l ∙ e; inside = omega arith; valid = g })

-- an anchor more

-- no number, the length, and the TrustAnchorInfo
abbrev head_of : List ℕ → List ℕ
head_of t = placed (0 ∷ 0 ∷ 0 ∷ 0 ∷ 0 ∷ 0 ∷ 0 ∷ 0 ∷ 0 ∷ 0 ∷ 0 ∷ []) 9 (big_endian 2 (length t))

new_record : (t : List ℕ) {head : List ℕ} → head ≡ head_of t → head ++ t ≡ encode_anchor (unnumbered t)
unfolding encode_anchor encode_number big_endian placed
new_record t e = ap (λ (b : List ℕ). b ++ t) e

module _ {d : List ℕ} {len : ℕ} {t : List ℕ} (w : Growable d len t) {count items end : ℕ} (p : count ≡ anchor_place (take len d))
    (n : items ≡ anchor_count (take len d)) (q : end ≡ community_place (take len d)) where
  pub append_bounds : (head : List ℕ) → head ≡ head_of t → (count < end) × (end + 0 ≤ len) × (len ≤ length d) × (len + (length head + length t) ≤ length d + 0)
  unfolding flat_map big_endian placed
  append_bounds head f =
      let σ = w.store in
      let h = w.holds in
      let τ = one_more t σ in
      let e = end_is σ d len h in
      let b = end_before σ d len h in
      let c = count_place σ d len h in
      let i = image-length σ (anchors σ) [] (sym (append-nil (anchors σ))) in
      let j = image-length τ (anchors τ) [] (sym (append-nil (anchors τ))) in
      let k = next_place σ (anchors σ) (unnumbered t) in
      let l : length head ≡ 11 = ap length f in
      (omega arith, omega arith, h.inside, omega (arith, encode-length τ w.fits, w.room, size σ d len h))

  pub append_done : {head : List ℕ} → head ≡ head_of t → {r : ℕ} {d' : List ℕ}
      → (r ≡ length (recounted (take len d) count (items + 1) end 0 (head ++ t))) × (d' ≡ placed d 0 (recounted (take len d) count (items + 1) end 0 (head ++ t)))
      → length d' ≡ length d
      → Appends d len t r d'
  append_done {head} e {r} {d'} f l =
      let s = recounted (take len d) count (items + 1) end 0 (head ++ t) in
      record {
        room = l;
        appends = λ σ h g.
            let i : s ≡ encode (one_more t σ) =
            ap₂ (λ (a b : ℕ). recounted (take len d) a (b + 1) end 0 (head ++ t)) p n
            ∙ ap₂ (λ (a : ℕ) (b : List ℕ). recounted (take len d) (anchor_place (take len d)) (anchor_count (take len d) + 1) a 0 b) q (new_record t e)
            ∙ ap (λ (b : List ℕ). recounted b (anchor_place b) (anchor_count b + 1) (community_place b) 0 (encode_anchor (unnumbered t))) h.image
            ∙ append_law σ h.valid t
            in
            let fits : length s ≤ length d = omega (arith, ap length i, encode-length (one_more t σ) g, w.room) in
            (written d s i g fits f.0 f.1).1;
      }

-- an anchor less

module _ {d : List ℕ} {len position : ℕ} (w : CanRemove d len position) {count items at end : ℕ} (p : count ≡ anchor_place (take len d))
    (n : items ≡ anchor_count (take len d)) (q : at ≡ place_of (take len d) position) (m : end ≡ record_end (take len d) at) where
  -- where the record stands, and where it ends
  cut_at : (σ : Store) (x y : List Anchor) (a : Anchor) → Holds σ d len → anchors σ ≡ x ++ (a ∷ y) → length x ≡ position
      → (at ≡ up_to σ x) × (end ≡ at + (11 + length a.info))
  cut_at σ x y a h e l =
      let here : at ≡ up_to σ x = q ∙ ap (place_of (take len d)) (sym l) ∙ place_is σ d len h x (a ∷ y) e in
      (here, omega (arith, m, ap (record_end (take len d)) here, record_end_is σ d len h x y a e))

  pub cut_bounds : (at ≤ end) × (count < at) × (at + (end - at) ≤ len) × (len ≤ length d) × (len + (0 + 0) ≤ length d + (end - at))
  unfolding flat_map
  cut_bounds =
      let σ = w.store in
      let h = w.holds in
      let x = take position (anchors σ) in
      let y = drop (suc position) (anchors σ) in
      let a = get_or (anchors σ) position σ.apex in
      let e = split_at (anchors σ) position σ.apex (omega (arith, w.inside)) in
      let z = cut_at σ x y a h e (length-take-le position (anchors σ) (omega (arith, w.inside))) in
      let i = inside_is σ d len h x y a e in
      let c = count_place σ d len h in (
        omega (arith, z.1),
        omega (arith, z.0),
        omega (arith, z.0, z.1),
        h.inside,
        omega (arith, h.inside),
      )

  pub cut_done : {r : ℕ} {d' : List ℕ}
      → (r ≡ length (recounted (take len d) count (items - 1) at (end - at) [])) × (d' ≡ placed d 0 (recounted (take len d) count (items - 1) at (end - at) []))
      → length d' ≡ length d
      → RemovesAnchor d len position r d'
  unfolding flat_map
  cut_done {r} {d'} f l =
      let s = recounted (take len d) count (items - 1) at (end - at) [] in
      record {
        room = l;
        cuts = λ σ x y a h e k g.
            let there : List ℕ → List ℕ =
            λ b. let o = place_of b position in recounted b (anchor_place b) (anchor_count b - 1) o (record_end b o - o) []
            in
            let i : s ≡ encode (with_others (x ++ y) σ) =
            ap₂ (λ (a b : ℕ). recounted (take len d) a (b - 1) at (end - at) []) p n
            ∙ ap₂ (λ (a b : ℕ). recounted (take len d) (anchor_place (take len d)) (anchor_count (take len d) - 1) a (b - a) []) q (m ∙ ap (record_end (take len d)) q)
            ∙ ap there h.image
            ∙ ap (λ (o : ℕ). recounted (encode σ) (anchor_place (encode σ)) (anchor_count (encode σ) - 1) o (record_end (encode σ) o - o) [])
            (ap (place_of (encode σ)) (sym k))
            ∙ remove_law σ h.valid x y a e
            in
            let fits : length s ≤ length d = omega (arith, ap length i, image-length σ (σ.apex ∷ x) (a ∷ y) (ap (λ (r : List Anchor). σ.apex ∷ r) e), image-length (with_others (x ++ y) σ) (σ.apex ∷ x) y refl, length-append (encode_anchor a) (flat_map encode_anchor y), size σ d len h, h.inside) in
            (written d s i g fits f.0 f.1).1;
      }
