-- The lists of an image: what a walk over their members finds at each turn, the lists themselves, and how much there is.
use Prim.Native.Nat.{ℕ, zero, suc, ◌+◌, ◌-◌, ◌*◌, ◌≤◌}
use native.Mathlib.Nat.{suc-mul, mul-le-mul_right}
use native.Mathlib.Omega.{arith}
use mathlib.Core.List.{List, [], ◌∷◌, ◌++◌, map, flat_map}
use mathlib.Core.Path.{◌≡◌, refl, sym, ap, ap₂, ◌∙◌}
use lib.ListN.{length, take, drop, length-append, length-take, length-drop}
use lib.Seq.{take_all}
use lib.Dec.{eqb}
use borrow.Author.Tests.{eqb-true, eqb-false}
use Rattle.octets.specs.Octets.{Octets, slice}
use Rattle.octets.proofs.Lists.{by_test}
use Rattle.der.specs.Write.{header, element}
use Rattle.anchor.specs.Info.{key_id_field}
use Rattle.store.specs.Records.{records_from, records_of}
use Rattle.store.specs.Contract.Parts.{anchor_place, anchor_count, first_record, record_end, record_at, info_in, identifier_in, name_end, names_from, community_place}
use Rattle.store.specs.Contract.Parts.{community_count, community_octets, communities_of, names_size}
use Rattle.store.proofs.Walk.{records_of_lem, records_turn, names_turn}
use Rattle.reply.specs.declared.Listed.{Listed}
use Rattle.reply.specs.declared.Listed.TheVariants.{Identifiers, Communities}
use Rattle.reply.specs.Replies.{list_of}
use Rattle.reply.specs.Contract.Parts.{element_size, rows_in, count_in, member_at, member_end, tag_of, contents_from, members_from, listed, identifier_parts}
use Rattle.reply.specs.Contract.Parts.{community_parts}
use Rattle.reply.proofs.Elements.{length-element, length_octets_lem, element_is}

-- what is listed is the store's
pub listed-identifiers : (image : List ℕ) → listed Identifiers image ≡ map identifier_in (records_of image)
unfolding contents_from
listed-identifiers image = ap (map identifier_in) (sym (records_of_lem image))

pub listed-communities : (image : List ℕ) → listed Communities image ≡ communities_of image
unfolding contents_from communities_of
listed-communities image = refl

pub identifiers-length : (image : List ℕ) → length (list_of 0x04 (listed Identifiers image)) ≡ length (identifier_parts image)
unfolding identifier_parts
identifiers-length image = ap (λ (l : List (List ℕ)). length (list_of 0x04 l)) (listed-identifiers image)

pub communities-length : (image : List ℕ) → length (list_of 0x06 (listed Communities image)) ≡ length (community_parts image)
unfolding community_parts
communities-length image = ap (λ (l : List (List ℕ)). length (list_of 0x06 l)) (listed-communities image)

none : (by : Listed) (s : List ℕ) → contents_from by 0 s ≡ []
unfolding contents_from records_from names_from
none Identifiers s = refl
none Communities s = refl

turn : (by : Listed) (s : List ℕ) (n p : ℕ) → contents_from by (suc n) (drop p s) ≡ member_at by s p ∷ contents_from by n (drop (member_end by s p) s)
unfolding contents_from
turn Identifiers s n p = ap (map identifier_in) (records_turn s n p)
turn Communities s n p = names_turn s n p

module _ (by : Listed) (s : List ℕ) where
  -- x is the member at place p, and e its end
  pub members_turn : (p left next : ℕ) {tag : ℕ} {x : List ℕ} {e : ℕ} → left ≡ suc next → tag ≡ tag_of by → x ≡ member_at by s p → e ≡ member_end by s p
      → members_from by left (drop p s) ≡ element tag x ++ members_from by next (drop e s)
  unfolding members_from flat_map
  members_turn p left next n w u v =
      ap (λ (k : ℕ). members_from by k (drop p s)) n
      ∙ ap (flat_map (element (tag_of by))) (turn by s next p)
      ∙ rw (w, u, v) refl

  pub members_end : (p left : ℕ) → left ≡ 0 → members_from by left (drop p s) ≡ []
  unfolding members_from flat_map
  members_end p left n = ap (λ (k : ℕ). members_from by k (drop p s)) n ∙ ap (flat_map (element (tag_of by))) (none by (drop p s))

  pub members_size : (p left next : ℕ) {x : List ℕ} {e : ℕ} → left ≡ suc next → x ≡ member_at by s p → e ≡ member_end by s p
      → length (members_from by left (drop p s)) ≡ element_size (length x) + length (members_from by next (drop e s))
  members_size p left next {x} {e} n u v =
      ap length (members_turn p left next n refl u v)
      ∙ length-append (element (tag_of by) x) (members_from by next (drop e s))
      ∙ ap (λ (k : ℕ). k + length (members_from by next (drop e s))) (length-element (tag_of by) x)

-- the octets from a place on
pub slice-rest : (s : List ℕ) (p : ℕ) → slice s p (length s) ≡ drop p s
slice-rest s p = take_all (length s - p) (drop p s) (omega (arith, length-drop p s))

slice_short : (s : List ℕ) (a e : ℕ) → length (slice s a e) ≤ length s
slice_short s a e = rw (length-take (e - a) (drop a s), length-drop a s) (omega arith)

-- a member is no longer than the octets in which it stands; those are no longer than the image, and their count is an octet
member_short : (by : Listed) (s : List ℕ) (p : ℕ) → length (member_at by s p) ≤ length s
member_short Identifiers s p =
    let r = record_at s p in
    let t = info_in r in
    let f = key_id_field t in
    omega (arith, slice_short t f.start f.stop, length-drop 11 r, slice_short s p (record_end s p))
member_short Communities s p = slice_short s (p + 1) (name_end s p)

rows_short : (by : Listed) (image : List ℕ) → length (rows_in by image) ≤ length image
unfolding community_octets
rows_short Identifiers image = omega (arith, length-drop (first_record image) image)
rows_short Communities image =
    let names = drop (community_place image + 1) image in
    let n = names_size (community_count image) names in
    let h : length (take n names) ≤ length names = rw (length-take n names) (omega arith) in
    omega (arith, h, length-drop (community_place image + 1) image)

few : (by : Listed) (image : List ℕ) → Octets image → count_in by image ≤ 255
unfolding anchor_count community_count
few Identifiers image o = omega (arith, o (anchor_place image))
few Communities image o = omega (arith, o (community_place image))

module _ (by : Listed) where
  members_bound : (s : List ℕ) (n p : ℕ) → length (members_from by n (drop p s)) ≤ n * (length s + 10)
  members_bound s zero p = omega (arith, ap length (members_end by s p 0 refl))
  members_bound s (suc n) p =
      let l = members_size by s p (suc n) n {x = member_at by s p} {e = member_end by s p} refl refl refl in
      let b = members_bound s n (member_end by s p) in
      omega (arith, l, b, member_short by s p, length_octets_lem (length (member_at by s p)), suc-mul n (length s + 10))

  -- a list: nothing where there are no members, else their element
  module _ (image : List ℕ) {n : ℕ} (u : n ≡ count_in by image) where
    abbrev list : List ℕ
    list = list_of (tag_of by) (listed by image)

    pub list-none : n ≡ 0 → list ≡ []
    unfolding list_of
    list-none e = ap (λ (k : ℕ). list_of (tag_of by) (contents_from by k (rows_in by image))) (sym u ∙ e) ∙ ap (list_of (tag_of by)) (none by (rows_in by image))

    list-some : (n ≡ 0 → ⊥) → {rows : List ℕ} → rows ≡ rows_in by image → list ≡ element 0x30 (members_from by n rows)
    unfolding list_of members_from
    list-some h {rows} v = ap₂ (λ (k : ℕ) (s : List ℕ). list_of (tag_of by) (contents_from by k s)) (sym u) (sym v) ∙ go n h
      where
        go : (n : ℕ) → (n ≡ 0 → ⊥) → list_of (tag_of by) (contents_from by n rows) ≡ element 0x30 (members_from by n rows)
        go zero h = absurd (h refl)
        go (suc n) h = ap (list_of (tag_of by)) (turn by rows n 0) ∙ ap (λ (l : List (List ℕ)). element 0x30 (flat_map (element (tag_of by)) l)) (sym (turn by rows n 0))

    -- .. by its header
    pub list-header : (n ≡ 0 → ⊥) → {rows : List ℕ} → rows ≡ rows_in by image → {k : ℕ} → k ≡ length (members_from by n rows) → list ≡ header 0x30 k ++ members_from by n rows
    list-header h {rows} v e = list-some h v ∙ element_is 0x30 (members_from by n rows) e

    -- its size, by that of its members
    pub list_length : (n ≡ 0 → ⊥) → {rows : List ℕ} → rows ≡ rows_in by image → length list ≡ element_size (length (members_from by n rows))
    list_length h {rows} v = ap length (list-some h v) ∙ length-element 0x30 (members_from by n rows)

  pub list_bound : (image : List ℕ) → Octets image → length (list_of (tag_of by) (listed by image)) ≤ 255 * (length image + 10) + 10
  list_bound image o =
      let n = count_in by image in
      let s = rows_in by image in
      by_test (eqb n 0)
      (λ e. omega (arith, ap length (list-none image {n = n} refl (eqb-true n 0 e))))
      (λ e.
      omega (
        arith,
        list_length image {n = n} refl (eqb-false n 0 e) {rows = s} refl,
        length_octets_lem (length (members_from by n s)),
        members_bound s n 0,
        rows_short by image,
        mul-le-mul_right (length s + 10) (few by image o),
      ))
