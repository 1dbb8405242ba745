-- The parts of an image (specs/Contract/Parts) are those of its store.
use Rattle.std.specs.Prelude.{Option, Some, None}
use Prim.Native.Nat.{ℕ, zero, suc, ◌+◌, ◌-◌, ◌<◌}
use native.Mathlib.Omega.{arith}
use mathlib.Core.Bool.{Bool, true, false, and-eq-true_iff}
use mathlib.Core.List.{List, [], ◌∷◌, ◌++◌, map, flat_map, append_assoc, map-map}
use mathlib.Core.Path.{◌≡◌, refl, sym, ap, ap₂, ◌∙◌}
use lib.ListN.{length, take, drop, get_or, length-map, length-append}
use lib.Seq.{drop-drop, drop_at, take_at}
use lib.Dec.{leb}
use borrow.Author.Tests.{leb-true}
use Rattle.octets.specs.Limits.{max_anchors}
use Rattle.octets.specs.Lists.{any_of}
use Rattle.octets.specs.Octets.{Octets, octet, slice}
use Rattle.octets.specs.Number.{number}
use Rattle.octets.proofs.Lists.{by_test}
use Rattle.octets.proofs.Number.{octets_drop}
use Rattle.store.specs.Store.{Device, Anchor, Store, anchors, identifier_of, identifiers}
use Rattle.store.specs.Image.{found, read_sized, read_times, read_device, read_anchor, read_device_section, read_anchor_section, read_community_section}
use Rattle.store.specs.Image.{read_store, decode, encode_name}
use Rattle.store.specs.Records.{records_from, records_of}
use Rattle.store.specs.Contract.Parts.{hw_type_in, serial_place, serial_in, anchor_place, anchor_count, first_record, record_end, record_at, record_place}
use Rattle.store.specs.Contract.Parts.{identifier_in, anchor_in, community_place, community_count, community_octets, names_from, names_size, communities_of, first_from}
use Rattle.store.proofs.Readers.{same-found, as_found, granted, passed, passes}
use Rattle.store.proofs.Formats.{listed, community_section}
use Rattle.store.proofs.RoundTrip.{alone-found}
use Rattle.store.proofs.Walk.{records_turn, records_of_lem, first_octet, names_cut, first_here, first_later}
use Rattle.store.proofs.Taken.{octet_taken, name_taken, names_taken, Anchors, anchors_taken}

-- what the readers found at a place

name_place : (most : ℕ) (s : List ℕ) (p : ℕ) (o t : List ℕ) → read_sized 1 most (drop p s) ≡ found o t
    → (o ≡ slice s (p + 1) (p + 1 + octet s p)) × (t ≡ drop (p + 1 + octet s p) s)
name_place most s p o t e =
    let h = name_taken most (drop p s) o t e in
    let n = octet s p in
    let z : n ≡ p + 1 + n - (p + 1) = omega arith in
    let j : p + (1 + n) ≡ p + 1 + n = omega arith in (
      h.0 ∙ ap₂ take (first_octet s p ∙ z) (drop-drop 1 p s),
      h.1 ∙ ap (λ (m : ℕ). drop (1 + m) (drop p s)) (first_octet s p) ∙ drop-drop (1 + n) p s ∙ ap (λ (m : ℕ). drop m s) j,
    )

count_place : (s : List ℕ) (p n : ℕ) (t : List ℕ) → n ≡ octet (drop p s) 0 → t ≡ drop 1 (drop p s) → (n ≡ octet s p) × (t ≡ drop (p + 1) s)
count_place s p n t e f = (e ∙ first_octet s p, f ∙ drop-drop 1 p s)

record DevicePlace (image : List ℕ) (d : Device) (t : List ℕ) : Type 0 where
  hw_type : hw_type_in image ≡ d.hw_type
  serial : serial_in image ≡ d.serial
  rest : t ≡ drop (anchor_place image) image

device_place : (image : List ℕ) (d : Device) (t : List ℕ) → read_device_section image ≡ found d t → DevicePlace image d t
unfolding read_device_section read_device hw_type_in serial_in
device_place image d t e =
    let p = passed _ _ _ e in
    let g = granted _ _ _ _ p.second in
    let c = octet_taken image p.value p.after p.first in
    let v = passed _ _ _ g.1 in
    let w = passed _ _ _ v.second in
    let h = granted _ _ _ _ w.second in
    let i = name_place _ image 1 v.value v.after (sym (ap (read_sized 1 _) c.1) ∙ v.first) in
    let j = name_place _ image (serial_place image) w.value w.after (sym (ap (read_sized 1 _) i.1) ∙ w.first) in
    as_found (DevicePlace image) _ _ _ _ h.1 (record { hw_type = sym i.0; serial = sym j.0; rest = j.1 })

anchors_place : (s : List ℕ) (p : ℕ) (b : Anchor × List Anchor) (t : List ℕ) → read_anchor_section (drop p s) ≡ found b t
    → Anchors s (p + 1) (octet s p) (listed b) t
unfolding read_anchor_section read_times
anchors_place s p b t e =
    let u = passed _ _ _ e in
    let v = passed _ _ _ u.second in
    let w = passed _ _ _ v.second in
    let g = granted _ _ _ _ v.first in
    let h = granted _ _ _ _ w.second in
    let o = octet_taken (drop p s) u.value u.after u.first in
    let c = count_place s p u.value u.after o.0 o.1 in
    let k = (and-eq-true_iff (leb 1 u.value) (leb u.value max_anchors)).0 g.0 in
    let n : octet s p ≡ suc (u.value - 1) = omega (arith, leb-true 1 u.value k.0, c.0) in
    let encoding : read_times (suc (u.value - 1)) read_anchor u.after ≡ found (v.value ∷ w.value) w.after =
    passes _ _ _ _ g.1 ∙ passes _ _ _ _ w.first
    in
    as_found (λ b t. Anchors s (p + 1) (octet s p) (listed b) t) _ _ _ _ h.1
    (anchors_taken s (octet s p) (p + 1) _ _ (ap₂ (λ (m : ℕ) (r : List ℕ). read_times m read_anchor r) n (sym c.1) ∙ encoding))

communities_place : (s : List ℕ) (p : ℕ) (l : List (List ℕ)) (t : List ℕ) → read_community_section (drop p s) ≡ found l t
    → names_from (octet s p) (take (names_size (octet s p) (drop (p + 1) s)) (drop (p + 1) s)) ≡ l
unfolding read_community_section
communities_place s p l t e =
    let u = passed _ _ _ e in
    let v = passed _ _ _ u.second in
    let g = granted _ _ _ _ v.first in
    let h = granted _ _ _ _ v.second in
    let o = octet_taken (drop p s) u.value u.after u.first in
    let c = count_place s p u.value u.after o.0 o.1 in
    names_cut (octet s p) (drop (p + 1) s)
    ∙ sym (ap₂ names_from c.0 c.1)
    ∙ sym (names_taken u.value u.after v.value v.after g.1)
    ∙ (same-found _ _ _ _ h.1).0

-- the communities' octets end where the last one does
pub sizes_are : (l : List (List ℕ)) (t : List ℕ) → names_size (length l) (flat_map encode_name l ++ t) ≡ length (flat_map encode_name l)
unfolding names_size flat_map
sizes_are [] t = refl
sizes_are (c ∷ l) t =
    let r = flat_map encode_name l in
    let z : 1 + length c ≡ suc (length c) = omega arith in
    let d : drop (1 + length c) (encode_name c ++ r ++ t) ≡ r ++ t =
    ap (λ (k : ℕ). drop k (encode_name c ++ r ++ t)) z ∙ ap (drop (length c)) (append_assoc c r t) ∙ drop_at c (r ++ t) (length c) refl
    in
    let n = ap (names_size (length l)) d ∙ sizes_are l t in
    omega (arith, n, length-append c r)

communities_octets : (s : List ℕ) (p : ℕ) (l : List (List ℕ)) (t : List ℕ) → read_community_section (drop p s) ≡ found l t → Octets s
    → take (names_size (octet s p) (drop (p + 1) s)) (drop (p + 1) s) ≡ flat_map encode_name l
communities_octets s p l t e o =
    let w = (community_section.was (drop p s) l t e).back (octets_drop s p o) in
    let r = flat_map encode_name l in
    let n : octet s p ≡ length l = sym (first_octet s p) ∙ sym (ap (λ (b : List ℕ). octet b 0) w) in
    let b : drop (p + 1) s ≡ r ++ t = sym (drop-drop 1 p s) ∙ sym (ap (drop 1) w) in
    ap₂ (λ (m : ℕ) (b : List ℕ). take (names_size m b) b) n b ∙ take_at r t (names_size (length l) (r ++ t)) (sym (sizes_are l t))

-- An image that breaks no rule, and its store

pub record PartsOf (image : List ℕ) (σ : Store) : Type 0 where
  pub hw_type : hw_type_in image ≡ σ.device.hw_type
  pub serial : serial_in image ≡ σ.device.serial
  pub anchors_are : map anchor_in (records_of image) ≡ anchors σ
  pub communities : communities_of image ≡ σ.communities
  pub octets : Octets image → community_octets image ≡ flat_map encode_name σ.communities

pub parts : (image : List ℕ) (σ : Store) → decode image ≡ Some σ → PartsOf image σ
unfolding decode read_store anchor_count first_record community_place community_count community_octets communities_of
parts image σ e =
    let all = alone-found (read_store image) σ e in
    let p = passed _ _ _ all in
    let q = passed _ _ _ p.second in
    let r = passed _ _ _ q.second in
    let z = same-found _ _ _ _ r.second in
    let d = device_place image p.value p.after p.first in
    let a = anchors_place image (anchor_place image) q.value q.after (sym (ap read_anchor_section d.rest) ∙ q.first) in
    let c : read_community_section (drop (community_place image) image) ≡ found r.value [] =
    sym (ap read_community_section a.rest) ∙ r.first ∙ ap (found r.value) z.1
    in
    as_found (λ σ t. PartsOf image σ) _ _ _ _ r.second
    (record {
      hw_type = d.hw_type;
      serial = d.serial;
      anchors_are = ap (map anchor_in) (records_of_lem image) ∙ a.are;
      communities = communities_place image (community_place image) r.value [] c;
      octets = communities_octets image (community_place image) r.value [] c;
    })

-- whatever is asked of each record is asked of its anchor: the TrustAnchorInfos, numbers, identifiers and public keys of an image are those of its store
pub of_anchors : {B : Type 0} (f : Anchor → B) (image : List ℕ) (σ : Store) → decode image ≡ Some σ → map (λ r. f (anchor_in r)) (records_of image) ≡ map f (anchors σ)
of_anchors f image σ e = sym (map-map f anchor_in (records_of image)) ∙ ap (map f) (parts image σ e).anchors_are

module _ (image : List ℕ) (σ : Store) (e : decode image ≡ Some σ) where
  pub identifiers_of : map identifier_in (records_of image) ≡ identifiers σ
  identifiers_of = of_anchors identifier_of image σ e

-- counts

pub records_count : (n : ℕ) (s : List ℕ) → length (records_from n s) ≡ n
unfolding records_from
records_count zero s = refl
records_count (suc n) s = ap suc (records_count n (drop (11 + number (slice s 9 11)) s))

names_count : (n : ℕ) (s : List ℕ) → length (names_from n s) ≡ n
unfolding names_from
names_count zero s = refl
names_count (suc n) s = ap suc (names_count n (drop (1 + octet s 0) s))

pub count_of_anchors : (image : List ℕ) (σ : Store) → decode image ≡ Some σ → anchor_count image ≡ length (anchors σ)
count_of_anchors image σ e =
    sym (ap length (records_of_lem image) ∙ records_count (anchor_count image) (drop (first_record image) image))
    ∙ sym (length-map (records_of image) anchor_in)
    ∙ ap length (parts image σ e).anchors_are

pub count_of_communities : (image : List ℕ) (σ : Store) → decode image ≡ Some σ → community_count image ≡ length σ.communities
unfolding communities_of
count_of_communities image σ e = sym (names_count (community_count image) (community_octets image)) ∙ ap length (parts image σ e).communities

-- a record by its position
pub at_position : (s : List ℕ) (n p i : ℕ) → i < n → get_or (records_from n (drop p s)) i [] ≡ record_at s (record_place s p i)
unfolding record_place
at_position s zero p i h = absurd (omega arith)
at_position s (suc n) p zero h = ap (λ (l : List (List ℕ)). get_or l 0 []) (records_turn s n p)
at_position s (suc n) p (suc i) h = ap (λ (l : List (List ℕ)). get_or l (suc i) []) (records_turn s n p) ∙ at_position s n (record_end s p) i (omega arith)

pub record_at_position : (image : List ℕ) (i : ℕ) → i < anchor_count image → get_or (records_of image) i [] ≡ record_at image (record_place image (first_record image) i)
record_at_position image i h =
    ap (λ (l : List (List ℕ)). get_or l i []) (records_of_lem image) ∙ at_position image (anchor_count image) (first_record image) i h

-- a search finds a position, or no member passes
abbrev pub is_at : Option ℕ → Bool
is_at (Some i) = true
is_at None = false

module _ {A : Type 0} (p : A → Bool) where
  pub first_any : (i : ℕ) (l : List A) → is_at (first_from i p l) ≡ any_of p l
  unfolding any_of first_from
  first_any i [] = refl
  first_any i (x ∷ l) =
      by_test (p x)
      (λ e. ap is_at (first_here p i x l e) ∙ rw e)
      (λ e. ap is_at (first_later p i x l e) ∙ first_any (suc i) l ∙ rw e)
