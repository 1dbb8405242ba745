-- The formats of the image's parts (01, The store image): for each the reader and the writer of specs/Image, and the test that a well-formed store passes.
use Rattle.std.specs.Option.{option_map_or}
use Rattle.std.specs.Prelude.{Option, Some, None}
use Prim.Native.Nat.{ℕ, suc, ◌-◌, ◌^◌, ◌≤◌, ◌<◌}
use native.Mathlib.Omega.{arith}
use mathlib.Core.Bool.{Bool, true, false, ◌&&◌, ◌||◌, and-eq-true_iff}
use mathlib.Core.List.{List, [], ◌∷◌, ◌++◌, map, flat_map, append_assoc, append-nil}
use mathlib.Core.Path.{◌≡◌, refl, sym, ap, ◌∙◌}
use lib.ListN.{length}
use lib.Dec.{leb, eqb, lit<}
use borrow.Author.Tests.{leb-true, le-leb, eqb-true, eqb-false}
use Rattle.octets.specs.Limits.{max_anchors, max_communities, max_name_octets, max_anchor_octets, max_number}
use Rattle.octets.specs.Lists.{all_of}
use Rattle.octets.specs.Octets.{Octets, distinct}
use Rattle.octets.specs.Number.{big_endian}
use Rattle.octets.proofs.Lists.{by_test, both}
use Rattle.der.specs.Contents.{oid_ok}
use Rattle.anchor.specs.Judge.{storable}
use Rattle.store.specs.Store.{Device, Anchor, Store, anchors, public_key_of}
use Rattle.store.specs.Image.{found, provided, pass_on, read_number, read_sized, encode_name, encode_number, encode_anchor, encode_section, encode_device}
use Rattle.store.specs.Image.{encode, read_device, present_number, number_ok, read_anchor, read_community, read_device_section, read_anchor_section}
use Rattle.store.specs.Image.{read_community_section, read_store, name_ok, anchor_ok, well_formed}
use Rattle.store.proofs.Readers.{as_found, granted, passed, in_turn, Was, Format, number_read, number-found, octet_read, octet-found}
use Rattle.store.proofs.Readers.{octet-big_endian, size_ok, write_sized, sized_read, sized_was, times_read, times_found, section_ok, section_parts}
use Rattle.store.proofs.Readers.{section_ok_lem, section}
use Rattle.store.proofs.Storable.{storable_size}

-- hwType, serial, a community

-- a length of one octet is its octet
name_sized : (o rest : List ℕ) → name_ok o ≡ true → encode_name o ++ rest ≡ write_sized 1 o ++ rest
unfolding name_ok
name_sized o rest g =
    let h = (and-eq-true_iff (leb 1 (length o)) (leb (length o) max_name_octets)).0 g in
    let l : length o < 256 = omega (arith, leb-true (length o) max_name_octets h.1) in
    ap (λ (n : List ℕ). n ++ o ++ rest) (sym (octet-big_endian (length o) l))

pub name : Format (read_sized 1 max_name_octets) encode_name name_ok
unfolding name_ok
name = record {
  reads = λ o rest g. rw (name_sized o rest g) (sized_read 1 max_name_octets (lit< tt) o rest g);
  was = λ s o rest e.
      let w = sized_was 1 max_name_octets s o rest e in
      record { valid = w.valid; back = λ v. name_sized o rest w.valid ∙ w.back v };
}

abbrev pub community_ok : List ℕ → Bool
community_ok c = name_ok c && oid_ok c

community_read : (o rest : List ℕ) → community_ok o ≡ true → read_community (encode_name o ++ rest) ≡ found o rest
unfolding read_community pass_on provided
community_read o rest g =
    let h = (and-eq-true_iff (name_ok o) (oid_ok o)).0 g in
    rw (name.reads o rest h.0, h.1)

community_was : (s o rest : List ℕ) → read_community s ≡ found o rest → Was encode_name community_ok s o rest
unfolding read_community
community_was s o rest e =
    let p = passed _ _ _ e in
    let g = granted _ _ _ _ p.second in
    let w = name.was s p.value p.after p.first in
    as_found (Was encode_name community_ok s) _ _ _ _ g.1 (record { valid = both w.valid g.0; back = w.back })

pub community : Format read_community encode_name community_ok
community = record { reads = community_read; was = community_was }

pub community_section : Format read_community_section (encode_section encode_name) (section_ok community_ok max_communities distinct)
unfolding read_community_section
community_section = section read_community encode_name community_ok community max_communities distinct

-- Device

abbrev pub device_ok : Device → Bool
device_ok d = name_ok d.hw_type && oid_ok d.hw_type && name_ok d.serial

pub device_parts : (d : Device) → device_ok d ≡ true → (name_ok d.hw_type ≡ true) × (oid_ok d.hw_type ≡ true) × (name_ok d.serial ≡ true)
device_parts d g =
    let h = (and-eq-true_iff (name_ok d.hw_type && oid_ok d.hw_type) (name_ok d.serial)).0 g in
    let k = (and-eq-true_iff (name_ok d.hw_type) (oid_ok d.hw_type)).0 h.0 in
    (k.0, k.1, h.1)

abbrev pub write_device : Device → List ℕ
write_device d = encode_section encode_device (d ∷ [])

device_read : (d : Device) (rest : List ℕ) → device_ok d ≡ true → read_device (encode_device d ++ rest) ≡ found d rest
unfolding read_device encode_device pass_on provided
device_read d rest g =
    let h = device_parts d g in
    rw (
      append_assoc d.hw_type (encode_name d.serial) rest,
      name.reads d.hw_type (encode_name d.serial ++ rest) h.0,
      name.reads d.serial rest h.2,
      h.1,
    )

device_was : (s : List ℕ) (d : Device) (rest : List ℕ) → read_device s ≡ found d rest → Was encode_device device_ok s d rest
unfolding read_device encode_device
device_was s d rest e =
    let p = passed _ _ _ e in
    let q = passed _ _ _ p.second in
    let g = granted _ _ _ _ q.second in
    let v = name.was s p.value p.after p.first in
    let w = name.was p.after q.value q.after q.first in
    as_found (Was encode_device device_ok s) _ _ _ _ g.1
    (record {
      valid = both (both v.valid g.0) w.valid;
      back = λ o. in_turn (encode_name p.value) (encode_name q.value) q.after p.after s (v.back o) w.back o;
    })

-- its section: count 1
write_device_lem : (d : Device) (rest : List ℕ) → write_device d ++ rest ≡ 1 ∷ (encode_device d ++ rest)
unfolding flat_map
write_device_lem d rest = ap (λ (t : List ℕ). 1 ∷ (t ++ rest)) (append-nil (encode_device d))

device_section_read : (d : Device) (rest : List ℕ) → device_ok d ≡ true → read_device_section (write_device d ++ rest) ≡ found d rest
unfolding read_device_section pass_on provided
device_section_read d rest g = rw (write_device_lem d rest, octet_read 1 (encode_device d ++ rest)) (device_read d rest g)

device_section_was : (s : List ℕ) (d : Device) (rest : List ℕ) → read_device_section s ≡ found d rest → Was write_device device_ok s d rest
unfolding read_device_section
device_section_was s d rest e =
    let p = passed _ _ _ e in
    let g = granted _ _ _ _ p.second in
    let c = octet-found s p.value p.after p.first in
    let w = device_was p.after d rest g.1 in
    record {
      valid = w.valid;
      back = λ o. write_device_lem d rest ∙ in_turn (1 ∷ []) (encode_device d) rest p.after s (rw (eqb-true p.value 1 g.0) at c) w.back o;
    }

pub device_section : Format read_device_section write_device device_ok
device_section = record { reads = device_section_read; was = device_section_was }

-- An anchor

-- "number present (0 or 1), number (.. zero if absent)": what the two octet strings give, and what it is written as
pub record Numbered (present n : ℕ) : Type 0 where
  pub valid : option_map_or (λ m. leb m max_number) (present_number present n) true ≡ true
  pub back : encode_number (present_number present n) ≡ present ∷ big_endian 8 n

pub numbered : (present n : ℕ) → number_ok present n ≡ true → Numbered present n
unfolding number_ok present_number encode_number
numbered present n g =
    let h = (and-eq-true_iff (leb present 1 && leb n max_number) (eqb present 1 || eqb n 0)).0 g in
    let k = (and-eq-true_iff (leb present 1) (leb n max_number)).0 h.0 in
    by_test (eqb present 1)
    (λ e. rw (eqb-true present 1 e) (record { valid = k.1; back = refl }))
    (λ e.
    let z : present ≡ 0 = omega (arith, leb-true present 1 k.0, eqb-false present 1 e) in
    rw (z, eqb-true n 0 (rw e at h.1)) (record { valid = refl; back = refl }))

number_was : (present n : ℕ) (s t rest : List ℕ) → present ∷ t ≡ s → read_number 8 t ≡ found n rest → number_ok present n ≡ true → Octets s
    → encode_number (present_number present n) ++ rest ≡ s
number_was present n s t rest c e g o =
    ap (λ (m : List ℕ). m ++ rest) (numbered present n g).back ∙ in_turn (present ∷ []) (big_endian 8 n) rest t s c (number-found 8 t n rest e) o

-- a TrustAnchorInfo that may be stored has a length that may be read, and a number that may be stored fits its 8 octets
info_sized : (info : List ℕ) → storable info ≡ true → size_ok max_anchor_octets info ≡ true
info_sized info h =
    let l = storable_size info h in
    both (le-leb 1 (length info) l.0) (le-leb (length info) max_anchor_octets l.1)

number_small : (present n : ℕ) → number_ok present n ≡ true → n < 256 ^ 8
unfolding number_ok
number_small present n g =
    let h = (and-eq-true_iff (leb present 1 && leb n max_number) (eqb present 1 || eqb n 0)).0 g in
    let k = (and-eq-true_iff (leb present 1) (leb n max_number)).0 h.0 in
    omega (arith, leb-true n max_number k.1)

-- a record, from the two octet strings of its number
pub record_read : (present n : ℕ) (info rest : List ℕ) → number_ok present n ≡ true → storable info ≡ true
    → read_anchor (present ∷ (big_endian 8 n ++ (write_sized 2 info ++ rest))) ≡ found (record { number = present_number present n; info = info }) rest
unfolding read_anchor pass_on provided
record_read present n info rest g h =
    let b : n < 256 ^ 8 = number_small present n g in
    rw (
      octet_read present (big_endian 8 n ++ (write_sized 2 info ++ rest)),
      number_read 8 n (write_sized 2 info ++ rest) b,
      sized_read 2 max_anchor_octets (lit< tt) info rest (info_sized info h),
      g,
      h,
    )

anchor_read : (o : Option ℕ) (info rest : List ℕ) → anchor_ok (record { number = o; info = info }) ≡ true
    → read_anchor (encode_anchor (record { number = o; info = info }) ++ rest) ≡ found (record { number = o; info = info }) rest
unfolding anchor_ok encode_anchor encode_number number_ok present_number
anchor_read None info rest g =
    rw (append_assoc (big_endian 8 0) (write_sized 2 info) rest) (record_read 0 0 info rest refl g)
anchor_read (Some n) info rest g =
    let h = (and-eq-true_iff (leb n max_number) (storable info)).0 g in
    rw (append_assoc (big_endian 8 n) (write_sized 2 info) rest) (record_read 1 n info rest (both h.0 refl) h.1)

anchor_was : (s : List ℕ) (a : Anchor) (rest : List ℕ) → read_anchor s ≡ found a rest → Was encode_anchor anchor_ok s a rest
unfolding anchor_ok read_anchor encode_anchor
anchor_was s a rest e =
    let p = passed _ _ _ e in
    let q = passed _ _ _ p.second in
    let r = passed _ _ _ q.second in
    let g = granted _ _ _ _ r.second in
    let h = (and-eq-true_iff (number_ok p.value q.value) (storable r.value)).0 g.0 in
    let c = octet-found s p.value p.after p.first in
    let w = sized_was 2 max_anchor_octets q.after r.value r.after r.first in
    as_found (Was encode_anchor anchor_ok s) _ _ _ _ g.1
    (record {
      valid = both (numbered p.value q.value h.0).valid h.1;
      back = λ o.
          in_turn (encode_number (present_number p.value q.value)) (write_sized 2 r.value) r.after q.after s
          (number_was p.value q.value s p.after q.after c q.first h.0 o)
          w.back
          o;
    })

pub anchor : Format read_anchor encode_anchor anchor_ok
anchor = record { reads = λ a rest. anchor_read a.number a.info rest; was = anchor_was }

-- Anchors, the apex first

-- "Public keys .. differ pairwise"
abbrev pub apart : List Anchor → Bool
apart l = distinct (map public_key_of l)

abbrev pub anchors_ok : List Anchor → Bool
anchors_ok = section_ok anchor_ok max_anchors apart

abbrev pub listed : Anchor × List Anchor → List Anchor
listed b = b.0 ∷ b.1

abbrev pub write_anchors : Anchor × List Anchor → List ℕ
write_anchors b = encode_section encode_anchor (listed b)

anchor_section_read : (b : Anchor × List Anchor) (rest : List ℕ) → anchors_ok (listed b) ≡ true → read_anchor_section (write_anchors b ++ rest) ≡ found b rest
unfolding read_anchor_section pass_on provided flat_map all_of
anchor_section_read b rest g =
    let h = section_parts anchor_ok max_anchors apart (listed b) g in
    let a = (and-eq-true_iff (anchor_ok b.0) (all_of anchor_ok b.1)).0 h.1 in
    let n : suc (length b.1) - 1 ≡ length b.1 = omega arith in
    rw (
      octet_read (suc (length b.1)) (flat_map encode_anchor (listed b) ++ rest),
      both (le-leb 1 (suc (length b.1)) (omega arith)) (le-leb (suc (length b.1)) max_anchors h.0),
      append_assoc (encode_anchor b.0) (flat_map encode_anchor b.1) rest,
      anchor.reads b.0 (flat_map encode_anchor b.1 ++ rest) a.0,
      n,
      times_read read_anchor encode_anchor anchor_ok anchor b.1 rest a.1,
      h.2,
    )

anchor_section_was : (s : List ℕ) (b : Anchor × List Anchor) (rest : List ℕ) → read_anchor_section s ≡ found b rest
    → Was write_anchors (λ b. anchors_ok (listed b)) s b rest
unfolding read_anchor_section flat_map all_of
anchor_section_was s b rest e =
    let p = passed _ _ _ e in
    let q = passed _ _ _ p.second in
    let r = passed _ _ _ q.second in
    let g = granted _ _ _ _ q.first in
    let h = granted _ _ _ _ r.second in
    let c = octet-found s p.value p.after p.first in
    let k = (and-eq-true_iff (leb 1 p.value) (leb p.value max_anchors)).0 g.0 in
    let a = anchor.was p.after q.value q.after g.1 in
    let t = times_found read_anchor encode_anchor anchor_ok anchor (p.value - 1) q.after r.value r.after r.first in
    let l : p.value ≡ suc (length r.value) = omega (arith, t.count, leb-true 1 p.value k.0) in
    let m : leb (suc (length r.value)) max_anchors ≡ true = rw l at k.1 in
    as_found (Was write_anchors (λ b. anchors_ok (listed b)) s) _ _ _ _ h.1
    (record {
      valid = both (both m (both a.valid t.valid)) h.0;
      back =
          in_turn (suc (length r.value) ∷ []) (flat_map encode_anchor (q.value ∷ r.value)) r.after p.after s (rw l at c)
          (λ v. in_turn (encode_anchor q.value) (flat_map encode_anchor r.value) r.after q.after p.after (a.back v) t.back v);
    })

pub anchor_section : Format read_anchor_section write_anchors (λ b. anchors_ok (listed b))
anchor_section = record { reads = anchor_section_read; was = anchor_section_was }

-- The store

abbrev pub communities_ok : List (List ℕ) → Bool
communities_ok = section_ok community_ok max_communities distinct

-- three more tests, as one
three : (x a b c : Bool) → x && a && b && c ≡ x && (a && b && c)
three true a b c = refl
three false a b c = refl

-- well-formed: each section under its rules
pub well_formed_sections : (σ : Store) → well_formed σ ≡ device_ok σ.device && anchors_ok (anchors σ) && communities_ok σ.communities
unfolding well_formed
well_formed_sections σ =
    three (device_ok σ.device && leb (length (anchors σ)) max_anchors && all_of anchor_ok (anchors σ) && apart (anchors σ))
    (leb (length σ.communities) max_communities) (all_of community_ok σ.communities) (distinct σ.communities)
    ∙ ap (λ (b : Bool). b && communities_ok σ.communities)
    (three (device_ok σ.device) (leb (length (anchors σ)) max_anchors) (all_of anchor_ok (anchors σ)) (apart (anchors σ)))

pub sections : (σ : Store) → well_formed σ ≡ true → (device_ok σ.device ≡ true) × (anchors_ok (anchors σ) ≡ true) × (communities_ok σ.communities ≡ true)
sections σ g =
    let h = (and-eq-true_iff (device_ok σ.device && anchors_ok (anchors σ)) (communities_ok σ.communities)).0 (sym (well_formed_sections σ) ∙ g) in
    let k = (and-eq-true_iff (device_ok σ.device) (anchors_ok (anchors σ))).0 h.0 in
    (k.0, k.1, h.1)

pub from_sections : (σ : Store) → device_ok σ.device ≡ true → anchors_ok (anchors σ) ≡ true → communities_ok σ.communities ≡ true → well_formed σ ≡ true
from_sections σ d a c = well_formed_sections σ ∙ both (both d a) c

-- the rules one by one
pub record WellFormed (σ : Store) : Type 0 where
  pub hw_type : name_ok σ.device.hw_type ≡ true
  pub hw_type_oid : oid_ok σ.device.hw_type ≡ true
  pub serial : name_ok σ.device.serial ≡ true
  pub anchor_count_lem : length (anchors σ) ≤ max_anchors
  pub each_anchor : all_of anchor_ok (anchors σ) ≡ true
  pub keys : apart (anchors σ) ≡ true
  pub community_count : length σ.communities ≤ max_communities
  pub each_community : all_of community_ok σ.communities ≡ true
  pub communities : distinct σ.communities ≡ true

pub rules : (σ : Store) → well_formed σ ≡ true → WellFormed σ
rules σ g =
    let h = sections σ g in
    let d = device_parts σ.device h.0 in
    let a = section_parts anchor_ok max_anchors apart (anchors σ) h.1 in
    let c = section_parts community_ok max_communities distinct σ.communities h.2 in
    record {
      hw_type = d.0;
      hw_type_oid = d.1;
      serial = d.2;
      anchor_count_lem = a.0;
      each_anchor = a.1;
      keys = a.2;
      community_count = c.0;
      each_community = c.1;
      communities = c.2;
    }

pub from_rules : (σ : Store) → WellFormed σ → well_formed σ ≡ true
from_rules σ p =
    from_sections σ
    (both (both p.hw_type p.hw_type_oid) p.serial)
    (section_ok_lem anchor_ok max_anchors apart (anchors σ) p.anchor_count_lem p.each_anchor p.keys)
    (section_ok_lem community_ok max_communities distinct σ.communities p.community_count p.each_community p.communities)

store_read : (σ : Store) (rest : List ℕ) → well_formed σ ≡ true → read_store (encode σ ++ rest) ≡ found σ rest
unfolding read_store encode pass_on
store_read σ rest g =
    let p = sections σ g in
    let a = encode_section encode_anchor (anchors σ) in
    let c = encode_section encode_name σ.communities in
    rw (
      append_assoc (write_device σ.device) (a ++ c) rest,
      append_assoc a c rest,
      device_section.reads σ.device (a ++ (c ++ rest)) p.0,
      anchor_section.reads (σ.apex, σ.others) (c ++ rest) p.1,
      community_section.reads σ.communities rest p.2,
    )

store_was : (s : List ℕ) (σ : Store) (rest : List ℕ) → read_store s ≡ found σ rest → Was encode well_formed s σ rest
unfolding read_store encode
store_was s σ rest e =
    let p = passed _ _ _ e in
    let q = passed _ _ _ p.second in
    let r = passed _ _ _ q.second in
    let d = device_section.was s p.value p.after p.first in
    let a = anchor_section.was p.after q.value q.after q.first in
    let c = community_section.was q.after r.value r.after r.first in
    let w = encode_section encode_name r.value in
    as_found (Was encode well_formed s) _ _ _ _ r.second
    (record {
      valid = from_sections _ d.valid a.valid c.valid;
      back = λ o.
          in_turn (write_device p.value) (write_anchors q.value ++ w) r.after p.after s (d.back o)
          (λ v. in_turn (write_anchors q.value) w r.after q.after p.after (a.back v) c.back v)
          o;
    })

pub store : Format read_store encode well_formed
store = record { reads = store_read; was = store_was }
