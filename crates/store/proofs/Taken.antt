-- What the readers of the image found, by its place: the octets taken, and what is after them.
use Prim.Native.Nat.{ℕ, zero, suc, ◌+◌, ◌-◌}
use native.Mathlib.Nat.{zero-add}
use native.Mathlib.Omega.{arith}
use mathlib.Core.List.{List, [], ◌∷◌, map}
use mathlib.Core.Path.{◌≡◌, refl, sym, ap, ap₂, ◌∙◌}
use lib.ListN.{take, drop}
use lib.Seq.{drop-drop, get_or-take, take-take}
use Rattle.octets.specs.Octets.{octet}
use Rattle.octets.specs.Number.{number, number_from}
use Rattle.store.specs.Store.{Anchor}
use Rattle.store.specs.Image.{found, read_octets, read_number, read_sized, read_times, read_anchor, read_community, present_number}
use Rattle.store.specs.Records.{records_from}
use Rattle.store.specs.Contract.Parts.{record_end, record_place, info_in, number_in, anchor_in, names_from}
use Rattle.store.proofs.Readers.{same-found, granted, passed}
use Rattle.store.proofs.Walk.{cut_take, cut_drop, drop-take, records_turn}

pub octets_taken : (n : ℕ) (s o t : List ℕ) → read_octets n s ≡ found o t → (o ≡ take n s) × (t ≡ drop n s)
unfolding read_octets
octets_taken n s o t e =
    let g = granted _ _ _ _ e in
    let p = same-found _ _ _ _ g.1 in
    (sym p.0, sym p.1)

pub number_taken : (k : ℕ) (s : List ℕ) (n : ℕ) (t : List ℕ) → read_number k s ≡ found n t → (n ≡ number (take k s)) × (t ≡ drop k s)
unfolding read_number
number_taken k s n t e =
    let p = passed _ _ _ e in
    let q = same-found _ _ _ _ p.second in
    let o = octets_taken k s p.value p.after p.first in
    (sym q.0 ∙ ap number o.0, sym q.1 ∙ o.1)

octet-number : (s : List ℕ) → number (take 1 s) ≡ octet s 0
unfolding number_from
octet-number [] = refl
octet-number (x ∷ s) = zero-add x

pub octet_taken : (s : List ℕ) (n : ℕ) (t : List ℕ) → read_number 1 s ≡ found n t → (n ≡ octet s 0) × (t ≡ drop 1 s)
octet_taken s n t e =
    let h = number_taken 1 s n t e in
    (h.0 ∙ octet-number s, h.1)

pub sized_taken : (k most : ℕ) (s o t : List ℕ) → read_sized k most s ≡ found o t
    → (o ≡ take (number (take k s)) (drop k s)) × (t ≡ drop (k + number (take k s)) s)
unfolding read_sized
sized_taken k most s o t e =
    let p = passed _ _ _ e in
    let n = number_taken k s p.value p.after p.first in
    let g = granted _ _ _ _ p.second in
    let h = octets_taken p.value p.after o t g.1 in
    (h.0 ∙ ap₂ take n.0 n.1, h.1 ∙ ap₂ drop n.0 n.1 ∙ drop-drop (number (take k s)) k s)

-- a name: its length octet, and so many octets
pub name_taken : (most : ℕ) (s o t : List ℕ) → read_sized 1 most s ≡ found o t → (o ≡ take (octet s 0) (drop 1 s)) × (t ≡ drop (1 + octet s 0) s)
name_taken most s o t e =
    let h = sized_taken 1 most s o t e in
    let n = octet-number s in
    (h.0 ∙ ap (λ (k : ℕ). take k (drop 1 s)) n, h.1 ∙ ap (λ (k : ℕ). drop (1 + k) s) n)

pub community_taken : (s o t : List ℕ) → read_community s ≡ found o t → (o ≡ take (octet s 0) (drop 1 s)) × (t ≡ drop (1 + octet s 0) s)
unfolding read_community
community_taken s o t e =
    let p = passed _ _ _ e in
    let g = granted _ _ _ _ p.second in
    let q = same-found _ _ _ _ g.1 in
    let h = name_taken _ s p.value p.after p.first in
    (sym q.0 ∙ h.0, sym q.1 ∙ h.1)

pub names_taken : (n : ℕ) (s : List ℕ) (l : List (List ℕ)) (t : List ℕ) → read_times n read_community s ≡ found l t → l ≡ names_from n s
unfolding read_times names_from
names_taken zero s l t e = sym (same-found _ _ _ _ e).0
names_taken (suc n) s l t e =
    let p = passed _ _ _ e in
    let q = passed _ _ _ p.second in
    let h = community_taken s p.value p.after p.first in
    let i = names_taken n p.after q.value q.after q.first in
    sym (same-found _ _ _ _ q.second).0 ∙ ap₂ ◌∷◌ h.0 (i ∙ ap (names_from n) h.1)

-- a record, cut from the octets

module _ (s : List ℕ) (m : ℕ) where
  cut_info : info_in (take (11 + m) s) ≡ take m (drop 11 s)
  cut_info =
      let e : 11 + m - 11 ≡ m = omega arith in
      drop-take 11 (11 + m) s ∙ ap (λ (j : ℕ). take j (drop 11 s)) e

  cut_number : number_in (take (11 + m) s) ≡ present_number (octet s 0) (number (take 8 (drop 1 s)))
  unfolding number_in
  cut_number =
      ap₂ present_number (get_or-take (11 + m) s 0 0 (omega arith))
      (ap number (ap (take 8) (drop-take 1 (11 + m) s) ∙ take-take 8 (11 + m - 1) (drop 1 s) (omega arith)))

pub anchor_taken : (s : List ℕ) (a : Anchor) (t : List ℕ) → read_anchor s ≡ found a t
    → (a ≡ anchor_in (take (11 + number (take 2 (drop 9 s))) s)) × (t ≡ drop (11 + number (take 2 (drop 9 s))) s)
unfolding read_anchor
anchor_taken s a t e =
    let p = passed _ _ _ e in
    let q = passed _ _ _ p.second in
    let r = passed _ _ _ q.second in
    let g = granted _ _ _ _ r.second in
    let w = same-found _ _ _ _ g.1 in
    let m = number (take 2 (drop 9 s)) in
    let i = octet_taken s p.value p.after p.first in
    let j = number_taken 8 p.after q.value q.after q.first in
    let k = sized_taken 2 _ q.after r.value r.after r.first in
    let b : q.after ≡ drop 9 s = j.1 ∙ ap (drop 8) i.1 ∙ drop-drop 8 1 s in
    let z : 9 + (2 + m) ≡ 11 + m = omega arith in
    let info : r.value ≡ info_in (take (11 + m) s) =
    k.0 ∙ ap (λ (u : List ℕ). take (number (take 2 u)) (drop 2 u)) b ∙ ap (take m) (drop-drop 2 9 s) ∙ sym (cut_info s m)
    in
    let num : present_number p.value q.value ≡ number_in (take (11 + m) s) =
    ap₂ present_number i.0 (j.0 ∙ ap (λ (u : List ℕ). number (take 8 u)) i.1) ∙ sym (cut_number s m)
    in (
      sym w.0 ∙ ap₂ (λ n (o : List ℕ). record { number = n; info = o }) num info,
      sym w.1
          ∙ k.1
          ∙ ap (λ (u : List ℕ). drop (2 + number (take 2 u)) u) b
          ∙ drop-drop (2 + m) 9 s
          ∙ ap (λ (n : ℕ). drop n s) z,
    )

-- so many records from place p on
pub record Anchors (s : List ℕ) (p n : ℕ) (l : List Anchor) (t : List ℕ) : Type 0 where
  pub are : map anchor_in (records_from n (drop p s)) ≡ l
  pub rest : t ≡ drop (record_place s p n) s

pub anchors_taken : (s : List ℕ) (n p : ℕ) (l : List Anchor) (t : List ℕ) → read_times n read_anchor (drop p s) ≡ found l t → Anchors s p n l t
unfolding read_times records_from record_place record_end
anchors_taken s zero p l t e =
    let q = same-found _ _ _ _ e in
    record { are = q.0; rest = sym q.1 }
anchors_taken s (suc n) p l t e =
    let v = passed _ _ _ e in
    let w = passed _ _ _ v.second in
    let h = anchor_taken (drop p s) v.value v.after v.first in
    let k = 11 + number (take 2 (drop 9 (drop p s))) in
    let b : v.after ≡ drop (record_end s p) s = h.1 ∙ cut_drop s p k in
    let i = anchors_taken s n (record_end s p) w.value w.after (sym (ap (read_times n read_anchor) b) ∙ w.first) in
    let q = same-found _ _ _ _ w.second in
    record {
      are =
          ap (map anchor_in) (records_turn s n p)
          ∙ ap₂ ◌∷◌ (ap anchor_in (sym (cut_take s p k)) ∙ sym h.0) i.are
          ∙ q.0;
      rest = sym q.1 ∙ i.rest;
    }
