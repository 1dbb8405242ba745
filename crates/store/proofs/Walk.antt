-- The walk over records and names (specs/Contract/Parts): what stands at a place, and what is left after it.
use Rattle.std.specs.Prelude.{Some, None, Result, Ok, Err}
use Rattle.std.specs.List.{position_from}
use Rattle.store.specs.declared.NoSigner.TheVariants.{Unverified}
use Rattle.store.specs.declared.NoSigner.{NoSigner}
use Prim.Native.Nat.{ℕ, zero, suc, ◌+◌, ◌-◌, ◌≤◌, ◌<◌, min}
use native.Mathlib.Omega.{arith}
use native.Mathlib.Numerals.{add-one}
use mathlib.Core.Bool.{Bool, true, false}
use mathlib.Core.List.{List, [], ◌∷◌, map}
use mathlib.Core.Path.{◌≡◌, refl, sym, ap, ap₂, ◌∙◌}
use lib.ListN.{length, take, drop, length-drop, drop_of_length-le}
use lib.Seq.{take_all, take-nil, take-take, drop-drop, get_or-drop}
use lib.Dec.{leb, eqb}
use borrow.Author.Tests.{leb-true, leb-false, eq-eqb, ne_eqb}
use Rattle.octets.specs.Octets.{octet, slice, same}
use Rattle.octets.specs.Number.{number}
use Rattle.octets.proofs.Lists.{by_test}
use Rattle.store.specs.Image.{present_number}
use Rattle.store.specs.Records.{records_from, anchor_section, records_of}
use Rattle.store.specs.Signer.{signer_from}
use Rattle.store.specs.Contract.Parts.{anchor_count, first_record, record_end, record_at, record_place, identifier_in, number_in}
use Rattle.store.specs.Contract.Parts.{name_end, name_at, names_from, names_size, first_from}

-- k octets at place p, and what is after them

module _ (s : List ℕ) (p k : ℕ) where
  pub cut_take : take k (drop p s) ≡ slice s p (min (p + k) (length s))
  cut_take =
      by_test (leb (p + k) (length s))
      (λ t.
      let h = leb-true (p + k) (length s) t in
      let e : k ≡ min (p + k) (length s) - p = omega arith in
      ap (λ (m : ℕ). take m (drop p s)) e)
      (λ t.
      let h = leb-false (p + k) (length s) t in
      take_all k (drop p s) (rw (length-drop p s) (omega arith)) ∙ sym (take_all (min (p + k) (length s) - p) (drop p s) (rw (length-drop p s) (omega arith))))

  pub cut_drop : drop k (drop p s) ≡ drop (min (p + k) (length s)) s
  cut_drop =
      drop-drop k p s
      ∙ by_test (leb (p + k) (length s))
      (λ t.
      let h = leb-true (p + k) (length s) t in
      let e : p + k ≡ min (p + k) (length s) = omega arith in
      ap (λ (m : ℕ). drop m s) e)
      (λ t.
      let h = leb-false (p + k) (length s) t in
      drop_of_length-le s {i = p + k} (omega arith) ∙ sym (drop_of_length-le s {i = min (p + k) (length s)} (omega arith)))

-- the first octet from a place on
pub first_octet : (s : List ℕ) (p : ℕ) → octet (drop p s) 0 ≡ octet s p
first_octet s p =
    let z : p + 0 ≡ p = omega arith in
    get_or-drop p s 0 0 ∙ ap (octet s) z

pub drop-take : (k n : ℕ) (l : List ℕ) → drop k (take n l) ≡ take (n - k) (drop k l)
drop-take zero n l =
    let e : n - 0 ≡ n = omega arith in
    rw e
drop-take (suc k) zero l =
    let e : 0 - suc k ≡ 0 = omega arith in
    rw e
drop-take (suc k) (suc n) [] = sym (take-nil (suc n - suc k))
drop-take (suc k) (suc n) (x ∷ l) =
    let e : suc n - suc k ≡ n - k = omega arith in
    rw e (drop-take k n l)

-- a part without its first k octets
pub slice-drop : (s : List ℕ) (a e k : ℕ) → drop k (slice s a e) ≡ slice s (a + k) e
slice-drop s a e k =
    let q : e - a - k ≡ e - (a + k) = omega arith in
    drop-take k (e - a) (drop a s) ∙ ap₂ take q (drop-drop k a s)

-- records

pub records_turn : (s : List ℕ) (n p : ℕ) → records_from (suc n) (drop p s) ≡ record_at s p ∷ records_from n (drop (record_end s p) s)
unfolding records_from record_end
records_turn s n p =
    let k = 11 + number (take 2 (drop 9 (drop p s))) in
    ap₂ ◌∷◌ (cut_take s p k) (ap (records_from n) (cut_drop s p k))

-- the end of a record whose length was read
pub end_is : (s : List ℕ) (p : ℕ) {n : ℕ} → n ≡ number (take 2 (drop (p + 9) s)) → record_end s p ≡ min (p + (11 + n)) (length s)
unfolding record_end
end_is s p e = ap (λ (m : ℕ). min (p + (11 + m)) (length s)) (ap (λ (t : List ℕ). number (take 2 t)) (drop-drop 9 p s) ∙ sym e)

pub end_short : (s : List ℕ) (p : ℕ) → length s ≤ p + 11 → length s ≡ record_end s p
end_short s p h = let e = end_is s p refl in omega arith

-- the records of octets as the code walks them
pub records_of_lem : (image : List ℕ) → records_of image ≡ records_from (anchor_count image) (drop (first_record image) image)
unfolding records_of anchor_section anchor_count first_record
records_of_lem image =
    let h = octet image 1 in
    let v = octet image (2 + h) in
    let e : 3 + h + v ≡ 2 + h + 1 + v = omega arith in
    let z : 2 + h + 1 + v + 0 ≡ 2 + h + 1 + v = omega arith in
    rw e
    (ap₂ records_from (get_or-drop (2 + h + 1 + v) image 0 0 ∙ ap (octet image) z) (drop-drop 1 (2 + h + 1 + v) image))

-- a record's number
pub number-given : (r : List ℕ) {b n : ℕ} → b ≡ octet r 0 → b ≡ 1 → n ≡ number (take 8 (drop 1 r)) → Some n ≡ number_in r
unfolding number_in present_number
number-given r e f g = rw (g, eq-eqb (octet r 0) 1 (sym e ∙ f), present_number)

pub number-absent : (r : List ℕ) {b : ℕ} → b ≡ octet r 0 → (b ≡ 1 → ⊥) → None ≡ number_in r
unfolding number_in present_number
number-absent r e f = rw (ne_eqb (octet r 0) 1 (λ h. f (e ∙ h)), present_number)

-- the place of a record, one record on, and at the record itself
pub place_turn : (s : List ℕ) (p i n : ℕ) → i < n → record_place s p (n - i) ≡ record_place s (record_end s p) (n - (i + 1))
unfolding record_place
place_turn s p i n h =
    let e : n - i ≡ suc (n - (i + 1)) = omega arith in
    rw e

pub place_end : (s : List ℕ) (p i n : ℕ) → n ≤ i → record_place s p (n - i) ≡ p
unfolding record_place
place_end s p i n h =
    let e : n - i ≡ 0 = omega arith in
    rw e

-- names

pub names_turn : (s : List ℕ) (n p : ℕ) → names_from (suc n) (drop p s) ≡ name_at s p ∷ names_from n (drop (name_end s p) s)
unfolding names_from name_end
names_turn s n p =
    let o = first_octet s p in
    let k = octet s p in
    let j : p + (1 + k) ≡ p + 1 + k = omega arith in
    ap₂ ◌∷◌
    (ap₂ take o (drop-drop 1 p s) ∙ cut_take s (p + 1) k)
    (ap (names_from n)
    (ap (λ (m : ℕ). drop (1 + m) (drop p s)) o ∙ drop-drop (1 + k) p s ∙ ap (λ (m : ℕ). drop m s) j ∙ sym (drop-drop k (p + 1) s) ∙ cut_drop s (p + 1) k))

-- no record, and no name
module _ (s : List ℕ) {left : ℕ} (h : left ≡ 0) where
  pub records_none : records_from left s ≡ []
  unfolding records_from
  records_none = rw h

  pub names_none : names_from left s ≡ []
  unfolding names_from
  names_none = rw h

pub length-records : (n : ℕ) (s : List ℕ) → length (records_from n s) ≡ n
unfolding records_from
length-records zero s = refl
length-records (suc n) s = ap suc (length-records n (drop (11 + number (slice s 9 11)) s))

pub length-names : (n : ℕ) (s : List ℕ) → length (names_from n s) ≡ n
unfolding names_from
length-names zero s = refl
length-names (suc n) s = ap suc (length-names n (drop (1 + octet s 0) s))

-- the parts at the head of octets, one of them taken: the front is its octets, what it stands in is cut there

-- the octets up to a place
upto : (s : List ℕ) (e : ℕ) → slice s 0 e ≡ take e s
upto s e = let z : e - 0 ≡ e = omega arith in ap (λ n. take n s) z

counted : (left : ℕ) → (left ≡ 0 → ⊥) → left ≡ suc (left - 1)
counted left h = omega arith

module _ (s : List ℕ) {front back : List ℕ} {left e : ℕ} {all : List (List ℕ)} (some : left ≡ 0 → ⊥) (f : front ≡ take e s) (b : back ≡ drop e s) where
  pub record_given : records_from left s ≡ all → e ≡ record_end s 0 → all ≡ front ∷ records_from (left - 1) back
  record_given v i =
      sym v
      ∙ ap (λ n. records_from n s) (counted left some)
      ∙ records_turn s (left - 1) 0
      ∙ ap₂ (λ x y. x ∷ records_from (left - 1) y) (upto s (record_end s 0) ∙ ap (λ k. take k s) (sym i) ∙ sym f) (ap (λ k. drop k s) (sym i) ∙ sym b)

  pub name_given : {name : List ℕ} → names_from left s ≡ all → e ≡ name_end s 0 → name ≡ drop 1 front → all ≡ name ∷ names_from (left - 1) back
  name_given v i g =
      sym v
      ∙ ap (λ n. names_from n s) (counted left some)
      ∙ names_turn s (left - 1) 0
      ∙ ap₂ (λ x y. x ∷ names_from (left - 1) y)
      (sym (slice-drop s 0 (name_end s 0) 1) ∙ ap (drop 1) (upto s (name_end s 0) ∙ ap (λ k. take k s) (sym i) ∙ sym f) ∙ sym g)
      (ap (λ k. drop k s) (sym i) ∙ sym b)

-- how many octets they take, where so many are there, one name on
pub sizes_turn : (s : List ℕ) (q left : ℕ) → 0 < left
    → min (q + names_size left (drop q s)) (length s) ≡ min (name_end s q + names_size (left - 1) (drop (name_end s q) s)) (length s)
unfolding names_size name_end
sizes_turn s q left h =
    let e : left ≡ suc (left - 1) = omega arith in
    let k = 1 + octet s q in
    let j : q + 1 + octet s q ≡ q + k = omega arith in
    let o : octet (drop q s) 0 ≡ octet s q = first_octet s q in
    let d : drop (1 + octet (drop q s) 0) (drop q s) ≡ drop (min (q + k) (length s)) s = ap (λ (m : ℕ). drop (1 + m) (drop q s)) o ∙ cut_drop s q k in
    let m = ap (names_size (left - 1)) d in
    let n : names_size left (drop q s) ≡ 1 + octet (drop q s) 0 + names_size (left - 1) (drop (1 + octet (drop q s) 0) (drop q s)) = ap (λ (i : ℕ). names_size i (drop q s)) e in
    rw j (omega (arith, m, n, o))

-- what stands after them does not count
module _ (n x : ℕ) (s : List ℕ) where
  names_first : names_from (suc n) (x ∷ s) ≡ take x s ∷ names_from n (drop x s)
  unfolding names_from
  names_first = let z : 1 + x ≡ suc x = omega arith in ap (λ (k : ℕ). take x s ∷ names_from n (drop k (x ∷ s))) z

  size_first : names_size (suc n) (x ∷ s) ≡ suc (x + names_size n (drop x s))
  unfolding names_size
  size_first = let z : 1 + x ≡ suc x = omega arith in omega (arith, ap (λ (k : ℕ). names_size n (drop k (x ∷ s))) z)

pub names_cut : (n : ℕ) (s : List ℕ) → names_from n (take (names_size n s) s) ≡ names_from n s
unfolding names_from
names_cut zero s = refl
names_cut (suc n) [] = ap (names_from (suc n)) (take-nil (names_size (suc n) []))
names_cut (suc n) (x ∷ s) =
    let m = names_size n (drop x s) in
    let e : x + m - x ≡ m = omega arith in
    ap (λ (k : ℕ). names_from (suc n) (take k (x ∷ s))) (size_first n x s)
    ∙ names_first n x (take (x + m) s)
    ∙ ap₂ ◌∷◌ (take-take x (x + m) s (omega arith)) (ap (names_from n) (drop-take x (x + m) s ∙ rw e) ∙ names_cut n (drop x s))
    ∙ sym (names_first n x s)

-- the section of communities that begins with its count
pub names_slice : (s : List ℕ) (p : ℕ) {section names : List ℕ} {count end : ℕ} → section ≡ drop p s → names ≡ drop 1 section → count ≡ octet section 0
    → end ≡ min (names_size count names) (length names)
    → slice names 0 end ≡ take (names_size (octet s p) (drop (p + 1) s)) (drop (p + 1) s)
names_slice s p {section} {names} {count} {end} e f g h =
    let n : names ≡ drop (p + 1) s = f ∙ ap (drop 1) e ∙ drop-drop 1 p s in
    let c : count ≡ octet s p = g ∙ ap (λ (b : List ℕ). octet b 0) e ∙ first_octet s p in
    let k = names_size count names in
    let z : 0 + k ≡ k = omega arith in
    ap (slice names 0) (h ∙ ap (λ (m : ℕ). min m (length names)) (sym z)) ∙ sym (cut_take names 0 k) ∙ ap₂ (λ (i : ℕ) (b : List ℕ). take (names_size i b) b) c n

-- one turn of a search among records

module _ {A : Type 0} (p : A → Bool) (i : ℕ) (x : A) (l : List A) where
  pub first_here : p x ≡ true → first_from i p (x ∷ l) ≡ Some i
  unfolding first_from
  first_here e = rw (e, first_from)

  pub first_later : p x ≡ false → first_from i p (x ∷ l) ≡ first_from (suc i) p l
  unfolding first_from
  first_later e = rw (e, first_from)

-- the first among the parts, as the library has it
pub first_of : {A B : Type 0} (test : B → Bool) (part : A → B) (i : ℕ) (l : List A) → position_from (λ x. test (part x)) i l ≡ first_from i test (map part l)
unfolding first_from
first_of test part i [] = refl
first_of test part i (x ∷ l) =
    by_test (test (part x))
    (λ e. rw e)
    (λ e. rw e (first_of test part (i + 1) l ∙ ap (λ n. first_from n test (map part l)) (add-one i)))

pub length-records_of : (image : List ℕ) → length (records_of image) ≡ anchor_count image
length-records_of image = ap length (records_of_lem image) ∙ length-records (anchor_count image) (drop (first_record image) image)

-- one turn of the search for the signer

module _ (i : ℕ) (k : List ℕ) (ids : List (List ℕ)) (verdict wanted : List ℕ) (m : Result ℕ NoSigner) where
  pub signer-here : same k wanted ≡ true → eqb (octet verdict i) 1 ≡ true → signer_from i (k ∷ ids) verdict wanted m ≡ Ok i
  unfolding signer_from
  signer-here e f = rw (e, f, signer_from)

  pub signer_unverified : same k wanted ≡ true → eqb (octet verdict i) 1 ≡ false
      → signer_from i (k ∷ ids) verdict wanted m ≡ signer_from (suc i) ids verdict wanted (Err Unverified)
  unfolding signer_from
  signer_unverified e f = rw (e, f, signer_from)

  pub signer-other : same k wanted ≡ false → signer_from i (k ∷ ids) verdict wanted m ≡ signer_from (suc i) ids verdict wanted m
  unfolding signer_from
  signer-other e = rw (e, signer_from)

-- the same among the records left: record r with identifier k stands before the rest

module _ (verdict wanted : List ℕ) (m : Result ℕ NoSigner) (i : ℕ) where
  abbrev among : ℕ → List (List ℕ) → Result ℕ NoSigner
  among i l = signer_from i (map identifier_in l) verdict wanted m

  pub turn_none : {l : List (List ℕ)} → l ≡ [] → among i l ≡ m
  unfolding signer_from
  turn_none e = ap (among i) e

  module _ {l rest : List (List ℕ)} {r k : List ℕ} {n : ℕ} (s : l ≡ r ∷ rest) (p : n ≡ i) (o : k ≡ identifier_in r) where
    one : among i l ≡ signer_from n (k ∷ map identifier_in rest) verdict wanted m
    one = ap (among i) s ∙ ap₂ (λ n k. signer_from n (k ∷ map identifier_in rest) verdict wanted m) (sym p) (sym o)

    later : {j : ℕ} → j ≡ i + 1 → suc n ≡ j
    later q = omega arith

    pub turn_found : true ≡ same k wanted → true ≡ eqb (octet verdict n) 1 → among i l ≡ Ok n
    turn_found e f = one ∙ signer-here n _ _ verdict wanted m (sym e) (sym f)

    pub turn_unverified : {j : ℕ} → true ≡ same k wanted → false ≡ eqb (octet verdict n) 1 → j ≡ i + 1
        → among i l ≡ signer_from j (map identifier_in rest) verdict wanted (Err Unverified)
    turn_unverified e f q =
        one ∙ signer_unverified n _ _ verdict wanted m (sym e) (sym f) ∙ ap (λ j. signer_from j (map identifier_in rest) verdict wanted (Err Unverified)) (later q)

    pub turn_other : {j : ℕ} → false ≡ same k wanted → j ≡ i + 1 → among i l ≡ among j rest
    turn_other e q = one ∙ signer-other n _ _ verdict wanted m (sym e) ∙ ap (λ j. among j rest) (later q)

-- the key that is sought, its first octet read as 30

module _ (rest : List ℕ) where
  pub untagged : (key : List ℕ) → (octet key 0 ≡ 48 → ⊥) → same key (48 ∷ rest) ≡ false
  unfolding same
  untagged [] h = refl
  untagged (x ∷ key) h = rw (ne_eqb x 48 h)

  pub tagged : (key : List ℕ) → octet key 0 ≡ 48 → same key (48 ∷ rest) ≡ same (drop 1 key) rest
  unfolding same
  tagged [] h = absurd (omega arith)
  tagged (x ∷ key) h = rw (eq-eqb x 48 h)
