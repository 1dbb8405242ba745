-- What the readers give at a place of the image, where the octets asked for are there and where they are not; and the parts of a record.
use Rattle.std.specs.Prelude.{None}
use Prim.Native.Nat.{ℕ, ◌+◌, ◌≤◌, ◌<◌}
use native.Mathlib.Nat.{zero-add}
use native.Mathlib.Omega.{arith}
use mathlib.Core.Bool.{true, ◌&&◌, and-eq-true_iff}
use mathlib.Core.List.{List, [], ◌++◌, append_assoc, append-nil}
use mathlib.Core.Path.{◌≡◌, sym, ap, ◌∙◌}
use lib.ListN.{length, take, drop, length-drop}
use lib.Seq.{take_at, drop_at, drop-drop, drop-cons}
use lib.Dec.{leb, ltb, lit<}
use borrow.Author.Tests.{leb-true, leb-false, ltb-true, ltb-false, le-leb, lt-leb}
use Rattle.octets.specs.Octets.{octet}
use Rattle.octets.specs.Limits.{max_anchor_octets}
use Rattle.octets.specs.Number.{number, number_from, big_endian}
use Rattle.octets.proofs.Lists.{by_test, both}
use Rattle.octets.proofs.Number.{length-big_endian, number-big_endian}
use Rattle.anchor.specs.Judge.{storable}
use Rattle.store.specs.Store.{Anchor}
use Rattle.store.specs.Image.{Reader, found, provided, pass_on, read_octets, read_number, read_sized, read_anchor, present_number, number_ok}
use Rattle.store.specs.Image.{encode_number, encode_anchor, anchor_ok}
use Rattle.store.proofs.Readers.{allowed, refused, nothing, passes, passes_none, write_sized}
use Rattle.store.proofs.Sizes.{info_size, length-encode_number}

-- a number of one octet
pub number_one : (s : List ℕ) (p : ℕ) → p < length s → number (take 1 (drop p s)) ≡ octet s p
unfolding number_from
number_one s p h = rw (drop-cons s p 0 h) (zero-add (octet s p))

module _ (s : List ℕ) (p : ℕ) where
  -- n octets

  pub octets_at : (n : ℕ) → p + n ≤ length s → read_octets n (drop p s) ≡ found (take n (drop p s)) (drop (p + n) s)
  unfolding read_octets provided
  octets_at n h = rw (le-leb n (length (drop p s)) (rw (length-drop p s) (omega arith)), drop-drop n p s)

  pub octets_short : (n : ℕ) → 0 < n → length s < p + n → read_octets n (drop p s) ≡ None
  unfolding read_octets provided
  octets_short n z h = rw (lt-leb n (length (drop p s)) (rw (length-drop p s) (omega arith)))

  -- a number

  pub number_at_lem : (k : ℕ) → p + k ≤ length s → read_number k (drop p s) ≡ found (number (take k (drop p s))) (drop (p + k) s)
  unfolding read_number pass_on
  number_at_lem k h = rw (octets_at k h)

  pub number_short : (k : ℕ) → 0 < k → length s < p + k → read_number k (drop p s) ≡ None
  unfolding read_number pass_on
  number_short k z h = rw (octets_short k z h)

  pub octet_at : p < length s → read_number 1 (drop p s) ≡ found (octet s p) (drop (p + 1) s)
  octet_at h = number_at_lem 1 (omega arith) ∙ ap (λ (n : ℕ). found n (drop (p + 1) s)) (number_one s p h)

  pub octet_short : length s ≤ p → read_number 1 (drop p s) ≡ None
  octet_short h = number_short 1 (lit< tt) (omega arith)

-- a length of k octets, and as many octets

module _ (s : List ℕ) (p k most : ℕ) where
  pub sized_short : 0 < k → length s < p + k → read_sized k most (drop p s) ≡ None
  unfolding read_sized
  sized_short z h = passes_none _ _ (number_short s p k z h)

  module _ (n : ℕ) (room : p + k ≤ length s) (size : number (take k (drop p s)) ≡ n) where
    length_read : read_number k (drop p s) ≡ found n (drop (p + k) s)
    length_read = number_at_lem s p k room ∙ ap (λ (m : ℕ). found m (drop (p + k) s)) size

    pub sized_at : 1 ≤ n → n ≤ most → p + k + n ≤ length s → read_sized k most (drop p s) ≡ found (take n (drop (p + k) s)) (drop (p + k + n) s)
    unfolding read_sized
    sized_at l m h =
        passes _ _ _ _ length_read
        ∙ allowed _ _ _ (both (le-leb 1 n l) (le-leb n most m))
        ∙ octets_at s (p + k) n h

    pub sized_cut : length s < p + k + n → read_sized k most (drop p s) ≡ None
    unfolding read_sized
    sized_cut h = passes _ _ _ _ length_read ∙ nothing _ _ _ (octets_short s (p + k) n (omega arith) h)

    pub sized_outside : (1 ≤ n → n ≤ most → ⊥) → read_sized k most (drop p s) ≡ None
    unfolding read_sized
    sized_outside h =
        let no : leb 1 n && leb n most ≡ true → ⊥ = λ e.
        let t = (and-eq-true_iff (leb 1 n) (leb n most)).0 e in
        h (leb-true 1 n t.0) (leb-true n most t.1)
        in
        passes _ _ _ _ length_read ∙ refused _ _ _ (by_test (leb 1 n && leb n most) (λ e. absurd (no e)) (λ e. e))

-- a record: number present at p, the number at p + 1, the length at p + 9, the TrustAnchorInfo at p + 11

-- what is asked of it once its parts are read
abbrev pub judged : ℕ → ℕ → List ℕ → Reader Anchor
judged present n info = provided (number_ok present n && storable info) (found (record { number = present_number present n; info = info }))

module _ (s : List ℕ) (p : ℕ) where
  pub anchor_upto : p + 9 ≤ length s
      → read_anchor (drop p s) ≡ pass_on (read_sized 2 max_anchor_octets (drop (p + 9) s)) (judged (octet s p) (number (take 8 (drop (p + 1) s))))
  unfolding read_anchor
  anchor_upto h =
      let e : p + 1 + 8 ≡ p + 9 = omega arith in
      passes _ _ _ _ (octet_at s p (omega arith)) ∙ passes _ _ _ _ (number_at_lem s (p + 1) 8 (omega arith)) ∙ rw e

  pub anchor_short : length s < p + 11 → read_anchor (drop p s) ≡ None
  unfolding read_anchor
  anchor_short h =
      by_test (ltb p (length s))
      (λ a.
      by_test (leb (p + 9) (length s))
      (λ b. anchor_upto (leb-true (p + 9) (length s) b) ∙ passes_none _ _ (sized_short s (p + 9) 2 max_anchor_octets (lit< tt) (omega arith)))
      (λ b.
      passes _ _ _ _ (octet_at s p (ltb-true p (length s) a))
      ∙ passes_none _ _ (number_short s (p + 1) 8 (lit< tt) (omega (arith, leb-false (p + 9) (length s) b)))))
      (λ a. passes_none _ _ (octet_short s p (ltb-false p (length s) a)))

  module _ (n : ℕ) (room : p + 11 ≤ length s) (size : number (take 2 (drop (p + 9) s)) ≡ n) where
    pub anchor_cut : length s < p + 11 + n → read_anchor (drop p s) ≡ None
    anchor_cut h = anchor_upto (omega arith) ∙ passes_none _ _ (sized_cut s (p + 9) 2 max_anchor_octets n (omega arith) size (omega arith))

    pub anchor_outside : (1 ≤ n → n ≤ max_anchor_octets → ⊥) → read_anchor (drop p s) ≡ None
    anchor_outside h = anchor_upto (omega arith) ∙ passes_none _ _ (sized_outside s (p + 9) 2 max_anchor_octets n (omega arith) size h)

    pub anchor_at : 1 ≤ n → n ≤ max_anchor_octets → p + 11 + n ≤ length s
        → read_anchor (drop p s) ≡ judged (octet s p) (number (take 8 (drop (p + 1) s))) (take n (drop (p + 11) s)) (drop (p + 11 + n) s)
    anchor_at l m h =
        let e : p + 9 + 2 ≡ p + 11 = omega arith in
        anchor_upto (omega arith) ∙ passes _ _ _ _ (sized_at s (p + 9) 2 max_anchor_octets n (omega arith) size l m (omega arith)) ∙ rw e

-- the parts of a record

-- its length octets, and what is after them
record_after : (a : Anchor) (rest : List ℕ) → drop 9 (encode_anchor a ++ rest) ≡ big_endian 2 (length a.info) ++ (a.info ++ rest)
unfolding encode_anchor
record_after a rest =
    ap (drop 9) (append_assoc (encode_number a.number) (write_sized 2 a.info) rest)
    ∙ drop_at (encode_number a.number) (write_sized 2 a.info ++ rest) 9 (length-encode_number a.number)
    ∙ append_assoc (big_endian 2 (length a.info)) a.info rest

pub record_size : (a : Anchor) (rest : List ℕ) → anchor_ok a ≡ true → number (take 2 (drop 9 (encode_anchor a ++ rest))) ≡ length a.info
record_size a rest g =
    let n = length a.info in
    ap (λ (t : List ℕ). number (take 2 t)) (record_after a rest)
    ∙ ap number (take_at (big_endian 2 n) (a.info ++ rest) 2 (length-big_endian 2 n))
    ∙ number-big_endian 2 n (omega (arith, (info_size a g).1))

pub record_info : (a : Anchor) → drop 11 (encode_anchor a) ≡ a.info
record_info a =
    sym (drop-drop 2 9 (encode_anchor a))
    ∙ ap (λ (t : List ℕ). drop 2 (drop 9 t)) (sym (append-nil (encode_anchor a)))
    ∙ ap (drop 2) (record_after a [])
    ∙ drop_at (big_endian 2 (length a.info)) (a.info ++ []) 2 (length-big_endian 2 (length a.info))
    ∙ append-nil a.info
