-- The reader accepts exactly the length octets that the writer puts: form by form, each way.
use Prim.Native.Nat.{ℕ, ◌+◌, ◌-◌, ◌%◌, ◌^◌, ◌≤◌, ◌<◌}
use native.Mathlib.Omega.{arith}
use mathlib.Core.Bool.{true, true≢false}
use mathlib.Core.List.{List, [], ◌∷◌}
use mathlib.Core.Path.{◌≡◌, refl, sym, ap, ◌∙◌}
use lib.ListN.{length, drop}
use lib.Seq.{take_at}
use lib.Dec.{ltb}
use borrow.Author.Tests.{ltb-true, ltb-false, leb-true, le-leb}
use Rattle.octets.specs.Octets.{Octets, octet, slice, placed}
use Rattle.octets.specs.Number.{number, number_from, digits}
use Rattle.octets.proofs.Lists.{by_test}
use Rattle.octets.proofs.Parts.{length-slice, slice_first, slice-none}
use Rattle.octets.proofs.Placed.{drop-placed}
use Rattle.octets.proofs.Number.{octets_drop, octets_take, NoZeroInFront, digits_number, digits_front, number_digits, fewer}
use Rattle.der.specs.declared.Element.{Element}
use Rattle.der.specs.Element.{contents_at, length_at, element_at}
use Rattle.der.specs.Write.{length_octets}
use Rattle.der.specs.LengthOctets.{Accepted, Written, LengthOctets, ElementsRead}
use Rattle.der.specs.Contract.LengthOctets.{LengthOctetsOfCode}
use Rattle.der.proofs.Header.{Header, header_or_not, element_is, element-absent, length_of, of_ends}
use Rattle.der.proofs.Header.{length_short, length-long, short_form, padded_form, long_form}
use Rattle.der.proofs.Writes.{short_octets, long_octets}

module _ (s : List ℕ) (at start n : ℕ) (inside : start ≤ length s) where
  -- the first length octet and those after it, and the first of these
  first_and_rest : at + 1 < start → slice s (at + 1) start ≡ octet s (at + 1) ∷ slice s (at + 2) start
  first_and_rest l = slice_first s (at + 1) (at + 2) start (omega arith) l inside

  second : at + 2 < start → octet (slice s (at + 2) start) 0 ≡ octet s (at + 2)
  second l = ap (λ (u : List ℕ). octet u 0) (slice_first s (at + 2) (at + 3) start (omega arith) l inside)

  accepted_short : octet s (at + 1) < 128 → Accepted s at start n → Written s at start n
  unfolding number_from
  accepted_short l a =
      let e : octet s (at + 1) ≡ n = omega (arith, length_short s at l, a.1.1) in
      first_and_rest (omega (arith, a.0))
      ∙ rw (slice-none s (at + 2) start (omega (arith, a.0)), e) (sym (short_octets n (omega arith)))

  accepted_long : Octets s → n < 256 ^ 8 → 128 ≤ octet s (at + 1) → Accepted s at start n → Written s at start n
  accepted_long o h l a =
      let d = slice s (at + 2) start in
      let k = start - (at + 2) in
      let size : length d ≡ k = length-slice s (at + 2) k (omega (arith, a.0)) in
      let value : number d ≡ n = rw a.0 at (length-long s at l) ∙ a.1.1 in
      let nonzero : octet s (at + 2) ≡ 0 → ⊥ = λ z. true≢false (sym a.1.0 ∙ padded_form s at l z) in
      let least : 128 ≤ length_at s at = leb-true 128 (length_at s at) (sym (long_form s at l nonzero) ∙ a.1.0) in
      let front : NoZeroInFront d = λ p e. nonzero (sym (second (omega arith)) ∙ e) in
      let same : digits 256 8 n ≡ d = rw value at (digits_number 8 d (octets_take (drop (at + 2) s) k (octets_drop s (at + 2) o)) front (rw value h)) in
      let first : octet s (at + 1) ≡ 128 + length d = omega (arith, a.0) in
      first_and_rest (omega (arith, a.0)) ∙ rw (long_octets n (omega (arith, a.1.1)), same, first)

  -- what stands where the writer's octets stand
  module _ (x : ℕ) (d : List ℕ) (w : slice s (at + 1) start ≡ x ∷ d) where
    begins : at + 1 < start
    begins =
        by_test (ltb (at + 1) start)
        (λ t. ltb-true (at + 1) start t)
        (λ t. absurd (omega (arith, ap length w, ap length (slice-none s (at + 1) start (ltb-false (at + 1) start t)))))

    first : octet s (at + 1) ≡ x
    first = let e = sym (first_and_rest begins) ∙ w in cc

    rest : slice s (at + 2) start ≡ d
    rest = let e = sym (first_and_rest begins) ∙ w in cc

    ends : start ≡ at + 2 + length d
    ends = omega (arith, begins, ap length rest, length-slice s (at + 2) (start - (at + 2)) (omega (arith, begins)))

  written_short : n < 128 → Written s at start n → Accepted s at start n
  unfolding number_from
  written_short l w =
      let v = w ∙ short_octets n l in
      let f = first n [] v in
      let m : octet s (at + 1) < 128 = omega arith in
      (omega (arith, ends n [] v), (short_form s at m, omega (arith, length_short s at m)))

  written-long : n < 256 ^ 8 → 128 ≤ n → Written s at start n → Accepted s at start n
  written-long h l w =
      let d = digits 256 8 n in
      let v = w ∙ long_octets n l in
      let f = first (128 + length d) d v in
      let r = rest (128 + length d) d v in
      let m : 128 ≤ octet s (at + 1) = omega arith in
      let e : contents_at s at ≡ start = omega (arith, ends (128 + length d) d v) in
      let value : length_at s at ≡ n = sym (length-long s at m) ∙ rw (e, r) (number_digits 8 n h) in
      let some : 0 < length d = omega (arith, (fewer 8 n (omega arith) h).count) in
      let nonzero : octet s (at + 2) ≡ 0 → ⊥ =
      λ z. digits_front 8 n h some (sym (ap (λ (u : List ℕ). octet u 0) r) ∙ second (omega (arith, ends (128 + length d) d v)) ∙ z)
      in
      (e, (long_form s at m nonzero ∙ rw value (le-leb 128 n l), value))

pub length_octets_lem : LengthOctets
length_octets_lem s at start n o inside h = (
  λ a.
      by_test (ltb (octet s (at + 1)) 128)
      (λ t. accepted_short s at start n inside (ltb-true (octet s (at + 1)) 128 t) a)
      (λ t. accepted_long s at start n inside o h (ltb-false (octet s (at + 1)) 128 t) a),
  λ w.
      by_test (ltb n 128)
      (λ t. written_short s at start n inside (ltb-true n 128 t) w)
      (λ t. written-long s at start n inside h (ltb-false n 128 t) w),
)

pub elements_read : ElementsRead
elements_read s at stop start n o inside h = (there, back)
  where
    found : Element
    found = record { valid = true; tag = octet s at; at = at; start = start; stop = start + n }

    there : element_at s at stop ≡ found → (octet s at % 32 ≡ 31 → ⊥) × (Written s at start n × (start + n ≤ stop))
    there e =
        header_or_not s at stop
        (λ f.
        let i = sym e ∙ element_is s at stop f in
        let b : start ≡ contents_at s at = ap (λ (x : Element). x.start) i in
        let l : start + n ≡ contents_at s at + length_at s at = ap (λ (x : Element). x.stop) i in
        (f.low_tag, ((length_octets_lem s at start n o (omega (arith, f.begins)) h).0 (sym b, (f.shortest, omega arith)), omega (arith, f.ends))))
        (λ f. absurd (true≢false (ap (λ (x : Element). x.valid) (sym e ∙ element-absent s at stop f))))

    back : (octet s at % 32 ≡ 31 → ⊥) × (Written s at start n × (start + n ≤ stop)) → element_at s at stop ≡ found
    back w =
        let a = (length_octets_lem s at start n o (omega (arith, w.1.1)) h).1 w.1.0 in
        let f : Header s at stop =
        record {
          within = inside;
          room = omega (arith, a.0, w.1.1);
          low_tag = w.0;
          begins = omega (arith, a.0, w.1.1);
          shortest = a.1.0;
          ends = omega (arith, a.0, a.1.1, w.1.1);
        }
        in
        rw (← a.0, ← a.1.1) (element_is s at stop f)

-- of the code: the promises meet in `length_octets n`

pub length_octets_of_code : LengthOctetsOfCode
length_octets_of_code =
    record {
      put_accepted = λ before after at n next stop r b o h room put ends inside read.
          let k = length (length_octets n) in
          let q : next - (at + 1) ≡ k = omega (arith, put.0) in
          let w : slice after (at + 1) next ≡ length_octets n =
          rw (put.1, q, drop-placed before (at + 1) (length_octets n) (omega arith)) (take_at (length_octets n) (drop (at + 1 + k) before) k refl)
          in
          let a = (length_octets_lem after at next n o (omega arith) h).1 w in
          (read.0 ∙ length_of after at stop (omega (arith, a.0, a.1.1)) ∙ rw (a.0, a.1.1), read.1 ∙ a.1.0);
      accepted_put = λ s before after at stop start n to next o h inside read put.
          let e = of_ends s at stop (sym read.0) in
          let w = (length_octets_lem s at start n o (omega (arith, e.1.1)) h).0 (sym e.0, (sym read.1, sym e.1.0)) in
          let l = length-slice s (at + 1) (start - (at + 1)) (omega (arith, e.0, e.1.1)) in
          (omega (arith, put.0, ap length w), put.1 ∙ ap (placed before to) (sym w));
    }
