-- A header's rules as facts, and what `element_at` is where they hold and where one breaks. Only this file and Elements open `element_at`.
use Rattle.std.specs.Prelude.{Some, None}
use Rattle.std.proofs.lemmas.Option.{some_pair_parts}
use Prim.Native.Nat.{ℕ, ◌+◌, ◌-◌, ◌*◌, ◌/◌, ◌%◌, ◌≤◌, ◌<◌}
use native.Mathlib.Omega.{arith}
use mathlib.Core.Bool.{Bool, true, false, not, and-eq-true_iff, true≢false, false≢true}
use mathlib.Core.List.{List, [], ◌∷◌}
use mathlib.Core.Path.{◌≡◌, refl, sym, ap, ◌∙◌}
use lib.ListN.{length}
use lib.Dec.{leb, eqb}
use borrow.Author.Tests.{leb-true, leb-false, eqb-false, not-true, lt-ltb, le-ltb, le-leb, lt-leb, eq-eqb, ne_eqb}
use Rattle.octets.specs.Octets.{octet, slice}
use Rattle.octets.specs.Number.{number_from}
use Rattle.octets.proofs.Lists.{by_test, both}
use Rattle.octets.proofs.Parts.{slice_first, slice-none}
use Rattle.octets.proofs.Number.{number_grows}
use Rattle.der.specs.Element.{absent, length_octets_after, length_at, length_shortest, contents_at, headed, element_at}
use Rattle.der.specs.Contract.Reading.{length_in}
use Rattle.der.proofs.Bools.{and_false}

pub record Header (s : List ℕ) (at stop : ℕ) : Type 0 where
  pub within : stop ≤ length s
  pub room : at + 2 ≤ stop
  pub low_tag : octet s at % 32 ≡ 31 → ⊥
  pub begins : contents_at s at ≤ stop
  pub shortest : length_shortest s at ≡ true
  pub ends : contents_at s at + length_at s at ≤ stop

module _ (s : List ℕ) (at stop : ℕ) where
  pub header_is : headed s at stop ≡ true → Header s at stop
  unfolding headed
  header_is e =
      let five = (and-eq-true_iff _ _).0 e in
      let four = (and-eq-true_iff _ _).0 five.0 in
      let three = (and-eq-true_iff _ _).0 four.0 in
      let two = (and-eq-true_iff _ _).0 three.0 in
      let one = (and-eq-true_iff _ _).0 two.0 in
      record {
        within = leb-true stop (length s) one.0;
        room = leb-true (at + 2) stop one.1;
        low_tag = eqb-false (octet s at % 32) 31 (not-true _ two.1);
        begins = leb-true (contents_at s at) stop three.1;
        shortest = four.1;
        ends = leb-true (contents_at s at + length_at s at) stop five.1;
      }

  pub header_holds : Header s at stop → headed s at stop ≡ true
  unfolding headed
  header_holds h =
      both (both (both (both (both
      (le-leb _ _ h.within)
      (le-leb _ _ h.room))
      (ap not (ne_eqb _ _ h.low_tag)))
      (le-leb _ _ h.begins))
      h.shortest)
      (le-leb _ _ h.ends)

  -- a header stands there or not
  pub header_or_not : {P : Type 0} → (Header s at stop → P) → ((Header s at stop → ⊥) → P) → P
  header_or_not f g = by_test (headed s at stop) (λ e. f (header_is e)) (λ e. g (λ h. true≢false (sym (header_holds h) ∙ e)))

  pub element_is : Header s at stop
      → element_at s at stop ≡ record { valid = true; tag = octet s at; at = at; start = contents_at s at; stop = contents_at s at + length_at s at }
  unfolding element_at
  element_is h = rw (header_holds h, element_at)

  pub element-absent : (Header s at stop → ⊥) → element_at s at stop ≡ absent at
  unfolding element_at
  element-absent n = by_test (headed s at stop) (λ e. absurd (n (header_is e))) (λ e. rw (e, element_at))

-- the length octets

module _ (s : List ℕ) (at : ℕ) where
  pub length_short : octet s (at + 1) < 128 → number_from 0 (octet s (at + 1) ∷ []) ≡ length_at s at
  unfolding length_at
  length_short l = rw (lt-ltb _ _ l, length_at)

  pub length-long : 128 ≤ octet s (at + 1) → number_from 0 (slice s (at + 2) (contents_at s at)) ≡ length_at s at
  unfolding length_at
  length-long l = rw (le-ltb _ _ l, length_at)

-- the octets from i on up to e, the next one in front
pub slice_turn : (s : List ℕ) (i e n : ℕ) → i < e → e ≤ length s → number_from n (slice s i e) ≡ number_from (n * 256 + octet s i) (slice s (i + 1) e)
unfolding number_from
slice_turn s i e n l h = ap (number_from n) (slice_first s i (i + 1) e refl l h)

-- the length octets read up to i: none yet, or the first and some after it
pub record ReadTo (s : List ℕ) (at stop start n i : ℕ) (later : Bool) : Type 0 where
  pub upto : i ≤ start
  pub ends : start ≤ stop
  pub none : later ≡ false → (i ≡ at + 1) × ((start ≡ at + 2) × (n ≡ 0))
  pub some : later ≡ true → (start ≡ contents_at s at) × (number_from n (slice s i start) ≡ length_at s at)

module _ (s : List ℕ) (at stop : ℕ) where
  pub read_none : at + 2 ≤ stop → ReadTo s at stop (at + 2) 0 (at + 1) false
  read_none l = record { upto = omega arith; ends = l; none = λ e. (refl, (refl, refl)); some = λ e. absurd (false≢true e) }

  -- the first octet is 128 or more, and says where the contents begin
  pub read_count : {start n i : ℕ} → i ≡ at + 1 → n ≡ 0 → 128 ≤ octet s i → start ≡ at + 2 + length_octets_after (octet s i) → start ≤ stop
      → ReadTo s at stop start n (i + 1) true
  read_count {start} {n} {i} f z long e l =
      let p : i + 1 ≡ at + 2 = omega arith in
      let b : start ≡ contents_at s at = rw f at e in
      record {
        upto = omega arith;
        ends = l;
        none = λ m. absurd (true≢false m);
        some = λ m. (b, rw (b, p, z) (length-long s at (rw f at long)));
      }

  module _ (inside : stop ≤ length s) {start n i : ℕ} {later : Bool} (r : ReadTo s at stop start n i later) where
    -- every other octet is a digit
    pub read_digit : (later ≡ false → octet s i < 128) → i < start → ReadTo s at stop start (n * 256 + octet s i) (i + 1) true
    unfolding number_from
    read_digit short l = record { upto = omega arith; ends = r.ends; none = λ m. absurd (true≢false m); some = λ m. by_test later more only }
      where
        Read : Type 0
        Read = (start ≡ contents_at s at) × (number_from (n * 256 + octet s i) (slice s (i + 1) start) ≡ length_at s at)

        only : later ≡ false → Read
        only f =
            let z = r.none f in
            let x : octet s (at + 1) < 128 = rw z.0 at (short f) in (
              omega (arith, z.1.0),
              rw (z.0, z.1.1, slice-none s (at + 1 + 1) start (omega (arith, z.1.0))) (length_short s at x),
            )

        more : later ≡ true → Read
        more f = let z = r.some f in (z.0, sym (slice_turn s i start n l (omega (arith, r.ends))) ∙ z.1)

    -- with a digit more the length would pass the window's end
    pub read_beyond : i < start → (stop - start) / 256 < n → stop < contents_at s at + length_at s at
    read_beyond l w =
        by_test later
        (λ f.
        let z = r.some f in
        omega (
          arith,
          z.0,
          z.1,
          slice_turn s i start n l (omega (arith, r.ends)),
          number_grows (n * 256 + octet s i) (slice s (i + 1) start),
        ))
        (λ f. absurd (omega (arith, (r.none f).1.1)))

    pub read_all : start ≤ i → (start ≡ contents_at s at) × (n ≡ length_at s at)
    unfolding number_from
    read_all l =
        by_test later
        (λ f. let z = r.some f in (z.0, sym (ap (number_from n) (slice-none s i start l)) ∙ z.1))
        (λ f. absurd (omega (arith, (r.none f).0, (r.none f).1.0)))

-- what the length octets say in a window

module _ (s : List ℕ) (at stop : ℕ) where
  pub length_beyond : stop < contents_at s at + length_at s at → length_in s at stop ≡ None
  unfolding length_in
  length_beyond l = rw (lt-leb _ _ l, length_in)

  pub length_of : contents_at s at + length_at s at ≤ stop → length_in s at stop ≡ Some (contents_at s at, length_at s at)
  unfolding length_in
  length_of l = rw (le-leb _ _ l, length_in)

  pub beyond_ends : length_in s at stop ≡ None → stop < contents_at s at + length_at s at
  beyond_ends e =
      by_test (leb (contents_at s at + length_at s at) stop)
      (λ t. let z : ◌≡◌ {A = ℕ} 0 1 = cc (length_of (leb-true (contents_at s at + length_at s at) stop t)) in absurd (omega arith))
      (λ t. leb-false (contents_at s at + length_at s at) stop t)

  pub of_ends : {start n : ℕ} → length_in s at stop ≡ Some (start, n) → (start ≡ contents_at s at) × ((n ≡ length_at s at) × (start + n ≤ stop))
  of_ends {start} {n} e =
      by_test (leb (contents_at s at + length_at s at) stop)
      (λ t.
      let l = leb-true (contents_at s at + length_at s at) stop t in
      let p = some_pair_parts _ _ _ _ (sym (length_of l) ∙ e) in
      let b : start ≡ contents_at s at = sym p.0 in
      let m : n ≡ length_at s at = sym p.1 in
      (b, (m, omega arith)))
      (λ t. let z : ◌≡◌ {A = ℕ} 0 1 = cc (length_beyond (leb-false (contents_at s at + length_at s at) stop t)) in absurd (omega arith))

-- shortest or not, by the octets

module _ (s : List ℕ) (at : ℕ) where
  pub short_form : octet s (at + 1) < 128 → length_shortest s at ≡ true
  unfolding length_shortest
  short_form l = rw (lt-ltb _ _ l, length_shortest)

  pub indefinite_form : octet s (at + 1) ≡ 128 → length_shortest s at ≡ false
  unfolding length_shortest number_from
  indefinite_form e =
      let l : 128 ≤ octet s (at + 1) = omega arith in
      let n : length_at s at ≡ 0 =
      sym (length-long s at l)
      ∙ ap (number_from 0) (slice-none s (at + 2) (contents_at s at) (omega arith))
      in
      rw (le-ltb _ _ l, n, length_shortest) (and_false (not (eqb (octet s (at + 2)) 0)))

  pub padded_form : 128 ≤ octet s (at + 1) → octet s (at + 2) ≡ 0 → length_shortest s at ≡ false
  unfolding length_shortest
  padded_form l z = rw (le-ltb _ _ l, eq-eqb _ _ z, length_shortest)

  pub long_form : 128 ≤ octet s (at + 1) → (octet s (at + 2) ≡ 0 → ⊥) → length_shortest s at ≡ leb 128 (length_at s at)
  unfolding length_shortest
  long_form l z = rw (le-ltb _ _ l, ne_eqb _ _ z, length_shortest)
