-- The rules of contents, by the octets that the code looks at.
use Prim.Native.Nat.{ℕ, zero, suc, ◌+◌, ◌-◌, ◌≤◌, ◌<◌}
use native.Mathlib.Numerals.{add-one}
use native.Mathlib.Omega.{arith}
use mathlib.Core.Bool.{true, false, not, ◌&&◌}
use mathlib.Core.List.{List, [], ◌∷◌}
use mathlib.Core.Path.{◌≡◌, refl, ap, ◌∙◌}
use lib.ListN.{length, drop, drop_of_length-le}
use lib.Seq.{drop-cons}
use lib.Dec.{ltb, leb, eqb}
use borrow.Author.Tests.{ltb-true, ltb-false, le-leb, lt-leb, ne_eqb}
use Rattle.octets.specs.Octets.{octet}
use Rattle.octets.proofs.Lists.{by_test}
use Rattle.octets.proofs.Compare.{same_lengths}
use Rattle.der.specs.Contents.{boolean_ok, arcs_ok, oid_ok}
use Rattle.der.specs.Contract.Reading.{arc_begins}

-- INTEGER

-- a second octet below 80, or not
second : (x : ℕ) → not (ltb x 128) ≡ leb 128 x
second x =
    by_test (ltb x 128)
    (λ e. rw (e, lt-leb 128 x (ltb-true x 128 e)))
    (λ e. rw (e, le-leb 128 x (ltb-false x 128 e)))

-- BOOLEAN

pub boolean_size : (o : List ℕ) → (length o ≡ 1 → ⊥) → boolean_ok o ≡ false
unfolding boolean_ok
boolean_size o n = rw (same_lengths o (0 ∷ []) n, same_lengths o (255 ∷ []) n)

-- OID

pub oid-none : (o : List ℕ) → length o ≡ 0 → oid_ok o ≡ false
unfolding oid_ok
oid-none [] e = refl
oid-none (x ∷ o) e = absurd (omega arith)

pub oid-arcs : (o : List ℕ) → (length o ≡ 0 → ⊥) → oid_ok o ≡ arcs_ok true o
unfolding oid_ok
oid-arcs [] n = absurd (n refl)
oid-arcs (x ∷ o) n = refl

module _ (o : List ℕ) (i : ℕ) where
  -- the octets end, and the last arc with them
  pub arcs_end : (length o ≡ 0 → ⊥) → i ≡ length o → arcs_ok (arc_begins o i) (drop i o) ≡ ltb (octet o (length o - 1)) 128
  unfolding arcs_ok
  arcs_end n e =
      let l : length o ≤ i = omega arith in
      let z : i ≡ 0 → ⊥ = λ k. omega arith in
      rw (drop_of_length-le o l, ne_eqb i 0 z, e)

  pub arcs_padded : i < length o → arc_begins o i && eqb (octet o i) 128 ≡ true → arcs_ok (arc_begins o i) (drop i o) ≡ false
  unfolding arcs_ok
  arcs_padded l e = rw (drop-cons o i 0 l, e)

  pub arcs_turn : i < length o → arc_begins o i && eqb (octet o i) 128 ≡ false
      → arcs_ok (arc_begins o i) (drop i o) ≡ arcs_ok (arc_begins o (i + 1)) (drop (i + 1) o)
  unfolding arcs_ok
  arcs_turn l e =
      let z : i + 1 ≡ 0 → ⊥ = λ k. omega arith in
      let p : i + 1 - 1 ≡ i = omega arith in
      let b : arc_begins o (i + 1) ≡ ltb (octet o i) 128 = rw (ne_eqb (i + 1) 0 z, p) in
      rw (b, add-one, drop-cons o i 0 l, e)

-- what breaks the rule from a place on breaks it in the whole
pub arcs_broken : (o : List ℕ) → (length o ≡ 0 → ⊥) → (i : ℕ) → i ≤ length o → arcs_ok (arc_begins o i) (drop i o) ≡ false → oid_ok o ≡ false
arcs_broken o n zero l w = oid-arcs o n ∙ w
arcs_broken o n (suc i) l w =
    let q : i + 1 ≡ suc i = omega arith in
    by_test (arc_begins o i && eqb (octet o i) 128)
    (λ p. arcs_broken o n i (omega arith) (arcs_padded o i (omega arith) p))
    (λ p. arcs_broken o n i (omega arith) (arcs_turn o i (omega arith) p ∙ ap (λ (k : ℕ). arcs_ok (arc_begins o k) (drop k o)) q ∙ w))

-- the rule of a tag
