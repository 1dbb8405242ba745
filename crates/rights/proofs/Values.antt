-- The smallest n that the values of an attribute constraint, or the types of two anchors, do not list.
use Prim.Native.Nat.{ℕ, ◌-◌, ◌≤◌, ◌<◌}
use native.Mathlib.Omega.{arith}
use mathlib.Core.Bool.{true, false}
use mathlib.Core.List.{List, [], ◌∷◌, map}
use mathlib.Core.Path.{◌≡◌, refl, sym, ap, subst, ◌∙◌}
use lib.ListN.{get_or, drop}
use lib.Dec.{ltb}
use borrow.Author.Tests.{ltb-true, ltb-false}
use Rattle.octets.specs.Lists.{any_of}
use Rattle.octets.specs.Octets.{Octets, slice, same, member}
use Rattle.octets.proofs.Lists.{by_test, ≢→same}
use Rattle.octets.proofs.Number.{octets_take, octets_drop}
use Rattle.der.specs.declared.Element.{Element}
use Rattle.der.specs.declared.Compared.{Compared}
use Rattle.der.specs.declared.Compared.TheVariants as by
use Rattle.der.specs.Element.{root, inside, field}
use Rattle.der.specs.Keys.{key_of}
use Rattle.rights.specs.Rights.{Key}
use Rattle.rights.specs.Decision.{oid, integer, fresh, keys, listed_types}
use Rattle.rights.specs.Constraints.{constraints_rights}
use Rattle.rights.specs.Contract.Places.{values_under}
use Rattle.rights.proofs.Fresh.{fresh_first, oid_differ, integer_differ}
use Rattle.rights.proofs.Places.{listed_types_lem, listed-by_signer}

-- an octet is below 256, so no key with 256 in it is listed

module _ (v : List ℕ) (o : Octets v) (k : Key) (i : ℕ) (h : get_or k i 0 ≡ 256) where
  not_octets : (a e : ℕ) → same k (slice v a e) ≡ false
  not_octets a e =
      ≢→same k (slice v a e)
      (λ q. omega (arith, octets_take (drop a v) (e - a) (octets_drop v a o) i, sym (ap (λ (s : List ℕ). get_or s i 0) q) ∙ h))

  not_key : (c : Compared) (e : Element) → same k (key_of c v e) ≡ false
  unfolding key_of
  not_key by.Types e = let f = field 0x06 v e in not_octets f.start f.stop
  not_key by.Contents e = not_octets e.start e.stop
  not_key by.Encodings e = not_octets e.at e.stop

  no_key : (c : Compared) (l : List Element) → member k (map (key_of c v) l) ≡ false
  unfolding member any_of
  no_key c [] = refl
  no_key c (e ∷ l) = rw (not_key c e) (no_key c l)

-- the smallest n, as the search for it ends

module _ (key : ℕ → Key) (differ : (i j : ℕ) → key i ≡ key j → i ≡ j) (l : List Key) {n : ℕ} where
  smallest : n ≤ 256 → ((i : ℕ) → i < n → member (key i) l ≡ true) → (n < 256 → member (key n) l ≡ false) → member (key 256) l ≡ false → n ≡ fresh key l
  smallest b least new last =
      fresh_first key differ l n least
      (by_test (ltb n 256)
      (λ t. new (ltb-true n 256 t))
      (λ t. let h = ltb-false n 256 t in let e : 256 ≡ n = omega arith in subst (λ (i : ℕ). member (key i) l ≡ false) e last))

pub value_smallest :
    (v : List ℕ) → Octets v → (a : Element) {n : ℕ} → n ≤ 256
    → ((i : ℕ) → i < n → member (integer i) (values_under v a) ≡ true) → (n < 256 → member (integer n) (values_under v a) ≡ false)
    → n ≡ fresh integer (values_under v a)
unfolding integer
value_smallest v o a b least new =
    smallest integer integer_differ (values_under v a) b least new (no_key v o (integer 256) 2 refl by.Encodings (inside v (field 0x31 v a)))

module _ (signer new : List ℕ) (a : Octets signer) (b : Octets new) where
  no_own : (v : List ℕ) → Octets v → member (oid 256) (keys (constraints_rights v)) ≡ false
  unfolding oid
  no_own v o = ap (member (oid 256)) (listed_types_lem v) ∙ no_key v o (oid 256) 1 refl by.Types (inside v (root v))

  pub type_smallest :
      {n : ℕ} → n ≤ 256
      → ((i : ℕ) → i < n → member (oid i) (listed_types (constraints_rights signer) (constraints_rights new)) ≡ true)
      → (n < 256 → member (oid n) (listed_types (constraints_rights signer) (constraints_rights new)) ≡ false)
      → n ≡ fresh oid (listed_types (constraints_rights signer) (constraints_rights new))
  type_smallest c least free =
      smallest oid oid_differ (listed_types (constraints_rights signer) (constraints_rights new)) c least free
      (listed-by_signer (constraints_rights signer) (constraints_rights new) (oid 256) (no_own new b) ∙ no_own signer a)
