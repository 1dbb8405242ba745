-- `fresh` gives the smallest number whose key is not listed, and it is at most the list's length.
use Prim.Native.Nat.{ℕ, zero, suc, ◌+◌, ◌≤◌, ◌<◌}
use native.Mathlib.Omega.{arith}
use borrow.Author.Count.{below_more}
use mathlib.Core.Bool.{Bool, true, false, not, true≢false}
use mathlib.Core.List.{List}
use mathlib.Core.Path.{◌≡◌, sym, ap, ◌∙◌}
use lib.ListN.{length, length-append, length-map}
use lib.Dec.{ltb}
use borrow.Author.Tests.{ltb-true, ltb-false}
use Rattle.octets.specs.Lists.{filter}
use Rattle.octets.specs.Octets.{same, member}
use Rattle.octets.specs.Limits.{max_entries, max_values}
use Rattle.octets.proofs.Lists.{by_test, same_refl, ≢→same, keep_member, keep_shorter}
use Rattle.rights.specs.Rights.{Key, Rights}
use Rattle.rights.specs.Decision.{oid, integer, fresh, fresh_from, keys, listed_types}

record Fresh (key : ℕ → Key) (l : List Key) (n : ℕ) : Type 0 where
  new : member (key n) l ≡ false
  least : (i : ℕ) → i < n → member (key i) l ≡ true
  bounded : n ≤ length l

module _ (key : ℕ → Key) (differ : (i j : ℕ) → key i ≡ key j → i ≡ j) where
  -- a list that has k keys is not shorter than k: take the first of them out, and go on
  pigeonhole : (k n : ℕ) (l : List Key) → ((i : ℕ) → n ≤ i → i < n + k → member (key i) l ≡ true) → k ≤ length l
  pigeonhole zero n l h = omega arith
  pigeonhole (suc k) n l h =
      let here = h n (omega arith) (omega arith) in
      let others : Key → Bool = λ x. not (same x (key n)) in
      let less = keep_shorter others l (key n) here (ap not (same_refl (key n))) in
      let kept : (i : ℕ) → suc n ≤ i → i < suc n + k → member (key i) (filter others l) ≡ true = λ i a b.
      keep_member others l (key i) (h i (omega arith) (omega arith)) (ap not (≢→same (key i) (key n) (λ e. let z = differ i n e in omega arith))) in
      let rest = pigeonhole k (suc n) (filter others l) kept in
      omega arith

  from : (l : List Key) (k n : ℕ) → n + k ≡ length l → ((i : ℕ) → i < n → member (key i) l ≡ true) → Fresh key l (fresh_from key l k n)
  unfolding fresh_from
  from l zero n e h =
      record {
        new =
            by_test (member (key n) l)
            (λ t. let z = pigeonhole (n + 1) 0 l (λ i a b. below_more _ _ h t i (omega arith)) in absurd (omega arith))
            (λ t. t);
        least = h;
        bounded = omega arith;
      }
  from l (suc k) n e h =
      by_test (member (key n) l)
      (λ t. rw (t, fresh_from) (from l k (suc n) (omega arith) (λ i b. below_more _ _ h t i (omega arith))))
      (λ t. rw (t, fresh_from) (record { new = t; least = h; bounded = omega arith }))

  fresh_is : (l : List Key) → Fresh key l (fresh key l)
  unfolding fresh
  fresh_is l = from l (length l) 0 (omega arith) (λ i b. absurd (omega arith))

  pub fresh-new : (l : List Key) → member (key (fresh key l)) l ≡ false
  fresh-new l = (fresh_is l).new

  pub fresh_least : (l : List Key) (i : ℕ) → i < fresh key l → member (key i) l ≡ true
  fresh_least l = (fresh_is l).least

  pub fresh_bounded : (l : List Key) → fresh key l ≤ length l
  fresh_bounded l = (fresh_is l).bounded

  -- a number whose key is not listed, where those before it are
  pub fresh_first : (l : List Key) (n : ℕ) → ((i : ℕ) → i < n → member (key i) l ≡ true) → member (key n) l ≡ false → n ≡ fresh key l
  fresh_first l n h m =
      by_test (ltb (fresh key l) n)
      (λ t. absurd (true≢false (sym (h (fresh key l) (ltb-true (fresh key l) n t)) ∙ fresh-new l)))
      (λ f.
      by_test (ltb n (fresh key l))
      (λ t. absurd (true≢false (sym (fresh_least l n (ltb-true n (fresh key l) t)) ∙ m)))
      (λ g. let a = ltb-false (fresh key l) n f in let b = ltb-false n (fresh key l) g in omega arith))

-- the two kinds of keys that are made

pub oid_differ : (i j : ℕ) → oid i ≡ oid j → i ≡ j
unfolding oid
oid_differ i j e = cc

pub integer_differ : (i j : ℕ) → integer i ≡ integer j → i ≡ j
unfolding integer
integer_differ i j e = cc

-- by the limits of 01 one octet holds their numbers

pub unlisted_type_small : (signer new : Rights) → length signer ≤ max_entries → length new ≤ max_entries → fresh oid (listed_types signer new) ≤ 32
unfolding listed_types keys
unlisted_type_small signer new a b =
    omega (
      arith,
      fresh_bounded oid oid_differ (listed_types signer new),
      length-append (keys new) (keys signer),
      length-map new (λ e. e.0),
      length-map signer (λ e. e.0),
    )

pub unlisted_value_small : (values : List Key) → length values ≤ max_values → fresh integer values ≤ 4
unlisted_value_small values a = omega (arith, fresh_bounded integer integer_differ values)
