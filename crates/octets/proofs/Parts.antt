-- Laws of parts: the octets from a place on, as many as are asked for and are there.
use Prim.Native.Nat.{ℕ, suc, ◌+◌, ◌-◌, ◌≤◌, ◌<◌, min}
use native.Mathlib.Omega.{arith}
use mathlib.Core.List.{List, [], ◌∷◌}
use mathlib.Core.Path.{◌≡◌, refl, sym, ◌∙◌}
use lib.Dec.{ltb}
use borrow.Author.Tests.{ltb-true, ltb-false}
use lib.ListN.{length, get_or, take, drop, length-drop}
use lib.Seq.{drop-cons, length-take-le, take_all, get_or-take, get_or-drop}
use Rattle.octets.specs.Octets.{slice}
use Rattle.octets.proofs.Lists.{by_test}

module _ (s : List ℕ) where
  pub length-slice : (a n : ℕ) → a + n ≤ length s → length (take n (drop a s)) ≡ n
  length-slice a n h = length-take-le n (drop a s) (rw (length-drop a s) (omega arith))

  pub octet-slice : (a n i : ℕ) → i < n → get_or (take n (drop a s)) i 0 ≡ get_or s (a + i) 0
  octet-slice a n i l = get_or-take n (drop a s) i 0 l ∙ get_or-drop a s i 0

  -- the first octet of a part, and those after it
  pub slice_first : (a b e : ℕ) → b ≡ a + 1 → a < e → e ≤ length s → slice s a e ≡ get_or s a 0 ∷ slice s b e
  slice_first a b e q l h =
      let n : e - a ≡ suc (e - b) = omega arith in
      let m : a < length s = omega arith in
      let k : b ≡ suc a = omega arith in
      rw (n, drop-cons s a 0 m, k)

  -- a part that asks for no octet, and one that goes on after the end
  pub slice-none : (a e : ℕ) → e ≤ a → slice s a e ≡ []
  slice-none a e h =
      let z : e - a ≡ 0 = omega arith in
      rw z

  pub slice-rest : (a e : ℕ) → length s ≤ e → slice s a e ≡ drop a s
  slice-rest a e h = take_all (e - a) (drop a s) (rw (length-drop a s) (omega arith))

  -- n octets from place a on, where place e is their end or as far as numbers go
  pub slice-n : (a n e top : ℕ) → e ≡ min (a + n) top → length s ≤ top → slice s a e ≡ take n (drop a s)
  slice-n a n e top q h =
      by_test (ltb e (length s))
      (λ l. let m : e - a ≡ n = omega (arith, q, ltb-true e (length s) l) in rw m refl)
      (λ l.
      let k = ltb-false e (length s) l in
      slice-rest a e (omega arith) ∙ sym (take_all n (drop a s) (rw (length-drop a s) (omega (arith, q)))))
