-- Laws of `placed`: what a buffer holds after a write, and what the loops that write leave at each turn.
use Prim.Native.Nat.{ℕ, suc, ◌+◌, ◌-◌, ◌≤◌, ◌<◌}
use native.Mathlib.Nat.{add-zero}
use native.Mathlib.Numerals.{add-one}
use native.Mathlib.Omega.{arith}
use mathlib.Core.List.{List, [], ◌∷◌, ◌++◌, append_assoc}
use mathlib.Core.Path.{◌≡◌, refl, sym, ap, ◌∙◌}
use lib.ListN.{length, take, drop, set, length-append, length-take, length-drop, take-append-drop}
use lib.Seq.{length-take-le, take_at, drop_at, drop-drop, drop-append-add, set_split, take-set-le, append_snoc}
use lib.Seq.{paste}
use Rattle.octets.specs.Octets.{placed}

module _ (d : List ℕ) (at : ℕ) (s : List ℕ) where
  -- only the octets of s change
  pub length-placed : at + length s ≤ length d → length (placed d at s) ≡ length d
  unfolding placed
  length-placed h = simp (length-append, length-take, length-drop) (omega arith)

  -- from s on
  pub drop-placed : at ≤ length d → drop at (placed d at s) ≡ s ++ drop (at + length s) d
  unfolding placed
  drop-placed h = drop_at (take at d) (s ++ drop (at + length s) d) at (length-take-le at d h)

  -- what stands after s
  pub drop-after-placed : (n : ℕ) → at + length s ≤ n → at ≤ length d → drop n (placed d at s) ≡ drop n d
  drop-after-placed n k h =
      let m : at + (n - at) ≡ n = omega arith in
      let j : n - at ≡ length s + (n - at - length s) = omega arith in
      let o : at + length s + (n - at - length s) ≡ n = omega arith in
      sym (drop-drop (n - at) at (placed d at s) ∙ ap (λ (k : ℕ). drop k (placed d at s)) m)
      ∙ ap (drop (n - at)) (drop-placed h)
      ∙ ap (λ (k : ℕ). drop k (s ++ drop (at + length s) d)) j
      ∙ drop-append-add s (drop (at + length s) d) (n - at - length s)
      ∙ drop-drop (n - at - length s) (at + length s) d
      ∙ ap (λ (k : ℕ). drop k d) o

  -- what stands up to the end of s
  pub take-after-placed : at ≤ length d → take (at + length s) (placed d at s) ≡ take at d ++ s
  unfolding placed
  take-after-placed h =
      rw (← append_assoc (take at d) s (drop (at + length s) d))
      (take_at
      (take at d ++ s)
      (drop (at + length s) d)
      (at + length s)
      (length-append (take at d) s ∙ ap (λ (k : ℕ). k + length s) (length-take-le at d h)))

-- the library's word for a copy of n octets
pub paste-placed : (d : List ℕ) (at k n : ℕ) (s : List ℕ) → k ≡ n → n ≤ length s → paste d at s k ≡ placed d at (take n s)
unfolding placed
paste-placed d at k n s e h = rw (e, length-take-le n s h) (append_assoc (take at d) (take n s) (drop (at + n) d))

-- nothing written
pub placed-nil : (d : List ℕ) (at : ℕ) → placed d at [] ≡ d
unfolding placed
placed-nil d at = rw (add-zero at) (take-append-drop at d)

-- one octet
pub placed_one : (d : List ℕ) (at x : ℕ) → at < length d → placed d at (x ∷ []) ≡ set d at x
unfolding placed
placed_one d at x h = rw add-one (sym (set_split d at x h))

-- two writes, the second where the first ends, are one
pub placed-append : (d : List ℕ) (at : ℕ) (s t : List ℕ) (n : ℕ) → at + length s ≡ n → n + length t ≤ length d
    → placed (placed d at s) n t ≡ placed d at (s ++ t)
unfolding placed
placed-append d at s t n e h =
    let a : take n (placed d at s) ≡ take at d ++ s = ap (λ (k : ℕ). take k (placed d at s)) (sym e) ∙ take-after-placed d at s (omega arith) in
    let b : drop (n + length t) (placed d at s) ≡ drop (n + length t) d = drop-after-placed d at s (n + length t) (omega arith) (omega arith) in
    let l : at + length (s ++ t) ≡ n + length t = rw (length-append s t) (omega arith) in
    rw (a, b, l) (simp append_assoc)

-- one octet, then the rest
pub placed-cons : (d : List ℕ) (at x : ℕ) (t : List ℕ) → at + 1 + length t ≤ length d → placed (set d at x) (at + 1) t ≡ placed d at (x ∷ t)
placed-cons d at x t h =
    ap (λ (r : List ℕ). placed r (at + 1) t) (sym (placed_one d at x (omega arith)))
    ∙ placed-append d at (x ∷ []) t (at + 1) refl h

-- the last octet, then those before it
pub placed_last : (d : List ℕ) (at : ℕ) (s : List ℕ) (x p : ℕ) → at + length s ≡ p → p < length d
    → placed (set d p x) at s ≡ placed d at (s ++ (x ∷ []))
unfolding placed
placed_last d at s x p e h =
    let a : take at (set d p x) ≡ take at d = take-set-le at d p x (omega arith) in
    let b : drop p (set d p x) ≡ x ∷ drop (suc p) d =
    ap (drop p) (set_split d p x h) ∙ drop_at (take p d) (x ∷ drop (suc p) d) p (length-take-le p d (omega arith))
    in
    let c : at + length (s ++ (x ∷ [])) ≡ suc p = rw (length-append s (x ∷ [])) (omega arith) in
    rw (a, e, b, c, append_snoc s x (drop (suc p) d))
