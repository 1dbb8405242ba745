-- What a replacement leaves (specs/Contract/Edits): in octets whose parts are known, in a section, and in the buffer that the code writes to.
use Prim.Native.Nat.{ℕ, ◌+◌, ◌-◌, ◌≤◌, ◌<◌}
use native.Mathlib.Omega.{arith}
use mathlib.Core.List.{List, [], ◌∷◌, ◌++◌, flat_map, append_assoc}
use mathlib.Core.Path.{◌≡◌, refl, sym, ap, ap₂, ◌∙◌}
use lib.ListN.{length, take, drop, set, length-append, length-take, length-drop, take-append-drop}
use lib.Seq.{take_at, drop_at, take-take, take-add, take-append-le, drop-drop, length-take-le}
use Rattle.octets.specs.Octets.{placed}
use Rattle.octets.proofs.Placed.{placed_one, placed-append, length-placed, drop-placed, drop-after-placed}
use Rattle.store.specs.Image.{encode_section}
use Rattle.store.proofs.Walk.{drop-take}
use Rattle.store.proofs.Standing.{flat_map_append, section_split, section_front}
use Rattle.edit.specs.Contract.Edits.{replaced, recounted}

-- the law of the edit: the part x becomes s
pub replaced_at : (h x t s : List ℕ) {at n : ℕ} → length h ≡ at → length x ≡ n → replaced (h ++ (x ++ t)) at n s ≡ h ++ (s ++ t)
unfolding replaced
replaced_at h x t s {at} {n} e f =
    ap₂ (λ (a b : List ℕ). a ++ (s ++ b)) (take_at h (x ++ t) at e)
    (sym (drop-drop n at (h ++ (x ++ t))) ∙ ap (drop n) (drop_at h (x ++ t) at e) ∙ drop_at x t n f)

pub length-replaced : (s : List ℕ) (at n : ℕ) (new : List ℕ) → at + n ≤ length s → length (replaced s at n new) + n ≡ length s + length new
unfolding replaced
length-replaced s at n new h = simp (length-append, length-take, length-drop) (omega arith)

-- as many octets as are written
pub placed-replaced : (s : List ℕ) (at : ℕ) (new : List ℕ) → placed s at new ≡ replaced s at (length new) new
unfolding placed replaced
placed-replaced s at new = refl

-- items m of a section become others
pub section_replaced : {A : Type 0} (w : A → List ℕ) (h t : List ℕ) (x m m' y : List A) {countAt at : ℕ} → length h ≡ countAt
    → countAt + 1 + length (flat_map w x) ≡ at
    → recounted (h ++ (encode_section w (x ++ (m ++ y)) ++ t)) countAt (length (x ++ (m' ++ y))) at (length (flat_map w m)) (flat_map w m')
    ≡ h ++ (encode_section w (x ++ (m' ++ y)) ++ t)
unfolding recounted
section_replaced {A} w h t x m m' y {countAt} {at} before place =
    let k = length (x ++ (m' ++ y)) in
    let b = flat_map w y ++ t in
    let split : (l : List A) → flat_map w (l ++ y) ++ t ≡ flat_map w l ++ b =
    λ l. ap (λ (r : List ℕ). r ++ t) (flat_map_append w l y) ∙ append_assoc (flat_map w l) (flat_map w y) t
    in
    let f = h ++ (k ∷ flat_map w x) in
    ap (λ (s : List ℕ). replaced s at (length (flat_map w m)) (flat_map w m'))
    (replaced_at h (length (x ++ (m ++ y)) ∷ []) (flat_map w (x ++ (m ++ y)) ++ t) (k ∷ []) before refl
    ∙ ap (λ (r : List ℕ). h ++ (k ∷ (r ++ t))) (flat_map_append w x (m ++ y))
    ∙ ap (λ (r : List ℕ). h ++ (k ∷ r)) (append_assoc (flat_map w x) (flat_map w (m ++ y)) t)
    ∙ sym (append_assoc h (k ∷ flat_map w x) (flat_map w (m ++ y) ++ t))
    ∙ ap (λ (r : List ℕ). f ++ r) (split m))
    ∙ replaced_at f (flat_map w m) b (flat_map w m') (section_front w h x k ∙ ap (λ (c : ℕ). c + 1 + length (flat_map w x)) before ∙ place) refl
    ∙ ap (λ (r : List ℕ). f ++ r) (sym (split m'))
    ∙ sym (section_split w h t x (m' ++ y) refl)

-- the buffer

take_after : (a b : List ℕ) {n : ℕ} → length a ≡ n → (k : ℕ) → take (n + k) (a ++ b) ≡ a ++ take k b
take_after a b {n} e k = take-add n k (a ++ b) ∙ ap₂ ◌++◌ (take_at a b n e) (ap (take k) (drop_at a b n e))

-- a write inside the image
pub take-placed : (d : List ℕ) (len at : ℕ) (s : List ℕ) → at + length s ≤ len → len ≤ length d → take len (placed d at s) ≡ placed (take len d) at s
unfolding placed
take-placed d len at s h l =
    let e : len ≡ at + (length s + (len - (at + length s))) = omega arith in
    let n : length (take at d) ≡ at = length-take-le at d (omega arith) in
    let r = drop (at + length s) d in
    ap (λ (k : ℕ). take k (take at d ++ (s ++ r))) e
    ∙ take_after (take at d) (s ++ r) n (length s + (len - (at + length s)))
    ∙ ap (λ (b : List ℕ). take at d ++ b) (take_after s r refl (len - (at + length s)))
    ∙ ap₂ (λ (a b : List ℕ). a ++ (s ++ b)) (sym (take-take at len d (omega arith))) (sym (drop-take (at + length s) len d))

placed_first : (d s : List ℕ) → placed d 0 s ≡ s ++ drop (length s) d
unfolding placed
placed_first d s = let z : 0 + length s ≡ length s = omega arith in ap (λ (k : ℕ). s ++ drop k d) z

-- what was written at the beginning
pub take-all-placed : (d s : List ℕ) → length s ≤ length d → take (length s) (placed d 0 s) ≡ s
take-all-placed d s h = ap (take (length s)) (placed_first d s) ∙ take_at s (drop (length s) d) (length s) refl

-- a write that another covers
pub placed_covered : (d : List ℕ) (at : ℕ) (x s : List ℕ) → at + length x ≤ length s → length s ≤ length d → placed (placed d at x) 0 s ≡ placed d 0 s
placed_covered d at x s h l =
    placed_first (placed d at x) s ∙ ap (λ (r : List ℕ). s ++ r) (drop-after-placed d at x (length s) h (omega arith)) ∙ sym (placed_first d s)

-- a write inside what was written
pub placed_twice : (d s : List ℕ) (at : ℕ) (x : List ℕ) → 0 + length s ≤ length d → at + length x ≤ length s → placed (placed d 0 s) at x ≡ placed d 0 (placed s at x)
placed_twice d s at x l h =
    let b = placed d 0 s in
    let n = length-placed d 0 s l in
    let m = length-placed s at x h in
    sym (take-append-drop (length s) (placed b at x))
    ∙ ap₂ ◌++◌
    (take-placed b (length s) at x h (omega arith) ∙ ap (λ (r : List ℕ). placed r at x) (take-all-placed d s (omega arith)))
    (drop-after-placed b at x (length s) h (omega arith) ∙ ap (drop (length s)) (placed_first d s) ∙ drop_at s (drop (length s) d) (length s) refl ∙ ap (λ (k : ℕ). drop k d) (sym m))
    ∙ sym (placed_first d (placed s at x))

take_before : (d : List ℕ) (to : ℕ) (s : List ℕ) (at : ℕ) → at ≤ to → to ≤ length d → take at (placed d to s) ≡ take at d
unfolding placed
take_before d to s at h l =
    take-append-le at (take to d) (s ++ drop (to + length s) d) (rw (length-take-le to d l) h) ∙ take-take at to d h

-- what follows has moved, and the new octets are written
pub moved : (d : List ℕ) (len at n : ℕ) (head body : List ℕ) → at + n ≤ len → len ≤ length d → len + (length head + length body) ≤ length d + n
    → placed (placed (placed d (at + length head + length body) (take (len - (at + n)) (drop (at + n) d))) at head) (at + length head) body
    ≡ placed d 0 (replaced (take len d) at n (head ++ body))
unfolding placed replaced
moved d len at n head body i j k =
    let t = take (len - (at + n)) (drop (at + n) d) in
    let new = head ++ body in
    let to = at + length head + length body in
    let b = placed d to t in
    let m : length t ≡ len - (at + n) = length-take-le (len - (at + n)) (drop (at + n) d) (rw (length-drop (at + n) d) (omega arith)) in
    let l : to ≡ at + length new = omega (arith, length-append head body) in
    let s = length-placed d to t (omega arith) in
    let size : to + length t ≡ 0 + length (take at d ++ (new ++ t)) =
    omega (arith, l, length-append (take at d) (new ++ t), length-append new t, length-take-le at d (omega arith))
    in
    placed-append b at head body (at + length head) refl (omega arith)
    ∙ ap₂ (λ (x y : List ℕ). x ++ (new ++ y))
    (take_before d to t at (omega arith) (omega arith))
    (ap (λ (k : ℕ). drop k b) (sym l) ∙ drop-placed d to t (omega arith))
    ∙ sym (append_assoc (take at d) (new ++ t) (drop (to + length t) d) ∙ ap (λ (r : List ℕ). take at d ++ r) (append_assoc new t (drop (to + length t) d)))
    ∙ ap (λ (k : ℕ). (take at d ++ (new ++ t)) ++ drop k d) size
    ∙ ap (λ (s : List ℕ). s ++ drop (0 + length s) d)
    (ap₂ (λ (x y : List ℕ). x ++ (new ++ y)) (sym (take-take at len d (omega arith))) (sym (drop-take (at + n) len d)))

module _ (d : List ℕ) (len at n : ℕ) (head body : List ℕ) (inside : at + n ≤ len) (image : len ≤ length d)
    (room : len + (length head + length body) ≤ length d + n) where
  pub replace_done : {d₁ d₂ d₃ : List ℕ} → d₁ ≡ placed d (at + length head + length body) (take (len - (at + n)) (drop (at + n) d)) → d₂ ≡ placed d₁ at head
      → d₃ ≡ placed d₂ (at + length head) body
      → (at + length head + length body + (len - (at + n)) ≡ length (replaced (take len d) at n (head ++ body)))
      × (d₃ ≡ placed d 0 (replaced (take len d) at n (head ++ body)))
  replace_done e f g =
      let l = length-take-le len d image in (
        omega (arith, length-replaced (take len d) at n (head ++ body) (omega arith), length-append head body),
        g
            ∙ ap (λ (b : List ℕ). placed b (at + length head) body) (f ∙ ap (λ (b : List ℕ). placed b at head) e)
            ∙ moved d len at n head body inside image room,
      )

  -- where the section's count was written first
  module _ (count k : ℕ) (before : count < at) where
    abbrev new : List ℕ
    new = replaced (take len (set d count k)) at n (head ++ body)

    pub recount_done : {r : ℕ} {d' : List ℕ} → r ≡ length new → d' ≡ placed (set d count k) 0 new
        → (length d' ≡ length d)
        × (r ≡ length (recounted (take len d) count k at n (head ++ body)))
        × (d' ≡ placed d 0 (recounted (take len d) count k at n (head ++ body)))
    unfolding recounted
    recount_done {r} {d'} e f =
        let c = k ∷ [] in
        let l = length-take-le len d image in
        let w : set d count k ≡ placed d count c = sym (placed_one d count k (omega arith)) in
        let t : take len (set d count k) ≡ replaced (take len d) count 1 c =
        ap (take len) w ∙ take-placed d len count c (omega arith) image ∙ placed-replaced (take len d) count c
        in
        let s = replaced (replaced (take len d) count 1 c) at n (head ++ body) in
        let i : new ≡ s = ap (λ (b : List ℕ). replaced b at n (head ++ body)) t in
        let m = length-replaced (take len d) count 1 c (omega arith) in
        let j = length-replaced (replaced (take len d) count 1 c) at n (head ++ body) (omega arith) in
        let a = length-append head body in
        let g : d' ≡ placed d 0 s = f ∙ ap₂ (λ (b v : List ℕ). placed b 0 v) w i ∙ placed_covered d count c s (omega arith) (omega arith) in
        (ap length g ∙ length-placed d 0 s (omega arith), e ∙ ap length i, g)
