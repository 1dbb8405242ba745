-- A list that is written part by part, in turns.
use Prim.Native.Nat.{ℕ, ◌+◌, ◌≤◌}
use native.Mathlib.Nat.{add-zero}
use native.Mathlib.Omega.{arith}
use mathlib.Core.List.{List, [], ◌++◌}
use mathlib.Core.Path.{◌≡◌, refl, sym, ◌∙◌}
use lib.ListN.{length, length-append}
use Rattle.octets.specs.Octets.{placed}
use Rattle.octets.proofs.Placed.{length-placed, placed-nil, placed-append}

-- The list `all` is to stand in d at place `at`; what is left of it, `rest`, is still to be written, at place p of the buffer as it is by now.
pub record Unwritten (d : List ℕ) (at : ℕ) (all buf : List ℕ) (p : ℕ) (rest : List ℕ) : Type 0 where
  pub place : p + length rest ≡ at + length all
  pub size : length buf ≡ length d
  pub encoding : placed buf p rest ≡ placed d at all

module _ (d : List ℕ) (at : ℕ) (all : List ℕ) where
  pub left_start : Unwritten d at all d at all
  left_start = record { place = refl; size = refl; encoding = refl }

  -- there is room for the next part
  pub left_room : at + length all ≤ length d → (buf : List ℕ) (p : ℕ) (s rest : List ℕ) → Unwritten d at all buf p (s ++ rest) → p + length s ≤ length buf
  left_room h buf p s rest l = omega (arith, length-append s rest, l.place, l.size)

  -- it is written
  pub left_turn : at + length all ≤ length d → (buf : List ℕ) (p : ℕ) (s rest : List ℕ) → Unwritten d at all buf p (s ++ rest)
      → Unwritten d at all (placed buf p s) (p + length s) rest
  left_turn h buf p s rest l =
      let n = length-append s rest in
      record {
        place = omega (arith, l.place);
        size = length-placed buf p s (left_room h buf p s rest l) ∙ l.size;
        encoding = placed-append buf p s rest (p + length s) refl (omega (arith, l.place, l.size)) ∙ l.encoding;
      }

  -- by a call that says so, where what is left begins with it
  module _ (h : at + length all ≤ length d) {buf : List ℕ} {p : ℕ} {rest : List ℕ} (l : Unwritten d at all buf p rest) (s next : List ℕ)
      (e : rest ≡ s ++ next) where
    begins : Unwritten d at all buf p (s ++ next)
    begins = rw e at l

    pub left_fits : p + length s ≤ length buf
    left_fits = left_room h buf p s next begins

    pub left_step : {m : ℕ} {r : List ℕ} → (m ≡ p + length s) × (r ≡ placed buf p s) → Unwritten d at all r m next
    left_step k = rw (k.0, k.1) (left_turn h buf p s next begins)

  -- the last part, by a call that says so
  module _ (h : at + length all ≤ length d) {buf : List ℕ} {p : ℕ} {s : List ℕ} (l : Unwritten d at all buf p s) where
    pub last_fits : p + length s ≤ length buf
    last_fits = omega (arith, l.place, l.size)

    pub last_step : {m : ℕ} {r : List ℕ} → (m ≡ p + length s) × (r ≡ placed buf p s) → (m ≡ at + length all) × (r ≡ placed d at all)
    last_step k = (k.0 ∙ l.place, k.1 ∙ l.encoding)

  pub left_end : (buf : List ℕ) (p : ℕ) → Unwritten d at all buf p [] → (p ≡ at + length all) × (buf ≡ placed d at all)
  left_end buf p l = (sym (add-zero p) ∙ l.place, sym (placed-nil buf p) ∙ l.encoding)

-- nothing at all
pub nothing_written : (d : List ℕ) (at : ℕ) {s : List ℕ} → s ≡ [] → (at ≡ at + length s) × (d ≡ placed d at s)
nothing_written d at e = rw e (sym (add-zero at), sym (placed-nil d at))
