-- The parts of a reply, one append after the other: the next part, and what is left once it is appended.
use Rattle.std.proofs.Common.{◌≡◌, ℕ, ◌+◌, ◌≤◌, ◌<◌, List, [], ◌++◌, length, drop, get_or, refl, ap}
use Rattle.std.proofs.Math.Numerals.{add-one}
use Rattle.std.proofs.Math.Seq.{drop-cons}
use Rattle.std.proofs.Math.ListN.{drop_of_length-le}
use mathlib.Core.List.{flat_map}
use Rattle.octets.proofs.Turns.{Unwritten, left_step}
use Rattle.reply.specs.declared.Part.{Part}
use Rattle.reply.specs.declared.Writer.{Writer}
use Rattle.reply.specs.Contract.Parts.{part_octets, wrote, octets_of}

-- the part at place i, and those after it
pub parts_from : (l : List Part) (i : ℕ) (d : Part) → i < length l → octets_of (drop i l) ≡ part_octets (get_or l i d) ++ octets_of (drop (i + 1) l)
unfolding flat_map
parts_from l i d h = rw (add-one, drop-cons l i d h) refl

pub parts_end : (l : List Part) (i : ℕ) → length l ≤ i → octets_of (drop i l) ≡ []
unfolding flat_map
parts_end l i h = rw (drop_of_length-le l h) refl

-- what is left of the octets `all` after an append
pub appended : (d : List ℕ) (all : List ℕ) → 0 + length all ≤ length d → {w : Writer} {rest : List ℕ} → Unwritten d 0 all w.buf.now w.at rest → (s next : List ℕ)
    → rest ≡ s ++ next → {x : Writer} → x ≡ wrote w s → Unwritten d 0 all x.buf.now x.at next
appended d all room l s next e {x} k = left_step d 0 all room l s next e (ap (λ (y : Writer). y.at) k, ap (λ (y : Writer). y.buf.now) k)
