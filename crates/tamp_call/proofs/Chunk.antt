-- The text of a chunk is no longer than the buffer that it is printed from, and leaves the buffer's length.
use Prim.Native.Nat.{ℕ, ◌≤◌}
use native.Mathlib.Omega.{arith}
use mathlib.Core.List.{List}
use mathlib.Core.Path.{◌≡◌, ◌∙◌}
use lib.ListN.{length}
use Rattle.octets.specs.Octets.{written}
use Rattle.octets.proofs.Placed.{length-placed}
use Rattle.listing.specs.Contract.Texts.{hex_within}
use Rattle.listing.proofs.Bounds.{hex_fits}

module _ (text s : List ℕ) {left : List ℕ} {r : ℕ} (room : length text ≡ 4096)
    (e : (r ≡ length (hex_within (length text) s)) × (left ≡ written text (hex_within (length text) s))) where
  pub chunk_room : length left ≡ 4096
  chunk_room = rw e.1 (length-placed text 0 (hex_within (length text) s) (omega (arith, hex_fits (length text) s)) ∙ room)

  pub chunk_put : r ≤ length left
  chunk_put = omega (arith, e.0, hex_fits (length text) s, room, chunk_room)
