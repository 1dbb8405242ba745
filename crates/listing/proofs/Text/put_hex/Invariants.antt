-- `listing::Text::put_hex` meets its contract. The loop: the octets from the index on are left to be written. Assumes nothing.
use Rattle.std.proofs.Common.{◌≡◌, drop}
use Rattle.store.specs.Listing.{hex}
use Rattle.octets.proofs.Turns.{Unwritten}
use Rattle.listing.proofs.Text.put_hex.Given as goal

abbrev pub invariant-loop-x : goal.invariant-loop-x
invariant-loop-x l =
    (l.self.buf.ghost_name ≡ l.initial.self.buf.ghost_name)
    × Unwritten l.initial.self.buf.now l.initial.self.at (hex l.s) l.self.buf.now l.self.at (hex (drop l.x-index l.s))
