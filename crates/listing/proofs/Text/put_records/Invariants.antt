-- `listing::Text::put_records` meets its contract. The loop: the lines of the records left are left to be written. Assumes nothing.
use Rattle.std.proofs.Common.{◌≡◌, map, drop}
use Rattle.store.specs.Listing.{anchor_lines}
use Rattle.store.specs.Contract.Parts.{anchor_in}
use Rattle.listing.specs.Contract.Texts.{record_lines}
use Rattle.octets.proofs.Turns.{Unwritten}
use Rattle.listing.proofs.Text.put_records.Given as goal

abbrev pub invariant-loop-i : goal.invariant-loop-i
invariant-loop-i l =
    (l.self.buf.ghost_name ≡ l.initial.self.buf.ghost_name)
    × Unwritten l.initial.self.buf.now l.initial.self.at (record_lines 0 l.n (drop l.p l.image)) l.self.buf.now l.self.at
    (anchor_lines l.i-iterator.count (map anchor_in l.i-iterator.iter))
