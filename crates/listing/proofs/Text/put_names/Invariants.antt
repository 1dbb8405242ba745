-- `listing::Text::put_names` meets its contract. The loop: the lines of the names left are left to be written. Assumes nothing.
use Rattle.std.proofs.Common.{◌≡◌}
use mathlib.Core.List.{flat_map}
use Rattle.listing.specs.Contract.Texts.{hex_line, name_lines}
use Rattle.octets.proofs.Turns.{Unwritten}
use Rattle.listing.proofs.Text.put_names.Given as goal

abbrev pub invariant-loop-name : goal.invariant-loop-name
invariant-loop-name l =
    (l.self.buf.ghost_name ≡ l.initial.self.buf.ghost_name)
    × Unwritten l.initial.self.buf.now l.initial.self.at (name_lines l.n l.names) l.self.buf.now l.self.at (flat_map hex_line l.name-iterator)
