-- The parts that are left are to be written, by the same writer.
use Rattle.std.proofs.Common.{◌≡◌, drop}
use Rattle.octets.proofs.Turns.{Unwritten}
use Rattle.reply.specs.Contract.Parts.{octets_of}
use Rattle.reply.proofs.put_parts.Given as goal

abbrev pub invariant-loop-part : goal.invariant-loop-part
invariant-loop-part l =
    (l.w.buf.ghost_name ≡ l.initial.w.buf.ghost_name)
    × Unwritten l.initial.w.buf.now l.initial.w.at (octets_of l.parts) l.w.buf.now l.w.at (octets_of (drop l.part-index l.parts))
