-- The text of a chunk is no longer than its buffer.
use Rattle.std.proofs.Common.{sym, length-take-le}
use Rattle.tamp_call.proofs.Chunk.{chunk_put}
use Rattle.tamp_call.proofs.print_octets.Goals as goal

pub slice_bounds-text-end : goal.slice_bounds-text-end
slice_bounds-text-end g c = chunk_put _ _ c.loop-part.invariant c.hex_text-n.ensures

pub slice_bounds-write_all-end : goal.slice_bounds-write_all-end
slice_bounds-write_all-end g c = sym (length-take-le _ _ (chunk_put _ _ c.loop-part.invariant c.hex_text-n.ensures))
