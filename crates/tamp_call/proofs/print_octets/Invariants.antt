-- The text keeps its buffer.
use Rattle.std.proofs.Common.{◌≡◌, length}
use Rattle.tamp_call.proofs.print_octets.Given as goal

abbrev pub invariant-loop-part : goal.invariant-loop-part
invariant-loop-part g l = length l.text ≡ 4096
