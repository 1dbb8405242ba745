-- What is still to be written completes it.
use Rattle.std.proofs.Common.{◌≡◌, ◌+◌, drop}
use Rattle.octets.specs.Octets.{placed}
use Rattle.octets.proofs.strings.copy_to.Given as goal

abbrev pub invariant-loop-i : goal.invariant-loop-i
invariant-loop-i l = placed l.dst (l.at + l.i) (drop l.i l.src) ≡ placed l.initial.dst l.at l.src
