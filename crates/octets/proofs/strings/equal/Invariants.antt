-- What stands from place i on is equal in both.
use Rattle.std.proofs.Common.{◌≡◌, drop}
use Rattle.octets.proofs.strings.equal.Given as goal

abbrev pub invariant-loop-i : goal.invariant-loop-i
invariant-loop-i l = drop l.i l.a ≡ drop l.i l.b
