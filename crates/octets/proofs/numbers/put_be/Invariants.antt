-- What is still to be written completes it: the first j octets, of the number rest.
use Rattle.std.proofs.Common.{◌≡◌}
use Rattle.octets.specs.Octets.{placed}
use Rattle.octets.specs.Number.{big_endian}
use Rattle.octets.proofs.numbers.put_be.Given as goal

abbrev pub invariant-loop-j : goal.invariant-loop-j
invariant-loop-j l = placed l.dst l.at (big_endian l.j l.rest) ≡ placed l.initial.dst l.at (big_endian l.width l.n)
