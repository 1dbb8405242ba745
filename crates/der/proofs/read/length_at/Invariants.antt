-- `der::length_at` meets its contract. The loop's invariant: the octets up to i are read. Assumes nothing.
use Prim.Native.Nat.{◌-◌}
use Rattle.der.proofs.Header.{ReadTo}
use Rattle.der.proofs.read.length_at.Given as goal

abbrev pub invariant-loop-i : goal.invariant-loop-i
invariant-loop-i l = ReadTo l.s l.at l.stop l.start l.n l.i l.later

abbrev pub decreases-loop-i : goal.decreases-loop-i
decreases-loop-i l = l.stop - l.i
