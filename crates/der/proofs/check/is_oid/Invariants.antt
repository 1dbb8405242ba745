-- `der::is_oid` meets its contract. The loop's invariant: the octets from i on keep the rule of arcs exactly if the last of them ends an arc. Assumes nothing.
use Prim.Native.Nat.{◌-◌, ◌≤◌}
use mathlib.Core.Path.{◌≡◌}
use lib.ListN.{length, drop}
use lib.Dec.{ltb}
use Rattle.octets.specs.Octets.{octet}
use Rattle.der.specs.Contents.{arcs_ok}
use Rattle.der.specs.Contract.Reading.{arc_begins}
use Rattle.der.proofs.check.is_oid.Given as goal

abbrev pub invariant-loop-i : goal.invariant-loop-i
invariant-loop-i l = (l.i ≤ length l.o) × (arcs_ok (arc_begins l.o l.i) (drop l.i l.o) ≡ ltb (octet l.o (length l.o - 1)) 128)
