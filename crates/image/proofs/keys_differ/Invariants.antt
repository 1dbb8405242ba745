-- `image::keys_differ` meets its contract. The loop: the keys passed differ, and their flags are set. Assumes nothing.
use Rattle.std.proofs.Common.{map, drop}
use Rattle.store.specs.Records.{records_from}
use Rattle.store.specs.Contract.Parts.{public_key_in}
use Rattle.anchor.proofs.Flags.{Marked}
use Rattle.image.specs.Contract.Check.{middle_of}
use Rattle.image.proofs.Flags.{Passed}
use Rattle.image.proofs.keys_differ.Given as goal

abbrev pub invariant-loop-i : goal.invariant-loop-i
invariant-loop-i l = Passed (Marked middle_of l.seen) (map public_key_in (records_from l.n (drop l.p l.s))) l.i-iterator.count (map public_key_in l.i-iterator.iter)
