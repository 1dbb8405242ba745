-- `image::names_differ` meets its contract. The loop: the names passed differ. Assumes nothing.
use Rattle.std.proofs.Common.{◌≡◌, true, drop}
use Rattle.octets.specs.Octets.{distinct}
use Rattle.store.specs.Contract.Parts.{names_from}
use Rattle.image.proofs.Flags.{Passed}
use Rattle.image.proofs.names_differ.Given as goal

abbrev pub invariant-loop-i : goal.invariant-loop-i
invariant-loop-i l = Passed (λ k. distinct k ≡ true) (names_from l.n (drop l.p l.s)) l.i-iterator.count l.i-iterator.iter
