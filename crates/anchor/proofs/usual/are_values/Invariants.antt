-- `anchor::usual::are_values` meets its contract. The loop: each value passed stands after those before it. Assumes nothing.
use Rattle.der.specs.Element.{inside}
use Rattle.anchor.proofs.Values.{Risen}
use Rattle.anchor.proofs.usual.are_values.Given as goal

abbrev pub invariant-loop-n : goal.invariant-loop-n
invariant-loop-n l =
    (goal.iterator-loop-n).can_next l.n-iterator
    × (goal.iterator-loop-n).is_finite l.n-iterator
    × Risen l.v l.fn.set.start (inside l.v l.fn.set) l.n-iterator.iter l.n-iterator.count l.former
