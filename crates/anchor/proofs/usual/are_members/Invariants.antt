-- `anchor::usual::are_members` meets its contract. The loop: 34 and 17 find nothing of the members passed. Assumes nothing.
use Rattle.anchor.proofs.Entries.{Walked}
use Rattle.anchor.proofs.usual.are_members.Given as goal

abbrev pub invariant-loop-n : goal.invariant-loop-n
invariant-loop-n g l =
    (goal.iterator-loop-n g).can_next l.n-iterator
    × (goal.iterator-loop-n g).is_finite l.n-iterator
    × Walked g.kind.depth g.kind.syntax g.kind.faults l.most l.v l.list.start l.list.stop l.n-iterator.iter l.n-iterator.count l.seen
