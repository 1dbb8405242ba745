-- The size so far, and that of the members left, are the size of all.
use Rattle.std.proofs.Common.{◌≡◌, ◌+◌, ◌-◌, length, drop}
use Rattle.reply.specs.Contract.Parts.{members_from}
use Rattle.reply.proofs.parts.members_size.Given as goal

abbrev pub invariant-loop : goal.invariant-loop
invariant-loop l = l.size + length (members_from l.by (l.n - l.counter) (drop l.p l.rows)) ≡ length (members_from l.by l.n l.rows)
