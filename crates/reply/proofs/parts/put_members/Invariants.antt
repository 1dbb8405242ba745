-- The members from p on are left to be written.
use Rattle.std.proofs.Common.{◌-◌, drop}
use Rattle.octets.proofs.Turns.{Unwritten}
use Rattle.reply.specs.Contract.Parts.{members_from}
use Rattle.reply.proofs.parts.put_members.Given as goal

abbrev pub invariant-loop : goal.invariant-loop
invariant-loop l = Unwritten l.initial.buf l.at (members_from l.by l.n l.rows) l.buf l.to (members_from l.by (l.n - l.counter) (drop l.p l.rows))
