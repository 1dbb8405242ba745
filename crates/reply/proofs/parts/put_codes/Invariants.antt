-- The codes that are left are to be written.
use Rattle.std.proofs.Common.{drop}
use Rattle.reply.specs.Contract.Parts.{status_codes}
use Rattle.octets.proofs.Turns.{Unwritten}
use Rattle.reply.proofs.parts.put_codes.Given as goal

abbrev pub invariant-loop-code : goal.invariant-loop-code
invariant-loop-code l = Unwritten l.initial.buf l.at (status_codes l.codes) l.buf l.p (status_codes (drop l.code-index l.codes))
