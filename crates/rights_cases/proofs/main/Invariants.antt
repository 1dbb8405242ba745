-- The cases end, since each answer takes octets.
use Rattle.std.proofs.Common.{length}
use Rattle.rights_cases.proofs.main.Given as goal

abbrev pub decreases-loop-answer : goal.decreases-loop-answer
decreases-loop-answer l = length l.cases.left.now
