use Rattle.std.proofs.Common.{rules}
use Rattle.der.proofs.Elements.{elements_end}
use Rattle.der.proofs.Runs.{run_turn}
use Rattle.der.proofs.read.RunIterator.next.Goals as goal

pub returns-then-self-clause-steps : goal.returns-then-self-clause-steps
returns-then-self-clause-steps c = search (elements_end, rules)

pub returns-clause-steps : goal.returns-clause-steps
returns-clause-steps c = search (run_turn, rules)

pub returns-clause-goes : goal.returns-clause-goes
returns-clause-goes c = search (run_turn, rules)
