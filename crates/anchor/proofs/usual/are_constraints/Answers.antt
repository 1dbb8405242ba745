-- `anchor::usual::are_constraints` meets its contract. Assumes nothing.
use Rattle.anchor.proofs.Entries.{constraints_ok}
use Rattle.anchor.proofs.usual.are_constraints.Goals as goal

pub returns : goal.returns
returns c = record { holds = λ b. constraints_ok c.in-Some.ensures c.if-list-v.false c.if-list.false (c.are_members.ensures.holds b) }
