-- `anchor::usual::is_list` meets its contract. Assumes nothing.
use Rattle.syntax.proofs.Once.{yes_with}
use Rattle.anchor.proofs.Entries.{rest-none, rest-list}
use Rattle.anchor.proofs.usual.is_list.Goals as goal

pub returns-then-stop-at : goal.returns-then-stop-at
returns-then-stop-at c = yes_with (rest-none _ _ _ c.if-stop-at.true)

pub returns : goal.returns
returns c = record { holds = λ b. rest-list _ _ _ c.in-Some.ensures c.if-list-stop.false c.if-list.false (c.are_members.ensures.holds b) }
