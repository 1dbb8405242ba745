-- `rights::entry_outside` meets its contract. Assumes nothing.
use borrow.Author.Rules.{rules}
use Rattle.rights.proofs.Engine.{entry-within, entry_carried, entry_sourced, entry-pair}
use Rattle.rights.proofs.decision.Anchors.entry_outside.Goals as goal

pub returns-in_err-n : goal.returns-in_err-n
returns-in_err-n c = entry-within _ _ _ _ c.in_err-n.was c.from_residual.ensures

pub returns-in_default : goal.returns-in_default
returns-in_default c = search (entry_carried, rules)

pub returns-then-only_new_sources : goal.returns-then-only_new_sources
returns-then-only_new_sources c = search (entry_sourced, rules)

pub returns : goal.returns
returns c = search (entry-pair, rules)
