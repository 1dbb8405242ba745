-- `anchor::usual::is_rest` meets its contract. Assumes nothing.
use borrow.Author.Tests.{not-false}
use Rattle.anchor.proofs.Entries.{rest_generation}
use Rattle.anchor.proofs.usual.is_rest.Goals as goal

pub returns : goal.returns
returns c = record { holds = λ b. rest_generation _ _ _ c.in-Some.ensures c.contents.ensures c.equal.ensures (not-false _ c.if-not-equal.false-raw) (c.is_list-2.ensures.holds b).0 }
