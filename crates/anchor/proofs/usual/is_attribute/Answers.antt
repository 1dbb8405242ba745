-- `anchor::usual::is_attribute` meets its contract. Assumes nothing.
use Rattle.anchor.proofs.Entries.{attribute_ok}
use Rattle.anchor.proofs.usual.is_attribute.Goals as goal

pub returns : goal.returns
returns c = record { holds = λ b. attribute_ok _ c.requires c.in-Some.ensures c.if-set-a.false c.if-set.false (c.are_values.ensures.holds b) }
