-- `anchor::usual::is_entry` meets its contract. Assumes nothing.
use Rattle.rights.specs.Rights.{any_content_type}
use Rattle.syntax.proofs.Once.{yes_with}
use Rattle.anchor.proofs.Entries.{entry-alone, entry_more}
use Rattle.anchor.proofs.usual.is_entry.Goals as goal

pub returns-then-oid-e : goal.returns-then-oid-e
returns-then-oid-e c = yes_with (entry-alone _ c.requires c.if-oid-e.true)

pub returns : goal.returns
unfolding any_content_type
returns c = record { holds = λ b. entry_more _ c.requires (c.is_rest.ensures.holds b) c.contents.ensures c.equal.ensures c.if-equal.false }
