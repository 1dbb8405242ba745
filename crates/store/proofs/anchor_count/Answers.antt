-- `store::anchor_count` meets its contract. Assumes nothing.
use Rattle.store.specs.Contract.Parts.{anchor_count}
use Rattle.store.proofs.anchor_count.Goals as goal

pub returns : goal.returns
unfolding anchor_count
returns c = rw (c.octet_at.ensures.0, c.anchor_place.ensures.0)
