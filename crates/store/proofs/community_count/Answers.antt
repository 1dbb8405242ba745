-- `store::community_count` meets its contract. Assumes nothing.
use Rattle.store.specs.Contract.Parts.{community_count}
use Rattle.store.proofs.community_count.Goals as goal

pub returns : goal.returns
unfolding community_count
returns c = rw (c.octet_at.ensures.0, c.community_place.ensures)
