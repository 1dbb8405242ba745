-- `store::community_place` meets its contract. Assumes nothing.
use Rattle.store.specs.Contract.Parts.{community_place}
use Rattle.store.proofs.community_place.Goals as goal

pub returns : goal.returns
unfolding community_place
returns c = rw (c.record_place.ensures, c.anchor_count.ensures)
