-- `store::first_record` meets its contract. Assumes nothing.
use Rattle.store.specs.Contract.Parts.{first_record}
use Rattle.store.proofs.first_record.Goals as goal

pub returns : goal.returns
unfolding first_record
returns c = rw c.anchor_place.ensures.0
