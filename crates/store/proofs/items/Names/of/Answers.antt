-- `store::items::Names::of` meets its contract. Assumes nothing.
use Rattle.store.specs.Contract.Parts.{communities_of}
use Rattle.store.proofs.items.Names.of.Goals as goal

pub returns : goal.returns
unfolding communities_of
returns c = rw (c.new.ensures, c.community_count.ensures, c.community_octets.ensures)
