-- `store::items::Records::of` meets its contract. Assumes nothing.
use Rattle.store.proofs.Walk.{records_of_lem}
use Rattle.store.proofs.items.Records.of.Goals as goal

pub returns : goal.returns
returns c = rw (c.new.ensures, c.anchor_count.ensures, c.first_record.ensures, records_of_lem c.args.image.now)
