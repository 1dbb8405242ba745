-- `store::find_anchor` meets its contract. Assumes nothing.
use Rattle.store.proofs.Walk.{records_of_lem}
use Rattle.store.proofs.find_anchor.Goals as goal

pub returns : goal.returns
returns c =
    rw (
      records_of_lem c.args.image.now,
      c.find_anchor_from.ensures,
      c.anchor_count.ensures,
      c.first_record.ensures,
    )
