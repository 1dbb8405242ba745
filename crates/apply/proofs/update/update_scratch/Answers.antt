use Rattle.apply.proofs.Updates.{update_done}
use Rattle.apply.proofs.update.update_scratch.Goals as goal

pub returns : goal.returns
returns c = rw c.number_all.ensures.marks.0 (update_done c.requires c.enter_all.ensures c.number_all.ensures.numbers)
