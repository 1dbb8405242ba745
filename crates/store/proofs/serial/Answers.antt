-- `store::serial` meets its contract. Assumes nothing.
use Rattle.store.specs.Contract.Parts.{serial_in}
use Rattle.store.proofs.serial.Goals as goal

pub returns : goal.returns
unfolding serial_in
returns c = rw (c.slice.ensures, c.octet_at.ensures.0, c.octet_at-p.ensures.0)
