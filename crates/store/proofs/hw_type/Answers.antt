-- `store::hw_type` meets its contract. Assumes nothing.
use Rattle.store.specs.Contract.Parts.{hw_type_in}
use Rattle.store.proofs.hw_type.Goals as goal

pub returns : goal.returns
unfolding hw_type_in
returns c = rw (c.slice.ensures, c.octet_at.ensures.0)
