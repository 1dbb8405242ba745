-- `rights::lists_type` meets its contract. Assumes nothing.
use Rattle.rights.proofs.Places.{listed_types_lem}
use Rattle.rights.proofs.decision.lists_type.Goals as goal

pub returns : goal.returns
returns c = rw (c.occurs.ensures, c.root-list.ensures, listed_types_lem c.args.v.now)
