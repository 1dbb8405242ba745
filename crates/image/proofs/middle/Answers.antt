-- `image::middle` meets its contract. Assumes nothing.
use Rattle.image.specs.Contract.Check.{middle_of}
use Rattle.image.proofs.middle.Goals as goal

pub returns : goal.returns
unfolding middle_of
returns c = c.octet_at.ensures
