-- `apply::has_repeat` meets its contract. Assumes nothing.
use mathlib.Core.Bool.{not}
use mathlib.Core.Path.{ap}
use Rattle.der.specs.Keys.{key_of}
use Rattle.apply.proofs.community.has_repeat.Goals as goal

pub returns : goal.returns
unfolding key_of
returns c = ap not c.are_distinct.ensures
