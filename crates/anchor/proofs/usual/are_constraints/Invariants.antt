-- The kind of the members. Assumes nothing.
use Rattle.anchor.specs.Contract.Usual.{entries}
use Rattle.anchor.proofs.usual.are_constraints.Given as goal

abbrev pub ghost-are_members : goal.ghost-are_members
ghost-are_members a = entries a.v.now
