-- The kind of the members. Assumes nothing.
use Rattle.anchor.specs.Contract.Usual.{attributes}
use Rattle.anchor.proofs.usual.is_list.Given as goal

abbrev pub ghost-are_members : goal.ghost-are_members
ghost-are_members a = attributes a.v.now
