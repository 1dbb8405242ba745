use Rattle.store.specs.Contract.Parts.{communities_of}
use Rattle.apply.proofs.Sections.{Keeping}
use Rattle.apply.specs.Contract.Names.{oids_from}
use Rattle.apply.proofs.community.keep_names.Given as goal

abbrev pub invariant-loop-name : goal.invariant-loop-name
invariant-loop-name l =
    Keeping (oids_from l.message l.removals.stop l.removals.start) (communities_of l.fn.image) l.names.octets l.names.len l.name-iterator
