use mathlib.Core.List.{map}
use Rattle.der.specs.Element.{contents}
use Rattle.apply.specs.Contract.Names.{oids_from}
use Rattle.apply.proofs.Additions.{Joining}
use Rattle.apply.proofs.community.add_names.Given as goal

abbrev pub invariant-loop-e : goal.invariant-loop-e
invariant-loop-e l =
    Joining (oids_from l.message l.fn.additions.stop l.fn.additions.start) l.kept l.initial.names.octets l.initial.names.len l.names.octets (map (contents l.message) l.e-iterator) l.names.len
