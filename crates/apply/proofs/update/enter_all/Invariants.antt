use Rattle.der.specs.Element.{inside}
use Rattle.accept.specs.Contract.Signer.{signer_rights}
use Rattle.apply.proofs.Entering.{Entering}
use Rattle.apply.proofs.update.enter_all.Given as goal

abbrev pub invariant-loop-n : goal.invariant-loop-n
invariant-loop-n l =
    Entering l.m.message.now (signer_rights l.m.image.now l.m.signer) (inside l.m.message.now l.m.request.updates) l.initial.work.octets l.initial.work.len l.initial.codes l.work.octets l.codes l.n-iterator.iter
    l.work.len l.work.former l.n-iterator.count
