-- `rights::type_outside` meets its contract. Assumes nothing.
use Rattle.rights.proofs.Engine.{type_governed}
use Rattle.rights.proofs.decision.Anchors.type_outside.Goals as goal

pub returns : goal.returns
returns c = type_governed _ _ c.args.key.now c.governing.ensures c.governing-2.ensures _ c.entry_outside.ensures
