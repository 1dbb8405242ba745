-- `rights::among` meets its contract. Assumes nothing.
use Rattle.std.proofs.Common.{rules}
use Rattle.rights.proofs.Engine.{listed_found}
use Rattle.rights.proofs.decision.Anchors.among.Goals as goal

pub returns : goal.returns
returns c = listed_found _ _ _ _ (c.find_map.ensures.ran, c.find_map.ensures.runs) c.root.ensures c.inside.ensures (λ x r q h. search rules)
