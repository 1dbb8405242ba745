-- `rights::pair_outside` meets its contract. Assumes nothing.
use Rattle.std.proofs.Common.{rules}
use Rattle.rights.proofs.Engine.{pair_found}
use Rattle.rights.proofs.decision.Anchors.pair_outside.Goals as goal

pub returns : goal.returns
returns c = pair_found _ _ _ _ _ (c.find_map.ensures.ran, c.find_map.ensures.runs) c.field-list.ensures c.inside.ensures (λ x r q h. search rules)
