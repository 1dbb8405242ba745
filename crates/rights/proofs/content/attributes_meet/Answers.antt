-- `rights::attributes_meet` meets its contract. Assumes nothing.
use Rattle.std.proofs.Common.{rules}
use Rattle.octets.proofs.Chains.{all_gives}
use Rattle.rights.proofs.content.attributes_meet.Goals as goal

pub returns : goal.returns
returns c = all_gives c.all.ensures.ran c.inside.ensures (λ x b q h. search (rules))
