-- `accept::target::any_module` meets its contract. Assumes nothing.
use Rattle.std.proofs.Common.{rules}
use Rattle.octets.proofs.Chains.{any_gives}
use Rattle.accept.proofs.target.any_module.Goals as goal

pub returns : goal.returns
returns c = any_gives c.any.ensures.ran c.inside.ensures (λ x b q h. search (rules))
