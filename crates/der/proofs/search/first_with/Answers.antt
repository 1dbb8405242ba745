-- `der::first_with` meets its contract. Assumes nothing.
use Rattle.std.proofs.Common.{rules, ◌∙◌}
use Rattle.octets.proofs.Chains.{find_gives}
use Rattle.der.proofs.Keys.{first_found}
use Rattle.der.proofs.search.first_with.Goals as goal

pub returns : goal.returns
returns c = find_gives _ c.find.ensures.ran c.new.ensures (λ x b q h. search (rules)) ∙ first_found _ _ _ _
