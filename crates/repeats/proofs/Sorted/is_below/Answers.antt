-- `repeats::Sorted::is_below` meets its contract. Assumes nothing.
use Rattle.std.proofs.Common.{rules}
use mathlib.Core.Path.{sym, ◌∙◌}
use Rattle.octets.proofs.Chains.{all_gives}
use Rattle.repeats.proofs.Led.{below_all}
use Rattle.repeats.proofs.Sorted.is_below.Goals as goal

pub returns : goal.returns
returns c = λ t. below_all _ _ _ _ (sym (all_gives c.all.ensures.ran c.inside.ensures (λ x b q h. search (rules))) ∙ t)
