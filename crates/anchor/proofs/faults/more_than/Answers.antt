-- `anchor::more_than` meets its contract. Assumes nothing.
use Rattle.std.proofs.Common.{ap, ◌∙◌}
use Rattle.std.specs.Prelude.{is_some}
use Rattle.anchor.proofs.Chains.{nth_gives}
use Rattle.anchor.proofs.Constraints.{nth_stands}
use Rattle.anchor.proofs.faults.more_than.Goals as goal

pub returns : goal.returns
returns c = c.is_some.ensures ∙ ap is_some (nth_gives _ c.args.n c.nth.ensures.ran c.inside.ensures) ∙ nth_stands _ c.args.n
