-- `repeats::Sorted::is_seen` meets its contract. Assumes nothing.
use mathlib.Core.Path.{sym, ◌∙◌}
use Rattle.repeats.proofs.Keys.{member_first, member-both}
use Rattle.repeats.proofs.Sorted.is_seen.Goals as goal

pub returns-then-occurs : goal.returns-then-occurs
returns-then-occurs c = c.if-occurs.true ∙ sym (member_first _ _ _ (sym c.occurs.ensures ∙ c.if-occurs.true))

pub returns-else-occurs : goal.returns-else-occurs
returns-else-occurs c = c.occurs-else-occurs.ensures ∙ sym (member-both _ _ _ (sym c.occurs.ensures ∙ c.if-occurs.false))
