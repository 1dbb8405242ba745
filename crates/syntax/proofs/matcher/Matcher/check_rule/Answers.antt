-- `syntax::matcher::Matcher::check_rule` meets its contract: the answer of `keeps`, charged to the element around the window. Assumes nothing.
use mathlib.Core.Path.{sym, ◌∙◌}
use Rattle.der.proofs.Fits.{held_fits, held_breaks}
use Rattle.syntax.proofs.matcher.Matcher.check_rule.Goals as goal

pub returns-then-keeps : goal.returns-then-keeps
returns-then-keeps c = rw (← c.slice.ensures) (sym (held_fits _ (sym c.keeps.ensures ∙ c.if-keeps.true)))

pub returns : goal.returns
returns c = rw (← c.slice.ensures) (sym (held_breaks _ (sym c.keeps.ensures ∙ c.if-keeps.false)))
