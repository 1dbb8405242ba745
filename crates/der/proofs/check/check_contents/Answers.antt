-- `der::check_contents` meets its contract. Assumes nothing.
use mathlib.Core.Path.{sym, ap, ◌∙◌}
use Rattle.der.specs.Contents.{contents_ok}
use Rattle.der.proofs.Fits.{held_fits, held_breaks}
use Rattle.der.proofs.check.check_contents.Goals as goal

pub returns-then-contents_ok : goal.returns-then-contents_ok
returns-then-contents_ok c = sym (held_fits _ (sym (c.contents_ok.ensures ∙ ap (contents_ok _) c.contents.ensures) ∙ c.if-contents_ok.true))

pub returns-else-contents_ok : goal.returns-else-contents_ok
returns-else-contents_ok c = sym (held_breaks _ (sym (c.contents_ok.ensures ∙ ap (contents_ok _) c.contents.ensures) ∙ c.if-contents_ok.false))
