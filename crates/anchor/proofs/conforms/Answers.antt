-- `anchor::conforms` meets its contract. Assumes nothing.
use borrow.Author.Tests.{not-false}
use mathlib.Core.Path.{◌∙◌}
use Rattle.anchor.proofs.Stages.{conforms_not, conforms_whole}
use Rattle.anchor.proofs.conforms.Goals as goal

pub returns-then-not-e : goal.returns-then-not-e
returns-then-not-e c = conforms_not _ _ c.root-e.ensures c.then-not-e.either

pub returns : goal.returns
returns c = c.conforms.ensures 0 ∙ conforms_whole _ _ c.root-e.ensures (not-false _ c.if-not-e.false) c.if-e-t.false
