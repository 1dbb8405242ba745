-- `syntax::matcher::attribute_fits` meets its contract: the form's row stands for its syntax. Assumes nothing.
use Rattle.syntax.proofs.Ties.{attribute_is}
use Rattle.syntax.proofs.matcher.attribute_fits.Goals as goal

pub returns : goal.returns
returns c =
    let a = c.args in
    rw (← attribute_is a.given.now a.form, ← c.attribute_row.ensures.0) c.fit_row.ensures
