-- `syntax::matcher::fits` meets its contract: the form's row stands for its syntax. Assumes nothing.
use Rattle.octets.specs.Number.{digits}
use Rattle.der.specs.Oid.{oid, arc, arcs}
use Rattle.syntax.proofs.Ties.{form_is}
use Rattle.syntax.proofs.matcher.fits.Goals as goal

pub returns : goal.returns
unfolding oid arc arcs digits
returns c = rw (← form_is c.args.form, ← c.form_row.ensures.0) c.fit_row.ensures
