-- `syntax::row::row_of` meets its contract. Assumes nothing.
use Rattle.syntax.proofs.Rows.{row_read}
use Rattle.syntax.proofs.row.row_of.Goals as goal

pub returns : goal.returns
returns c = row_read c.requires.0 c.requires.1 (rw c.from.ensures)
