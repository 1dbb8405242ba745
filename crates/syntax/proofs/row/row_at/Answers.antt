-- `syntax::row::row_at` meets its contract: the code's table is that of specs/Contract/Table. Assumes nothing.
use mathlib.Core.Path.{refl}
use Rattle.syntax.specs.Contract.Table.{rows}
use Rattle.syntax.proofs.row.row_at.Goals as goal

pub row_of-requires : goal.row_of-requires
unfolding rows
row_of-requires c = (refl, c.requires)
