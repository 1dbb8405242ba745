-- `syntax::recognise` meets its contract: the code's table is that of specs/Contract/TypeTable. Assumes nothing.
use mathlib.Core.Path.{refl}
use Rattle.syntax.specs.Contract.TypeTable.{type_table}
use Rattle.syntax.proofs.TypeTable.{recognised_by}
use Rattle.syntax.proofs.recognise.Goals as goal

pub returns : goal.returns
unfolding type_table
returns c = recognised_by _ refl c.find_type.ensures
