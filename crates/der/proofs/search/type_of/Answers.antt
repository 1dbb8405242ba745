-- `der::type_of` meets its contract. Assumes nothing.
use Rattle.der.proofs.search.type_of.Goals as goal

pub returns : goal.returns
returns c = rw (c.contents.ensures, c.field.ensures)
