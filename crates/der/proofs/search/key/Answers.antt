-- `der::key` meets its contract. Assumes nothing.
use Rattle.der.specs.Keys.{key_of}
use Rattle.der.proofs.search.key.Goals as goal

pub returns-in-Types : goal.returns-in-Types
unfolding key_of
returns-in-Types c = rw (c.in-Types.is, c.type_of.ensures)

pub returns-in-Contents : goal.returns-in-Contents
unfolding key_of
returns-in-Contents c = rw (c.in-Contents.is, c.contents.ensures)

pub returns-in-Encodings : goal.returns-in-Encodings
unfolding key_of
returns-in-Encodings c = rw (c.in-Encodings.is, c.encoding.ensures)
