-- `repeats::are_few` meets its contract. Assumes nothing.
use borrow.Author.Tests.{eq-eqb, ne_eqb, le-leb, lt-leb}
use Rattle.repeats.specs.Contract.Order.{are_few}
use Rattle.repeats.proofs.are_few.Goals as goal

pub returns-then-n-eq0 : goal.returns-then-n-eq0
unfolding are_few
returns-then-n-eq0 c = rw (← c.octets_in-n.ensures, eq-eqb _ _ c.if-n-eq0.true)

pub returns-then-n-le-FEW_OCTETS : goal.returns-then-n-le-FEW_OCTETS
unfolding are_few
returns-then-n-le-FEW_OCTETS c = rw (← c.octets_in-n.ensures, ← c.octets_in.ensures, ne_eqb _ _ c.if-n-eq0.false, le-leb _ _ c.if-n-le-FEW_OCTETS.true)

pub returns-else-n-le-FEW_OCTETS : goal.returns-else-n-le-FEW_OCTETS
unfolding are_few
returns-else-n-le-FEW_OCTETS c = rw (← c.octets_in-n.ensures, ne_eqb _ _ c.if-n-eq0.false, lt-leb _ _ c.if-n-le-FEW_OCTETS.false)
