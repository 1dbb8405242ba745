-- `repeats::Sorted::is_before` meets its contract. Assumes nothing.
use borrow.Author.Tests.{eq-eqb, ne_eqb}
use Rattle.repeats.specs.Contract.Order.{is_before}
use Rattle.repeats.proofs.Sorted.is_before.Goals as goal

pub returns-then-place-ne0 : goal.returns-then-place-ne0
unfolding is_before
returns-then-place-ne0 c = rw (← c.cell-place.ensures, c.in_order.ensures, c.key_at.ensures, ne_eqb _ _ c.if-place-ne0.true)

pub returns-else-place-ne0 : goal.returns-else-place-ne0
unfolding is_before
returns-else-place-ne0 c = rw (← c.cell-place.ensures, eq-eqb _ _ c.if-place-ne0.false)
