-- `image::is_number` meets its contract. Assumes nothing.
use borrow.Author.Tests.{le-leb, lt-leb, eq-eqb, ne_eqb}
use Rattle.store.specs.Image.{number_ok}
use Rattle.image.proofs.is_number.Goals as goal

pub returns-then-present-gt1 : goal.returns-then-present-gt1
unfolding number_ok
returns-then-present-gt1 c = rw (lt-leb _ _ c.if-present-gt1.true)

pub returns-then-n-gt-MAX_NUMBER : goal.returns-then-n-gt-MAX_NUMBER
unfolding number_ok
returns-then-n-gt-MAX_NUMBER c = rw (le-leb _ _ c.if-present-gt1.false, lt-leb _ _ c.if-n-gt-MAX_NUMBER.true)

pub returns-then-present-eq1 : goal.returns-then-present-eq1
unfolding number_ok
returns-then-present-eq1 c = rw (le-leb _ _ c.if-present-gt1.false, le-leb _ _ c.if-n-gt-MAX_NUMBER.false, eq-eqb _ _ c.if-present-eq1.true)

pub returns : goal.returns
unfolding number_ok
returns c = rw (le-leb _ _ c.if-present-gt1.false, le-leb _ _ c.if-n-gt-MAX_NUMBER.false, ne_eqb _ _ c.if-present-eq1.false)
