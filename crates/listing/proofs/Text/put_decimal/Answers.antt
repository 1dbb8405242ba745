-- `listing::Text::put_decimal` meets its contract. Assumes nothing.
use Rattle.listing.proofs.Texts.{decimal-zero, decimal_digits_lem}
use Rattle.listing.proofs.Text.put_decimal.Goals as goal

pub put_octet-requires : goal.put_octet-requires
put_octet-requires c = let a = c.args in rw (decimal-zero a.n c.if-n-eq0.true) at c.requires

pub returns-then-n-eq0-clause-written : goal.returns-then-n-eq0-clause-written
returns-then-n-eq0-clause-written c =
    let a = c.args in
    rw (decimal-zero a.n c.if-n-eq0.true) c.put_octet.ensures.written

pub put_digits-requires : goal.put_digits-requires
put_digits-requires c = let a = c.args in rw (decimal_digits_lem a.n c.if-n-eq0.false) at c.requires

pub returns-clause-written : goal.returns-clause-written
returns-clause-written c =
    let a = c.args in
    rw (decimal_digits_lem a.n c.if-n-eq0.false) c.put_digits.ensures.written
