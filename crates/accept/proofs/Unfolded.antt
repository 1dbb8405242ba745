-- Definitions that a proof computes through, under one name for each such proof: the attribute `tactic` of the function names it.
use Rattle.der.specs.Fit.{given_at}
use Rattle.protocol.specs.Acceptance.{row_23, judged_at, by_signer}
use Rattle.accept.specs.Contract.Judged.{store_in, judged_of, judged_in, located}

-- the rows after 16
unfoldable pub rows : Unit {0}
unfolding given_at row_23 judged_at store_in located
rows = tt

-- all rows
unfoldable pub table : Unit {0}
unfolding by_signer judged_of judged_in located
table = tt
