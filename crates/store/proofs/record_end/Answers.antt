-- `store::record_end` meets its contract. Assumes nothing.
use native.Mathlib.Omega.{arith}
use Rattle.store.proofs.Walk.{end_is, end_short}
use Rattle.store.proofs.record_end.Goals as goal

pub returns-then-n-p : goal.returns-then-n-p
returns-then-n-p c = end_short c.args.s.now c.args.p (omega arith)

pub returns : goal.returns
returns c = omega (arith, c.min.ensures, end_is c.args.s.now c.args.p c.get_be-size.ensures.0)
