-- `store::name_end` meets its contract. Assumes nothing.
use native.Mathlib.Omega.{arith}
use Rattle.store.specs.Contract.Parts.{name_end}
use Rattle.store.proofs.name_end.Goals as goal

pub returns-then-n-p : goal.returns-then-n-p
unfolding name_end
returns-then-n-p c = omega arith

pub returns : goal.returns
unfolding name_end
returns c = omega (arith, c.min.ensures, c.octet_at.ensures.0)
