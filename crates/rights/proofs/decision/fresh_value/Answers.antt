-- `rights::fresh_value` meets its contract. Assumes nothing.
use Rattle.std.proofs.Common.{rules}
use native.Mathlib.Omega.{arith}
use Rattle.rights.specs.Decision.{integer}
use Rattle.rights.proofs.Values.{value_smallest}
use Rattle.rights.proofs.decision.fresh_value.Goals as goal

pub returns : goal.returns
unfolding integer
returns c = value_smallest _ (λ i. omega (arith, c.type_inv.v i)) c.args.constraint c.smallest.ensures.bounded (λ i h. let x = c.smallest.ensures.least i h in search (x, rules)) (λ h. let x = c.smallest.ensures.free h in search (x, rules))
