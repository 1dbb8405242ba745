-- `rights::fresh_type` meets its contract. Assumes nothing.
use Rattle.std.proofs.Common.{rules}
use native.Mathlib.Omega.{arith}
use Rattle.octets.proofs.Lists.{member-append}
use Rattle.rights.specs.Decision.{oid, listed_types}
use Rattle.rights.proofs.Values.{type_smallest}
use Rattle.rights.proofs.decision.fresh_type.Goals as goal

pub returns : goal.returns
unfolding oid listed_types
returns c =
    type_smallest _ _ (λ i. omega (arith, c.type_inv.signer i)) (λ i. omega (arith, c.type_inv.new i)) c.smallest.ensures.bounded
    (λ i h. let x = c.smallest.ensures.least i h in search (x, member-append, rules))
    (λ h. let x = c.smallest.ensures.free h in search (x, member-append, rules))
