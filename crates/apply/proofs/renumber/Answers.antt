-- `apply::renumber` meets its contract. Assumes nothing.
use native.Mathlib.Omega.{arith}
use Rattle.apply.proofs.Signing.{copy_fits, number_fits, renumbered}
use Rattle.apply.proofs.renumber.Goals as goal

pub copy_to-requires : goal.copy_to-requires
copy_to-requires c = copy_fits (λ k. omega (arith, c.shared_slice_known-1.given k)) c.requires

pub set_number-requires : goal.set_number-requires
set_number-requires c = number_fits (λ k. omega (arith, c.shared_slice_known-1.given k)) c.requires c.copy_to.ensures

pub returns : goal.returns
returns c = renumbered (λ k. omega (arith, c.shared_slice_known-1.given k)) c.requires c.copy_to.ensures c.set_number.ensures
