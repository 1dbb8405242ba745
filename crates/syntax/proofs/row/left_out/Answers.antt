-- `syntax::row::left_out` meets its contract. Assumes nothing.
use Rattle.std.proofs.Common.{inl, inr}
use Rattle.syntax.specs.Contract.Rows.{left_out}
use Rattle.syntax.proofs.row.left_out.Goals as goal

pub returns-in-Optional : goal.returns-in-Optional
unfolding left_out
returns-in-Optional c = elim c.in-Optional.is [ inl e ↦ rw (e, left_out) | inr e ↦ rw (e, left_out) ]

pub returns-in-Required : goal.returns-in-Required
unfolding left_out
returns-in-Required c = elim c.in-Required.is [ inl e ↦ rw (e, left_out) | inr e ↦ rw (e, left_out) ]
