use Rattle.apply.proofs.Numbers.{stamp_inside, stamp_other, stamp_set}
use Rattle.store.specs.Contract.Parts.{identifier_in}
use borrow.Author.Tests.{not-true, not-false}
use mathlib.Core.Path.{ap, ◌∙◌}
use native.Mathlib.Omega.{arith}
use Rattle.apply.proofs.update.number_at.Goals as goal

pub returns-then-not-equal-clause-numbers : goal.returns-then-not-equal-clause-numbers
returns-then-not-equal-clause-numbers c = stamp_other c.requires (c.identifier_of.ensures ∙ ap identifier_in (rw c.image.ensures at c.record_at.ensures)) _ c.equal.ensures (not-true _ c.if-not-equal.true-raw)

pub set_number-requires : goal.set_number-requires
set_number-requires c =
    let w = c.requires in
    omega (arith, stamp_inside w, w.holds.inside)

pub returns-clause-numbers : goal.returns-clause-numbers
returns-clause-numbers c = stamp_set c.requires (c.identifier_of.ensures ∙ ap identifier_in (rw c.image.ensures at c.record_at.ensures)) _ c.equal.ensures (not-false _ c.if-not-equal.false-raw) c.set_number.ensures
