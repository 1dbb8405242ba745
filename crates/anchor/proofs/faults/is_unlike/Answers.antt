-- `anchor::is_unlike` meets its contract. Assumes nothing.
use mathlib.Core.Path.{sym, ◌∙◌}
use Rattle.rights.specs.Rights.{any_content_type}
use Rattle.anchor.proofs.Constraints.{unlike_other, unlike_generation, unlike_constrained}
use Rattle.anchor.proofs.faults.is_unlike.Goals as goal

pub returns-then-field : goal.returns-then-field
unfolding any_content_type
returns-then-field c =
    c.if-field.true ∙ sym (unlike_generation c.args.v.now c.args.e c.type_of.ensures c.equal.ensures c.if-equal.true c.field.ensures c.if-field.true)

pub returns-else-field : goal.returns-else-field
unfolding any_content_type
returns-else-field c =
    sym (unlike_constrained c.args.v.now c.args.e c.type_of.ensures c.equal.ensures c.if-equal.true c.field.ensures c.if-field.false c.field-else-field.ensures c.more_than.ensures)

pub returns-else-equal : goal.returns-else-equal
unfolding any_content_type
returns-else-equal c = c.if-equal.false ∙ sym (unlike_other c.args.v.now c.args.e c.type_of.ensures c.equal.ensures c.if-equal.false)
