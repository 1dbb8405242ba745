use Rattle.std.proofs.Common.{rules, ◌≡◌, sym, ◌∙◌, ◌<◌, not, false, Err, List, ◌∷◌, ℕ}
use native.Mathlib.Omega.{arith}
use borrow.Author.Tests.{not-true, not-false}
use Rattle.der.specs.declared.Element.{Element}
use Rattle.der.specs.Element.{element_at}
use Rattle.der.proofs.Fits.{then_fits, then_breaks}
use Rattle.syntax.proofs.Each.{Every}
use Rattle.syntax.proofs.Window.{Member, members}
use Rattle.syntax.proofs.Match.{Met, met}
use Rattle.syntax.proofs.RowSteps.{members_many, members_end, members_broken, members_fail, members_on}
use Rattle.syntax.proofs.RowSteps.{row_free, row_end, row_end_breaks, row_many, row_rule, rule_alone, after_goes, after_breaks, lone_other, lone_here}
use Rattle.syntax.proofs.RowSteps.{field-none, field_broken, field_any, field_one, field-other, field-here, contents_goes, contents_breaks}
use Rattle.syntax.proofs.matcher.Matcher.+fit.Goals as goal

-- where an element of a field has been read
field_met : {s : List ℕ} {at stop : ℕ} {e : Element} → e ≡ element_at s at stop → at < stop → not e.valid ≡ false → Met s at stop e
field_met i r v = record { is = i; room = r; valid = not-false _ v }

pub fit_body-returns-in-Obeys-default-eq0 : goal.fit_body-returns-in-Obeys-default-eq0
fit_body-returns-in-Obeys-default-eq0 t c = sym (rule_alone _ _ _ _ _ _ c.in-Obeys-default-eq0.ensures c.in-Obeys-default-eq0.field-1-test c.check_rule.ensures)

pub fit_each-loop-e-init : goal.fit_each-loop-e-init
fit_each-loop-e-init t c =
    let a = c.args in
    rw (c.into_iter-e-iterator.ensures.into_iter_gives, c.new-e-items.ensures) (members a.self.now.octets.now a.at a.stop, sym (members_many _ _ _ _ _))

pub fit_each-returns-then-not-e : goal.fit_each-returns-then-not-e
fit_each-returns-then-not-e t c = members_broken _ _ _ c.loop-e.invariant.1 c.in-Some.ensures.steps (not-true _ c.if-not-e.true)

pub fit_each-fit_member-requires : goal.fit_each-fit_member-requires
fit_each-fit_member-requires t c =
    let a = c.args in
    let k : Every (Member a.self.now.octets.now a.at a.stop) (c.in-Some.e ∷ c.next.new.self) = rw c.in-Some.ensures.steps at c.loop-e.invariant.0 in
    let o = k.0.own (not-false _ c.if-not-e.false) in
    (omega arith, (c.requires, (o.is, o.valid)))

pub fit_each-loop-e-preserved : goal.fit_each-loop-e-preserved
fit_each-loop-e-preserved t c =
    let a = c.args in
    let k : Every (Member a.self.now.octets.now a.at a.stop) (c.in-Some.e ∷ c.next.new.self) = rw c.in-Some.ensures.steps at c.loop-e.invariant.0 in
    (k.1, members_on _ _ _ c.loop-e.invariant.1 c.in-Some.ensures.steps (not-false _ c.if-not-e.false) c.fit_member.ensures c.in_ok-fit_member.was)

pub fit_each-returns-in_err-fit_member : goal.fit_each-returns-in_err-fit_member
fit_each-returns-in_err-fit_member t c =
    let e = members_fail _ _ _ c.loop-e.invariant.1 c.in-Some.ensures.steps (not-false _ c.if-not-e.false) c.fit_member.ensures c.in_err-fit_member.was in
    search (e, rules)

pub fit_each-returns : goal.fit_each-returns
fit_each-returns t c = members_end _ _ _ c.loop-e.invariant.1 c.in-None.ensures.steps.0

pub fit_field-returns-then-stop-at : goal.fit_field-returns-then-stop-at
fit_field-returns-then-stop-at t c next = field-none _ _ next _ _ _ _ _ c.left_out.ensures c.if-stop-at.true

pub fit_field-returns-then-not-e : goal.fit_field-returns-then-not-e
fit_field-returns-then-not-e t c next = field_broken _ _ next _ _ _ _ _ c.element_at-e.ensures c.if-stop-at.false (not-true _ c.if-not-e.true)

pub fit_field-returns-in_err-fit_body-in-One : goal.fit_field-returns-in_err-fit_body-in-One
fit_field-returns-in_err-fit_body-in-One t c next =
    let e : c.from_residual.result ≡ Err c.in_err-fit_body-in-One.field-0.0 = search rules in
    rw e
    (field_one _ _ next _ _ _ _ (field_met c.element_at-e.ensures c.if-stop-at.false c.if-not-e.false) c.in-One.is c.fit_body.ensures (contents_breaks _ c.in_err-fit_body-in-One.was))

pub fit_field-returns-then-other : goal.fit_field-returns-then-other
fit_field-returns-then-other t c next =
    field-other _ _ next _ _ _ _ (field_met c.element_at-e.ensures c.if-stop-at.false c.if-not-e.false) _ c.in-Optional.is c.left_out-then-other.ensures c.if-other.true

pub fit_field-returns-in_err-fit_body-in-Optional : goal.fit_field-returns-in_err-fit_body-in-Optional
fit_field-returns-in_err-fit_body-in-Optional t c next =
    let e : c.from_residual-in_err-fit_body-in-Optional.result ≡ Err c.in_err-fit_body-in-Optional.field-0.0 = search rules in
    rw e
    (field-here _ _ next _ _ _ _ (field_met c.element_at-e.ensures c.if-stop-at.false c.if-not-e.false) _ c.in-Optional.is c.fit_body-in-Optional.ensures (contents_breaks _ c.in_err-fit_body-in-Optional.was)
    c.if-other.false)

pub fit_field-returns-in-AnyOptional : goal.fit_field-returns-in-AnyOptional
fit_field-returns-in-AnyOptional t c next = field_any _ _ next _ _ _ _ (field_met c.element_at-e.ensures c.if-stop-at.false c.if-not-e.false) c.in-AnyOptional.is

pub fit_field-returns-in_ok-fit_body-in-One : goal.fit_field-returns-in_ok-fit_body-in-One
fit_field-returns-in_ok-fit_body-in-One t c next =
    field_one _ _ next _ _ _ _ (field_met c.element_at-e.ensures c.if-stop-at.false c.if-not-e.false) c.in-One.is c.fit_body.ensures (contents_goes _ c.in_ok-fit_body-in-One.was)

pub fit_field-returns-in_ok-fit_body-in-Optional : goal.fit_field-returns-in_ok-fit_body-in-Optional
fit_field-returns-in_ok-fit_body-in-Optional t c next =
    field-here _ _ next _ _ _ _ (field_met c.element_at-e.ensures c.if-stop-at.false c.if-not-e.false) _ c.in-Optional.is c.fit_body-in-Optional.ensures (contents_goes _ c.in_ok-fit_body-in-Optional.was)
    c.if-other.false

pub fit_member-returns-then-e-tag : goal.fit_member-returns-then-e-tag
fit_member-returns-then-e-tag t c =
    let p = c.in-Field-Optional-default-default-eq1 in
    sym (lone_other _ _ _ _ _ _ p.ensures p.field-0-is p.field-3-test (met c.requires.1.0 c.requires.1.1) c.if-e-tag.true)

pub fit_member-returns : goal.fit_member-returns
fit_member-returns t c =
    let p = c.in-Field-Optional-default-default-eq1 in
    c.fit_body.ensures ∙ sym (lone_here _ _ _ _ _ _ p.ensures p.field-0-is p.field-3-test (met c.requires.1.0 c.requires.1.1) c.if-e-tag.false (omega arith))

pub fit_row-returns-in-Free : goal.fit_row-returns-in-Free
fit_row-returns-in-Free t c = sym (c.rows.invariant.1 ∙ row_free _ _ _ _ _ _ c.in-Free.ensures)

pub fit_row-returns-then-stop-i : goal.fit_row-returns-then-stop-i
fit_row-returns-then-stop-i t c = sym (c.rows.invariant.1 ∙ row_end _ _ _ _ _ _ c.in-End.ensures c.if-stop-i.true)

pub fit_row-returns-else-stop-i : goal.fit_row-returns-else-stop-i
fit_row-returns-else-stop-i t c = sym (c.rows.invariant.1 ∙ row_end_breaks _ _ _ _ _ _ c.in-End.ensures c.if-stop-i.false)

pub fit_row-returns-in-Many : goal.fit_row-returns-in-Many
fit_row-returns-in-Many t c = c.fit_each.ensures ∙ sym (c.rows.invariant.1 ∙ row_many _ _ _ _ _ _ c.in-Many.ensures)

pub fit_row-returns-in_err-fit_body-in-Obeys : goal.fit_row-returns-in_err-fit_body-in-Obeys
fit_row-returns-in_err-fit_body-in-Obeys t c =
    let e = c.rows.invariant.1 ∙ row_rule _ _ _ _ _ _ c.in-Obeys.ensures ∙ then_breaks _ (sym c.fit_body.ensures ∙ c.in_err-fit_body-in-Obeys.was) in
    search (e, rules)

pub fit_row-returns-in-Obeys : goal.fit_row-returns-in-Obeys
fit_row-returns-in-Obeys t c =
    c.check_rule.ensures ∙ sym (c.rows.invariant.1 ∙ row_rule _ _ _ _ _ _ c.in-Obeys.ensures ∙ then_fits _ (sym c.fit_body.ensures ∙ c.in_ok-fit_body-in-Obeys.was))

pub fit_row-returns-in_err-i-in-Field : goal.fit_row-returns-in_err-i-in-Field
fit_row-returns-in_err-i-in-Field t c =
    let e = c.rows.invariant.1 ∙ after_breaks _ _ _ _ _ _ c.in-Field.ensures c.fit_field.ensures c.in_err-i-in-Field.was in
    search (e, rules)

pub fit_row-rows-preserved : goal.fit_row-rows-preserved
fit_row-rows-preserved t c =
    let n = c.in-Field.ensures.names in
    (omega (arith, n.1, c.rows.invariant.0), c.rows.invariant.1 ∙ after_goes _ _ _ _ _ _ c.in-Field.ensures c.fit_field.ensures c.in_ok-i-in-Field.was)
