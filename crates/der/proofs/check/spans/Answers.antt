-- `der::spans` meets its contract. Assumes nothing.
use Rattle.std.proofs.Common.{rules}
use mathlib.Core.Path.{sym, ◌∙◌}
use borrow.Author.Tests.{eq-eqb, ne_eqb}
use Rattle.der.proofs.Fits.{then_fits, then_breaks, held_fits, held_breaks}
use Rattle.der.proofs.Checks.{spans-none, spans_one}
use Rattle.der.proofs.check.spans.Goals as goal

pub returns-in_err-check_element : goal.returns-in_err-check_element
returns-in_err-check_element c =
    let a = c.args in
    let q = c.element_at-e.ensures in
    let r = spans_one a.depth a.s.now a.at a.stop a.outer c.if-stop-at.false q ∙ then_breaks _ (sym c.check_element.ensures ∙ c.in_err-check_element.was) in
    search (r, rules)

pub returns-then-e-stop : goal.returns-then-e-stop
returns-then-e-stop c =
    let a = c.args in
    let q = c.element_at-e.ensures in
    sym
    (spans_one a.depth a.s.now a.at a.stop a.outer c.if-stop-at.false q
    ∙ then_fits _ (sym c.check_element.ensures ∙ c.in_ok-check_element.was)
    ∙ held_breaks _ (ne_eqb _ _ c.if-e-stop.true))

pub returns : goal.returns
returns c =
    let a = c.args in
    let q = c.element_at-e.ensures in
    sym
    (spans_one a.depth a.s.now a.at a.stop a.outer c.if-stop-at.false q
    ∙ then_fits _ (sym c.check_element.ensures ∙ c.in_ok-check_element.was)
    ∙ held_fits _ (eq-eqb _ _ c.if-e-stop.false))

pub returns-then-stop-at : goal.returns-then-stop-at
returns-then-stop-at c = sym (spans-none _ _ _ _ _ c.if-stop-at.true)
