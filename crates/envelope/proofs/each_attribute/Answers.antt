use Rattle.std.proofs.Common.{rules}
use mathlib.Core.Path.{refl, sym, ap, ◌∙◌}
use mathlib.Core.Bool.{not}
use borrow.Author.Tests.{not-true, not-false}
use Rattle.der.specs.Element.{inside}
use Rattle.der.proofs.Fits.{each_fits, each_fails, each_misplaced, each-later}
use Rattle.envelope.specs.Attributes.{attribute_fit}
use Rattle.envelope.proofs.Attributes.{all_left, in_place, left_on, well_placed, each_first, header_breaks, header_fits}
use Rattle.envelope.proofs.each_attribute.Goals as goal

pub loop-e-init : goal.loop-e-init
loop-e-init c =
    let a = c.args in
    let i = c.into_iter-e-iterator.ensures.into_iter_gives ∙ c.inside-e-items.ensures in (
      rw (i, c.no_element-former.ensures) (each_first a.about.now a.s.now a.attributes a.attributes.start (inside a.s.now a.attributes)),
      all_left a.s.now a.attributes _ c.no_element.ensures c.first_repeat-first.ensures i,
    )

pub returns-then-not-e : goal.returns-then-not-e
returns-then-not-e c =
    let a = c.args in
    each_fails (attribute_fit a.about.now a.s.now) (well_placed a.s.now a.attributes) _ c.loop-e.invariant.0 c.in-Some.ensures.steps (header_breaks _ c.in-Some.e (not-true _ c.if-not-e.true)) refl

pub returns-in_err-attribute_fit : goal.returns-in_err-attribute_fit
returns-in_err-attribute_fit c =
    let a = c.args in
    let r = c.attribute_fit.ensures ∙ header_fits _ c.in-Some.e (not-false _ c.if-not-e.false) in
    let e = each_fails (attribute_fit a.about.now a.s.now) (well_placed a.s.now a.attributes) _ c.loop-e.invariant.0 c.in-Some.ensures.steps r c.in_err-attribute_fit.was in
    search (e, rules)

pub returns-then-not-is_in_place : goal.returns-then-not-is_in_place
returns-then-not-is_in_place c =
    let a = c.args in
    let g = not-false _ c.if-not-e.false in
    let r = c.attribute_fit.ensures ∙ header_fits _ c.in-Some.e g in
    let w = in_place _ _ _ c.loop-e.invariant.1 c.in-Some.ensures.steps g c.loop-e.former c.is_in_place.ensures in
    each_misplaced (attribute_fit a.about.now a.s.now) (well_placed a.s.now a.attributes) _ c.loop-e.invariant.0 c.in-Some.ensures.steps r c.in_ok-attribute_fit.was w (ap not c.if-not-is_in_place.true)

pub loop-e-preserved : goal.loop-e-preserved
loop-e-preserved c =
    let a = c.args in
    let g = not-false _ c.if-not-e.false in
    let r = c.attribute_fit.ensures ∙ header_fits _ c.in-Some.e g in
    let k = c.loop-e.invariant.1 in
    let w = in_place _ _ _ k c.in-Some.ensures.steps g c.loop-e.former c.is_in_place.ensures in (
      each-later (attribute_fit a.about.now a.s.now) (well_placed a.s.now a.attributes) _ c.loop-e.invariant.0 c.in-Some.ensures.steps r c.in_ok-attribute_fit.was w (ap not c.if-not-is_in_place.false),
      left_on _ _ _ k c.in-Some.ensures.steps g c.loop-e.former (sym c.is_in_place.ensures ∙ not-false _ (ap not c.if-not-is_in_place.false)),
    )

pub returns : goal.returns
returns c = search (each_fits, rules)
