use native.Mathlib.Omega.{arith}
use borrow.Author.Rules.{rules}
use Rattle.std.specs.Prelude.{not}
use mathlib.Core.Path.{sym, ap, ◌∙◌}
use borrow.Author.Tests.{not-true, not-false}
use Rattle.der.specs.Element.{elements}
use Rattle.der.specs.Check.{der, sorted_in}
use Rattle.der.proofs.Fits.{each_fits, each_fails, each_misplaced, each-later}
use Rattle.der.proofs.Checks.{each_first, der_deep, der_bad, der_run_lem, der-leaf, der_valid}
use Rattle.der.proofs.check.+check_element_check_run.Goals as goal

-- what is known of the functions that each of the two calls

pub check_element-returns-then-is_constructed : goal.check_element-returns-then-is_constructed
check_element-returns-then-is_constructed t c =
    let k = sym c.is_constructed.ensures ∙ c.if-is_constructed.true in
    c.check_run.ensures ∙ sym (der_run_lem _ _ _ c.if-depth-eq0.false (not-false _ c.if-not-e.false) k)

pub check_element-returns : goal.check_element-returns
check_element-returns t c =
    let k = sym c.is_constructed.ensures ∙ c.if-is_constructed.false in
    c.check_contents.ensures ∙ sym (der-leaf _ _ _ c.if-depth-eq0.false (not-false _ c.if-not-e.false) k)

pub check_run-loop-e-init : goal.check_run-loop-e-init
check_run-loop-e-init t c =
    let a = c.args in
    rw (c.into_iter-e-iterator.ensures.into_iter_gives, c.new-e-items.ensures, c.no_element-former.ensures)
    (each_first a.tag a.s.now a.start a.depth (elements a.s.now a.start a.stop))

pub check_element-returns-then-not-e : goal.check_element-returns-then-not-e
check_element-returns-then-not-e t c = sym (der_bad _ _ _ (not-true _ c.if-not-e.true))

pub check_element-returns-then-depth-eq0 : goal.check_element-returns-then-depth-eq0
check_element-returns-then-depth-eq0 t c = sym (der_deep _ _ _ c.if-depth-eq0.true)

pub check_element-overflow_sub-depth : goal.check_element-overflow_sub-depth
check_element-overflow_sub-depth t c = omega arith

pub check_element-check_run-requires : goal.check_element-check_run-requires
check_element-check_run-requires t c = omega arith

pub check_run-check_element-requires : goal.check_run-check_element-requires
check_run-check_element-requires t c = omega arith

pub check_run-returns-in_err-check_element : goal.check_run-returns-in_err-check_element
check_run-returns-in_err-check_element t c =
    let a = c.args in
    let e = each_fails (der a.depth a.s.now) (sorted_in a.tag a.s.now) _ c.loop-e.invariant c.in-Some.ensures.steps (der_valid _ _ a.depth c.check_element.ensures) c.in_err-check_element.was in
    search (e, rules)

pub check_run-returns-then-not-is_sorted : goal.check_run-returns-then-not-is_sorted
check_run-returns-then-not-is_sorted t c =
    let a = c.args in
    each_misplaced (der a.depth a.s.now) (sorted_in a.tag a.s.now) _ c.loop-e.invariant c.in-Some.ensures.steps (der_valid _ _ a.depth c.check_element.ensures) c.in_ok-check_element.was c.is_sorted.ensures (ap not c.if-not-is_sorted.true)

pub check_run-loop-e-preserved : goal.check_run-loop-e-preserved
check_run-loop-e-preserved t c =
    let a = c.args in
    each-later (der a.depth a.s.now) (sorted_in a.tag a.s.now) _ c.loop-e.invariant c.in-Some.ensures.steps (der_valid _ _ a.depth c.check_element.ensures) c.in_ok-check_element.was c.is_sorted.ensures (ap not c.if-not-is_sorted.false)

pub check_run-returns : goal.check_run-returns
check_run-returns t c = search (each_fits, rules)
