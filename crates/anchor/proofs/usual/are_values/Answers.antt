use native.Mathlib.Omega.{arith}
use borrow.Author.Tests.{not-false}
use mathlib.Core.Logic.{inl}
use Rattle.std.proofs.Common.{rules, ◌<◌, ◌^◌, ap, ◌∙◌}
use Rattle.std.specs.Iterator.Adapters.{enumerate_source, enumerate_count}
use Rattle.syntax.proofs.Once.{yes_with}
use Rattle.anchor.proofs.Values.{run_length, risen_none, risen_all, risen_on}
use Rattle.anchor.proofs.usual.are_values.Goals as goal

pub loop-n-init : goal.loop-n-init
loop-n-init c =
    let a = c.args in
    let b : a.set.stop < 2 ^ 64 = search rules in
    let i = c.into_iter-n-iterator.ensures.into_iter_gives in
    let n = c.enumerate-n-items.ensures in
    let r = risen_none a.v.now c.no_element-former.ensures (ap enumerate_source i ∙ n.source ∙ c.inside.ensures) (ap enumerate_count i ∙ n.count) in
    ((tt, tt, inl (omega (arith, b, r.count, run_length a.v.now a.set.stop a.set.start))), tt, r)

pub loop-n-preserved : goal.loop-n-preserved
loop-n-preserved c =
    let a = c.args in
    let b : a.set.stop < 2 ^ 64 = search rules in
    let s = c.in-Some.ensures.steps in
    let r = risen_on c.loop-n.invariant.2 (λ z. c.if-n-eq-MAX_VALUES.false (s.1 ∙ z)) s.0 s.2 (not-false _ c.if-not-e.false) (c.is_value.ensures.holds c.if-not-is_value.false) in
    ((tt, tt, inl (omega (arith, b, r.count, run_length a.v.now a.set.stop a.set.start))), tt, r)

pub returns : goal.returns
returns c = yes_with (risen_all c.loop-n.invariant.2 c.in-None.ensures.steps.0.0)
