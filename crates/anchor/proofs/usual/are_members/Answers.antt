use borrow.Author.Tests.{not-false}
use mathlib.Core.Logic.{inl, inr}
use Rattle.std.proofs.Common.{rules, ◌<◌, ◌^◌, refl, sym, ap, ◌∙◌}
use Rattle.std.specs.Iterator.Adapters.{enumerate_source, enumerate_count}
use Rattle.syntax.proofs.Once.{yes_with}
use Rattle.anchor.proofs.Entries.{walked_none, walked_all, walked_on}
use Rattle.anchor.proofs.usual.are_members.Goals.{else-seen-l-via-then-seen-l+else-occurs, else-seen-l-via-else-seen-l}
use Rattle.anchor.proofs.usual.are_members.Goals as goal

pub loop-n-init : goal.loop-n-init
loop-n-init g c =
    let a = c.args in
    let b : a.list.stop < 2 ^ 64 = search rules in
    let i = c.into_iter-n-iterator.ensures.into_iter_gives in
    let n = c.enumerate-n-items.ensures in
    let w = walked_none a.most a.v.now a.list.start a.list.stop (ap enumerate_source i ∙ n.source ∙ c.inside.ensures) (ap enumerate_count i ∙ n.count) b refl in
    ((tt, tt, inl w.room), tt, w)

pub loop-n-preserved : goal.loop-n-preserved
loop-n-preserved g c =
    let s = c.in-Some.ensures.steps in
    let w =
    walked_on c.loop-n.invariant.2 s.0 (not-false _ c.if-not-e.false) c.if-e-ne-SEQUENCE.false c.in-Some-read_type.ensures (λ z. c.if-n-most.false (s.1 ∙ z)) s.2
    ((c.requires.1.1 _ _ _ c.test.ensures).holds c.if-not-test.false) c.contents-k.ensures (c.from-l.ensures ∙ c.last.ensures) (search (rules))
    (elim c.else-seen-l.branch [ else-seen-l-via-then-seen-l+else-occurs w ↦ inl (sym w.occurs.ensures ∙ w.if-occurs.false) | else-seen-l-via-else-seen-l w ↦ inr w.if-seen-l.false ])
    in
    ((tt, tt, inl w.room), tt, w)

pub returns : goal.returns
returns g c = yes_with (walked_all c.loop-n.invariant.2 c.in-None.ensures.steps.0.0)
