use mathlib.Core.Bool.{and-eq-true_iff}
use mathlib.Core.List.{append-nil}
use mathlib.Core.Path.{sym, ap, ◌∙◌}
use borrow.Author.Tests.{eqb-true}
use Rattle.octets.specs.Lists.{Among, first}
use Rattle.der.proofs.Members.{member_is}
use Rattle.repeats.specs.Contract.Keys.{first_repeat}
use Rattle.repeats.specs.Contract.Order.{leads, keys}
use Rattle.repeats.proofs.Led.{below_new, below_more, below_later}
use Rattle.repeats.proofs.Split.{split_before, split_behind, split_on}
use Rattle.repeats.proofs.Repeats.{member_hit, member_miss, first_end, keys_more}
use Rattle.repeats.proofs.Sorted.search.Goals as goal

pub loop-e-init : goal.loop-e-init
loop-e-init c =
    let a = c.args in
    let i = c.into_iter-e-iterator.ensures.into_iter_gives ∙ c.inside-e-items.ensures in (
      sym i,
      rw (i, append-nil (keys a.self.now a.head)),
      λ t e m. rw (append-nil (keys a.self.now a.head))
          (below_later (leads a.self.now) _ _ (c.requires t) (member_is a.self.now.octets.now a.list.start a.list.stop (rw i at m)).from),
    )

pub is_seen-requires : goal.is_seen-requires
is_seen-requires c =
    let a = c.args in
    let l = c.loop-e in
    let e = c.in-Some.e in
    let h = c.in-Some.ensures.steps in
    let here : Among e l.e-iterator = rw h first in
    λ t.
    let p = (and-eq-true_iff _ _).0 (sym c.is_led-led.ensures ∙ t) in
    rw (split_before _ _ l.yielded _ l.invariant.0 h) (below_new (leads a.self.now) e.at _ (l.invariant.2 p.0 e here) _ (eqb-true _ _ p.1))

pub returns-then-is_seen : goal.returns-then-is_seen
returns-then-is_seen c =
    let l = c.loop-e in
    let h = c.in-Some.ensures.steps in
    let b = split_before _ _ l.yielded _ l.invariant.0 h in
    sym (member_hit _ _ _ h (rw (← c.key-k.ensures, ← b) (sym c.is_seen.ensures ∙ c.if-is_seen.true))) ∙ l.invariant.1

pub loop-e-preserved : goal.loop-e-preserved
loop-e-preserved c =
    let x = c.args.self.now in
    let l = c.loop-e in
    let e = c.in-Some.e in
    let h = c.in-Some.ensures.steps in
    let here : Among e l.e-iterator = rw h first in
    let b = split_before _ _ l.yielded _ l.invariant.0 h in
    let more = keys_more x.by x.octets.now (keys x c.args.head) l.yielded e in (
      split_on _ _ l.yielded _ l.invariant.0 h,
      sym (member_miss _ _ _ h (rw (← c.key-k.ensures, ← b) (sym c.is_seen.ensures ∙ c.if-is_seen.false)) ∙ ap (λ y. first_repeat x.by x.octets.now y c.next.new.self) (sym more)) ∙ l.invariant.1,
      λ t y i.
          let p = (and-eq-true_iff _ _).0 (sym c.is_led-led.ensures ∙ t) in
          rw more (below_more (leads x) e.at _ (l.invariant.2 p.0 e here) _ (rw (← c.key-k.ensures) (eqb-true _ _ p.1)) (split_behind _ _ l.yielded _ l.invariant.0 h i)),
    )

pub returns : goal.returns
returns c = sym (first_end _ _ _ c.in-None.ensures.steps.0) ∙ c.loop-e.invariant.1
