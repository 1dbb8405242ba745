use Rattle.apply.proofs.Entering.{entering_scratch, entering_adds, entering_on, entering_end, entering_start, entering_count, entries_of}
use Rattle.apply.proofs.update.enter_all.Goals as goal

pub overflow_sub-work : goal.overflow_sub-work
overflow_sub-work c = entering_count c.requires (rw c.image.ensures at c.anchor_count.ensures)

pub loop-n-init : goal.loop-n-init
loop-n-init c =
    let e = c.enumerate-n-items.ensures in
    rw (c.into_iter-n-iterator.ensures.into_iter_gives, e.source, e.count, c.inside.ensures) (entering_start _ _ _ _ _ _ c.requires (rw c.image.ensures at c.anchor_count.ensures))

pub enter-requires : goal.enter-requires
enter-requires c =
    let t = c.in-Some.ensures.steps.0 in
    (entering_scratch _ _ _ _ _ _ c.loop-n.invariant c.requires.scratch, entering_adds _ _ _ _ _ _ c.loop-n.invariant t)

pub loop-n-preserved : goal.loop-n-preserved
loop-n-preserved c = let s = c.in-Some.ensures.steps in rw (s.1, s.2) (entering_on _ _ _ _ _ _ c.loop-n.invariant s.0 c.enter.ensures)

pub returns : goal.returns
returns c = entering_end _ _ _ _ _ _ c.loop-n.invariant c.args.m.now.request (entries_of _ c.args.m.now.request) c.in-None.ensures.steps.0.0
