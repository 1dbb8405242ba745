use Rattle.apply.proofs.Sections.{keeping_start, keeping_joinable, keeping_on, keeping_end}
use Rattle.apply.proofs.community.keep_names.Goals as goal

pub loop-name-init : goal.loop-name-init
loop-name-init c = rw (c.into_iter-name-iterator.ensures.into_iter_gives, c.of-name-items.ensures) (keeping_start _ _ _ c.requires.0 c.requires.1)

pub keep_name-requires : goal.keep_name-requires
keep_name-requires c = keeping_joinable _ _ c.loop-name.invariant c.in-Some.ensures.steps

pub loop-name-preserved : goal.loop-name-preserved
loop-name-preserved c = keeping_on _ _ c.loop-name.invariant c.in-Some.ensures.steps c.keep_name.ensures

pub returns : goal.returns
returns c = keeping_end _ _ c.loop-name.invariant c.in-None.ensures.steps.0
