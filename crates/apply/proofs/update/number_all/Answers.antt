use mathlib.Core.Path.{refl, ◌∙◌}
use Rattle.apply.proofs.Pairs.{pairing_start, pairing_on, pairing_end, pairs_of}
use Rattle.apply.proofs.update.number_all.Goals as goal

pub loop-e-init : goal.loop-e-init
loop-e-init c = (
  rw (c.into_iter-e-iterator.ensures.into_iter_gives, c.inside-e-items.ensures) (pairing_start _ _ _ _ c.args.m.now.request c.requires),
  refl,
  refl,
)

pub loop-e-preserved : goal.loop-e-preserved
loop-e-preserved c =
    let i = c.loop-e.invariant in
    let n = c.number_new.ensures in (
      pairing_on _ _ _ _ _ i.0 c.in-Some.ensures.steps c.field-in-loop-e.ensures c.number_in-n.ensures c.field.ensures c.contents-id.ensures (rw (i.1, i.2) at n.numbers),
      n.marks.0 ∙ i.1,
      n.marks.1 ∙ i.2,
    )

pub returns-clause-numbers : goal.returns-clause-numbers
returns-clause-numbers c = pairing_end _ _ _ _ _ c.loop-e.invariant.0 _ (pairs_of _ c.args.m.now.request) c.in-None.ensures.steps.0
