use Rattle.apply.proofs.Numbers.{numbering_start, numbering_able, numbering_on, old_few}
use native.Mathlib.Omega.{arith}
use mathlib.Core.Path.{refl, ◌∙◌}
use Rattle.apply.proofs.update.number_new.Goals as goal

pub overflow_add-first : goal.overflow_add-first
overflow_add-first c = omega (arith, old_few c.requires.0)

pub loop-init : goal.loop-init
loop-init c = (numbering_start _ _ _ _ _ _ (rw c.image.ensures at c.anchor_count-count.ensures) (rw c.image-2.ensures at c.record_place-p.ensures), refl, refl)

pub number_at-requires : goal.number_at-requires
number_at-requires c = rw c.loop.invariant.1 (numbering_able _ _ _ _ _ _ c.loop.invariant.0 c.loop-test.true c.requires.0 c.requires.1)

pub loop-preserved : goal.loop-preserved
loop-preserved c =
    let n = c.number_at.ensures in
    let i = c.loop.invariant in (
      numbering_on _ _ _ _ _ _ i.0 c.loop-test.true (rw i.1 at n.numbers) (rw (c.image-in-loop.ensures, n.marks.0, i.1) at c.record_end-p.ensures),
      n.marks.0 ∙ i.1,
      n.marks.1 ∙ i.2,
    )
