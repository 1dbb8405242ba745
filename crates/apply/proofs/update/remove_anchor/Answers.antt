use native.Mathlib.Omega.{arith}
use Rattle.apply.proofs.Held.{few, cut_bounds, cut_done}
use borrow.Author.Rules.{rules}
use Rattle.apply.proofs.update.remove_anchor.Goals as goal

pub overflow_sub-items : goal.overflow_sub-items
overflow_sub-items c = (few c.requires.store _ _ c.requires.holds (rw c.image-2.ensures at c.anchor_count-items.ensures)).0

pub overflow_cast-items : goal.overflow_cast-items
overflow_cast-items c = omega (arith, few c.requires.store _ _ c.requires.holds (rw c.image-2.ensures at c.anchor_count-items.ensures))

pub overflow_sub-end : goal.overflow_sub-end
overflow_sub-end c =
    (cut_bounds c.requires
    (rw c.image.ensures at c.anchor_place-count.ensures.0)
    (rw c.image-2.ensures at c.anchor_count-items.ensures)
    (rw c.image-3.ensures at c.record_place-at.ensures)
    (rw c.image-4.ensures at c.record_end-end.ensures)).0

pub replace_items-work-requires : goal.replace_items-work-requires
replace_items-work-requires c =
    let k =
    cut_bounds c.requires
    (rw c.image.ensures at c.anchor_place-count.ensures.0)
    (rw c.image-2.ensures at c.anchor_count-items.ensures)
    (rw c.image-3.ensures at c.record_place-at.ensures)
    (rw c.image-4.ensures at c.record_end-end.ensures)
    in
    (k.1, k.2, k.3, k.4)

pub returns-clause-removes : goal.returns-clause-removes
returns-clause-removes c =
    cut_done c.requires
    (rw c.image.ensures at c.anchor_place-count.ensures.0)
    (rw c.image-2.ensures at c.anchor_count-items.ensures)
    (rw c.image-3.ensures at c.record_place-at.ensures)
    (rw c.image-4.ensures at c.record_end-end.ensures)
    c.replace_items-work.ensures
    (search rules)
