use native.Mathlib.Omega.{arith}
use Rattle.apply.proofs.Held.{few, append_bounds, append_done}
use borrow.Author.Rules.{rules}
use Rattle.apply.proofs.update.append.Goals as goal

pub overflow_add-items : goal.overflow_add-items
overflow_add-items c = omega (arith, few c.requires.store _ _ c.requires.holds (rw c.image-2.ensures at c.anchor_count-items.ensures))

pub overflow_cast-items : goal.overflow_cast-items
overflow_cast-items c = omega (arith, few c.requires.store _ _ c.requires.holds (rw c.image-2.ensures at c.anchor_count-items.ensures))

pub replace_items-work-requires : goal.replace_items-work-requires
replace_items-work-requires c =
    append_bounds c.requires
    (rw c.image.ensures at c.anchor_place-count.ensures.0)
    (rw c.image-2.ensures at c.anchor_count-items.ensures)
    (rw c.image-3.ensures at c.community_place-end.ensures)
    _
    c.put_be.ensures

pub returns-clause-appends : goal.returns-clause-appends
returns-clause-appends c =
    append_done c.requires
    (rw c.image.ensures at c.anchor_place-count.ensures.0)
    (rw c.image-2.ensures at c.anchor_count-items.ensures)
    (rw c.image-3.ensures at c.community_place-end.ensures)
    c.put_be.ensures
    c.replace_items-work.ensures
    (search rules)
