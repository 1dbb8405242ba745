-- `edit::replace_items` meets its contract. Assumes nothing.
use Rattle.edit.proofs.Replaced.{recount_done}
use Rattle.edit.proofs.replace_items.Goals as goal

pub returns : goal.returns
returns c =
    let a = c.args in
    let done = c.replace.ensures in
    let k =
    recount_done a.buf.now a.len a.at a.n a.head.now a.body.now c.requires.1 c.requires.2 c.requires.3 a.count a.items
    c.requires.0 done.0 done.1
    in
    (k.1, k.2)
