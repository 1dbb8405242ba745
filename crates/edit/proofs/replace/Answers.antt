-- `edit::replace` meets its contract. Assumes nothing.
use Rattle.edit.proofs.Replaced.{replace_done}
use Rattle.edit.proofs.replace.Goals as goal

pub returns : goal.returns
returns c =
    let a = c.args in
    replace_done a.buf.now a.len a.at a.n a.head.now a.body.now c.requires.0 c.requires.1 c.requires.2 c.shift.ensures
    c.copy_to.ensures
    c.copy_to-2.ensures
