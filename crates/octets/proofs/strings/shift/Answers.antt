use Rattle.std.proofs.Common.{◌∙◌, drop, length-drop, arith}
use Rattle.octets.proofs.Placed.{paste-placed}
use Rattle.octets.proofs.strings.shift.Goals as goal

pub returns : goal.returns
returns c =
    let a = c.args in
    c.copy_within.ensures.after
    ∙ paste-placed a.d.now a.to _ a.n (drop a.from a.d.now) (omega arith) (rw (length-drop a.from a.d.now) (omega arith))
