-- `image::recurs` meets its contract. Assumes nothing.
use Rattle.std.proofs.Common.{◌∙◌}
use Rattle.image.proofs.Flags.{sought}
use Rattle.image.proofs.recurs.Goals as goal

pub returns : goal.returns
returns c =
    let a = c.args in
    c.is_some.ensures ∙ sought a.s.now a.key.now a.p a.n c.find_anchor_from.ensures
