-- `image::communities_stop` meets its contract. Assumes nothing.
use Rattle.std.proofs.Common.{rules, refl, arith}
use Rattle.std.proofs.lemmas.Iterator.{YieldsList-from_range}
use Rattle.store.specs.Image.{read_community}
use Rattle.image.proofs.Times.{tried}
use Rattle.image.proofs.communities_stop.Goals as goal

pub returns : goal.returns
returns c =
    let n = c.args.n in
    tried read_community c.args.s.now n _ c.try_fold.ensures.ran (YieldsList-from_range 0 n n refl (omega arith)) (λ q x o h k. search (rules))
