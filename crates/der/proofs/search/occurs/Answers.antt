-- `der::occurs` meets its contract. Assumes nothing.
use Rattle.std.proofs.Common.{rules}
use Rattle.der.proofs.Keys.{found_member}
use Rattle.der.proofs.search.occurs.Goals as goal

pub returns : goal.returns
returns c = search (found_member, rules)
