-- `store::has_name` meets its contract. Assumes nothing.
use Rattle.std.proofs.Common.{rules}
use Rattle.octets.specs.Octets.{same, member}
use Rattle.octets.proofs.Views.{any_seen}
use Rattle.store.proofs.has_name.Goals as goal

pub returns : goal.returns
unfolding member
returns c = any_seen (same c.args.wanted.now) c.any.ensures.ran c.new.ensures (λ x b q h. search (rules))
