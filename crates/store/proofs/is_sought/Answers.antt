-- `store::is_sought` meets its contract. Assumes nothing.
use Rattle.store.specs.Contract.Parts.{is_sought}
use Rattle.store.proofs.is_sought.Goals as goal

pub returns-in-PublicKey : goal.returns-in-PublicKey
unfolding is_sought
returns-in-PublicKey c = rw (c.in-PublicKey.is, c.equal.ensures, c.public_key.ensures)

pub returns-in-TaggedPublicKey : goal.returns-in-TaggedPublicKey
unfolding is_sought
returns-in-TaggedPublicKey c = rw (c.in-TaggedPublicKey.is, c.is_tagged.ensures, c.public_key-in-TaggedPublicKey.ensures)
