-- `rights::any_entry` meets its contract. Assumes nothing.
use Rattle.rights.specs.Rights.{any_content_type}
use Rattle.rights.specs.Contract.Places.{any_entry}
use Rattle.rights.proofs.any_entry.Goals as goal

pub returns : goal.returns
unfolding any_content_type any_entry
returns c = c.entry_for.ensures
