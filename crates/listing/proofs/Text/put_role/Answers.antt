-- `listing::Text::put_role` meets its contract. Assumes nothing.
use Rattle.octets.specs.Ascii.{ascii, codes_from}
use Rattle.listing.specs.Contract.Texts.{role_field}
use Rattle.listing.proofs.Text.put_role.Goals as goal

pub put_word-requires : goal.put_word-requires
unfolding role_field ascii codes_from
put_word-requires c =
    rw c.in-Apex.is at c.requires

pub put_word-requires-in-Management : goal.put_word-requires-in-Management
unfolding role_field ascii codes_from
put_word-requires-in-Management c =
    rw c.in-Management.is at c.requires

pub put_word-requires-in-Identity : goal.put_word-requires-in-Identity
unfolding role_field ascii codes_from
put_word-requires-in-Identity c =
    rw c.in-Identity.is at c.requires

pub returns-in-Apex-clause-written : goal.returns-in-Apex-clause-written
unfolding role_field ascii codes_from
returns-in-Apex-clause-written c =
    rw c.in-Apex.is c.put_word.ensures.written

pub returns-in-Management-clause-written : goal.returns-in-Management-clause-written
unfolding role_field ascii codes_from
returns-in-Management-clause-written c =
    rw c.in-Management.is c.put_word-in-Management.ensures.written

pub returns-in-Identity-clause-written : goal.returns-in-Identity-clause-written
unfolding role_field ascii codes_from
returns-in-Identity-clause-written c =
    rw c.in-Identity.is c.put_word-in-Identity.ensures.written
