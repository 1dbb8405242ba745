-- `listing::Text::put_number` meets its contract. Assumes nothing.
use Rattle.octets.specs.Ascii.{ascii, codes_from}
use Rattle.store.specs.Listing.{number_text}
use Rattle.listing.specs.Contract.Texts.{decimal_line, number_line}
use Rattle.listing.proofs.Text.put_number.Goals as goal

pub put_word-requires : goal.put_word-requires
unfolding number_line number_text ascii codes_from
put_word-requires c =
    rw c.in-None.is at c.requires

pub put_decimal_line-requires : goal.put_decimal_line-requires
unfolding number_line number_text decimal_line
put_decimal_line-requires c =
    rw c.in-Some.is at c.requires

pub returns-in-None-clause-written : goal.returns-in-None-clause-written
unfolding number_line number_text ascii codes_from
returns-in-None-clause-written c =
    rw c.in-None.is c.put_word.ensures.written

pub returns-in-Some-clause-written : goal.returns-in-Some-clause-written
unfolding number_line number_text decimal_line
returns-in-Some-clause-written c =
    rw c.in-Some.is c.put_decimal_line.ensures.written
