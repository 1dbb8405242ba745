-- Definitions that a proof computes through, under one name for each such proof: the attribute `tactic` of the function names it.
use Rattle.der.specs.Fit.{given_at}
use Rattle.message.specs.Fields.{body_in, msg_ref_in, version_in, target_in, seq_num_in, updates_in, tamp_seq_numbers_in}
use Rattle.message.specs.Rows.{row_31, request_in, unwrapped}

unfoldable pub request : Unit {0}
unfolding request_in msg_ref_in target_in seq_num_in updates_in tamp_seq_numbers_in
request = tt

-- the rows 36, 31 and 127
unfoldable pub table : Unit {0}
unfolding given_at body_in version_in row_31 unwrapped request
table = tt
