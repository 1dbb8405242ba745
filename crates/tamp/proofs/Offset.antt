-- How the theorem about offsets follows for the code: the call's promise says which number and offset it answered.
use mathlib.Core.Path.{◌≡◌, ap}
use lib.ListN.{length}
use Rattle.protocol.specs.Call.{call, outcome_number, outcome_offset}
use Rattle.protocol.proofs.Offset.{offsets}
use Rattle.tamp.specs.Left.{CallResult, result_for}
use Rattle.tamp.specs.Offset.{OffsetsOfCode}

pub offsets_of_code : OffsetsOfCode
unfolding result_for
offsets_of_code image m p =
    let o = call m.message image m.verdict (length m.reply) (length m.next) in
    let n : m.answer.number ≡ (outcome_number o).number = ap (λ (l : CallResult). l.number) p in
    let k : m.answer.offset ≡ outcome_offset o = ap (λ (l : CallResult). l.offset) p in
    rw (n, k) (offsets m.message image m.verdict (length m.reply) (length m.next))
