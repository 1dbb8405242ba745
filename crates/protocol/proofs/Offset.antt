-- 02, E3: what holds of the offset of every call (specs/Offset), by what is told of every outcome.
use mathlib.Core.Path.{refl}
use Rattle.protocol.specs.Call.{Outcome, refused, answered, call, outcome_number, outcome_offset}
use Rattle.protocol.specs.Offset.{OffsetRule, Offsets}
use Rattle.protocol.proofs.Refusals.{none_told}
use Rattle.protocol.proofs.Statuses.{Outcomes, call_told}

pub offsets : Offsets
unfolding outcome_number outcome_offset
offsets s image verdict reply_lent next_lent = go (call s image verdict reply_lent next_lent) (call_told s image verdict reply_lent next_lent)
  where
    go : (o : Outcome) → Outcomes s o → OffsetRule s (outcome_number o) (outcome_offset o)
    go (refused number) h = none_told s number h.1 refl
    go (answered status offset reply next) h = h.offset
