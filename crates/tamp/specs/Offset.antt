-- 02, E3 (protocol, specs/Offset) for the code: of the offset that a call of `tamp_call` answered.
use Rattle.std.specs.Prelude.{ℕ, List}
use Rattle.protocol.specs.Offset.{OffsetRule}
use Rattle.tamp.specs.Demand3.{Made, Promised}

-- of a call that kept its promise
abbrev pub OffsetsOfCode : Type 0
OffsetsOfCode = (image : List ℕ) (m : Made) → Promised image m → OffsetRule m.message (record { number = m.answer.number }) m.answer.offset
