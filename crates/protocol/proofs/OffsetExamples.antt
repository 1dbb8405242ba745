-- The examples of 02, E3, by computing.
use mathlib.Core.Path.{refl}
use Rattle.protocol.specs.OffsetExamples.{OffsetAnswers}
use Rattle.protocol.proofs.Computed.{computed}

pub offset_answers : OffsetAnswers
unfolding computed
offset_answers = refl
