-- Both sides of an add's row 11 (specs/AddExamples), by computing.
use mathlib.Core.Path.{refl}
use Rattle.protocol.specs.AddExamples.{BothSides}
use Rattle.protocol.proofs.Computed.{computed}

pub both_sides : BothSides
unfolding computed
both_sides = (refl, refl)
