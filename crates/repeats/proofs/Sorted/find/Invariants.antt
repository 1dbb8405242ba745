-- `repeats::Sorted::find` meets its contract: the digits left give what all of them give. Assumes nothing.
use Rattle.std.proofs.Common.{◌≡◌, ◌+◌, ◌-◌, ◌*◌, ◌≤◌}
use Rattle.repeats.specs.Contract.Order.{precedes, find}
use Rattle.repeats.proofs.Sorted.find.Given as goal

abbrev pub invariant-loop-digit : goal.invariant-loop-digit
invariant-loop-digit l =
    let before = precedes l.self l.k in
    (find before (12 - l._digit) l.weight l.low ≡ find before 12 2048 0) × (l.low + 2 * l.weight ≤ 4096)
