-- n is the number that the octets before place x-index of the part write.
use Rattle.std.proofs.Common.{◌≡◌, ◌^◌, ◌<◌, ◌≤◌, min, length, take}
use Rattle.octets.specs.Number.{number}
use Rattle.octets.proofs.numbers.get_be.Given as goal

abbrev pub invariant-loop-x : goal.invariant-loop-x
invariant-loop-x l = (length l.part ≤ min l.width 8) × (l.n ≡ number (take l.x-index l.part)) × (l.n < 256 ^ l.x-index)
