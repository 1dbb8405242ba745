use mathlib.Core.Path.{◌≡◌}
use Rattle.der.specs.Element.{inside}
use Rattle.apply.proofs.Pairs.{Pairing}
use Rattle.apply.proofs.update.number_all.Given as goal

abbrev pub invariant-loop-e : goal.invariant-loop-e
invariant-loop-e l =
    Pairing l.m.message.now (inside l.m.message.now l.m.request.numbers) l.initial.work.octets l.initial.work.len l.initial.work.former l.work.octets l.e-iterator
    × (l.work.len ≡ l.initial.work.len) × (l.work.former ≡ l.initial.work.former)
