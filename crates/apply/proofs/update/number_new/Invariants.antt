use mathlib.Core.Path.{◌≡◌}
use Rattle.apply.proofs.Numbers.{Numbering}
use Rattle.apply.proofs.update.number_new.Given as goal

abbrev pub invariant-loop : goal.invariant-loop
invariant-loop l =
    Numbering l.id l.n l.initial.work.octets l.initial.work.len l.initial.work.former l.count l.work.octets l.counter l.p
    × (l.work.len ≡ l.initial.work.len) × (l.work.former ≡ l.initial.work.former)
