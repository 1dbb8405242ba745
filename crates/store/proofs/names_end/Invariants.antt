-- `store::names_end` meets its contract. The loop: what is left ends where the whole does. Assumes nothing.
use Rattle.std.proofs.Common.{◌≡◌, ◌≤◌, ◌+◌, ◌-◌, min, length, drop}
use Rattle.store.specs.Contract.Parts.{names_size}
use Rattle.store.proofs.names_end.Given as goal

abbrev pub invariant-loop : goal.invariant-loop
invariant-loop l =
    (l.p ≤ length l.s) × (min (l.p + names_size (l.n - l.counter) (drop l.p l.s)) (length l.s) ≡ min (names_size l.n l.s) (length l.s))
