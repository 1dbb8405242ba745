-- `store::record_place` meets its contract. The loop: the place sought from here is the place sought. Assumes nothing.
use Rattle.std.proofs.Common.{◌≡◌, ◌-◌}
use Rattle.store.specs.Contract.Parts.{first_record, record_place}
use Rattle.store.proofs.record_place.Given as goal

abbrev pub invariant-loop : goal.invariant-loop
invariant-loop l = record_place l.image l.p (l.position - l.counter) ≡ record_place l.image (first_record l.image) l.position
