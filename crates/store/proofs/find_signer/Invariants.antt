-- `store::find_signer` meets its contract. The loop: none is found yet, and the search among the records left finds what the whole search finds. Assumes nothing.
use Rattle.std.specs.Prelude.{None, Err}
use Rattle.std.proofs.Common.{◌≡◌, ◌+◌, ◌<◌, ◌^◌, map, length}
use Rattle.store.specs.Records.{records_of}
use Rattle.store.specs.Signer.{signer_from, signer}
use Rattle.store.specs.Contract.Parts.{identifier_in}
use Rattle.store.proofs.find_signer.Given as goal

abbrev pub invariant-loop-i : goal.invariant-loop-i
invariant-loop-i l =
    (l.found ≡ None)
    × (l.i-iterator.count + length l.i-iterator.iter < 2 ^ 64)
    × (signer_from l.i-iterator.count (map identifier_in l.i-iterator.iter) l.verdict l.wanted (Err l.missed)
    ≡ signer (map identifier_in (records_of l.image)) l.verdict l.wanted)
