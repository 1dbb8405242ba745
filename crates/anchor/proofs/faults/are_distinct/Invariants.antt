-- `anchor::are_distinct` meets its contract. The loop's invariant: the values that are left rise as all do. Assumes nothing.
use mathlib.Core.List.{[], map}
use mathlib.Core.Path.{◌≡◌}
use Rattle.der.specs.declared.Compared.TheVariants.{Encodings}
use Rattle.der.specs.Element.{encoding}
use Rattle.der.specs.Keys.{key_of, keys_in}
use Rattle.anchor.proofs.Values.{rises}
use Rattle.anchor.proofs.faults.are_distinct.Given as goal

abbrev pub invariant-loop-e : goal.invariant-loop-e
invariant-loop-e l = rises (encoding l.v l.former) (map (key_of Encodings l.v) l.e-iterator) ≡ rises [] (keys_in Encodings l.v l.set)
