-- `repeats::Sorted::search` meets its contract: what is left of the list tells what the whole tells, and while keys are led, those seen lead to places before
-- each member that is left. Assumes nothing.
use Rattle.std.proofs.Common.{◌≡◌, true, ◌++◌, map}
use Rattle.octets.specs.Lists.{Among}
use Rattle.der.specs.declared.Element.{Element}
use Rattle.der.specs.Element.{inside}
use Rattle.der.specs.Keys.{key_of}
use Rattle.repeats.specs.Contract.Keys.{first_repeat}
use Rattle.repeats.specs.Contract.Order.{leads, keys, Below}
use Rattle.repeats.proofs.Sorted.search.Given as goal

abbrev pub invariant-loop-e : goal.invariant-loop-e
invariant-loop-e l =
    let s = l.self.octets.now in
    let by = l.self.by in
    let head = keys l.self l.head in
    let seen = head ++ map (key_of by s) l.yielded in
    (inside s l.list ≡ l.yielded ++ l.e-iterator)
    × (first_repeat by s seen l.e-iterator ≡ first_repeat by s head (inside s l.list))
    × (l.led ≡ true → (e : Element) → Among e l.e-iterator → Below (leads l.self) e.at seen)
