-- `envelope::each_attribute` meets its contract. The loop's invariant: the judge finds in what is left what it finds in the whole, and so does the search for a repeat. Assumes nothing.
use mathlib.Core.Path.{◌≡◌}
use Rattle.der.specs.Element.{inside}
use Rattle.der.specs.Fit.{each_from, each}
use Rattle.envelope.proofs.Attributes.{Left, attribute_judge}
use Rattle.envelope.proofs.each_attribute.Given as goal

abbrev pub invariant-loop-e : goal.invariant-loop-e
invariant-loop-e l =
    let judge = attribute_judge l.about l.s l.fn.attributes in
    (each_from judge l.former l.e-iterator ≡ each judge (inside l.s l.fn.attributes)) × Left l.s l.fn.attributes l.first l.e-iterator
