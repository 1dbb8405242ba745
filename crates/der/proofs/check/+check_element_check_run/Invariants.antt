-- `der::check_element` and `der::check_run` meet their contracts: a cycle of calls. The depth falls from an element to the run inside it. The loop of a run has
-- the invariant that the judge finds in what is left what it finds in the whole. Assumes nothing.
use Rattle.std.proofs.Common.{◌≡◌, ◌+◌, ◌*◌}
use Rattle.der.specs.Element.{elements}
use Rattle.der.specs.Fit.{each_from, each}
use Rattle.der.proofs.Checks.{member_fit}
use Rattle.der.proofs.check.+check_element_check_run.Given as goal

abbrev pub decreases-check_element : goal.decreases-check_element
decreases-check_element l = 2 * l.depth

abbrev pub decreases-check_run : goal.decreases-check_run
decreases-check_run l = 2 * l.depth + 1

abbrev pub invariant-check_run-loop-e : goal.invariant-check_run-loop-e
invariant-check_run-loop-e l =
    each_from (member_fit l.depth l.s l.tag) l.former l.e-iterator ≡ each (member_fit l.depth l.s l.tag) (elements l.s l.start l.stop)
