-- `syntax::matcher::Matcher::fit_row` and the four that it calls in a cycle meet their contracts. A row names only rows above it, so the row falls from a row to
-- its body and to the next; where the row is the same, a function's rank. The invariant of both loops: what is left of the window gives the answer. Assumes nothing.
use Rattle.std.proofs.Common.{◌≡◌, ◌+◌, ◌*◌, ◌≤◌}
use Rattle.syntax.specs.Grammar.{many, fit}
use Rattle.syntax.specs.Contract.Rows.{grammar_of}
use Rattle.syntax.proofs.Each.{Every}
use Rattle.syntax.proofs.RowSteps.{members_fit}
use Rattle.syntax.proofs.Window.{Member}
use Rattle.syntax.proofs.matcher.Matcher.+fit.Given as goal

abbrev pub decreases-fit_body : goal.decreases-fit_body
decreases-fit_body l = 4 * l.n + 3

abbrev pub decreases-fit_each : goal.decreases-fit_each
decreases-fit_each l = 4 * l.n + 4

abbrev pub decreases-fit_field : goal.decreases-fit_field
decreases-fit_field l = 4 * l.body + 5

abbrev pub decreases-fit_member : goal.decreases-fit_member
decreases-fit_member l = 4 * l.n + 3

abbrev pub decreases-fit_row : goal.decreases-fit_row
decreases-fit_row l = 4 * l.n + 2

abbrev pub invariant-fit_each-loop-e : goal.invariant-fit_each-loop-e
invariant-fit_each-loop-e l =
    let s = l.self.octets.now in
    let g = grammar_of l.self.given.now l.n in
    Every (Member s l.at l.stop) l.e-iterator × (members_fit g s l.outer l.e-iterator ≡ fit (many g) s l.at l.stop l.outer)

abbrev pub invariant-fit_row-rows : goal.invariant-fit_row-rows
invariant-fit_row-rows l =
    let s = l.self.octets.now in
    let o = l.self.given.now in
    (l.k ≤ l.n) × (fit (grammar_of o l.n) s l.at l.stop l.outer ≡ fit (grammar_of o l.k) s l.i l.stop l.outer)

abbrev pub decreases-fit_row-rows : goal.decreases-fit_row-rows
decreases-fit_row-rows l = l.k
