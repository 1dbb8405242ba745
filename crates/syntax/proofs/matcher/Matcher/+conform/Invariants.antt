-- `syntax::matcher::Matcher::conform_row` and the three that it calls in a cycle meet their contracts, as those of `fit_row` do. Assumes nothing.
use Rattle.std.proofs.Common.{◌≡◌, ◌+◌, ◌*◌, ◌≤◌, ℕ}
use Rattle.syntax.specs.Grammar.{many}
use Rattle.syntax.specs.Contract.Rows.{grammar_of}
use Rattle.syntax.specs.Contract.Whole.{conforms_in}
use Rattle.syntax.proofs.Each.{Every}
use Rattle.syntax.proofs.Whole.{members_conform}
use Rattle.syntax.proofs.Window.{Member}
use Rattle.syntax.proofs.matcher.Matcher.+conform.Given as goal

abbrev pub decreases-conform_each : goal.decreases-conform_each
decreases-conform_each l = 4 * l.n + 3

abbrev pub decreases-conform_element : goal.decreases-conform_element
decreases-conform_element l = 4 * l.n + 4

abbrev pub decreases-conform_field : goal.decreases-conform_field
decreases-conform_field l = 4 * l.body + 5

abbrev pub decreases-conform_row : goal.decreases-conform_row
decreases-conform_row l = 4 * l.n + 2

abbrev pub invariant-conform_each-loop-e : goal.invariant-conform_each-loop-e
invariant-conform_each-loop-e l =
    let s = l.self.octets.now in
    let g = grammar_of l.self.given.now l.n in
    Every (Member s l.at l.stop) l.e-iterator × ((outer : ℕ) → conforms_in l.depth (many g) s l.at l.stop outer ≡ members_conform l.depth g s outer l.e-iterator)

abbrev pub invariant-conform_row-rows : goal.invariant-conform_row-rows
invariant-conform_row-rows l =
    let s = l.self.octets.now in
    let o = l.self.given.now in
    (l.k ≤ l.n) × ((outer : ℕ) → conforms_in l.depth (grammar_of o l.n) s l.at l.stop outer ≡ conforms_in l.depth (grammar_of o l.k) s l.i l.stop outer)

abbrev pub decreases-conform_row-rows : goal.decreases-conform_row-rows
decreases-conform_row-rows l = l.k
