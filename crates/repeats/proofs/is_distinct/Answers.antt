-- `repeats::is_distinct` meets its contract. Assumes nothing.
use Prim.Native.Nat.{ℕ}
use mathlib.Core.List.{List, ◌++◌, append-nil}
use mathlib.Core.Path.{ap, ◌∙◌}
use Rattle.octets.specs.Octets.{distinct}
use Rattle.der.specs.Keys.{keys_in}
use Rattle.repeats.proofs.Keys.{none_in}
use Rattle.repeats.proofs.is_distinct.Goals as goal

pub returns : goal.returns
returns c =
    let a = c.args in
    let k = keys_in a.by a.s.now a.list in
    c.are_distinct.ensures ∙ ap (λ (x : List (List ℕ)). distinct (k ++ x)) (none_in a.by a.s.now c.no_element.ensures) ∙ ap distinct (append-nil k)
