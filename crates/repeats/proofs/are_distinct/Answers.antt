-- `repeats::are_distinct` meets its contract. Assumes nothing.
use Prim.Native.Nat.{ℕ}
use mathlib.Core.List.{List, ◌++◌}
use mathlib.Core.Path.{sym, ap, ◌∙◌}
use Rattle.octets.specs.Octets.{distinct}
use Rattle.octets.proofs.Lists.{distinct_none}
use Rattle.der.specs.Element.{inside}
use Rattle.der.specs.Keys.{keys_in}
use Rattle.repeats.proofs.Keys.{none_in}
use Rattle.repeats.proofs.Repeats.{some_repeats, none_repeats}
use Rattle.repeats.proofs.are_distinct.Goals as goal

pub returns-then-is_none : goal.returns-then-is_none
returns-then-is_none c =
    let a = c.args in
    let s = a.s.now in
    let n = none_in a.by s c.no_element-none.ensures in
    let h = none_repeats a.by s _ (inside s a.list) _ c.first_repeat.ensures c.is_none.ensures (ap distinct n ∙ distinct_none) in
    none_repeats a.by s (keys_in a.by s a.list) (inside s a.other) _ c.first_repeat-then-is_none.ensures c.is_none-then-is_none.ensures
    (ap (λ (x : List (List ℕ)). distinct (x ++ keys_in a.by s a.list)) (sym n) ∙ sym h ∙ c.if-is_none.true)

pub returns-else-is_none : goal.returns-else-is_none
returns-else-is_none c =
    let a = c.args in
    let s = a.s.now in
    let n = none_in a.by s c.no_element-none.ensures in
    let h = some_repeats a.by s _ (inside s a.list) (keys_in a.by s a.other) _ c.first_repeat.ensures c.is_none.ensures c.if-is_none.false in
    c.if-is_none.false ∙ sym (ap (λ (x : List (List ℕ)). distinct (x ++ (keys_in a.by s a.list ++ keys_in a.by s a.other))) (sym n) ∙ h)
