-- `apply::community::has_long` meets its contract. Assumes nothing.
use Rattle.std.proofs.Common.{rules, ◌∙◌}
use mathlib.Core.Path.{sym}
use Rattle.octets.proofs.Chains.{any_gives}
use Rattle.octets.proofs.Lists.{any_of-map}
use Rattle.der.specs.Element.{elements, contents}
use Rattle.apply.proofs.community.has_long.Goals as goal

pub returns : goal.returns
returns c =
    let a = c.args in
    any_gives c.any.ensures.ran c.inside.ensures (λ x b q h. search (rules))
    ∙ sym (any_of-map _ (contents a.s.now) (elements a.s.now a.list.start a.list.stop))
