-- `der::with_tag` meets its contract. Assumes nothing.
use Rattle.std.specs.Prelude.{eqb}
use Rattle.std.specs.List.{find}
use Rattle.std.proofs.Common.{rules, ◌≡◌}
use Rattle.octets.proofs.Chains.{find_gives}
use Rattle.der.proofs.Loops.{tag_found}
use Rattle.der.proofs.search.with_tag.Goals as goal

pub returns : goal.returns
returns c =
    let f : c.find.result ≡ find (λ e. eqb e.tag c.args.tag) _ = find_gives _ c.find.ensures.ran c.new.ensures (λ x b q h. search (rules)) in
    rw (c.unwrap_or.ensures, c.no_element.ensures, f) (tag_found _ _)
