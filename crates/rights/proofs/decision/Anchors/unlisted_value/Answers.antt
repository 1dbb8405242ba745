-- `rights::unlisted_value` meets its contract. Assumes nothing.
use Rattle.std.specs.List.{find}
use Rattle.std.proofs.Common.{rules, ◌≡◌, not}
use Rattle.octets.specs.Octets.{member}
use Rattle.octets.proofs.Chains.{find_gives}
use Rattle.der.specs.Element.{encoding}
use Rattle.rights.specs.Contract.Places.{values_under}
use Rattle.rights.proofs.Engine.{unlisted_found}
use Rattle.rights.proofs.decision.Anchors.unlisted_value.Goals as goal

pub returns : goal.returns
returns c =
    let a = c.args in
    let f : c.find.result ≡ find (λ e. not (member (encoding a.self.now.new.now e) (values_under a.self.now.signer.now a.a))) _ =
    find_gives _ c.find.ensures.ran c.inside.ensures (λ x b q h. search (rules)) in
    rw (f, c.field-values.ensures) (unlisted_found _ _ _)
