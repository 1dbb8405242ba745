use Rattle.apply.proofs.Signer.{within_apex, within-other}
use Rattle.apply.proofs.update.is_within_signer.Goals as goal

pub returns-then-m-eq0 : goal.returns-then-m-eq0
returns-then-m-eq0 c = within_apex _ _ _ c.if-m-eq0.true

pub returns : goal.returns
returns c =
    within-other _ _ _ c.if-m-eq0.false c.constraints_of.ensures c.constraints_value.ensures c.is_within.ensures
