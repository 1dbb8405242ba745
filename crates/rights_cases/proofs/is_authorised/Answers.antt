-- The apex has whatever it is asked for; another anchor is asked by the role of the case.
use Rattle.std.proofs.Common.{sym}
use Rattle.rights.proofs.Within.{apex}
use Rattle.rights_cases.specs.Contract.Cases.{content_in}
use Rattle.rights_cases.proofs.Laws.{own_rights}
use Rattle.rights_cases.proofs.is_authorised.Goals as goal

pub returns-in_default : goal.returns-in_default
returns-in_default c = rw c.in_default.is (sym (apex _))

pub returns-in-Source : goal.returns-in-Source
unfolding content_in
returns-in-Source c =
    rw (c.in-Other.is, c.in-Source.is, ← own_rights _ c.constraints_value-own.ensures, ← c.root-e.ensures) c.authorises.ensures

pub returns-in-Carrier : goal.returns-in-Carrier
unfolding content_in
returns-in-Carrier c =
    rw (c.in-Other.is, c.in-Carrier.is, ← own_rights _ c.constraints_value-own.ensures, ← c.root-e.ensures) c.carries.ensures
