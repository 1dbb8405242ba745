-- The checked examples of 01, by computing.
use mathlib.Core.Path.{refl}
use Rattle.rights.proofs.Examples.{p1_to_p10}
use Rattle.protocol.specs.Examples.{Query6Octets, P11, P12, P1_P12, Listings, TwelveAnswers}
use Rattle.protocol.specs.PermitExamples.{PermitAnswers}
use Rattle.protocol.proofs.Computed.{computed}

pub query6_octets : Query6Octets
unfolding computed
query6_octets = refl

p11 : P11
unfolding computed
p11 = (refl, refl, refl)

p12 : P12
unfolding computed
p12 = refl

-- P1 to P12, together
pub p1_to_p12 : P1_P12
p1_to_p12 = (p1_to_p10, p11, p12)

pub listings : Listings
unfolding computed
listings = (refl, refl)

pub twelve_answers : TwelveAnswers
unfolding computed
twelve_answers = (refl, refl, refl, refl, refl, refl, refl, refl, refl, refl, refl, refl)

pub permit-answers : PermitAnswers
unfolding computed
permit-answers = (refl, refl, refl, refl, refl, refl, refl, refl, refl, refl, refl, refl, refl, refl, refl)
