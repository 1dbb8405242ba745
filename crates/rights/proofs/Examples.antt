-- P1 to P10 of 01, of all contents, by the decision computed.
use mathlib.Core.Bool.{true, false}
use mathlib.Core.Path.{◌≡◌, refl}
use Rattle.octets.specs.Lists.{any_of}
use Rattle.octets.specs.Octets.{same, member}
use Rattle.rights.specs.Rights.{Rights, any_content_type, lookup, governing, nothing, Within}
use Rattle.rights.specs.Decision.{integer, oid, fresh, fresh_from, keys, find_some, unlisted, value_outside, attribute_outside, pair_outside, role_outside}
use Rattle.rights.specs.Decision.{entry_outside, type_outside, listed_types, unlisted_type, outside, within}
use Rattle.rights.specs.Examples.{P1_P10, p1_signer, p1_new, p2_signer, p2_new, p3_signer, p3_new, p4_signer, p4_new, p5_signer, p5_new, p6_signer}
use Rattle.rights.specs.Examples.{p6_new, p7_signer, p7_new, p8_signer, p8_new, p9_signer, p9_new, p10_signer, p10_new}
use Rattle.rights.proofs.Within.{within_iff, outside_iff, not-both}

is_within : (signer new : Rights) → within signer new ≡ true → Within signer new
is_within signer new e = (within_iff signer new).0 e

not_within : (signer new : Rights) → within signer new ≡ false → Within signer new → ⊥
not_within signer new e w = not-both signer new w ((outside_iff signer new).0 e)

pub p1_to_p10 : P1_P10
unfolding
    any_of same member any_content_type lookup governing nothing integer oid fresh fresh_from keys find_some
    unlisted value_outside attribute_outside pair_outside role_outside entry_outside type_outside listed_types unlisted_type outside within
p1_to_p10 = (
  is_within p1_signer p1_new refl,
  not_within p2_signer p2_new refl,
  is_within p3_signer p3_new refl,
  not_within p4_signer p4_new refl,
  is_within p5_signer p5_new refl,
  is_within p6_signer p6_new refl,
  not_within p7_signer p7_new refl,
  not_within p8_signer p8_new refl,
  is_within p9_signer p9_new refl,
  not_within p10_signer p10_new refl,
)
