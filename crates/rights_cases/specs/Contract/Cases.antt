-- What a case asks: the rights of an anchor that is or is not the apex, and whether a content is authorised.
use Rattle.std.specs.Prelude.{ℕ, ◌+◌, min, true, false, List, length, take, drop, eqb}
use Rattle.octets.specs.Number.{number}
use Rattle.der.specs.Element.{root}
use Rattle.rights.specs.Rights.{Rights, Role, source, carrier, Content, everything}
use Rattle.rights.specs.Attributes.{pairs}
use Rattle.anchor.specs.Info.{rights_of}
use Rattle.rights_cases.specs.declared.Anchor.{Anchor}
use Rattle.rights_cases.specs.declared.Anchor.TheVariants.{Apex, Other}
use Rattle.rights_cases.specs.declared.Role.{Role as CaseRole}
use Rattle.rights_cases.specs.declared.Role.TheVariants.{Source, Carrier}

-- 01, Rights: "The apex authorises everything"
unfoldable pub rights_if : ℕ → List ℕ → Rights
rights_if apex t = elim (eqb apex 1) [ true ↦ everything | false ↦ rights_of t ]

-- 01, Rights: "a role (source or carrier)", as the case's octet gives it
unfoldable pub content_role : ℕ → Role
content_role role = elim (eqb role 1) [ true ↦ carrier | false ↦ source ]

-- .. by the case as it is read
abbrev pub anchor_rights : Anchor → Rights
anchor_rights Apex = everything
anchor_rights (Other t) = rights_of t.now

abbrev pub role_of : CaseRole → Role
role_of Source = source
role_of Carrier = carrier

-- the content of a type with the attributes that an element of their own octets holds
unfoldable pub content_in : Role → List ℕ → List ℕ → Content
content_in role type attributes = record { type = type; role = role; attributes = pairs attributes (root attributes) }

-- where the octets after a 2-octet length at a place end
abbrev pub frame_end : List ℕ → ℕ → ℕ
frame_end s p = min (p + 2 + number (take 2 (drop p s))) (length s)
