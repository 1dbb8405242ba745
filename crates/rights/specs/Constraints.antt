-- RFC 6010: the rights that a CMSContentConstraints value gives, from its octets by themselves, where its syntax is right.
use Rattle.std.specs.Prelude.{ℕ, not, List, map}
use Rattle.der.specs.declared.Element.{Element}
use Rattle.der.specs.Element.{root, encoding, inside, field}
use Rattle.der.specs.Keys.{type_of}
use Rattle.rights.specs.Rights.{Key, Entry, Rights}

-- an AttrConstraint: its attribute type and its values, each "the whole DER element"
unfoldable pub attr_constraint : List ℕ → Element → Key × List Key
attr_constraint v e = (type_of v e, map (encoding v) (inside v (field 0x31 v e)))

-- a ContentTypeConstraint: canSource is the default; the only other value is cannotSource
unfoldable pub content_type_constraint : List ℕ → Element → Key × Entry
content_type_constraint v e = (
  type_of v e,
  record { can_source = not (field 0x0A v e).valid; constraints = map (attr_constraint v) (inside v (field 0x30 v e)) },
)

unfoldable pub constraints_rights : List ℕ → Rights
constraints_rights v = map (content_type_constraint v) (inside v (root v))
