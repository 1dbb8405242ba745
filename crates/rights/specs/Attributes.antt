-- RFC 5652: the attributes in signedAttrs of a message s, and those that a message's content has (01, Answers, status 11).
use Rattle.std.specs.Prelude.{ℕ, Bool, not, ◌||◌, List, map}
use Rattle.octets.specs.Lists.{filter}
use Rattle.octets.specs.Octets.{same}
use Rattle.der.specs.declared.Element.{Element}
use Rattle.der.specs.Element.{element_at, encoding, inside, field}
use Rattle.der.specs.Keys.{type_of}
use Rattle.syntax.specs.Types.{id_content_type, id_message_digest}
use Rattle.rights.specs.Rights.{Key}

-- the first value of an Attribute
abbrev pub attr_value : List ℕ → Element → Element
attr_value s e = let values = field 0x31 s e in element_at s values.start values.stop

-- "the signed attributes other than content-type and message-digest"
unfoldable pub is_other_attribute : List ℕ → Element → Bool
is_other_attribute s e = not (same (type_of s e) id_content_type || same (type_of s e) id_message_digest)

-- each with its one value as a whole element
unfoldable pub pairs : List ℕ → Element → List (Key × Key)
pairs s attributes = map (λ e. (type_of s e, encoding s (attr_value s e))) (filter (is_other_attribute s) (inside s attributes))
