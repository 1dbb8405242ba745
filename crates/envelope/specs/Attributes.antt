-- 01, Answers, status 7: the signed attributes.
use Rattle.std.specs.Prelude.{ℕ, Bool, true, false, not, ◌&&◌, List, Err}
use Rattle.octets.specs.Octets.{same, member, ordered}
use Rattle.der.specs.declared.Element.{Element}
use Rattle.der.specs.declared.Compared.TheVariants.{Types}
use Rattle.der.specs.Element.{encoding, inside}
use Rattle.der.specs.Keys.{type_of, keys_from, keys_in}
use Rattle.der.specs.Fit.{and_then, held, each, Fit}
use Rattle.syntax.specs.Grammar.{Syntax, tagged, fit}
use Rattle.syntax.specs.Asn.{Attribute, content_type_value, message_digest_value, other_value}
use Rattle.syntax.specs.Types.{id_content_type, id_message_digest}

-- what may stand as the value of an attribute, by its type; content-type's is eContentType
unfoldable pub value_syntax : List ℕ → List ℕ → Syntax
value_syntax e_content_type type =
    elim (same type id_content_type) [
      | true ↦ content_type_value e_content_type
      | false ↦ elim (same type id_message_digest) [ true ↦ message_digest_value | false ↦ other_value ]
    ]

-- "malformed", "not one value each": the Attribute by itself
unfoldable pub attribute_fit : List ℕ → List ℕ → Element → Fit
attribute_fit e_content_type s e = fit (tagged 0x30 (Attribute (value_syntax e_content_type (type_of s e)))) s e.at e.stop e.at

-- "a type repeated": it is the type of an attribute before e in signedAttrs
unfoldable pub repeated : List ℕ → Element → Element → Bool
repeated s attributes e = member (type_of s e) (keys_from Types s attributes.start e.at)

-- "content-type or message-digest missing"
unfoldable pub has_type : List ℕ → Element → List ℕ → Bool
has_type s attributes type = member type (keys_in Types s attributes)

-- Status 7. Each attribute in turn: by itself, in order after the one before it ("not sorted"), its type new; then both required ones are there.
-- "absent" is charged to the SignerInfo, a missing type to signedAttrs.
unfoldable pub attributes_fit : List ℕ → List ℕ → Element → Element → Fit
attributes_fit e_content_type s signer_info attributes =
    elim attributes.valid [
      | false ↦ Err signer_info.at
      | true ↦
          and_then
          (each
          (λ former e. and_then (attribute_fit e_content_type s e) (held e.at (ordered (encoding s former) (encoding s e) && not (repeated s attributes e))))
          (inside s attributes))
          (held attributes.at (has_type s attributes id_content_type && has_type s attributes id_message_digest))
    ]
