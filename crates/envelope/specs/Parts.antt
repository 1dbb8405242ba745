-- The fields of ContentInfo, SignedData, EncapsulatedContentInfo and SignerInfo (RFC 5652) in a message s. Where a row of 01 has found the syntax right, these are its fields.
use Rattle.std.specs.Prelude.{ℕ, List, length}
use Rattle.der.specs.declared.Element.{Element}
use Rattle.der.specs.Element.{element_at, field, field_after}

unfoldable pub content_info : List ℕ → Element
content_info s = element_at s 0 (length s)

unfoldable pub content_type : List ℕ → Element
content_type s = field 0x06 s (content_info s)

-- content [0] EXPLICIT
unfoldable pub content : List ℕ → Element
content s = field 0xA0 s (content_info s)

unfoldable pub signed_data : List ℕ → Element
signed_data s = field 0x30 s (content s)

unfoldable pub encap_content_info : List ℕ → Element
encap_content_info s = field 0x30 s (signed_data s)

unfoldable pub certificates : List ℕ → Element
certificates s = field 0xA0 s (signed_data s)

unfoldable pub crls : List ℕ → Element
crls s = field 0xA1 s (signed_data s)

-- the second SET of SignedData
unfoldable pub signer_infos : List ℕ → Element
signer_infos s = field_after 0x31 s (signed_data s) (encap_content_info s)

unfoldable pub e_content_type : List ℕ → Element
e_content_type s = field 0x06 s (encap_content_info s)

-- eContent [0] EXPLICIT, and the OCTET STRING in it, whose contents are "handed back as parts of the message"
unfoldable pub e_content_tag : List ℕ → Element
e_content_tag s = field 0xA0 s (encap_content_info s)

unfoldable pub e_content : List ℕ → Element
e_content s = field 0x04 s (e_content_tag s)

unfoldable pub signer_info : List ℕ → Element
signer_info s = field 0x30 s (signer_infos s)

unfoldable pub subject_key_identifier : List ℕ → Element
subject_key_identifier s = field 0x80 s (signer_info s)

unfoldable pub signed_attrs : List ℕ → Element
signed_attrs s = field 0xA0 s (signer_info s)

unfoldable pub unsigned_attrs : List ℕ → Element
unsigned_attrs s = field 0xA1 s (signer_info s)
