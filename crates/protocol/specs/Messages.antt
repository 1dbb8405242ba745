-- The parts of the examples' messages and how they are put together, by DER's writer (der, specs/Write): a signed message (RFC 5652), what TAMP messages hold (RFC 5934), a TrustAnchorInfo (RFC 5914).
use Rattle.std.specs.Prelude.{ℕ}
use mathlib.Core.List.{List, [], ◌∷◌, ◌++◌, flat_map}
use Rattle.octets.specs.Ascii.{octets_of}
use Rattle.der.specs.Oid.{oid}
use Rattle.der.specs.Write.{element}
use Rattle.syntax.specs.Asn.{id_signed_data}
use Rattle.syntax.specs.Types.{id_content_type, id_message_digest, id_pe_cms_content_constraints}

-- DER

abbrev pub sequence : List ℕ → List ℕ
sequence c = element 0x30 c

-- an OBJECT IDENTIFIER by its contents
abbrev pub object_identifier : List ℕ → List ℕ
object_identifier o = element 0x06 o

abbrev pub octet_string : List ℕ → List ℕ
octet_string o = element 0x04 o

-- a number below 128
abbrev pub integer : ℕ → List ℕ
integer n = element 0x02 (n ∷ [])

-- RFC 5652

-- AlgorithmIdentifier without parameters
abbrev pub algorithm_identifier : List ℕ → List ℕ
algorithm_identifier o = sequence (object_identifier o)

abbrev pub id_sha256 : List ℕ
id_sha256 = oid 2 16 (840 ∷ 1 ∷ 101 ∷ 3 ∷ 4 ∷ 2 ∷ 1 ∷ [])

abbrev pub id_ecdsa_with_SHA256 : List ℕ
id_ecdsa_with_SHA256 = oid 1 2 (840 ∷ 10045 ∷ 4 ∷ 3 ∷ 2 ∷ [])

abbrev pub id_Ed25519 : List ℕ
id_Ed25519 = oid 1 3 (101 ∷ 112 ∷ [])

-- an Attribute: its type, and what its SET holds: one value, where it is well formed
abbrev pub attribute : List ℕ → List ℕ → List ℕ
attribute type value = sequence (object_identifier type ++ element 0x31 value)

abbrev pub content_type : List ℕ → List ℕ
content_type type = attribute id_content_type (object_identifier type)

abbrev pub message_digest : List ℕ → List ℕ
message_digest digest = attribute id_message_digest (octet_string digest)

-- RFC 5652, 11.3: signing-time, a UTCTime
abbrev pub signing_time : List ℕ → List ℕ
signing_time time = attribute (oid 1 2 (840 ∷ 113549 ∷ 1 ∷ 9 ∷ 5 ∷ [])) (element 0x17 time)

-- signedAttrs [0]: these attributes; absent where there is none
unfoldable pub signed_attrs : List ℕ → List ℕ
signed_attrs [] = []
signed_attrs (x ∷ s) = element 0xA0 (x ∷ s)

-- a SignerInfo with the digest SHA-256: subjectKeyIdentifier, the signed attributes one after the other, signatureAlgorithm, signature, and what stands behind it
unfoldable pub signer_info : List ℕ → List ℕ → List ℕ → List ℕ → List ℕ → List ℕ
signer_info identifier attributes algorithm signature rest =
    sequence
    (integer 3
    ++ (element 0x80 identifier
    ++ (algorithm_identifier id_sha256 ++ (signed_attrs attributes ++ (algorithm_identifier algorithm ++ (octet_string signature ++ rest))))))

-- a ContentInfo of SignedData with the digest SHA-256: eContentType, eContent, and the SignerInfos one after the other
unfoldable pub signed_content_info : List ℕ → List ℕ → List ℕ → List ℕ
signed_content_info type content signer_infos =
    let encap_content_info = sequence (object_identifier type ++ element 0xA0 (octet_string content)) in
    let signed_data =
    sequence (integer 3 ++ (element 0x31 (algorithm_identifier id_sha256) ++ (encap_content_info ++ element 0x31 signer_infos)))
    in
    sequence (object_identifier id_signed_data ++ element 0xA0 signed_data)

-- .. with one SignerInfo: eContentType, eContent, the signer's subjectKeyIdentifier, the signed attributes, signatureAlgorithm and signature
abbrev pub signed_message : List ℕ → List ℕ → List ℕ → List ℕ → List ℕ → List ℕ → List ℕ
signed_message type content identifier attributes algorithm signature =
    signed_content_info type content (signer_info identifier attributes algorithm signature [])

-- any digest and any signature, for messages whose verdict is given
unfoldable pub any_digest : List ℕ
any_digest = octets_of "11 11 11 11 11 11 11 11 11 11 11 11 11 11 11 11 11 11 11 11 11 11 11 11 11 11 11 11 11 11 11 11"

unfoldable pub any_signature : List ℕ
any_signature = octets_of "22 22 22 22 22 22 22 22"

-- A message whose verdict is given: of the anchor with this key identifier, with this type and content, and with these attributes before the two that must be there.
unfoldable pub signed_by : ℕ → List ℕ → List ℕ → List ℕ → List ℕ
signed_by identifier type content attributes =
    signed_message type content (identifier ∷ []) (attributes ++ (content_type type ++ message_digest any_digest)) id_Ed25519 any_signature

-- RFC 5934

abbrev pub terse : List ℕ
terse = element 0x81 (1 ∷ [])

abbrev pub all_modules : List ℕ
all_modules = element 0x83 []

abbrev pub communities : List ℕ → List ℕ
communities list = element 0xA2 list

-- TAMPMsgRef: target and seqNum
abbrev pub msg_ref : List ℕ → ℕ → List ℕ
msg_ref target n = sequence (target ++ integer n)

-- add of a TrustAnchorInfo, in a TAMPUpdate of one entry for all modules with a terse reply
abbrev pub addition : ℕ → List ℕ → List ℕ
addition n info = sequence (terse ++ (msg_ref all_modules n ++ sequence (element 0xA1 (element 0xA2 info))))

-- RFC 5914

-- an Ed25519 key, of one octet here; the key identifier's octet; and what stands after it
unfoldable pub trust_anchor_info : ℕ → ℕ → List ℕ → List ℕ
trust_anchor_info key identifier rest =
    sequence (sequence (algorithm_identifier id_Ed25519 ++ element 0x03 (0 ∷ key ∷ [])) ++ (octet_string (identifier ∷ []) ++ rest))

-- the examples' content types: training rows are 2A6401, test rows 2A6402, models 2A6403
abbrev pub rows_type : ℕ → List ℕ
rows_type t = 0x2A ∷ 0x64 ∷ t ∷ []

-- exts with content constraints (RFC 6010): these content types, as source and with no attribute constraint
unfoldable pub content_constraints : List (List ℕ) → List ℕ
content_constraints types =
    let value = sequence (flat_map (λ t. sequence (object_identifier t)) types) in
    element 0xA1 (sequence (sequence (object_identifier id_pe_cms_content_constraints ++ octet_string value)))
