-- The ASN.1 modules as syntax, type by type under the RFCs' names, to be held against RFC 5652 (section 5), RFC 5914 (appendix A), RFC 5280 (appendix A),
-- RFC 5934 (appendix A.1) and RFC 6010 (appendix A.1). What a name stands for:
-- - the contents of the type's element, for most types: the place that has the type gives the tag;
-- - a window of one element, for a CHOICE, whose alternatives have the tags: SignerIdentifier, TrustAnchorChoice, HardwareSerialEntry, TargetIdentifier,
--   TrustAnchorChangeInfoChoice and TrustAnchorUpdate;
-- - a window with the whole element, where a reader is given such: ContentInfo, ContentInfoSignedData, OneSignedData, OneSignerInfo, StoredTrustAnchorInfo,
--   the four messages (TAMPStatusQuery, TAMPUpdate, TAMPCommunityUpdate, SequenceNumberAdjust) and CMSContentConstraints.
-- The modules that give context tags have IMPLICIT TAGS: such a tag takes the place of the type's own. A tagged CHOICE or ANY is explicit all the same, and
-- so is what says EXPLICIT: the element of the type stands inside the tag's. DEFAULT is an optional field that refuses the default.
use Rattle.std.specs.Prelude.{ℕ, List, [], ◌∷◌}
use Rattle.der.specs.Oid.{oid}
use Rattle.syntax.specs.Grammar.{Syntax, free, end, obeys, optional, one, any_optional, many, required, tagged, alternative, no_other}
use Rattle.syntax.specs.Grammar.{not_empty, size_to, empty, equals, integer_but, seq_number}

-- Universal types: their contents are checked by status 1
abbrev BIT_STRING : Syntax
BIT_STRING = free

abbrev OCTET_STRING : Syntax
OCTET_STRING = free

abbrev UTF8String : Syntax
UTF8String = free

abbrev IA5String : Syntax
IA5String = free

abbrev OBJECT_IDENTIFIER : Syntax
OBJECT_IDENTIFIER = free

-- 01 does not look into it
abbrev NOT_LOOKED_INTO : Syntax
NOT_LOOKED_INTO = free

abbrev NULL : Syntax
NULL = obeys empty free

-- an INTEGER, ENUMERATED or BOOLEAN of one octet, with this value and no other
abbrev value : ℕ → Syntax
value n = obeys (equals (n ∷ [])) free

-- RFC 5280, RFC 5652

-- AlgorithmIdentifier ::= SEQUENCE { algorithm OBJECT IDENTIFIER, parameters ANY OPTIONAL }
abbrev pub AlgorithmIdentifier : Syntax
AlgorithmIdentifier = required 0x06 OBJECT_IDENTIFIER (any_optional end)

-- SubjectPublicKeyInfo ::= SEQUENCE { algorithm AlgorithmIdentifier, subjectPublicKey BIT STRING }
abbrev pub SubjectPublicKeyInfo : Syntax
SubjectPublicKeyInfo = required 0x30 AlgorithmIdentifier (required 0x03 BIT_STRING end)

-- Extension ::= SEQUENCE { extnID OBJECT IDENTIFIER, critical BOOLEAN DEFAULT FALSE, extnValue OCTET STRING }
-- 01, status 36: extension values are not looked into; 01, DER: "default values omitted"
abbrev pub Extension : Syntax
Extension = required 0x06 OBJECT_IDENTIFIER (optional 0x01 (value 0xFF) (required 0x04 OCTET_STRING end))

-- Extensions ::= SEQUENCE SIZE (1..MAX) OF Extension
abbrev pub Extensions : Syntax
Extensions = obeys not_empty (many (tagged 0x30 Extension))

-- { iso(1) member-body(2) us(840) rsadsi(113549) pkcs(1) pkcs7(7) 2 }
abbrev pub id_signed_data : List ℕ
id_signed_data = oid 1 2 (840 ∷ 113549 ∷ 1 ∷ 7 ∷ 2 ∷ [])

-- ContentInfo ::= SEQUENCE { contentType ContentType, content [0] EXPLICIT ANY }, for a rule on the type
abbrev ContentInfoOf : Syntax → Syntax
ContentInfoOf type = required 0x30 (required 0x06 type (required 0xA0 (one free end) end)) end

abbrev pub ContentInfo : Syntax
ContentInfo = ContentInfoOf OBJECT_IDENTIFIER

-- 01, status 2: "a ContentInfo of type signedData"
abbrev pub ContentInfoSignedData : Syntax
ContentInfoSignedData = ContentInfoOf (obeys (equals id_signed_data) free)

-- 01, status 3: version 3 with the fields of RFC 5652 (encapsulated content, certificates, CRLs and SignerInfos not looked into)
-- SignedData ::= SEQUENCE { version CMSVersion, digestAlgorithms SET OF AlgorithmIdentifier, encapContentInfo EncapsulatedContentInfo,
--     certificates [0] IMPLICIT CertificateSet OPTIONAL, crls [1] IMPLICIT RevocationInfoChoices OPTIONAL, signerInfos SET OF SignerInfo }
abbrev pub SignedData : Syntax
SignedData =
    required 0x02 (value 3)
    (required 0x31 (many (tagged 0x30 AlgorithmIdentifier))
    (required 0x30 NOT_LOOKED_INTO
    (optional 0xA0 NOT_LOOKED_INTO
    (optional 0xA1 NOT_LOOKED_INTO
    (required 0x31 NOT_LOOKED_INTO
    end)))))

-- EncapsulatedContentInfo ::= SEQUENCE { eContentType ContentType, eContent [0] EXPLICIT OCTET STRING OPTIONAL }
abbrev pub EncapsulatedContentInfo : Syntax
EncapsulatedContentInfo = required 0x06 OBJECT_IDENTIFIER (optional 0xA0 (required 0x04 OCTET_STRING end) end)

-- SignerIdentifier ::= CHOICE { issuerAndSerialNumber IssuerAndSerialNumber, subjectKeyIdentifier [0] SubjectKeyIdentifier }
-- 01, status 6: "and a subjectKeyIdentifier": the other alternative may not stand there
abbrev SignerIdentifier : Syntax
SignerIdentifier = alternative 0x80 OCTET_STRING no_other

-- 01, status 6: version 3 with the fields of RFC 5652 (attributes not looked into) and a subjectKeyIdentifier
-- SignerInfo ::= SEQUENCE { version CMSVersion, sid SignerIdentifier, digestAlgorithm DigestAlgorithmIdentifier, signedAttrs [0] IMPLICIT SignedAttributes OPTIONAL,
--     signatureAlgorithm SignatureAlgorithmIdentifier, signature SignatureValue, unsignedAttrs [1] IMPLICIT UnsignedAttributes OPTIONAL }
abbrev pub SignerInfo : Syntax
SignerInfo =
    required 0x02 (value 3)
    (one SignerIdentifier
    (required 0x30 AlgorithmIdentifier
    (optional 0xA0 NOT_LOOKED_INTO
    (required 0x30 AlgorithmIdentifier
    (required 0x04 OCTET_STRING
    (optional 0xA1 NOT_LOOKED_INTO
    end))))))

-- 01, status 6: exactly one SignerInfo
abbrev pub OneSignerInfo : Syntax
OneSignerInfo = required 0x30 SignerInfo end

-- Attribute ::= SEQUENCE { attrType OBJECT IDENTIFIER, attrValues SET OF AttributeValue }
-- 01, status 7: one value each, here with what may stand in the value's place
abbrev pub Attribute : Syntax → Syntax
Attribute one_value = required 0x06 OBJECT_IDENTIFIER (required 0x31 (one one_value end) end)

-- that value: of content-type the OID o (RFC 5652, 11.1; 01, status 7: "content-type unequal" where it is another), of message-digest an OCTET STRING (11.2),
-- of any other attribute whatever stands there
abbrev pub content_type_value : List ℕ → Syntax
content_type_value o = tagged 0x06 (obeys (equals o) free)

abbrev pub message_digest_value : Syntax
message_digest_value = tagged 0x04 OCTET_STRING

abbrev pub other_value : Syntax
other_value = free

-- RFC 5914

-- TrustAnchorInfo ::= SEQUENCE { version TrustAnchorInfoVersion DEFAULT v1, pubKey SubjectPublicKeyInfo, keyId KeyIdentifier, taTitle TrustAnchorTitle OPTIONAL,
--     certPath CertPathControls OPTIONAL, exts [1] EXPLICIT Extensions OPTIONAL, taTitleLangTag [2] UTF8String OPTIONAL }
-- TrustAnchorTitle ::= UTF8String (SIZE (1..64)); 01, DER: "a title's size counts octets"
abbrev TrustAnchorTitle : Syntax
TrustAnchorTitle = obeys (size_to 64) free

abbrev pub TrustAnchorInfo : Syntax
TrustAnchorInfo =
    optional 0x02 (obeys (integer_but 1) free)
    (required 0x30 SubjectPublicKeyInfo
    (required 0x04 OCTET_STRING
    (optional 0x0C TrustAnchorTitle
    (optional 0x30 NOT_LOOKED_INTO
    (optional 0xA1 (required 0x30 Extensions end)
    (optional 0x82 UTF8String
    end))))))

-- one TrustAnchorInfo, as an image holds it
abbrev pub StoredTrustAnchorInfo : Syntax
StoredTrustAnchorInfo = required 0x30 TrustAnchorInfo end

-- TrustAnchorChoice ::= CHOICE { certificate Certificate, tbsCert [1] EXPLICIT TBSCertificate, taInfo [2] EXPLICIT TrustAnchorInfo }
-- 01, status 36: certificate forms are not looked into
abbrev pub TrustAnchorChoice : Syntax
TrustAnchorChoice =
    alternative 0x30 NOT_LOOKED_INTO
    (alternative 0xA1 NOT_LOOKED_INTO
    (alternative 0xA2 (required 0x30 TrustAnchorInfo end)
    no_other))

-- RFC 5934

-- version [0] TAMPVersion DEFAULT v2; terse [1] TerseOrVerbose DEFAULT verbose, where the only other value is terse(1)
abbrev version : Syntax → Syntax
version next = optional 0x80 (obeys (integer_but 2) free) next

abbrev terse : Syntax → Syntax
terse next = optional 0x81 (value 1) next

-- SeqNumber ::= INTEGER (0..9223372036854775807): max_number
abbrev SeqNumber : Syntax
SeqNumber = obeys seq_number free

-- CommunityIdentifierList ::= SEQUENCE SIZE (0..MAX) OF Community; Community ::= OBJECT IDENTIFIER
abbrev pub CommunityIdentifierList : Syntax
CommunityIdentifierList = many (tagged 0x06 OBJECT_IDENTIFIER)

-- HardwareSerialEntry ::= CHOICE { all NULL, single OCTET STRING, block SEQUENCE { low OCTET STRING, high OCTET STRING } }
abbrev pub HardwareSerialEntry : Syntax
HardwareSerialEntry =
    alternative 0x05 NULL
    (alternative 0x04 OCTET_STRING
    (alternative 0x30 (required 0x04 OCTET_STRING (required 0x04 OCTET_STRING end))
    no_other))

-- HardwareModules ::= SEQUENCE { hwType OBJECT IDENTIFIER, hwSerialEntries SEQUENCE SIZE (1..MAX) OF HardwareSerialEntry }
abbrev pub HardwareModules : Syntax
HardwareModules = required 0x06 OBJECT_IDENTIFIER (required 0x30 (obeys not_empty (many HardwareSerialEntry)) end)

-- AnotherName ::= SEQUENCE { type-id OBJECT IDENTIFIER, value [0] EXPLICIT ANY }
abbrev AnotherName : Syntax
AnotherName = required 0x06 OBJECT_IDENTIFIER (required 0xA0 (one free end) end)

-- TargetIdentifier ::= CHOICE { hwModules [1] HardwareModuleIdentifierList, communities [2] CommunityIdentifierList, allModules [3] NULL, uri [4] IA5String,
--     otherName [5] INSTANCE OF OTHER-NAME }; HardwareModuleIdentifierList ::= SEQUENCE SIZE (1..MAX) OF HardwareModules
abbrev pub TargetIdentifier : Syntax
TargetIdentifier =
    alternative 0xA1 (obeys not_empty (many (tagged 0x30 HardwareModules)))
    (alternative 0xA2 CommunityIdentifierList
    (alternative 0x83 NULL
    (alternative 0x84 IA5String
    (alternative 0xA5 AnotherName
    no_other))))

-- TAMPMsgRef ::= SEQUENCE { target TargetIdentifier, seqNum SeqNumber }
abbrev pub TAMPMsgRef : Syntax
TAMPMsgRef = one TargetIdentifier (required 0x02 SeqNumber end)

-- TAMPStatusQuery ::= SEQUENCE { version, terse, query TAMPMsgRef }
abbrev pub TAMPStatusQuery : Syntax
TAMPStatusQuery = required 0x30 (version (terse (required 0x30 TAMPMsgRef end))) end

-- TrustAnchorChangeInfo ::= SEQUENCE { pubKey SubjectPublicKeyInfo, keyId KeyIdentifier OPTIONAL, taTitle TrustAnchorTitle OPTIONAL, certPath CertPathControls OPTIONAL,
--     exts [1] Extensions OPTIONAL }
abbrev pub TrustAnchorChangeInfo : Syntax
TrustAnchorChangeInfo =
    required 0x30 SubjectPublicKeyInfo
    (optional 0x04 OCTET_STRING
    (optional 0x0C TrustAnchorTitle
    (optional 0x30 NOT_LOOKED_INTO
    (optional 0xA1 Extensions
    end))))

-- TrustAnchorChangeInfoChoice ::= CHOICE { tbsCertChange [0] TBSCertificateChangeInfo, taChange [1] TrustAnchorChangeInfo }
abbrev pub TrustAnchorChangeInfoChoice : Syntax
TrustAnchorChangeInfoChoice = alternative 0xA0 NOT_LOOKED_INTO (alternative 0xA1 TrustAnchorChangeInfo no_other)

-- TrustAnchorUpdate ::= CHOICE { add [1] TrustAnchorChoice, remove [2] SubjectPublicKeyInfo, change [3] EXPLICIT TrustAnchorChangeInfoChoice }
abbrev pub TrustAnchorUpdate : Syntax
TrustAnchorUpdate =
    alternative 0xA1 (one TrustAnchorChoice end)
    (alternative 0xA2 SubjectPublicKeyInfo
    (alternative 0xA3 (one TrustAnchorChangeInfoChoice end)
    no_other))

-- TAMPSequenceNumber ::= SEQUENCE { keyId KeyIdentifier, seqNumber SeqNumber }
abbrev pub TAMPSequenceNumber : Syntax
TAMPSequenceNumber = required 0x04 OCTET_STRING (required 0x02 SeqNumber end)

-- TAMPSequenceNumbers ::= SEQUENCE SIZE (1..MAX) OF TAMPSequenceNumber
abbrev pub TAMPSequenceNumbers : Syntax
TAMPSequenceNumbers = obeys not_empty (many (tagged 0x30 TAMPSequenceNumber))

-- TAMPUpdate ::= SEQUENCE { version, terse, msgRef TAMPMsgRef, updates SEQUENCE SIZE (1..MAX) OF TrustAnchorUpdate, tampSeqNumbers [2] TAMPSequenceNumbers OPTIONAL }
abbrev pub TAMPUpdate : Syntax
TAMPUpdate =
    required 0x30
    (version
    (terse
    (required 0x30 TAMPMsgRef
    (required 0x30 (obeys not_empty (many TrustAnchorUpdate))
    (optional 0xA2 TAMPSequenceNumbers
    end)))))
    end

-- CommunityUpdates ::= SEQUENCE { remove [1] CommunityIdentifierList OPTIONAL, add [2] CommunityIdentifierList OPTIONAL } -- At least one must be present
abbrev pub CommunityUpdates : Syntax
CommunityUpdates = obeys not_empty (optional 0xA1 CommunityIdentifierList (optional 0xA2 CommunityIdentifierList end))

-- TAMPCommunityUpdate ::= SEQUENCE { version, terse, msgRef TAMPMsgRef, updates CommunityUpdates }
abbrev pub TAMPCommunityUpdate : Syntax
TAMPCommunityUpdate =
    required 0x30 (version (terse (required 0x30 TAMPMsgRef (required 0x30 CommunityUpdates end)))) end

-- SequenceNumberAdjust ::= SEQUENCE { version, msgRef TAMPMsgRef }
abbrev pub SequenceNumberAdjust : Syntax
SequenceNumberAdjust = required 0x30 (version (required 0x30 TAMPMsgRef end)) end

-- RFC 6010

-- AttrConstraint ::= SEQUENCE { attrType OBJECT IDENTIFIER, attrValues SET SIZE (1..MAX) OF AttributeValue }
abbrev pub AttrConstraint : Syntax
AttrConstraint = required 0x06 OBJECT_IDENTIFIER (required 0x31 (obeys not_empty free) end)

-- AttrConstraintList ::= SEQUENCE SIZE (1..MAX) OF AttrConstraint
abbrev pub AttrConstraintList : Syntax
AttrConstraintList = obeys not_empty (many (tagged 0x30 AttrConstraint))

-- ContentTypeGeneration ::= ENUMERATED { canSource(0), cannotSource(1) }
-- ContentTypeConstraint ::= SEQUENCE { contentType ContentType, canSource ContentTypeGeneration DEFAULT canSource, attrConstraints AttrConstraintList OPTIONAL }
abbrev pub ContentTypeConstraint : Syntax
ContentTypeConstraint =
    required 0x06 OBJECT_IDENTIFIER
    (optional 0x0A (value 1)
    (optional 0x30 AttrConstraintList
    end))

-- CMSContentConstraints ::= SEQUENCE SIZE (1..MAX) OF ContentTypeConstraint
abbrev pub CMSContentConstraints : Syntax
CMSContentConstraints = required 0x30 (obeys not_empty (many (tagged 0x30 ContentTypeConstraint))) end

-- RFC 5652: what content [0] of a ContentInfo of type signedData holds
abbrev pub OneSignedData : Syntax
OneSignedData = required 0x30 SignedData end
