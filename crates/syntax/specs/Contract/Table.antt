-- Made by tools/table.py from specs/Asn.antt and specs/Contract/Forms.antt: change those, not this file.
-- The rows of src/table.rt as data, and the row of each form.
use Rattle.std.specs.Prelude.{ℕ, List, [], ◌∷◌}
use Rattle.syntax.specs.declared.row.Row.{Row}
use Rattle.syntax.specs.declared.row.Row.TheVariants as row
use Rattle.syntax.specs.declared.row.Kind.TheVariants as kind
use Rattle.syntax.specs.declared.row.Rule.TheVariants as rule
use Rattle.syntax.specs.declared.TampType.{TampType}
use Rattle.syntax.specs.declared.TampType.TheVariants.{StatusQuery, Update, CommunityUpdate, SeqNumAdjust}
use Rattle.syntax.specs.declared.Form.{Form}
use Rattle.syntax.specs.declared.Form.TheVariants as form
use Rattle.syntax.specs.declared.AttributeForm.{AttributeForm}
use Rattle.syntax.specs.declared.AttributeForm.TheVariants as attribute

abbrev pub count : ℕ
count = 142

unfoldable pub rows : List Row
rows =
    row.Free  -- 0: free
    ∷ row.End  -- 1: end
    ∷ row.Field kind.AnyOptional 0x00 0 1  -- 2: any_optional in AlgorithmIdentifier.parameters
    ∷ row.Field kind.Required 0x06 0 2  -- 3: required in AlgorithmIdentifier.algorithm
    ∷ row.Field kind.Required 0x03 0 1  -- 4: required in SubjectPublicKeyInfo.subjectPublicKey
    ∷ row.Field kind.Required 0x30 3 4  -- 5: required in SubjectPublicKeyInfo.algorithm
    ∷ row.Obeys (rule.Equals 0xFF) 0  -- 6: equals in Extension.critical
    ∷ row.Field kind.Required 0x04 0 1  -- 7: required in Extension.extnValue, EncapsulatedContentInfo.eContent, HardwareSerialEntry.block
    ∷ row.Field kind.Optional 0x01 6 7  -- 8: optional in Extension.critical
    ∷ row.Field kind.Required 0x06 0 8  -- 9: required in Extension.extnID
    ∷ row.Field kind.Optional 0x30 9 1  -- 10: optional in Extensions, TrustAnchorInfo.exts, TrustAnchorChangeInfo.exts
    ∷ row.Many 10  -- 11: many in Extensions, TrustAnchorInfo.exts, TrustAnchorChangeInfo.exts
    ∷ row.Obeys rule.NotEmpty 11  -- 12: not_empty in Extensions, TrustAnchorInfo.exts, TrustAnchorChangeInfo.exts
    ∷ row.Field kind.One 0x00 0 1  -- 13: one in ContentInfo.content, ContentInfoSignedData.content, AnotherName.value, Attribute.attrValues
    ∷ row.Field kind.Required 0xA0 13 1  -- 14: required in ContentInfo.content, ContentInfoSignedData.content, AnotherName.value
    ∷ row.Field kind.Required 0x06 0 14  -- 15: required in ContentInfo.contentType, AnotherName.type-id
    ∷ row.Field kind.Required 0x30 15 1  -- 16: required in ContentInfo
    ∷ row.Obeys rule.EqualsGiven 0  -- 17: equals given in ContentInfoSignedData.contentType, Attribute.attrValues
    ∷ row.Field kind.Required 0x06 17 14  -- 18: required in ContentInfoSignedData.contentType
    ∷ row.Field kind.Required 0x30 18 1  -- 19: required in ContentInfoSignedData
    ∷ row.Obeys (rule.Equals 0x03) 0  -- 20: equals in SignedData.version, SignerInfo.version
    ∷ row.Field kind.Optional 0x30 3 1  -- 21: optional in SignedData.digestAlgorithms
    ∷ row.Many 21  -- 22: many in SignedData.digestAlgorithms
    ∷ row.Field kind.Required 0x31 0 1  -- 23: required in SignedData.signerInfos
    ∷ row.Field kind.Optional 0xA1 0 23  -- 24: optional in SignedData.crls
    ∷ row.Field kind.Optional 0xA0 0 24  -- 25: optional in SignedData.certificates
    ∷ row.Field kind.Required 0x30 0 25  -- 26: required in SignedData.encapContentInfo
    ∷ row.Field kind.Required 0x31 22 26  -- 27: required in SignedData.digestAlgorithms
    ∷ row.Field kind.Required 0x02 20 27  -- 28: required in SignedData.version
    ∷ row.Field kind.Optional 0xA0 7 1  -- 29: optional in EncapsulatedContentInfo.eContent
    ∷ row.Field kind.Required 0x06 0 29  -- 30: required in EncapsulatedContentInfo.eContentType
    ∷ row.Field kind.Optional 0xA1 0 1  -- 31: optional in SignerInfo.unsignedAttrs
    ∷ row.Field kind.Required 0x04 0 31  -- 32: required in SignerInfo.signature
    ∷ row.Field kind.Required 0x30 3 32  -- 33: required in SignerInfo.signatureAlgorithm
    ∷ row.Field kind.Optional 0xA0 0 33  -- 34: optional in SignerInfo.signedAttrs
    ∷ row.Field kind.Required 0x30 3 34  -- 35: required in SignerInfo.digestAlgorithm
    ∷ row.Field kind.Required 0x80 0 35  -- 36: required in SignerInfo.sid
    ∷ row.Field kind.Required 0x02 20 36  -- 37: required in SignerInfo.version
    ∷ row.Field kind.Required 0x30 37 1  -- 38: required in OneSignerInfo
    ∷ row.Obeys (rule.IntegerBut 1) 0  -- 39: integer_but in TrustAnchorInfo.version
    ∷ row.Obeys (rule.SizeTo 64) 0  -- 40: size_to in TrustAnchorInfo.taTitle, TrustAnchorChangeInfo.taTitle
    ∷ row.Field kind.Required 0x30 12 1  -- 41: required in TrustAnchorInfo.exts
    ∷ row.Field kind.Optional 0x82 0 1  -- 42: optional in TrustAnchorInfo.taTitleLangTag
    ∷ row.Field kind.Optional 0xA1 41 42  -- 43: optional in TrustAnchorInfo.exts
    ∷ row.Field kind.Optional 0x30 0 43  -- 44: optional in TrustAnchorInfo.certPath
    ∷ row.Field kind.Optional 0x0C 40 44  -- 45: optional in TrustAnchorInfo.taTitle
    ∷ row.Field kind.Required 0x04 0 45  -- 46: required in TrustAnchorInfo.keyId
    ∷ row.Field kind.Required 0x30 5 46  -- 47: required in TrustAnchorInfo.pubKey
    ∷ row.Field kind.Optional 0x02 39 47  -- 48: optional in TrustAnchorInfo.version
    ∷ row.Field kind.Required 0x30 48 1  -- 49: required in StoredTrustAnchorInfo, TrustAnchorChoice.taInfo
    ∷ row.Field kind.Optional 0xA2 49 1  -- 50: optional in TrustAnchorChoice.taInfo
    ∷ row.Field kind.Optional 0xA1 0 50  -- 51: optional in TrustAnchorChoice.tbsCert
    ∷ row.Field kind.Optional 0x30 0 51  -- 52: optional in TrustAnchorChoice.certificate
    ∷ row.Field kind.Optional 0x06 0 1  -- 53: optional in CommunityIdentifierList, TargetIdentifier.communities, CommunityUpdates.remove, CommunityUpdates.add
    ∷ row.Many 53  -- 54: many in CommunityIdentifierList, TargetIdentifier.communities, CommunityUpdates.remove, CommunityUpdates.add
    ∷ row.Obeys rule.Empty 0  -- 55: empty in HardwareSerialEntry.all, TargetIdentifier.allModules
    ∷ row.Field kind.Required 0x04 0 7  -- 56: required in HardwareSerialEntry.block
    ∷ row.Field kind.Optional 0x30 56 1  -- 57: optional in HardwareSerialEntry.block
    ∷ row.Field kind.Optional 0x04 0 57  -- 58: optional in HardwareSerialEntry.single
    ∷ row.Field kind.Optional 0x05 55 58  -- 59: optional in HardwareSerialEntry.all
    ∷ row.Many 59  -- 60: many in HardwareModules.hwSerialEntries
    ∷ row.Obeys rule.NotEmpty 60  -- 61: not_empty in HardwareModules.hwSerialEntries
    ∷ row.Field kind.Required 0x30 61 1  -- 62: required in HardwareModules.hwSerialEntries
    ∷ row.Field kind.Required 0x06 0 62  -- 63: required in HardwareModules.hwType
    ∷ row.Field kind.Optional 0x30 63 1  -- 64: optional in TargetIdentifier.hwModules
    ∷ row.Many 64  -- 65: many in TargetIdentifier.hwModules
    ∷ row.Obeys rule.NotEmpty 65  -- 66: not_empty in TargetIdentifier.hwModules
    ∷ row.Field kind.Optional 0xA5 15 1  -- 67: optional in TargetIdentifier.otherName
    ∷ row.Field kind.Optional 0x84 0 67  -- 68: optional in TargetIdentifier.uri
    ∷ row.Field kind.Optional 0x83 55 68  -- 69: optional in TargetIdentifier.allModules
    ∷ row.Field kind.Optional 0xA2 54 69  -- 70: optional in TargetIdentifier.communities
    ∷ row.Field kind.Optional 0xA1 66 70  -- 71: optional in TargetIdentifier.hwModules
    ∷ row.Obeys rule.SeqNumber 0  -- 72: seq_number in TAMPMsgRef.seqNum, TAMPSequenceNumber.seqNumber
    ∷ row.Field kind.Required 0x02 72 1  -- 73: required in TAMPMsgRef.seqNum, TAMPSequenceNumber.seqNumber
    ∷ row.Field kind.One 0x00 71 73  -- 74: one in TAMPMsgRef.target
    ∷ row.Obeys (rule.IntegerBut 2) 0  -- 75: integer_but in TAMPStatusQuery.version, TAMPUpdate.version, TAMPCommunityUpdate.version, SequenceNumberAdjust.version
    ∷ row.Obeys (rule.Equals 0x01) 0  -- 76: equals in TAMPStatusQuery.terse, TAMPUpdate.terse, TAMPCommunityUpdate.terse, ContentTypeConstraint.canSource
    ∷ row.Field kind.Required 0x30 74 1  -- 77: required in TAMPStatusQuery.query, SequenceNumberAdjust.msgRef
    ∷ row.Field kind.Optional 0x81 76 77  -- 78: optional in TAMPStatusQuery.terse
    ∷ row.Field kind.Optional 0x80 75 78  -- 79: optional in TAMPStatusQuery.version
    ∷ row.Field kind.Required 0x30 79 1  -- 80: required in TAMPStatusQuery
    ∷ row.Field kind.Optional 0xA1 12 1  -- 81: optional in TrustAnchorChangeInfo.exts
    ∷ row.Field kind.Optional 0x30 0 81  -- 82: optional in TrustAnchorChangeInfo.certPath
    ∷ row.Field kind.Optional 0x0C 40 82  -- 83: optional in TrustAnchorChangeInfo.taTitle
    ∷ row.Field kind.Optional 0x04 0 83  -- 84: optional in TrustAnchorChangeInfo.keyId
    ∷ row.Field kind.Required 0x30 5 84  -- 85: required in TrustAnchorChangeInfo.pubKey
    ∷ row.Field kind.Optional 0xA1 85 1  -- 86: optional in TrustAnchorChangeInfoChoice.taChange
    ∷ row.Field kind.Optional 0xA0 0 86  -- 87: optional in TrustAnchorChangeInfoChoice.tbsCertChange
    ∷ row.Field kind.One 0x00 52 1  -- 88: one in TrustAnchorUpdate.add
    ∷ row.Field kind.One 0x00 87 1  -- 89: one in TrustAnchorUpdate.change
    ∷ row.Field kind.Optional 0xA3 89 1  -- 90: optional in TrustAnchorUpdate.change
    ∷ row.Field kind.Optional 0xA2 5 90  -- 91: optional in TrustAnchorUpdate.remove
    ∷ row.Field kind.Optional 0xA1 88 91  -- 92: optional in TrustAnchorUpdate.add
    ∷ row.Field kind.Required 0x04 0 73  -- 93: required in TAMPSequenceNumber.keyId
    ∷ row.Field kind.Optional 0x30 93 1  -- 94: optional in TAMPSequenceNumbers, TAMPUpdate.tampSeqNumbers
    ∷ row.Many 94  -- 95: many in TAMPSequenceNumbers, TAMPUpdate.tampSeqNumbers
    ∷ row.Obeys rule.NotEmpty 95  -- 96: not_empty in TAMPSequenceNumbers, TAMPUpdate.tampSeqNumbers
    ∷ row.Many 92  -- 97: many in TAMPUpdate.updates
    ∷ row.Obeys rule.NotEmpty 97  -- 98: not_empty in TAMPUpdate.updates
    ∷ row.Field kind.Optional 0xA2 96 1  -- 99: optional in TAMPUpdate.tampSeqNumbers
    ∷ row.Field kind.Required 0x30 98 99  -- 100: required in TAMPUpdate.updates
    ∷ row.Field kind.Required 0x30 74 100  -- 101: required in TAMPUpdate.msgRef
    ∷ row.Field kind.Optional 0x81 76 101  -- 102: optional in TAMPUpdate.terse
    ∷ row.Field kind.Optional 0x80 75 102  -- 103: optional in TAMPUpdate.version
    ∷ row.Field kind.Required 0x30 103 1  -- 104: required in TAMPUpdate
    ∷ row.Field kind.Optional 0xA2 54 1  -- 105: optional in CommunityUpdates.add
    ∷ row.Field kind.Optional 0xA1 54 105  -- 106: optional in CommunityUpdates.remove
    ∷ row.Obeys rule.NotEmpty 106  -- 107: not_empty in CommunityUpdates
    ∷ row.Field kind.Required 0x30 107 1  -- 108: required in TAMPCommunityUpdate.updates
    ∷ row.Field kind.Required 0x30 74 108  -- 109: required in TAMPCommunityUpdate.msgRef
    ∷ row.Field kind.Optional 0x81 76 109  -- 110: optional in TAMPCommunityUpdate.terse
    ∷ row.Field kind.Optional 0x80 75 110  -- 111: optional in TAMPCommunityUpdate.version
    ∷ row.Field kind.Required 0x30 111 1  -- 112: required in TAMPCommunityUpdate
    ∷ row.Field kind.Optional 0x80 75 77  -- 113: optional in SequenceNumberAdjust.version
    ∷ row.Field kind.Required 0x30 113 1  -- 114: required in SequenceNumberAdjust
    ∷ row.Obeys rule.NotEmpty 0  -- 115: not_empty in AttrConstraint.attrValues
    ∷ row.Field kind.Required 0x31 115 1  -- 116: required in AttrConstraint.attrValues
    ∷ row.Field kind.Required 0x06 0 116  -- 117: required in AttrConstraint.attrType
    ∷ row.Field kind.Optional 0x30 117 1  -- 118: optional in AttrConstraintList, ContentTypeConstraint.attrConstraints
    ∷ row.Many 118  -- 119: many in AttrConstraintList, ContentTypeConstraint.attrConstraints
    ∷ row.Obeys rule.NotEmpty 119  -- 120: not_empty in AttrConstraintList, ContentTypeConstraint.attrConstraints
    ∷ row.Field kind.Optional 0x30 120 1  -- 121: optional in ContentTypeConstraint.attrConstraints
    ∷ row.Field kind.Optional 0x0A 76 121  -- 122: optional in ContentTypeConstraint.canSource
    ∷ row.Field kind.Required 0x06 0 122  -- 123: required in ContentTypeConstraint.contentType
    ∷ row.Field kind.Optional 0x30 123 1  -- 124: optional in CMSContentConstraints
    ∷ row.Many 124  -- 125: many in CMSContentConstraints
    ∷ row.Obeys rule.NotEmpty 125  -- 126: not_empty in CMSContentConstraints
    ∷ row.Field kind.Required 0x30 126 1  -- 127: required in CMSContentConstraints
    ∷ row.Field kind.Required 0x30 28 1  -- 128: required in OneSignedData
    ∷ row.Field kind.Optional 0x06 17 1  -- 129: optional in Attribute.attrValues
    ∷ row.Field kind.One 0x00 129 1  -- 130: one in Attribute.attrValues
    ∷ row.Field kind.Required 0x31 130 1  -- 131: required in Attribute.attrValues
    ∷ row.Field kind.Required 0x06 0 131  -- 132: required in Attribute.attrType
    ∷ row.Field kind.Optional 0x30 132 1  -- 133: optional in ContentType attribute
    ∷ row.Field kind.Optional 0x04 0 1  -- 134: optional in Attribute.attrValues
    ∷ row.Field kind.One 0x00 134 1  -- 135: one in Attribute.attrValues
    ∷ row.Field kind.Required 0x31 135 1  -- 136: required in Attribute.attrValues
    ∷ row.Field kind.Required 0x06 0 136  -- 137: required in Attribute.attrType
    ∷ row.Field kind.Optional 0x30 137 1  -- 138: optional in MessageDigest attribute
    ∷ row.Field kind.Required 0x31 13 1  -- 139: required in Attribute.attrValues
    ∷ row.Field kind.Required 0x06 0 139  -- 140: required in Attribute.attrType
    ∷ row.Field kind.Optional 0x30 140 1  -- 141: optional in Other attribute
    ∷ []

abbrev pub message_row : TampType → ℕ
message_row StatusQuery = 80
message_row Update = 104
message_row CommunityUpdate = 112
message_row SeqNumAdjust = 114

abbrev pub form_row : Form → ℕ
form_row form.ContentInfo = 16
form_row form.ContentInfoSignedData = 19
form_row form.SignedData = 128
form_row form.EncapsulatedContentInfo = 30
form_row form.OneSignerInfo = 38
form_row form.StoredTrustAnchorInfo = 49
form_row form.CMSContentConstraints = 127
form_row (form.Message kind) = message_row kind

abbrev pub attribute_row : AttributeForm → ℕ
attribute_row attribute.ContentType = 133
attribute_row attribute.MessageDigest = 138
attribute_row attribute.Other = 141
