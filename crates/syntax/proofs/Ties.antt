-- Made by tools/table.py from specs/Asn.antt and specs/Contract/Forms.antt: change those, not this file.
-- Each named type, and each form, is what its row stands for. A stale table fails here.
use Prim.Native.Nat.{ℕ}
use mathlib.Core.List.{List, [], ◌∷◌, map}
use mathlib.Core.Path.{◌≡◌, refl}
use Rattle.syntax.specs.declared.TampType.{TampType}
use Rattle.syntax.specs.declared.TampType.TheVariants.{StatusQuery, Update, CommunityUpdate, SeqNumAdjust}
use Rattle.syntax.specs.declared.Form.{Form}
use Rattle.syntax.specs.declared.Form.TheVariants as form
use Rattle.syntax.specs.declared.AttributeForm.{AttributeForm}
use Rattle.syntax.specs.declared.AttributeForm.TheVariants as attribute
use Rattle.syntax.specs.Asn.{id_signed_data, AlgorithmIdentifier, SubjectPublicKeyInfo, Extension, Extensions, ContentInfo}
use Rattle.syntax.specs.Asn.{SignedData, EncapsulatedContentInfo, SignerInfo, OneSignerInfo, TrustAnchorInfo, StoredTrustAnchorInfo}
use Rattle.syntax.specs.Asn.{TrustAnchorChoice, CommunityIdentifierList, HardwareSerialEntry, HardwareModules, TargetIdentifier, TAMPMsgRef}
use Rattle.syntax.specs.Asn.{TAMPStatusQuery, TrustAnchorChangeInfo, TrustAnchorChangeInfoChoice, TrustAnchorUpdate, TAMPSequenceNumber, TAMPSequenceNumbers}
use Rattle.syntax.specs.Asn.{TAMPUpdate, CommunityUpdates, TAMPCommunityUpdate, SequenceNumberAdjust, AttrConstraint, AttrConstraintList}
use Rattle.syntax.specs.Asn.{ContentTypeConstraint, CMSContentConstraints, OneSignedData}
use Rattle.syntax.specs.Types.{syntax_of}
use Rattle.syntax.specs.Contract.Forms.{form_syntax, attribute_syntax}
use Rattle.syntax.specs.Contract.Table.{rows, message_row, form_row, attribute_row}
use Rattle.syntax.specs.Contract.Rows.{rule_of, field_syntax, row_syntax, grown, grammar_of}

types_are : (o : List ℕ) → map (grammar_of o)
    (3 ∷ 5 ∷ 9 ∷ 12 ∷ 16 ∷ 28 ∷ 30 ∷ 37 ∷ 38 ∷ 48 ∷ 49 ∷ 52 ∷ 54 ∷ 59 ∷ 63 ∷ 71 ∷ 74 ∷ 80 ∷ 85 ∷ 87 ∷ 92 ∷ 93 ∷ 96 ∷ 104 ∷ 107 ∷ 112 ∷ 114 ∷ 117 ∷ 120 ∷ 123 ∷ 127 ∷ 128 ∷ [])
    ≡
    AlgorithmIdentifier ∷ SubjectPublicKeyInfo ∷ Extension ∷ Extensions ∷ ContentInfo ∷ SignedData
    ∷ EncapsulatedContentInfo ∷ SignerInfo ∷ OneSignerInfo ∷ TrustAnchorInfo ∷ StoredTrustAnchorInfo ∷ TrustAnchorChoice
    ∷ CommunityIdentifierList ∷ HardwareSerialEntry ∷ HardwareModules ∷ TargetIdentifier ∷ TAMPMsgRef ∷ TAMPStatusQuery
    ∷ TrustAnchorChangeInfo ∷ TrustAnchorChangeInfoChoice ∷ TrustAnchorUpdate ∷ TAMPSequenceNumber ∷ TAMPSequenceNumbers ∷ TAMPUpdate
    ∷ CommunityUpdates ∷ TAMPCommunityUpdate ∷ SequenceNumberAdjust ∷ AttrConstraint ∷ AttrConstraintList ∷ ContentTypeConstraint
    ∷ CMSContentConstraints ∷ OneSignedData
    ∷ []
unfolding rows rule_of field_syntax row_syntax grown
types_are o = refl

pub message_is : (o : List ℕ) (kind : TampType) → grammar_of o (message_row kind) ≡ syntax_of kind
unfolding rows rule_of field_syntax row_syntax grown syntax_of
message_is o StatusQuery = refl
message_is o Update = refl
message_is o CommunityUpdate = refl
message_is o SeqNumAdjust = refl

pub form_is : (f : Form) → grammar_of id_signed_data (form_row f) ≡ form_syntax f
unfolding rows rule_of field_syntax row_syntax grown form_syntax
form_is form.ContentInfo = refl
form_is form.ContentInfoSignedData = refl
form_is form.SignedData = refl
form_is form.EncapsulatedContentInfo = refl
form_is form.OneSignerInfo = refl
form_is form.StoredTrustAnchorInfo = refl
form_is form.CMSContentConstraints = refl
form_is (form.Message kind) = message_is id_signed_data kind

pub attribute_is : (o : List ℕ) (f : AttributeForm) → grammar_of o (attribute_row f) ≡ attribute_syntax f o
unfolding rows rule_of field_syntax row_syntax grown attribute_syntax
attribute_is o attribute.ContentType = refl
attribute_is o attribute.MessageDigest = refl
attribute_is o attribute.Other = refl
