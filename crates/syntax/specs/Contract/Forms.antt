-- What readers ask the matcher for, case by case.
use Rattle.std.specs.Prelude.{ℕ, List}
use Rattle.syntax.specs.declared.Form.{Form}
use Rattle.syntax.specs.declared.Form.TheVariants as form
use Rattle.syntax.specs.declared.AttributeForm.{AttributeForm}
use Rattle.syntax.specs.declared.AttributeForm.TheVariants as attribute
use Rattle.syntax.specs.Grammar.{Syntax, tagged}
use Rattle.syntax.specs.Asn.{ContentInfo, ContentInfoSignedData, OneSignedData, EncapsulatedContentInfo, OneSignerInfo, Attribute, content_type_value}
use Rattle.syntax.specs.Asn.{message_digest_value, other_value, StoredTrustAnchorInfo, CMSContentConstraints}
use Rattle.syntax.specs.Types.{syntax_of}

unfoldable pub form_syntax : Form → Syntax
form_syntax form.ContentInfo = ContentInfo
form_syntax form.ContentInfoSignedData = ContentInfoSignedData
form_syntax form.SignedData = OneSignedData
form_syntax form.EncapsulatedContentInfo = EncapsulatedContentInfo
form_syntax form.OneSignerInfo = OneSignerInfo
form_syntax form.StoredTrustAnchorInfo = StoredTrustAnchorInfo
form_syntax form.CMSContentConstraints = CMSContentConstraints
form_syntax (form.Message kind) = syntax_of kind

-- 01, status 7: an Attribute by itself, where content-type must hold the type o
unfoldable pub attribute_syntax : AttributeForm → List ℕ → Syntax
attribute_syntax attribute.ContentType o = tagged 0x30 (Attribute (content_type_value o))
attribute_syntax attribute.MessageDigest o = tagged 0x30 (Attribute message_digest_value)
attribute_syntax attribute.Other o = tagged 0x30 (Attribute other_value)
