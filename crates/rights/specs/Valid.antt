-- Contents by DER: a type is an OID, a value one DER element. 01, Rights compares them as octets and asks no more; a content that demand 2 says to exist is one by these rules too.
use Rattle.std.specs.Prelude.{ℕ, Bool, true, false, ◌&&◌, ◌≡◌, length, ltb}
use Rattle.octets.specs.Lists.{all_of}
use Rattle.der.specs.Fit.{kept}
use Rattle.der.specs.Contents.{oid_ok}
use Rattle.der.specs.Check.{spans}
use Rattle.rights.specs.Rights.{Key, Content, Rights, authorises}

-- The levels of a value: of an extension's 16 five stand around a listed value (CMSContentConstraints, ContentTypeConstraint, AttrConstraintList, AttrConstraint, attrValues).
abbrev pub value_depth : ℕ
value_depth = 11

-- octets, as all that a slice holds
abbrev pub is_octets : Key → Bool
is_octets k = all_of (λ x. ltb x 256) k

-- a type is an OID's contents
unfoldable pub is_type : Key → Bool
is_type k = is_octets k && oid_ok k

-- a value is "the whole DER element"
unfoldable pub is_value : Key → Bool
is_value v = is_octets v && kept (spans value_depth v 0 (length v) 0)

unfoldable pub valid_content : Content → Bool
valid_content content = is_type content.type && all_of (λ p. is_type p.0 && is_value p.1) content.attributes

-- such a content that the new anchor authorises and the signer does not
abbrev pub ValidOutside : Rights → Rights → Type 0
ValidOutside signer new =
    (content : Content) × (valid_content content ≡ true) × (authorises new content ≡ true) × (authorises signer content ≡ false)
