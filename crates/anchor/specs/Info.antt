-- A TrustAnchorInfo (RFC 5914) as octets by itself: its parts, and the rights that its content constraints give.
use Rattle.std.specs.Prelude.{ℕ, Bool, true, false, List, ◌∷◌, drop}
use Rattle.octets.specs.Octets.{same}
use Rattle.der.specs.declared.Element.{Element}
use Rattle.der.specs.declared.Compared.TheVariants.{Types}
use Rattle.der.specs.Element.{root, encoding, contents, inside, field, field_after}
use Rattle.der.specs.Keys.{type_of, first_with, element_found}
use Rattle.syntax.specs.Types.{id_pe_cms_content_constraints}
use Rattle.rights.specs.Rights.{Rights, nothing}
use Rattle.rights.specs.Constraints.{constraints_rights}

-- version, absent where it is the default 1
unfoldable pub version : List ℕ → Element
version t = field 0x02 t (root t)

-- 01, The store image: the public key is the SubjectPublicKeyInfo's octets
unfoldable pub public_key : List ℕ → List ℕ
public_key t = encoding t (field 0x30 t (root t))

-- .. "the first read as 30 where a message tags it otherwise": the public key that such octets of a message are
abbrev pub untagged : List ℕ → List ℕ
untagged key = 0x30 ∷ drop 1 key

unfoldable pub key_id_field : List ℕ → Element
key_id_field t = field 0x04 t (root t)

abbrev pub key_identifier : List ℕ → List ℕ
key_identifier t = contents t (key_id_field t)

-- certPath, the SEQUENCE after keyId, where it is present
unfoldable pub cert_path : List ℕ → Element
cert_path t = field_after 0x30 t (root t) (key_id_field t)

-- the members of Extensions, and an extension's parts
unfoldable pub extensions : List ℕ → List Element
extensions t = inside t (field 0x30 t (field 0xA1 t (root t)))

abbrev pub critical : List ℕ → Element → Bool
critical t e = (field 0x01 t e).valid

abbrev pub extn_value : List ℕ → Element → List ℕ
extn_value t e = contents t (field 0x04 t e)

abbrev pub is_constraints : List ℕ → Element → Bool
is_constraints t e = same (type_of t e) id_pe_cms_content_constraints

-- the first content constraints extension
unfoldable pub constraints_in : List ℕ → List Element → Element
constraints_in t es = element_found (first_with Types t id_pe_cms_content_constraints es)

unfoldable pub constraints_extension : List ℕ → Element
constraints_extension t = constraints_in t (extensions t)

-- 01, listing: "management if it has constraints"
abbrev pub has_constraints : List ℕ → Bool
has_constraints t = (constraints_extension t).valid

-- RFC 6010: CMSContentConstraints, as octets by itself
abbrev pub constraints_value : List ℕ → List ℕ
constraints_value t = extn_value t (constraints_extension t)

-- 01, Rights: what an anchor authorises by its own extension ("An anchor with no extension authorises nothing")
unfoldable pub rights_of : List ℕ → Rights
rights_of t = elim (has_constraints t) [ true ↦ constraints_rights (constraints_value t) | false ↦ nothing ]
