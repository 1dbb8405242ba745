-- Definitions that a proof computes through, under one name for each such proof: the attribute `tactic` of the function names it.
use Rattle.octets.specs.Number.{digits}
use Rattle.der.specs.Fit.{given_at}
use Rattle.der.specs.Oid.{oid, arc, arcs}
use Rattle.syntax.specs.Contract.Forms.{form_syntax, attribute_syntax}
use Rattle.envelope.specs.Parts.{content_info, content, signed_data, encap_content_info, certificates, crls, signer_infos, e_content_type, e_content_tag, e_content}
use Rattle.envelope.specs.Parts.{signer_info, subject_key_identifier, signed_attrs, unsigned_attrs}
use Rattle.envelope.specs.Attributes.{value_syntax}
use Rattle.envelope.specs.Rows.{row_3, row_4, row_9, row_18, kind_in, row_5, row_6, row_7, row_8, envelope}

-- the parts of a message, each from the one around it
unfoldable pub parts : Unit {0}
unfolding content_info content signed_data encap_content_info signer_infos e_content_type e_content_tag signer_info
parts = tt

-- the table up to row 8, down to the parts that `parts` leaves
unfoldable pub table : Unit {0}
unfolding
    given_at form_syntax certificates crls e_content subject_key_identifier signed_attrs unsigned_attrs row_3 row_4 row_9 row_18 kind_in row_5 row_6 row_7
    row_8 envelope
table = tt

-- the OIDs of RFC 5652
unfoldable pub oids : Unit {0}
unfolding oid arc arcs digits
oids = tt

-- what is asked of an Attribute
unfoldable pub attributes : Unit {0}
unfolding value_syntax attribute_syntax oids
attributes = tt
