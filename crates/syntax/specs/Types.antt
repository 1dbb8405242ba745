-- Object identifiers of the RFCs, and the four TAMP types of 01.
use Rattle.std.specs.Prelude.{ℕ, true, false, List, [], ◌∷◌, Option, Some, None}
use Rattle.octets.specs.Octets.{same}
use Rattle.der.specs.Oid.{oid}
use Rattle.syntax.specs.declared.TampType.{TampType}
use Rattle.syntax.specs.declared.TampType.TheVariants.{StatusQuery, Update, CommunityUpdate, SeqNumAdjust}
use Rattle.syntax.specs.Grammar.{Syntax}
use Rattle.syntax.specs.Asn.{TAMPStatusQuery, TAMPUpdate, TAMPCommunityUpdate, SequenceNumberAdjust}

-- RFC 5652, 11.1 and 11.2
abbrev pub id_content_type : List ℕ
id_content_type = oid 1 2 (840 ∷ 113549 ∷ 1 ∷ 9 ∷ 3 ∷ [])

abbrev pub id_message_digest : List ℕ
id_message_digest = oid 1 2 (840 ∷ 113549 ∷ 1 ∷ 9 ∷ 4 ∷ [])

-- RFC 6010, 2
abbrev pub id_pe_cms_content_constraints : List ℕ
id_pe_cms_content_constraints = oid 1 3 (6 ∷ 1 ∷ 5 ∷ 5 ∷ 7 ∷ 1 ∷ 18 ∷ [])

-- RFC 5934: id-tamp is { joint-iso-ccitt(2) country(16) us(840) organization(1) gov(101) dod(2) infosec(1) formats(2) 77 }
abbrev id_tamp : ℕ → List ℕ
id_tamp n = oid 2 16 (840 ∷ 1 ∷ 101 ∷ 2 ∷ 1 ∷ 2 ∷ 77 ∷ n ∷ [])

-- RFC 5934: id-ct-TAMP-statusQuery, -update, -communityUpdate, -seqNumAdjust
unfoldable pub type_oid : TampType → List ℕ
type_oid StatusQuery = id_tamp 1
type_oid Update = id_tamp 3
type_oid CommunityUpdate = id_tamp 7
type_oid SeqNumAdjust = id_tamp 10

-- the syntax of each message
unfoldable pub syntax_of : TampType → Syntax
syntax_of StatusQuery = TAMPStatusQuery
syntax_of Update = TAMPUpdate
syntax_of CommunityUpdate = TAMPCommunityUpdate
syntax_of SeqNumAdjust = SequenceNumberAdjust

-- 01, status 18: "one of the four"
abbrev pub tamp_types : List TampType
tamp_types = StatusQuery ∷ Update ∷ CommunityUpdate ∷ SeqNumAdjust ∷ []

-- the row that an OID's contents equal
unfoldable pub row_of : List TampType → List ℕ → Option TampType
row_of [] o = None
row_of (t ∷ ts) o = elim (same o (type_oid t)) [ true ↦ Some t | false ↦ row_of ts o ]

unfoldable pub recognised : List ℕ → Option TampType
recognised o = row_of tamp_types o
