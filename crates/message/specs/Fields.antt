-- The fields of the four messages (RFC 5934, appendix A.1) in a message s, where row 36 has found the syntax right.
use Rattle.std.specs.Prelude.{ℕ, true, false, List, map, take, eqb}
use Rattle.octets.specs.Number.{number}
use Rattle.der.specs.declared.Element.{Element}
use Rattle.der.specs.Element.{element_at, contents, inside, field, field_after}
use Rattle.message.specs.declared.Entry.{Entry}
use Rattle.message.specs.declared.Entry.TheVariants as entry

-- the message in eContent, and its TAMPMsgRef
unfoldable pub body_in : List ℕ → Element → Element
body_in s e_content = element_at s e_content.start e_content.stop

unfoldable pub msg_ref_in : List ℕ → Element → Element
msg_ref_in s body = field 0x30 s body

-- version and terse, absent where they are the defaults 2 and verbose
unfoldable pub version_in : List ℕ → Element → Element
version_in s body = field 0x80 s body

unfoldable pub terse_in : List ℕ → Element → Element
terse_in s body = field 0x81 s body

-- target, which is "handed back as parts of the message", and seqNum of a TAMPMsgRef
unfoldable pub target_in : List ℕ → Element → Element
target_in s msg_ref = element_at s msg_ref.start msg_ref.stop

-- a SeqNumber, INTEGER (0..9223372036854775807): row 36 leaves it 8 octets at most
unfoldable pub seq_number_in : List ℕ → Element → ℕ
seq_number_in s e = number (take 8 (contents s e))

unfoldable pub seq_num_in : List ℕ → Element → ℕ
seq_num_in s msg_ref = seq_number_in s (field 0x02 s msg_ref)

-- updates of an Update or a Community Update: the field after msgRef
unfoldable pub updates_in : List ℕ → Element → Element → Element
updates_in s body msg_ref = field_after 0x30 s body msg_ref

-- tampSeqNumbers [2] of an Update
unfoldable pub tamp_seq_numbers_in : List ℕ → Element → Element
tamp_seq_numbers_in s body = field 0xA2 s body

-- TrustAnchorUpdate: add [1] TrustAnchorChoice with taInfo [2] or a certificate form, remove [2], change [3]. Row 36 leaves no other tags.
unfoldable pub entry_of : List ℕ → Element → Entry
entry_of s e =
    let choice = element_at s e.start e.stop in
    elim (eqb e.tag 0xA1) [
      | true ↦ elim (eqb choice.tag 0xA2) [ true ↦ entry.Add (field 0x30 s choice) | false ↦ entry.AddCertificate ]
      | false ↦ elim (eqb e.tag 0xA2) [ true ↦ entry.Remove e | false ↦ entry.Change ]
    ]

-- the entries of an Update, in order
unfoldable pub entries_in : List ℕ → Element → List Entry
entries_in s updates = map (entry_of s) (inside s updates)

-- tampSeqNumbers: key identifiers and numbers, in order
unfoldable pub seq_numbers_in : List ℕ → Element → List (List ℕ × ℕ)
seq_numbers_in s numbers = map (λ e. (contents s (field 0x04 s e), seq_number_in s (field 0x02 s e))) (inside s numbers)

-- the two lists of CommunityUpdates: remove [1], which may be absent, and add [2]
unfoldable pub remove_in : List ℕ → Element → Element
remove_in s updates = field 0xA1 s updates

unfoldable pub oids_in : List ℕ → Element → List (List ℕ)
oids_in s e = map (contents s) (inside s e)

unfoldable pub additions_in : List ℕ → Element → List (List ℕ)
additions_in s updates = oids_in s (field 0xA2 s updates)
