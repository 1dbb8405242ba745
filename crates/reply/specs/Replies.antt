-- "Replies are the unsigned TAMP content in terse form", to the last octet: RFC 5934, appendix A.1, with the defaults (version, usesApex) left out. msgRef is the octets of the message's own.
use Rattle.std.specs.Prelude.{ℕ}
use mathlib.Core.List.{List, [], ◌∷◌, ◌++◌, flat_map}
use Rattle.octets.specs.declared.Status.{Status}
use Rattle.octets.specs.Status.{success}
use Rattle.der.specs.Write.{element}

-- StatusCode ::= ENUMERATED: every status of 01 is below 128
abbrev pub status_code : Status → List ℕ
status_code status = element 0x0A (status.number ∷ [])

-- TAMPError ::= SEQUENCE { msgType OBJECT IDENTIFIER, status StatusCode, msgRef TAMPMsgRef OPTIONAL }
unfoldable pub tamp_error : List ℕ → Status → List ℕ → List ℕ
tamp_error msgType status msg_ref = element 0x30 (element 0x06 msgType ++ (status_code status ++ msg_ref))

-- SEQUENCE SIZE (1..MAX) OF members with this tag: there is none of no members
unfoldable pub list_of : ℕ → List (List ℕ) → List ℕ
list_of tag [] = []
list_of tag (c ∷ l) = element 0x30 (flat_map (element tag) (c ∷ l))

-- TAMPStatusResponse ::= SEQUENCE { query TAMPMsgRef, response CHOICE { terseResponse [0] SEQUENCE { taKeyIds KeyIdentifiers, communities CommunityIdentifierList OPTIONAL } } }
-- "identifiers in store order, then communities unless there are none". KeyIdentifiers is never empty: a store has its apex.
unfoldable pub status_response : List ℕ → List (List ℕ) → List (List ℕ) → List ℕ
status_response msg_ref identifiers communities =
    element 0x30 (msg_ref ++ element 0xA0 (list_of 0x04 identifiers ++ list_of 0x06 communities))

-- TAMPUpdateConfirm ::= SEQUENCE { update TAMPMsgRef, confirm CHOICE { terseConfirm [0] StatusCodeList } }
unfoldable pub update_confirm : List ℕ → List Status → List ℕ
update_confirm msg_ref statuses = element 0x30 (msg_ref ++ element 0xA0 (flat_map status_code statuses))

-- TAMPCommunityUpdateConfirm ::= SEQUENCE { update TAMPMsgRef, commConfirm CHOICE { terseCommConfirm [0] StatusCode } }
unfoldable pub community_confirm : List ℕ → Status → List ℕ
community_confirm msg_ref status = element 0x30 (msg_ref ++ element 0x80 (status.number ∷ []))

-- SequenceNumberAdjustConfirm ::= SEQUENCE { adjust TAMPMsgRef, status StatusCode }
unfoldable pub adjust_confirm : List ℕ → List ℕ
adjust_confirm msg_ref = element 0x30 (msg_ref ++ status_code success)
