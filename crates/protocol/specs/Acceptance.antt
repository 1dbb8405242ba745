-- 01, Answers: the rows 10, 16, 38, 23, 11 and 21, and acceptance. The rows after 16 are each a Fit, as envelope's specs/Rows says; 10 and 16 are the two ways
-- in which the search for the signer (store's specs/Signer) finds none.
use Rattle.store.specs.declared.NoSigner.TheVariants.{Unverified, Unknown}
use Rattle.store.specs.declared.NoSigner.{NoSigner}
use Rattle.std.specs.Prelude.{ℕ, Bool, not, List, get_or, leb, ltb, Option, Some, None, Result, Ok, Err}
use Rattle.octets.specs.declared.Status.{Status}
use Rattle.octets.specs.Status.{success, no_trust_anchor, signature_failure, unsupported_target_identifier, incorrect_target, not_authorized, seq_num_failure}
use Rattle.der.specs.declared.Element.{Element}
use Rattle.der.specs.Fit.{applies_if, given_at, Fit}
use Rattle.der.specs.Element.{encoding, contents}
use Rattle.syntax.specs.declared.TampType.{TampType}
use Rattle.syntax.specs.declared.TampType.TheVariants.{StatusQuery, Update, CommunityUpdate, SeqNumAdjust}
use Rattle.rights.specs.Rights.{Rights, Content, source, nothing, authorises}
use Rattle.store.specs.Store.{Store, anchors, identifiers, rights_in}
use Rattle.store.specs.Signer.{signer}
use Rattle.rights.specs.Attributes.{pairs}
use Rattle.envelope.specs.declared.Refusal.{Refusal}
use Rattle.envelope.specs.Rows.{refusal_with}
use Rattle.message.specs.declared.Request.{Request}
use Rattle.message.specs.Rows.{received}
use Rattle.protocol.specs.Target.{names_device, is_unsupported}

-- what the signer at a position may
abbrev pub rights_at : Store → ℕ → Rights
rights_at σ i = get_or (rights_in σ) i nothing

-- the number that an anchor has
abbrev pub number_at : Store → ℕ → Option ℕ
number_at σ i = (get_or (anchors σ) i σ.apex).number

-- 10: no anchor has the key identifier; 16: none of those that have it has verdict 1
unfoldable pub found_status : Result ℕ NoSigner → Status
found_status (Ok i) = success
found_status (Err Unverified) = signature_failure
found_status (Err Unknown) = no_trust_anchor

-- 38: target is uri or otherName
abbrev pub row_38 : List ℕ → Request → Fit
row_38 s q = applies_if (is_unsupported (encoding s q.target))

-- 23: device not named
unfoldable pub row_23 : Store → List ℕ → Request → Fit
row_23 σ s q = applies_if (not (names_device σ.device.hw_type σ.device.serial σ.communities (encoding s q.target)))

-- "the message's type as source with the signed attributes other than content-type and message-digest"
abbrev pub source_of : List ℕ → Element → Element → Content
source_of s type attributes = record { type = contents s type; role = source; attributes = pairs s attributes }

unfoldable pub message_content : List ℕ → Request → Content
message_content s q = source_of s q.msgtype q.attributes

-- 11: the signer doesn't authorise it
unfoldable pub row_11 : Rights → List ℕ → Request → Fit
row_11 rights s q = applies_if (not (authorises rights (message_content s q)))

-- 21: "A signer with no number takes any; else Adjust must be at least the stored number and the others above it."
unfoldable pub too_low : TampType → ℕ → ℕ → Bool
too_low SeqNumAdjust stored n = ltb n stored
too_low StatusQuery stored n = leb n stored
too_low Update stored n = leb n stored
too_low CommunityUpdate stored n = leb n stored

unfoldable pub row_21 : Option ℕ → Request → Fit
row_21 None q = Ok tt
row_21 (Some stored) q = applies_if (too_low q.kind stored q.number)

-- a refusal of a request, with its msgRef
abbrev pub refusal_of : Request → Status → ℕ → Refusal
refusal_of q status offset = refusal_with status q.msgtype q.msgref offset

abbrev pub refuse_request : Request → Status → ℕ → Result (Request × ℕ) Refusal
refuse_request q status offset = Err (refusal_of q status offset)

-- the rows after 16, by the anchor at position i
unfoldable pub judged_at : Store → List ℕ → Request → ℕ → Result (Request × ℕ) Refusal
judged_at σ s q i =
    given_at (row_38 s q) (refuse_request q unsupported_target_identifier)
    (given_at (row_23 σ s q) (refuse_request q incorrect_target)
    (given_at (row_11 (rights_at σ i) s q) (refuse_request q not_authorized)
    (given_at (row_21 (number_at σ i) q) (refuse_request q seq_num_failure)
    (Ok (q, i)))))

unfoldable pub by_signer : Store → List ℕ → Request → Result ℕ NoSigner → Result (Request × ℕ) Refusal
by_signer σ s q (Ok i) = judged_at σ s q i
by_signer σ s q (Err Unverified) = refuse_request q (found_status (Err Unverified)) 0
by_signer σ s q (Err Unknown) = refuse_request q (found_status (Err Unknown)) 0

unfoldable pub judgement_of : Store → List ℕ → List ℕ → Result Request Refusal → Result (Request × ℕ) Refusal
judgement_of σ verdict s (Err r) = Err r
judgement_of σ verdict s (Ok q) = by_signer σ s q (signer (identifiers σ) verdict (contents s q.signer))

-- what all rows decide of a message: its refusal, or the request and its signer's position. Accepted is 01's term: "A message past 21 is accepted"
unfoldable pub judgement : Store → List ℕ → List ℕ → Result (Request × ℕ) Refusal
judgement σ verdict s = judgement_of σ verdict s (received s)
