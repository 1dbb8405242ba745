-- 02, E3: an example for each clause of its rule (specs/Offset), through `call`.
use Rattle.std.specs.Prelude.{ℕ, List, [], ◌∷◌, ◌++◌, map, ◌≡◌, set}
use Rattle.octets.specs.Ascii.{octets_of}
use Rattle.der.specs.Write.{element}
use Rattle.syntax.specs.declared.TampType.TheVariants.{StatusQuery}
use Rattle.syntax.specs.Types.{type_oid}
use Rattle.protocol.specs.Messages.{sequence, integer, attribute, content_type, message_digest, id_Ed25519, signer_info, signed_content_info, any_digest, any_signature}
use Rattle.protocol.specs.Messages.{terse, all_modules, msg_ref}
use Rattle.protocol.specs.Call.{outcome_number, outcome_offset}
use Rattle.protocol.specs.Examples.{answer, both}

-- a Query with this content, these signed attributes, and this behind the signature
unfoldable pub query_with : List ℕ → List ℕ → List ℕ → List ℕ
query_with content attributes rest =
    signed_content_info (type_oid StatusQuery) content (signer_info (0x01 ∷ []) attributes id_Ed25519 any_signature rest)

-- the two attributes that must be there
abbrev pub of_type : List ℕ
of_type = content_type (type_oid StatusQuery)

abbrev pub of_digest : List ℕ
of_digest = message_digest any_digest

-- the content 30 0A 81 01 01 30 05 83 00 02 01 n, and a Query with it
abbrev pub content_of : ℕ → List ℕ
content_of n = sequence (terse ++ msg_ref all_modules n)

abbrev pub query_of : List ℕ → List ℕ
query_of content = query_with content (of_type ++ of_digest) []

-- A Query of 186 octets that nothing is wrong with. As `openssl asn1parse` has it, its ContentInfo stands at 0 and the type at 3; SignedData at 17, its version at
-- 20; EncapsulatedContentInfo at 38, the OCTET STRING eContent at 54, with the content at 56; the SignerInfos at 68, the SignerInfo at 70, its version at 72;
-- signedAttrs at 91.
abbrev pub query : List ℕ
query = query_of (content_of 6)

-- an attribute with this value or these values
abbrev pub extra : List ℕ → List ℕ
extra values = attribute (0x2A ∷ 0x03 ∷ []) values

-- messages, each with the number and the offset that it is answered with
abbrev pub examples : List (List ℕ × ℕ × ℕ)
examples =
    -- "Elements are read front to back", "the first break counts": an INTEGER without contents, and after it a tag of two octets
    (octets_of "30 04 02 00 1F 00", 1, 2)
    -- "each first by its header": a length that is not shortest, and in the element a tag of two octets
    ∷ (octets_of "30 05 30 81 02 1F 00", 1, 2)
    -- "then its contents, then as a whole": an attribute's second value; message-digest is missing too, which would charge signedAttrs
    ∷ (query_with (content_of 6) (extra (integer 1 ++ integer 2) ++ of_type) [], 7, 104)
    -- "in 36 one of status 1's rules before any other": the number is not shortest; before it stands an element that may not stand there
    ∷ (query_of (sequence (element 0x87 [] ++ (terse ++ sequence (all_modules ++ octets_of "02 02 00 06")))), 36, 67)
    -- "An element that may not stand at its place is charged itself": no alternative of the target has the tag 86
    ∷ (query_of (sequence (terse ++ msg_ref (element 0x86 []) 6)), 36, 63)
    -- "a missing part .. is charged to the element that lacks it": TAMPMsgRef lacks its number; the target's list of hardware modules is empty
    ∷ (query_of (sequence (terse ++ sequence all_modules)), 36, 61)
    ∷ (query_of (sequence (terse ++ msg_ref (element 0xA1 []) 6)), 36, 63)
    -- "(signed attributes too)": the SignerInfo lacks them; signedAttrs lack message-digest
    ∷ (query_with (content_of 6) [] [], 7, 67)
    ∷ (query_with (content_of 6) of_type [], 7, 89)
    -- "an overrun to the element that overruns": terse, past the end of the Query's SEQUENCE
    ∷ (query_of (sequence (octets_of "81 02 01")), 36, 58)
    -- "a repeat or a wrong order to the later member of its set or list": content-type twice; a SET OF not sorted, with an INTEGER without contents after it
    ∷ (query_with (content_of 6) (of_type ++ (of_type ++ of_digest)) [], 7, 122)
    ∷ (octets_of "31 08 02 01 02 02 01 01 02 00", 1, 5)
    -- ", once that is read": the later of two out of order holds an INTEGER without contents
    ∷ (octets_of "31 09 30 03 02 01 01 30 02 02 00", 1, 9)
    -- "octets behind the message's or the eContent's element to the first of them": after a break in the message's element; in 36 before one of syntax
    ∷ (query ++ (0 ∷ []), 1, 186)
    ∷ (octets_of "30 02 02 00 00", 1, 2)
    ∷ (query_of (sequence terse ++ (0 ∷ [])), 36, 61)
    -- "An empty message gives 0."; an empty eContent lacks its element
    ∷ ([], 1, 0)
    ∷ (query_of [], 36, 54)
    -- "for 1, 2, 3, 4, 6, 7, 8 and 36": 2, another type; 3 and 6, another version; 4, eContent is a UTF8String; 8, unsigned attributes
    ∷ (set query 13 0x01, 2, 3)
    ∷ (set query 22 0x01, 3, 20)
    ∷ (set query 54 0x0C, 4, 54)
    ∷ (set query 74 0x01, 6, 72)
    ∷ (query_with (content_of 6) (of_type ++ of_digest) (element 0xA1 (extra (integer 1))), 8, 187)
    -- "and 0 otherwise": 18, where eContentType is another; 21, the number 5 again
    ∷ (set query 51 0x02, 18, 0)
    ∷ (query_of (content_of 5), 21, 0)
    ∷ []

-- .. as `call` has them
abbrev pub found : List ℕ → ℕ × ℕ
found message = let outcome = answer message both in ((outcome_number outcome).number, outcome_offset outcome)

abbrev pub OffsetAnswers : Type 0
OffsetAnswers = map (λ x. found x.0) examples ≡ map (λ x. (x.1, x.2)) examples
