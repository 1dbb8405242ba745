-- 01, Checked examples: the image and the messages of P11 and P12, and messages for twelve more answers. Each message is written from its parts, and is to the last octet what OpenSSL signed;
-- the crypto module's verdict comes beside it.
use Rattle.std.specs.Prelude.{ℕ, List, [], ◌∷◌, ◌++◌, ◌≡◌, set}
use Rattle.octets.specs.Limits.{reply_room, image_room}
use Rattle.octets.specs.Ascii.{ascii, octets_of}
use Rattle.der.specs.Oid.{oid}
use Rattle.syntax.specs.declared.TampType.{TampType}
use Rattle.syntax.specs.declared.TampType.TheVariants.{StatusQuery, Update, CommunityUpdate, SeqNumAdjust}
use Rattle.syntax.specs.Types.{type_oid}
use Rattle.rights.specs.Examples.{P1_P10}
use Rattle.store.specs.Listing.{listing}
use Rattle.protocol.specs.Messages.{sequence, object_identifier, content_type, signing_time, message_digest, id_ecdsa_with_SHA256, signed_message}
use Rattle.protocol.specs.Messages.{terse, all_modules, communities, msg_ref, addition, trust_anchor_info}
use Rattle.protocol.specs.Call.{Outcome, refused, answered, call}

-- the image of 01; its apex has the number 5
unfoldable pub image : List ℕ
image =
    octets_of "01 02 2A 03 01 07 02 01 00 00 00 00 00 00 00 05 00 12 30 10 30 0B 30 05 06 03 2B 65 70 03 02 00 AA 04 01 01 00 00 00 00 00 00 00 00 00 00 12 30"
    ++ octets_of "10 30 0B 30 05 06 03 2B 65 70 03 02 00 BB 04 01 02 00"

-- the image with the apex's number n, which is all that an accepted message of the apex changes here
abbrev pub image_at : ℕ → List ℕ
image_at n = set image 15 n

-- a message as OpenSSL signed it (tools/sign.sh): of a type, with a content, by the anchor with a key identifier; then the content's SHA-256 digest and the signature
unfoldable pub openssl_signed : TampType → List ℕ → ℕ → List ℕ → List ℕ → List ℕ
openssl_signed kind content identifier digest signature =
    signed_message (type_oid kind) content (identifier ∷ [])
    (content_type (type_oid kind) ++ (signing_time (ascii "261115184556Z") ++ message_digest digest))
    id_ecdsa_with_SHA256 signature

-- P12: a Query with number 6 and a terse reply, for all modules, signed by 01
unfoldable pub query6 : List ℕ
query6 =
    openssl_signed StatusQuery (sequence (terse ++ msg_ref all_modules 6)) 0x01
    (octets_of "09 0A 16 62 BD 9B 81 D4 C8 6E 3B 96 17 22 B8 EA 6F 0E AD 96 DC A9 C7 0B FE E7 18 F4 15 EA 4F 6D")
    (octets_of "30 44 02 20 36 53 9B 2C 3C 17 FB 40 9F 0A 39 09 6B 3A BA 59 D2 15 68 DE C5 0F 60 D7 13 02 0C DE 3D D8 D7 A0 02 20 6A 10 E3 15 6C FF E3 9A 9B D8 A8 52 44 91 56 D8 F2 0B AE 4C 45 C7 BD 2D 48 0D 67 97 F2 83 C3 88")

-- the message of P12 as OpenSSL wrote it
abbrev pub Query6Octets : Type 0
Query6Octets =
    query6
    ≡ octets_of "30 82 01 1C 06 09 2A 86 48 86 F7 0D 01 07 02 A0 82 01 0D 30 82 01 09 02 01 03 31 0D 30 0B 06 09 60 86 48 01 65 03 04 02 01 30 1C 06 0A 60 86 48"
    ++ (octets_of "01 65 02 01 02 4D 01 A0 0E 04 0C 30 0A 81 01 01 30 05 83 00 02 01 06 31 81 D6 30 81 D3 02 01 03 80 01 01 30 0B 06 09 60 86 48 01 65 03 04 02 01"
    ++ (octets_of "A0 6A 30 19 06 09 2A 86 48 86 F7 0D 01 09 03 31 0C 06 0A 60 86 48 01 65 02 01 02 4D 01 30 1C 06 09 2A 86 48 86 F7 0D 01 09 05 31 0F 17 0D 32 36"
    ++ (octets_of "31 31 31 35 31 38 34 35 35 36 5A 30 2F 06 09 2A 86 48 86 F7 0D 01 09 04 31 22 04 20 09 0A 16 62 BD 9B 81 D4 C8 6E 3B 96 17 22 B8 EA 6F 0E AD 96"
    ++ (octets_of "DC A9 C7 0B FE E7 18 F4 15 EA 4F 6D 30 0A 06 08 2A 86 48 CE 3D 04 03 02 04 46 30 44 02 20 36 53 9B 2C 3C 17 FB 40 9F 0A 39 09 6B 3A BA 59 D2 15"
    ++ octets_of "68 DE C5 0F 60 D7 13 02 0C DE 3D D8 D7 A0 02 20 6A 10 E3 15 6C FF E3 9A 9B D8 A8 52 44 91 56 D8 F2 0B AE 4C 45 C7 BD 2D 48 0D 67 97 F2 83 C3 88"))))

-- P11: a Query with number 5
unfoldable pub query5 : List ℕ
query5 =
    openssl_signed StatusQuery (sequence (terse ++ msg_ref all_modules 5)) 0x01
    (octets_of "1C 2C DA C7 8D 9E 0A 9E 17 C5 AE 1D DA 47 CE 96 65 B5 95 F9 19 58 AC 1C EB F8 14 24 7D 28 B1 0A")
    (octets_of "30 45 02 20 4F 23 D8 90 81 B9 D5 94 02 16 90 87 09 7F 30 03 65 E9 B8 9C BC D0 C2 3D D7 D5 C8 2E CA 5B E7 49 02 21 00 98 6E 8A 49 F5 F8 A1 4B 0A 45 32 3B 74 D8 13 7F CD 97 0C BA AE 83 57 80 70 3E A9 66 D9 C8 BC B2")

-- P11: an Adjust to 5
unfoldable pub adjust5 : List ℕ
adjust5 =
    openssl_signed SeqNumAdjust (sequence (msg_ref all_modules 5)) 0x01
    (octets_of "5D 1A 93 76 5F 9F 42 5D E6 85 7C E3 27 72 E5 03 0D F4 15 57 ED 82 94 4B A3 42 26 AC 0E 67 DC 28")
    (octets_of "30 45 02 20 75 7A 35 CB C8 65 8A E6 A8 6B C5 66 E7 25 12 76 70 EB F0 C3 15 7E A8 84 C8 36 99 BF 3E 2A 97 21 02 21 00 D4 CE 74 BB D3 19 2F 2A E8 60 99 9B 09 60 3D 00 0E 78 5E 57 2B AC F3 92 4B D9 C7 44 F7 33 D9 DE")

-- an Adjust to 4
unfoldable pub adjust4 : List ℕ
adjust4 =
    openssl_signed SeqNumAdjust (sequence (msg_ref all_modules 4)) 0x01
    (octets_of "55 59 20 AA 86 42 35 50 14 66 E7 C0 E8 33 F1 A1 07 59 7B B0 0D 10 33 F6 23 0B E7 E4 69 C5 61 21")
    (octets_of "30 44 02 20 7E 37 C4 67 6F DD 2E 0B 58 19 AC AC 2B F3 F0 AD 75 13 6A EB 11 2F 25 3D A6 95 05 2A 02 FB 5E BE 02 20 05 DB 72 BC 9D E3 63 1B DE 1D B4 32 FF 64 02 F0 6A CB BB 5D 70 7F 00 DF BB D6 FD 42 D4 29 50 18")

-- the Query without signed attributes
unfoldable pub unsigned_attributes : List ℕ
unsigned_attributes =
    signed_message (type_oid StatusQuery) (sequence (terse ++ msg_ref all_modules 6)) (0x01 ∷ []) [] id_ecdsa_with_SHA256
    (octets_of "30 45 02 20 2D 5E 8A 7E 86 8D F1 83 D2 14 71 9F E3 29 D7 18 96 BB 5F 03 E1 27 55 83 E1 2B 96 26 79 6D 9E 51 02 21 00 FE 60 F9 49 D4 C1 EF D5 8B F2 AB B4 D8 7E AC 6F FF 96 7D 30 2B 7B 20 DA 75 A3 11 90 4B 17 2D 6A")

-- the Query signed by the identity anchor 02
unfoldable pub query6by02 : List ℕ
query6by02 =
    openssl_signed StatusQuery (sequence (terse ++ msg_ref all_modules 6)) 0x02
    (octets_of "09 0A 16 62 BD 9B 81 D4 C8 6E 3B 96 17 22 B8 EA 6F 0E AD 96 DC A9 C7 0B FE E7 18 F4 15 EA 4F 6D")
    (octets_of "30 45 02 21 00 87 4F 00 89 C9 04 A9 CA 76 EF E7 B6 07 B8 8C 47 BF 76 A7 DA E6 99 6E CF E4 EF 59 C5 5E C3 5D 4C 02 20 43 AC AB E5 9C 74 81 78 33 42 AB 7E 53 BD 07 90 34 6B 15 B8 D0 AE 35 AC E4 87 64 A3 2A 8B C1 06")

-- a Query for no community
unfoldable pub query_elsewhere : List ℕ
query_elsewhere =
    openssl_signed StatusQuery (sequence (terse ++ msg_ref (communities []) 6)) 0x01
    (octets_of "BD F8 3B 41 5F B1 61 47 E9 11 21 C2 EB 44 22 6B 42 B2 62 00 D7 80 27 24 7E DD BB B6 E9 1C 05 28")
    (octets_of "30 44 02 20 40 6E E7 81 48 01 DE 67 E3 75 F7 45 B3 29 87 79 74 0F B1 69 6A EC 8B 99 A0 A3 0B 03 8D 57 D8 CC 02 20 28 D3 AE 8E 46 86 8A D3 F1 7F 06 16 6C F1 37 83 30 B4 64 74 C7 89 B4 3C D3 12 2B 8F F6 2C 0C C4")

-- a Query that wants a verbose reply
unfoldable pub query_verbose : List ℕ
query_verbose =
    openssl_signed StatusQuery (sequence (msg_ref all_modules 6)) 0x01
    (octets_of "AF 31 01 F4 A3 95 DC AF D2 AC 3F E4 AA DB 17 E8 7D EB C2 C1 1F 6B 17 CB EE A5 2D 92 37 BA DD BF")
    (octets_of "30 44 02 20 63 4D C4 69 47 F5 12 5D 08 4C 49 4A E8 7F 69 C0 22 E9 E2 8F EB 7E AC 08 09 95 DA A6 FF 01 F3 28 02 20 78 E8 53 1F 3B F7 64 4B 52 26 E6 BC 37 BD 0C 2D 40 E7 A5 CD 30 3F 64 15 74 3E 33 B2 90 6A F8 F2")

-- a Query without its TAMPMsgRef
unfoldable pub query_cut : List ℕ
query_cut =
    openssl_signed StatusQuery (sequence terse) 0x01
    (octets_of "43 8F 8D 49 76 4D 25 A7 82 8E C5 10 A2 62 CD 61 95 F4 B8 09 FE 27 81 22 BC DF A0 F8 99 37 D3 AF")
    (octets_of "30 46 02 21 00 C2 BE B7 3D 3C A8 49 48 E8 5B 84 8F 92 18 11 77 89 AF 7F 1F E8 8F 71 66 76 9C 1E B5 0D CF 14 AB 02 21 00 98 93 63 B9 0C 08 62 E9 AB 3B 52 11 4C D3 4F BC 56 13 49 9E E1 5C 68 00 88 37 BE 75 7F 92 47 F9")

-- a Community Update that adds the OID 2A03 twice
unfoldable pub community_twice : List ℕ
community_twice =
    openssl_signed CommunityUpdate (sequence (terse ++ (msg_ref all_modules 6 ++ sequence (communities (object_identifier (oid 1 2 (3 ∷ [])) ++ object_identifier (oid 1 2 (3 ∷ []))))))) 0x01
    (octets_of "14 65 08 43 3B 5B 54 46 29 FA B4 99 09 B5 84 A3 2B 62 E4 0F 1C D7 EA D9 B4 F0 B5 10 1C D3 B4 E1")
    (octets_of "30 45 02 20 5F 3A 0F 0A F1 35 08 92 69 E2 85 20 A4 77 77 7A 77 BB 9D 40 F9 32 84 8C EB C5 2E 25 F8 71 BE 60 02 21 00 ED CD 41 13 D3 1D F5 E0 5E A0 0C F2 AC E4 24 F8 1D 21 1C 96 D1 9C CC 40 2F 36 E2 AA 99 70 E0 7E")

-- an Update that adds the anchor 03 with certPath
unfoldable pub add_cert_path : List ℕ
add_cert_path =
    openssl_signed Update (addition 6 (trust_anchor_info 0xCC 0x03 (sequence []))) 0x01
    (octets_of "74 6C CD 62 E0 09 1C 03 97 57 A7 6E E3 A0 B0 87 D6 98 F3 7F 3A 8B B1 B1 0F 3B AD 6D 30 D7 77 EF")
    (octets_of "30 46 02 21 00 A6 F3 EF 76 71 DF 74 3D 2F 42 9F 4C 84 4C D0 A6 0C C1 08 E0 74 A3 85 80 BD 7E 4C 54 D2 6E AE 5C 02 21 00 A3 93 11 57 98 AB 20 86 0E CD E8 C1 19 82 7E 13 99 71 99 B7 79 CF 11 BB E6 DB 60 60 E6 AB 1E 0C")

-- a call on the image with the least rooms that pass 203
abbrev pub answer : List ℕ → List ℕ → Outcome
answer message verdict = call message image verdict reply_room image_room

-- an answer by number, offset, reply and next store
abbrev pub Answers : Outcome → ℕ → ℕ → List ℕ → List ℕ → Type 0
Answers o n offset reply next = o ≡ answered (record { number = n }) offset reply next

-- verdicts: both anchors' keys verify, the apex's alone, neither
abbrev pub both : List ℕ
both = 1 ∷ 1 ∷ []

abbrev pub apex_alone : List ℕ
apex_alone = 1 ∷ 0 ∷ []

abbrev pub neither : List ℕ
neither = 0 ∷ 0 ∷ []

-- P11: "stored 5: Query 5 gives 21, Query 6 and Adjust 5 pass."
abbrev pub P11 : Type 0
P11 =
    Answers (answer query5 apex_alone) 21 0 (octets_of "30 16 06 0A 60 86 48 01 65 02 01 02 4D 01 0A 01 15 30 05 83 00 02 01 05") image
    × Answers (answer query6 apex_alone) 0 0 (octets_of "30 11 30 05 83 00 02 01 06 A0 08 30 06 04 01 01 04 01 02") (image_at 6)
    × Answers (answer adjust5 apex_alone) 0 0 (octets_of "30 0A 30 05 83 00 02 01 05 0A 01 00") image

-- P12: the reply, and "the number becomes 6"
abbrev pub P12 : Type 0
P12 =
    Answers (answer query6 apex_alone) 0 0 (octets_of "30 11 30 05 83 00 02 01 06 A0 08 30 06 04 01 01 04 01 02")
    (octets_of "01 02 2A 03 01 07 02 01 00 00 00 00 00 00 00 06 00 12 30 10 30 0B 30 05 06 03 2B 65 70 03 02 00 AA 04 01 01"
    ++ octets_of "00 00 00 00 00 00 00 00 00 00 12 30 10 30 0B 30 05 06 03 2B 65 70 03 02 00 BB 04 01 02 00")

-- 01's list, P1 to P10 about all contents
abbrev pub P1_P12 : Type 0
P1_P12 = P1_P10 × P11 × P12

-- the listing of the image, and of octets that are none
abbrev pub Listings : Type 0
Listings =
    (listing image ≡ ascii "device 2A03 07\nanchors 2\n0 apex 01 5\n1 identity 02 -\ncommunities 0\n")
    × (listing [] ≡ ascii "refused 201\n")

-- Twelve more answers: 2 (the Query as a ContentInfo of type data), 3 (SignedData version 1), 7, 11, 16, 21, 23, 24, 34 for an entry, 36, 127, and 201 (an octet after the image).
abbrev pub TwelveAnswers : Type 0
TwelveAnswers =
    Answers (answer (set query6 14 1) both) 2 4 [] image
    × Answers (answer (set query6 25 1) both) 3 23 [] image
    × Answers (answer unsigned_attributes both) 7 70 (octets_of "30 0F 06 0A 60 86 48 01 65 02 01 02 4D 01 0A 01 07") image
    × Answers (answer query6by02 both) 11 0 (octets_of "30 16 06 0A 60 86 48 01 65 02 01 02 4D 01 0A 01 0B 30 05 83 00 02 01 06") image
    × Answers (answer query6 neither) 16 0 (octets_of "30 16 06 0A 60 86 48 01 65 02 01 02 4D 01 0A 01 10 30 05 83 00 02 01 06") image
    × Answers (answer adjust4 both) 21 0 (octets_of "30 16 06 0A 60 86 48 01 65 02 01 02 4D 0A 0A 01 15 30 05 83 00 02 01 04") image
    × Answers (answer query_elsewhere both) 23 0 (octets_of "30 16 06 0A 60 86 48 01 65 02 01 02 4D 01 0A 01 17 30 05 A2 00 02 01 06") image
    × Answers (answer community_twice both) 24 0 (octets_of "30 0A 30 05 83 00 02 01 06 80 01 18") (image_at 6)
    × Answers (answer add_cert_path both) 0 0 (octets_of "30 0C 30 05 83 00 02 01 06 A0 03 0A 01 22") (image_at 6)
    × Answers (answer query_cut both) 36 59 (octets_of "30 0F 06 0A 60 86 48 01 65 02 01 02 4D 01 0A 01 24") image
    × Answers (answer query_verbose both) 127 0 (octets_of "30 16 06 0A 60 86 48 01 65 02 01 02 4D 01 0A 01 7F 30 05 83 00 02 01 06") image
    × (call query6 (image ++ (0 ∷ [])) both reply_room image_room ≡ refused (record { number = 201 }))
