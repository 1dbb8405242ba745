-- Demand 3 supposes that no accepted message's signer authorised the content. Where one did, the anchors that authorise it do change: here the manager 12, who authorises training rows (the type
-- 2A6401) and Updates, enrols the sampler 13 with training rows.
use Rattle.std.specs.Prelude.{ℕ, true, List, [], ◌∷◌, ◌≡◌, Option, Some, None}
use Rattle.octets.specs.Limits.{reply_room, image_room}
use Rattle.octets.specs.Octets.{Octets}
use Rattle.syntax.specs.declared.TampType.TheVariants.{Update}
use Rattle.syntax.specs.Types.{type_oid}
use Rattle.rights.specs.Rights.{Rights, Content, source, free, authorises}
use Rattle.store.specs.Store.{Anchor, Store}
use Rattle.store.specs.Image.{encode}
use Rattle.store.specs.Records.{records_of}
use Rattle.protocol.specs.Demand3.{Inputs, after, accepted_signer, authorising}
use Rattle.protocol.specs.Messages.{signed_by, addition, trust_anchor_info, rows_type, content_constraints}

-- the apex 01 with the number 5, and the manager 12 with this number; then other anchors
abbrev pub managed : Option ℕ → List Anchor → Store
managed number others =
    record {
      device = record { hw_type = 0x2A ∷ 0x03 ∷ []; serial = 0x07 ∷ [] };
      apex = record { number = Some 5; info = trust_anchor_info 0xA0 0x01 [] };
      others = record { number = number; info = trust_anchor_info 0xB1 0x12 (content_constraints (rows_type 0x01 ∷ type_oid Update ∷ [])) } ∷ others;
      communities = [];
    }

unfoldable pub image : List ℕ
image = encode (managed None [])

-- the sampler 13, with rows of a type
abbrev pub sampler : ℕ → List ℕ
sampler t = trust_anchor_info 0xB2 0x13 (content_constraints (rows_type t ∷ []))

-- the manager's Update with the number 1, which adds it
unfoldable pub enrols : ℕ → List ℕ
enrols t = signed_by 0x12 (type_oid Update) (addition 1 (sampler t)) []

abbrev pub message : List ℕ
message = enrols 0x01

abbrev pub enrolment : Octets message → Inputs
enrolment octets = record { message = message; octets = octets; verdict = 1 ∷ 1 ∷ []; reply_lent = reply_room; next_lent = image_room }

abbrev pub content : Content
content = record { type = rows_type 0x01; role = source; attributes = [] }

abbrev pub manager : Rights
manager = (rows_type 0x01, free) ∷ (type_oid Update, free) ∷ []

-- all that demand 3 supposes but for the signer's silence, and not what it says
abbrev pub NotEmpty : Type 0
NotEmpty =
    Octets image
    × ((octets : Octets message)
    × (accepted_signer image (enrolment octets) ≡ Some manager)
    × (authorises manager content ≡ true)
    × (authorising content (records_of (after image (enrolment octets ∷ []))) ≡ authorising content (records_of image) → ⊥))
