-- The desk's theorem (specs/Desk) is not empty. After the manager's call of specs/NotEmpty the apex 01, which alone may sign test rows (2A6402), has its rows permitted, those of manager and sampler
-- are not. The sampler's training rows, of which the theorem says nothing, are.
use Rattle.std.specs.Prelude.{ℕ, List, [], ◌∷◌, ◌≡◌, Some, None}
use Rattle.octets.specs.Status.{no_trust_anchor, not_authorized}
use Rattle.octets.specs.Octets.{Octets}
use Rattle.rights.specs.Rights.{Content, source}
use Rattle.store.specs.Store.{Store}
use Rattle.store.specs.Image.{decode}
use Rattle.protocol.specs.Demand3.{after, accepted_signer, Unauthorised}
use Rattle.protocol.specs.Permit.{withheld, granted, signed_content, permit}
use Rattle.protocol.specs.PermitExamples.{rows}
use Rattle.protocol.specs.Desk.{ApexAlone, EachAccepted}
use Rattle.protocol.specs.Messages.{rows_type}
use Rattle.protocol.specs.NotEmpty.{managed, image, message, enrolment, manager}

abbrev pub test_rows : Content
test_rows = record { type = rows_type 0x02; role = source; attributes = [] }

-- the store of the image
abbrev pub store : Store
store = managed None []

-- the image after the enrolment
abbrev pub later : Octets message → List ℕ
later octets = after image (enrolment octets ∷ [])

-- all that the theorem supposes, with a message accepted in the list, and a permitted one
abbrev pub DeskExample : Type 0
DeskExample =
    Octets image
    × (decode image ≡ Some store)
    × ((octets : Octets message)
    × (accepted_signer image (enrolment octets) ≡ Some manager)
    × Unauthorised test_rows image (enrolment octets ∷ [])
    × ApexAlone store test_rows
    × EachAccepted (λ given i. i ≡ 0 → ⊥) image (enrolment octets ∷ [])
    × (signed_content (rows 0x02 0x01) ≡ test_rows)
    × (permit (rows 0x02 0x01) (later octets) (1 ∷ 0 ∷ 0 ∷ []) ≡ granted (rows 0x02 0x01) 0)
    × (permit (rows 0x02 0x12) (later octets) (0 ∷ 1 ∷ 0 ∷ []) ≡ withheld not_authorized 0)
    × (permit (rows 0x02 0x13) (later octets) (0 ∷ 0 ∷ 1 ∷ []) ≡ withheld not_authorized 0)
    × (permit (rows 0x01 0x13) (later octets) (0 ∷ 0 ∷ 1 ∷ []) ≡ granted (rows 0x01 0x13) 2)
    × (permit (rows 0x01 0x13) image (0 ∷ 0 ∷ []) ≡ withheld no_trust_anchor 0))
