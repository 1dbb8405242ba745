-- Both sides of an add's row 11 occur, through the call on octets. The manager of specs/NotEmpty enrols a sampler with training rows, which he may sign himself: the entry has status 0, and the
-- sampler is appended. One with test rows has status 11, and is not. The call's status is 0 and the manager's number becomes 1 each time.
use Rattle.std.specs.Prelude.{ℕ, [], ◌∷◌, ◌≡◌, Some, None}
use Rattle.octets.specs.Limits.{reply_room, image_room}
use Rattle.octets.specs.Ascii.{octets_of}
use Rattle.octets.specs.Status.{success}
use Rattle.store.specs.Image.{encode}
use Rattle.protocol.specs.Call.{Outcome, answered, call}
use Rattle.protocol.specs.NotEmpty.{managed, image, sampler, enrols}

-- the manager's message for a sampler with rows of type 2A64 and t
abbrev pub answer_to : ℕ → Outcome
answer_to t = call (enrols t) image (1 ∷ 1 ∷ []) reply_room image_room

abbrev pub BothSides : Type 0
BothSides =
    (answer_to 0x01
    ≡ answered success 0 (octets_of "30 0C 30 05 83 00 02 01 01 A0 03 0A 01 00") (encode (managed (Some 1) (record { number = None; info = sampler 0x01 } ∷ []))))
    × (answer_to 0x02
    ≡ answered success 0 (octets_of "30 0C 30 05 83 00 02 01 01 A0 03 0A 01 0B") (encode (managed (Some 1) [])))
