-- 01, Answers: the call. Each house refusal is a row that is a test, which applies where it is true (202 to 205; 201 is that `decode` gives nothing), and
-- `given_if` gives the first that applies: these rows have neither offset nor reply. The rows of statuses are Fits (envelope's specs/Rows).
use Rattle.message.specs.declared.Request.{Request}
use Rattle.std.specs.Prelude.{ℕ, Bool, true, false, not, ◌&&◌, ◌||◌, List, [], length, leb, ltb, eqb, Option, Some, None, Result, Ok, Err}
use Rattle.octets.specs.declared.Status.{Status}
use Rattle.octets.specs.Status.{bad_image, bad_verdict, small_buffer, long_message, long_reply}
use Rattle.octets.specs.Limits.{reply_room, image_room, max_message}
use Rattle.octets.specs.First.{given_if}
use Rattle.octets.specs.Lists.{all_of}
use Rattle.octets.specs.Octets.{written}
use Rattle.der.specs.Element.{encoding, contents}
use Rattle.store.specs.Store.{Store, anchors}
use Rattle.store.specs.Image.{encode, decode}
use Rattle.envelope.specs.declared.Refusal.{Refusal}
use Rattle.reply.specs.Replies.{tamp_error}
use Rattle.protocol.specs.Acceptance.{judgement}
use Rattle.protocol.specs.Effect.{effect}

-- a house refusal ("both lengths 0, nothing written"), or an answer with a TAMP status, 02 E3's offset, the reply and the next store
pub data Outcome : Type 0 where
  refused : (number : Status) → Outcome
  answered : (status : Status) (offset : ℕ) (reply next : List ℕ) → Outcome

-- 202: the verdict's length isn't the anchor count, or an octet is above 1
unfoldable pub row_202 : Store → List ℕ → Bool
row_202 σ verdict = not (eqb (length verdict) (length (anchors σ)) && all_of (λ v. leb v 1) verdict)

-- 203: what each buffer must have room for. (The next store's is given the image, which 02's E11 will ask for; today it is the same for all.)
abbrev pub reply_needs : ℕ
reply_needs = reply_room

abbrev pub next_needs : List ℕ → ℕ
next_needs image = image_room

unfoldable pub row_203 : List ℕ → ℕ → ℕ → Bool
row_203 image reply_lent next_lent = ltb reply_lent reply_needs || ltb next_lent (next_needs image)

-- 204: the message is over 8,192 octets
unfoldable pub row_204 : List ℕ → Bool
row_204 s = ltb max_message (length s)

-- 205: the reply would pass 10,240 octets
unfoldable pub row_205 : Outcome → Bool
row_205 (refused number) = false
row_205 (answered status offset reply next) = ltb reply_needs (length reply)

-- "Statuses 1, 2, 3 and 4 have no reply (length 0). The rest reply with a TAMP Error, with msgRef from 127 on, without it before": what it repeats of the
-- message stands in the refusal
unfoldable pub refusal_reply : List ℕ → Refusal → List ℕ
refusal_reply s r =
    elim r.msgtype.valid [ true ↦ tamp_error (contents s r.msgtype) r.status (encoding s r.msgref) | false ↦ [] ]

-- "The next store is written whole (a copy where nothing changed)"; "These answers leave the store alone"; an accepted message writes its effect. 02, E3: a
-- refusal has the offset that its row found; an accepted message has none
unfoldable pub answer_of : List ℕ → List ℕ → Store → Result (Request × ℕ) Refusal → Outcome
answer_of s image σ (Err r) = answered r.status r.offset (refusal_reply s r) image
answer_of s image σ (Ok (q, i)) = let e = effect s q i σ in answered e.status 0 e.reply (encode e.store)

-- 205, else the answer
unfoldable pub guarded : Outcome → Outcome
guarded answer = given_if (row_205 answer) (refused long_reply) answer

-- a call on a store: 202 to 205 in their order, else the answer
unfoldable pub call_on : Store → List ℕ → List ℕ → List ℕ → ℕ → ℕ → Outcome
call_on σ s image verdict reply_lent next_lent =
    given_if (row_202 σ verdict) (refused bad_verdict)
    (given_if (row_203 image reply_lent next_lent) (refused small_buffer)
    (given_if (row_204 s) (refused long_message)
    (guarded (answer_of s image σ (judgement σ verdict s)))))

-- 201, where the image has no store
unfoldable pub call_of : Option Store → List ℕ → List ℕ → List ℕ → ℕ → ℕ → Outcome
call_of None s image verdict reply_lent next_lent = refused bad_image
call_of (Some σ) s image verdict reply_lent next_lent = call_on σ s image verdict reply_lent next_lent

-- A call is given a message, a store image and a verdict, and the rooms of the two lent buffers; 201 comes first.
unfoldable pub call : List ℕ → List ℕ → List ℕ → ℕ → ℕ → Outcome
call s image verdict reply_lent next_lent = call_of (decode image) s image verdict reply_lent next_lent

-- what the call returns and leaves: the number, the offset, the two lengths, and what the lent buffers hold ("octets after the written lengths stay")
unfoldable pub outcome_number : Outcome → Status
outcome_number (refused number) = number
outcome_number (answered status offset reply next) = status

-- 02, E3: a house refusal has none
unfoldable pub outcome_offset : Outcome → ℕ
outcome_offset (refused number) = 0
outcome_offset (answered status offset reply next) = offset

unfoldable pub reply_of : Outcome → List ℕ
reply_of (refused number) = []
reply_of (answered status offset reply next) = reply

unfoldable pub next_of : Outcome → List ℕ
next_of (refused number) = []
next_of (answered status offset reply next) = next

unfoldable pub reply_buffer : Outcome → List ℕ → List ℕ
reply_buffer outcome lent = written lent (reply_of outcome)

unfoldable pub next_buffer : Outcome → List ℕ → List ℕ
next_buffer outcome lent = written lent (next_of outcome)
