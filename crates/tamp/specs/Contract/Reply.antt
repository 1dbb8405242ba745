-- The reply by what the code has in hand: the image as given, the status of the call, and the status octets of an Update's entries.
use Rattle.accept.specs.declared.Signer.{Signer}
use Rattle.envelope.specs.declared.Refusal.{Refusal}
use Rattle.std.specs.Prelude.{ℕ, ◌≤◌, true, false, List, map, ◌≡◌, length, take, ltb, Result, Ok, Err}
use Rattle.octets.specs.declared.Status.{Status}
use Rattle.octets.specs.Limits.{max_updates}
use Rattle.octets.specs.Octets.{placed}
use Rattle.der.specs.Element.{encoding, contents, inside}
use Rattle.syntax.specs.declared.TampType.{TampType}
use Rattle.syntax.specs.declared.TampType.TheVariants.{StatusQuery, Update, CommunityUpdate, SeqNumAdjust}
use Rattle.message.specs.declared.Request.{Request}
use Rattle.reply.specs.Replies.{tamp_error, update_confirm, community_confirm, adjust_confirm}
use Rattle.reply.specs.Contract.Parts.{status_numbered, response_of}
use Rattle.protocol.specs.Call.{refusal_reply}

unfoldable pub kind_reply : TampType → List ℕ → Request → List ℕ → Status → List ℕ → List ℕ
kind_reply StatusQuery s q image status codes = response_of (encoding s q.msgref) image
kind_reply SeqNumAdjust s q image status codes = adjust_confirm (encoding s q.msgref)
kind_reply CommunityUpdate s q image status codes = community_confirm (encoding s q.msgref) status
kind_reply Update s q image status codes =
    let entry_count = length (inside s q.updates) in
    elim (ltb max_updates entry_count) [
      | true ↦ tamp_error (contents s q.msgtype) status (encoding s q.msgref)
      | false ↦ update_confirm (encoding s q.msgref) (map status_numbered (take entry_count codes))
    ]

abbrev pub request_reply : List ℕ → Request → List ℕ → Status → List ℕ → List ℕ
request_reply s q image status codes = kind_reply q.kind s q image status codes

abbrev pub reply_with : List ℕ → Result (Request × Signer) Refusal → List ℕ → Status → List ℕ → List ℕ
reply_with s (Err r) image status codes = refusal_reply s r
reply_with s (Ok (q, w)) image status codes = request_reply s q image status codes

-- its size does not depend on the status, nor on the octets of the entries' statuses
abbrev pub Sizes : List ℕ → Result (Request × Signer) Refusal → List ℕ → ℕ → Type 0
Sizes s j image n = (status : Status) (codes : List ℕ) → max_updates ≤ length codes → n ≡ length (reply_with s j image status codes)

-- octets written at the head of a buffer
abbrev pub Put : List ℕ → List ℕ → ℕ → List ℕ → Type 0
Put content reply n reply' = (n ≡ length content) × (reply' ≡ placed reply 0 content)
