-- What the parts of the call are given, once the house refusals 201 to 204 are past, and what they do.
use Rattle.accept.specs.declared.Signer.{Signer}
use Rattle.message.specs.declared.Request.{Request}
use Rattle.envelope.specs.declared.Refusal.{Refusal}
use Rattle.std.specs.Prelude.{ℕ, ◌≤◌, Bool, true, not, ◌&&◌, ◌||◌, List, ◌≡◌, length, leb, ltb, eqb, Some, Result, Ok, Err}
use Rattle.octets.specs.declared.Status.{Status}
use Rattle.octets.specs.Status.{bad_image, bad_verdict, small_buffer, long_message}
use Rattle.octets.specs.First.{given_if}
use Rattle.octets.specs.Lists.{all_of}
use Rattle.store.specs.Contract.Parts.{anchor_count}
use Rattle.image.specs.Contract.Check.{is_image}
use Rattle.octets.specs.Limits.{reply_room, image_room, max_message}
use Rattle.octets.specs.Octets.{placed}
use Rattle.store.specs.Store.{Store}
use Rattle.store.specs.Image.{decode, well_formed}
use Rattle.message.specs.Rows.{received}
use Rattle.protocol.specs.Effect.{effect}
use Rattle.protocol.specs.Call.{outcome_number, next_of, answer_of}
use Rattle.apply.specs.declared.Done.{Done}
use Rattle.apply.specs.Contract.Update.{codes_of}
use Rattle.apply.specs.Contract.Effect.{Signing, statuses_in}

-- 203 and 204: there is room for every reply and every image, and the message is short
pub record Rooms (s lentReply lentNext : List ℕ) : Type 0 where
  pub message : length s ≤ max_message
  pub reply : reply_room ≤ length lentReply
  pub next : image_room ≤ length lentNext

-- 202, by the image's count of anchors
abbrev pub is_verdict : List ℕ → List ℕ → Bool
is_verdict image verdict = eqb (length verdict) (anchor_count image) && all_of (λ v. leb v 1) verdict

-- 201 to 204 in their order, as tests of what the call is given
unfoldable pub admitted : List ℕ → List ℕ → List ℕ → ℕ → ℕ → Result (Unit {0}) Status
admitted message image verdict reply next =
    given_if (not (is_image image)) (Err bad_image)
    (given_if (not (is_verdict image verdict)) (Err bad_verdict)
    (given_if (ltb reply reply_room || ltb next image_room) (Err small_buffer)
    (given_if (ltb max_message (length message)) (Err long_message) (Ok tt))))

-- 201: the image has a store
pub record Stored (image : List ℕ) : Type 0 where
  pub store : Store
  pub decodes : decode image ≡ Some store

-- what acceptance knows: of a refusal that the image has room, of an accepted request that s asks it, and its signer in the image's store
abbrev pub Known : List ℕ → Result (Request × Signer) Refusal → List ℕ → List ℕ → Type 0
Known s (Err r) image next = (length image ≤ image_room) × (image_room ≤ length next)
Known s (Ok (q, w)) image next = (received s ≡ Ok q) × Signing q w image next

-- the judgement that it stands for
abbrev pub as_judgement : Result (Request × Signer) Refusal → Result (Request × ℕ) Refusal
as_judgement (Err r) = Err r
as_judgement (Ok (q, w)) = Ok (q, w.position)

-- the offset of its answer
abbrev pub offset_of : Result (Request × Signer) Refusal → ℕ
offset_of (Err r) = r.offset
offset_of (Ok (q, w)) = 0

-- the status octets of an accepted Update's entries
abbrev pub CodesOf : List ℕ → Result (Request × Signer) Refusal → List ℕ → List ℕ → List ℕ → Type 0
CodesOf s (Err r) image codes codes' = codes' ≡ codes
CodesOf s (Ok (q, w)) image codes codes' = (σ : Store) → decode image ≡ Some σ → codes' ≡ placed codes 0 (codes_of (statuses_in s q w.position σ))

-- the next store of an accepted request is well-formed
abbrev pub Valid : List ℕ → Result (Request × Signer) Refusal → List ℕ → Type 0
Valid s (Err r) image = Unit {0}
Valid s (Ok (q, w)) image = (σ : Store) → decode image ≡ Some σ → well_formed (effect s q w.position σ).store ≡ true

-- the status and the next store of the answer
pub record Does (s : List ℕ) (j : Result (Request × Signer) Refusal) (image next codes : List ℕ) (r : Done) (next' codes' : List ℕ) : Type 0 where
  pub status : (σ : Store) → decode image ≡ Some σ → r.status ≡ outcome_number (answer_of s image σ (as_judgement j))
  pub size : (σ : Store) → decode image ≡ Some σ → r.len ≡ length (next_of (answer_of s image σ (as_judgement j)))
  pub octets : (σ : Store) → decode image ≡ Some σ → next' ≡ placed next 0 (next_of (answer_of s image σ (as_judgement j)))
  pub short : r.len ≤ image_room
  pub valid : Valid s j image
  pub codes_are : CodesOf s j image codes codes'
  pub codes_size : length codes' ≡ length codes
