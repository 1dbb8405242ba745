-- Demand 3 for the code: over any list of calls of `tamp_call`, each on the image that the one before it left.
use Rattle.std.specs.Prelude.{ℕ, true, false, List, [], ◌∷◌, map, ◌≡◌, length, take, leb, Some}
use Rattle.octets.specs.Octets.{Octets}
use Rattle.rights.specs.Rights.{Content}
use Rattle.store.specs.Store.{Store}
use Rattle.store.specs.Image.{decode}
use Rattle.store.specs.Records.{records_of}
use Rattle.protocol.specs.Demand3.{Inputs, Unauthorised, authorising}
use Rattle.tamp.specs.declared.Answer.{Answer}
use Rattle.tamp.specs.Left.{Promise}

-- a call as it was made: what it was given besides the image, the buffers lent, what it answered, and what it left in the buffers
pub record Made : Type 0 where
  pub message : List ℕ
  pub octets : Octets message
  pub verdict : List ℕ
  pub reply : List ℕ
  pub next : List ℕ
  pub answer : Answer
  pub reply_after : List ℕ
  pub next_after : List ℕ

-- it kept the promise of `tamp_call`
abbrev pub Promised : List ℕ → Made → Type 0
Promised image m = Promise m.message image m.verdict m.reply m.next m.answer m.reply_after m.next_after

-- "A call leaves its next store, or after a house refusal the store it was given": the host reads it from the answer and the buffer
unfoldable pub store_after_call : List ℕ → Made → List ℕ
store_after_call image m = elim (leb 201 m.answer.number) [ true ↦ image | false ↦ take m.answer.next_len m.next_after ]

unfoldable pub after_all : List ℕ → List Made → List ℕ
after_all image [] = image
after_all image (m ∷ ms) = after_all (store_after_call image m) ms

-- each call kept its promise on the image that it was given
abbrev pub Kept : List ℕ → List Made → Type 0
Kept image [] = Unit {0}
Kept image (m ∷ ms) = Promised image m × Kept (store_after_call image m) ms

-- what the rule book's call is given
abbrev pub inputs : Made → Inputs
inputs m =
    record { message = m.message; octets = m.octets; verdict = m.verdict; reply_lent = length m.reply; next_lent = length m.next }

-- demand 3 (protocol, specs/Demand3) of what the calls left
abbrev pub Demand3OfCode : Type 0
Demand3OfCode =
    (image : List ℕ) (σ : Store) → Octets image → decode image ≡ Some σ →
    (content : Content) (calls : List Made) → Kept image calls → Unauthorised content image (map inputs calls) →
    authorising content (records_of (after_all image calls)) ≡ authorising content (records_of image)
