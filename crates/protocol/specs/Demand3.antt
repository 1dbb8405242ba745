-- Demand 3: over any list of calls, where no accepted message's signer authorised a content, the anchors that authorise it stay as they were, in the same
-- order, and their records are equal to the last byte, sequence numbers included.
use Rattle.message.specs.declared.Request.{Request}
use Rattle.envelope.specs.declared.Refusal.{Refusal}
use Rattle.std.specs.Prelude.{ℕ, false, List, [], ◌∷◌, ◌≡◌, drop, Option, Some, None, Result, Ok, Err}
use Rattle.octets.specs.Lists.{filter}
use Rattle.octets.specs.Octets.{Octets}
use Rattle.rights.specs.Rights.{Rights, Content, authorises}
use Rattle.anchor.specs.Info.{rights_of}
use Rattle.store.specs.Store.{Store}
use Rattle.store.specs.Image.{decode}
use Rattle.store.specs.Records.{records_of}
use Rattle.protocol.specs.Acceptance.{judgement, rights_at}
use Rattle.protocol.specs.Call.{Outcome, refused, answered, call}

-- what a call is given besides the image; the message is octets, as all that a slice holds
pub record Inputs : Type 0 where
  pub message : List ℕ
  pub octets : Octets message
  pub verdict : List ℕ
  pub reply_lent : ℕ
  pub next_lent : ℕ

abbrev pub outcome : List ℕ → Inputs → Outcome
outcome image g = call g.message image g.verdict g.reply_lent g.next_lent

-- "A call leaves its next store, or after a house refusal the store it was given."
unfoldable pub store_after : List ℕ → Outcome → List ℕ
store_after image (refused number) = image
store_after image (answered status offset reply next) = next

-- "The first call gets that store, each later one the store that the call before it left."
unfoldable pub after : List ℕ → List Inputs → List ℕ
after image [] = image
after image (g ∷ gs) = after (store_after image (outcome image g)) gs

-- "Accepted means past 21 in a call with no house refusal": what the signer of an accepted message may, in the store that its call was given; nothing where none is accepted.
-- Both are read from what the call was given.
unfoldable pub signer_of : Store → Result (Request × ℕ) Refusal → Option Rights
signer_of σ (Err r) = None
signer_of σ (Ok (q, i)) = Some (rights_at σ i)

unfoldable pub signer_in : Option Store → Inputs → Outcome → Option Rights
signer_in None g o = None
signer_in (Some σ) g (refused number) = None
signer_in (Some σ) g (answered status offset reply next) = signer_of σ (judgement σ g.verdict g.message)

abbrev pub accepted_signer : List ℕ → Inputs → Option Rights
accepted_signer image g = signer_in (decode image) g (outcome image g)

-- "Suppose that no message accepted in the list had a signer that, in the store its call was given, authorised the content."
abbrev pub Unauthorised : Content → List ℕ → List Inputs → Type 0
Unauthorised content image [] = Unit {0}
Unauthorised content image (g ∷ gs) =
    ((rights : Rights) → accepted_signer image g ≡ Some rights → authorises rights content ≡ false)
    × Unauthorised content (store_after image (outcome image g)) gs

-- those of the anchors that authorise a content, in order: the apex, which authorises everything, and others by their TrustAnchorInfo ("what an anchor authorises is
-- read from the store it stands in")
unfoldable pub authorising : Content → List (List ℕ) → List (List ℕ)
authorising content [] = []
authorising content (apex ∷ others) = apex ∷ filter (λ r. authorises (rights_of (drop 11 r)) content) others

-- "Then the anchors that authorise the content after the list are exactly those that authorised it at the start, in the same order, and their records are equal to the last byte, sequence numbers included."
abbrev pub Demand3 : Type 0
Demand3 =
    (image : List ℕ) (σ : Store) → Octets image → decode image ≡ Some σ →
    (content : Content) (calls : List Inputs) → Unauthorised content image calls →
    authorising content (records_of (after image calls)) ≡ authorising content (records_of image)
