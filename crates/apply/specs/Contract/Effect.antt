-- What an accepted message does to the lent buffers, by the rule book's effect on the store with the signer's number.
use Rattle.std.specs.Prelude.{ℕ, ◌≤◌, ◌<◌, true, false, List, [], ◌≡◌, length, ltb, Some}
use Rattle.octets.specs.declared.Status.{Status}
use Rattle.octets.specs.Limits.{image_room, max_number, max_updates}
use Rattle.octets.specs.Octets.{placed}
use Rattle.syntax.specs.declared.TampType.{TampType}
use Rattle.syntax.specs.declared.TampType.TheVariants.{StatusQuery, Update, CommunityUpdate, SeqNumAdjust}
use Rattle.rights.specs.Rights.{Rights}
use Rattle.store.specs.Store.{Store, anchors}
use Rattle.store.specs.Image.{encode, decode, well_formed}
use Rattle.message.specs.declared.Request.{Request}
use Rattle.message.specs.Fields.{entries_in}
use Rattle.protocol.specs.Update.{steps}
use Rattle.protocol.specs.Acceptance.{rights_at}
use Rattle.protocol.specs.Effect.{Effect, with_number, effect}
use Rattle.accept.specs.declared.Signer.{Signer}
use Rattle.accept.specs.Contract.Signer.{signer_at}
use Rattle.apply.specs.declared.Done.{Done}
use Rattle.apply.specs.Contract.Update.{codes_of}

-- the image has a store, w is one of its anchors, the number may be stored, and there is room for the largest image
pub record Signing (q : Request) (w : Signer) (image next : List ℕ) : Type 0 where
  pub store : Store
  pub decodes : decode image ≡ Some store
  pub signer : w ≡ signer_at image w.position
  pub inside : w.position < length (anchors store)
  pub small : q.number ≤ max_number
  pub room : image_room ≤ length next

-- "its number becomes the signer's"
abbrev pub number_moved : Request → Signer → Store → Store
number_moved q w σ = with_number w.position q.number σ

-- d with the image of σ written into it, r octets
pub record Writes (σ : Store) (d : List ℕ) (r : ℕ) (d' : List ℕ) : Type 0 where
  pub valid : well_formed σ ≡ true
  pub size : r ≡ length (encode σ)
  pub octets : d' ≡ placed d 0 (encode σ)

-- .. of the image's store with the signer's number
abbrev pub Renumbered : Request → Signer → List ℕ → List ℕ → ℕ → List ℕ → Type 0
Renumbered q w image next r next' = (σ : Store) → decode image ≡ Some σ → Writes (number_moved q w σ) next r next'

-- the status and the next store of an effect on that store
pub record WritesEffect (e : Effect) (next : List ℕ) (r : Done) (next' : List ℕ) : Type 0 where
  pub status : r.status ≡ e.status
  pub writes : Writes e.store next r.len next'

abbrev pub Effects : (Store → Effect) → Request → Signer → List ℕ → List ℕ → Done → List ℕ → Type 0
Effects f q w image next r next' = (σ : Store) → decode image ≡ Some σ → WritesEffect (f (number_moved q w σ)) next r next'

-- the statuses that an Update's confirm lists; none where 17 is given for the message as a whole, and none of other messages
unfoldable pub statuses_of : TampType → List ℕ → Request → Rights → Store → List Status
statuses_of Update s q rights σ =
    let entries = entries_in s q.updates in
    elim (ltb max_updates (length entries)) [ true ↦ [] | false ↦ (steps s rights σ.apex σ.others [] entries).statuses ]
statuses_of StatusQuery s q rights σ = []
statuses_of CommunityUpdate s q rights σ = []
statuses_of SeqNumAdjust s q rights σ = []

-- an octet for each of them
abbrev pub Codes : List ℕ → Request → Rights → Signer → List ℕ → List ℕ → List ℕ → Type 0
Codes s q rights w image codes codes' =
    (σ : Store) → decode image ≡ Some σ → codes' ≡ placed codes 0 (codes_of (statuses_of q.kind s q rights (number_moved q w σ)))

abbrev pub statuses_in : List ℕ → Request → ℕ → Store → List Status
statuses_in s q i σ = statuses_of q.kind s q (rights_at σ i) (with_number i q.number σ)

-- what the whole message does: the effect of the rule book, and an octet for each status of an entry
pub record Effected (s : List ℕ) (q : Request) (w : Signer) (image next codes : List ℕ) (r : Done) (next' codes' : List ℕ) : Type 0 where
  pub does : (σ : Store) → decode image ≡ Some σ → WritesEffect (effect s q w.position σ) next r next'
  pub statuses : (σ : Store) → decode image ≡ Some σ → codes' ≡ placed codes 0 (codes_of (statuses_in s q w.position σ))
