-- Demand 2, its last sentence: "An enrolment that passes the earlier checks is refused for its rights exactly when some content exists that the new anchor
-- would authorise and the signer does not." Here it is an add that passes 34, and 17 for size; it is refused by 11; and the signer's rights are read from the
-- store that the call was given. Over octets: message, image and reply as they come.
use Rattle.std.specs.Prelude.{ℕ, ◌≤◌, ◌<◌, true, List, ◌↔◌, ◌≡◌, length, get_or, Some, Ok}
use Rattle.octets.specs.declared.Status.{Status}
use Rattle.octets.specs.Status.{success, not_authorized}
use Rattle.octets.specs.Limits.{max_updates}
use Rattle.octets.specs.Octets.{Octets}
use Rattle.der.specs.declared.Element.{Element}
use Rattle.der.specs.Element.{encoding}
use Rattle.syntax.specs.declared.TampType.TheVariants.{Update}
use Rattle.rights.specs.Rights.{Rights, Outside}
use Rattle.rights.specs.Valid.{ValidOutside}
use Rattle.anchor.specs.Info.{rights_of}
use Rattle.anchor.specs.Judge.{judge, passes}
use Rattle.store.specs.Store.{Store}
use Rattle.store.specs.Image.{decode}
use Rattle.message.specs.declared.Request.{Request}
use Rattle.message.specs.declared.Entry.{Entry}
use Rattle.message.specs.declared.Entry.TheVariants as entry
use Rattle.message.specs.Fields.{entries_in}
use Rattle.reply.specs.Replies.{update_confirm}
use Rattle.protocol.specs.Acceptance.{judgement, rights_at}
use Rattle.protocol.specs.Call.{answered, call}

-- the entries of an Update
abbrev pub entries_of : List ℕ → Request → List Entry
entries_of s q = entries_in s q.updates

-- 11 "exactly when some content exists that the new anchor would authorise and the signer does not": among all contents, and among those that are contents by
-- DER (rights, specs/Valid)
abbrev pub Exactly : Status → Rights → Rights → Type 0
Exactly status signer new = ((status ≡ not_authorized) ↔ Outside signer new) × ((status ≡ not_authorized) ↔ ValidOutside signer new)

-- the reply is a confirm that lists a status per entry; of each add it is 11 exactly where a content lies outside the signer's rights
pub record Confirms (s : List ℕ) (q : Request) (signer : Rights) (reply : List ℕ) : Type 0 where
  pub statuses : List Status
  pub confirm : reply ≡ update_confirm (encoding s q.msgref) statuses
  pub per_entry : length statuses ≡ length (entries_of s q)
  pub adds : (k : ℕ) (e : Element) → k < length (entries_of s q) → get_or (entries_of s q) k entry.Change ≡ entry.Add e → passes (judge (encoding s e)) ≡ true
      → Exactly (get_or statuses k success) signer (rights_of (encoding s e))

-- of any accepted Update of 16 entries at most: one of more has no confirm
abbrev pub Demand2 : Type 0
Demand2 =
    (message image verdict : List ℕ) (reply_lent next_lent : ℕ) (status : Status) (offset : ℕ) (reply next : List ℕ) →
    Octets message → Octets image → call message image verdict reply_lent next_lent ≡ answered status offset reply next →
    (σ : Store) → decode image ≡ Some σ → (q : Request) (i : ℕ) → judgement σ verdict message ≡ Ok (q, i) →
    q.kind ≡ Update → length (entries_of message q) ≤ max_updates →
    Confirms message q (rights_at σ i) reply
