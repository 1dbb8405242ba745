-- What the code of an entry answers and leaves, by the rule book's `step`.
use Rattle.std.specs.Prelude.{ℕ, true, List, ◌≡◌, length, Result, Ok, Err}
use Rattle.octets.specs.declared.Status.{Status}
use Rattle.octets.specs.Status.{success}
use Rattle.der.specs.Element.{encoding}
use Rattle.syntax.specs.Asn.{StoredTrustAnchorInfo}
use Rattle.anchor.specs.Judge.{conforms}
use Rattle.store.specs.Store.{Anchor, Store}
use Rattle.message.specs.declared.Entry.{Entry}
use Rattle.message.specs.declared.Entry.TheVariants as entry
use Rattle.protocol.specs.Update.{Step}
use Rattle.apply.specs.declared.scratch.ScratchImage.{ScratchImage}
use Rattle.apply.specs.Contract.Scratch.{HoldsBoth}

-- the status of an answer: "a failed one changes nothing"
abbrev pub applied_status : Result (Unit {0}) Status → Status
applied_status (Ok _) = success
applied_status (Err status) = status

-- the answer r and the scratch w are those of a step
pub record Does (σ : Store) (done : Step) (r : Result (Unit {0}) Status) (w : ScratchImage) : Type 0 where
  pub status : applied_status r ≡ done.status
  pub after : HoldsBoth σ done.old done.new w.octets w.len w.former

-- the scratch w has become w', with the answer r, as the step f says of every store that w may hold
pub record Applies (f : Anchor → List Anchor → List Anchor → Step) (w : ScratchImage) (r : Result (Unit {0}) Status) (w' : ScratchImage) : Type 0 where
  pub room : length w'.octets ≡ length w.octets
  pub does : (σ : Store) (old new : List Anchor) → HoldsBoth σ old new w.octets w.len w.former → Does σ (f σ.apex old new) r w'

-- the same with the status as an octet
pub record Leaves (σ : Store) (done : Step) (code : ℕ) (w : ScratchImage) : Type 0 where
  pub number : code ≡ done.status.number
  pub after : HoldsBoth σ done.old done.new w.octets w.len w.former

pub record Enters (f : Anchor → List Anchor → List Anchor → Step) (w : ScratchImage) (code : ℕ) (w' : ScratchImage) : Type 0 where
  pub room : length w'.octets ≡ length w.octets
  pub does : (σ : Store) (old new : List Anchor) → HoldsBoth σ old new w.octets w.len w.former → Leaves σ (f σ.apex old new) code w'

-- what an entry of a message that passed row 36 adds has the syntax of a stored TrustAnchorInfo
abbrev pub Conforming : List ℕ → Type 0
Conforming t = conforms StoredTrustAnchorInfo t ≡ true

abbrev pub Adding : List ℕ → Entry → Type 0
Adding s (entry.Add e) = Conforming (encoding s e)
Adding s entry.AddCertificate = Unit {0}
Adding s (entry.Remove e) = Unit {0}
Adding s entry.Change = Unit {0}
