-- Demand 2's last sentence for the code: the reply that a call of `tamp_call` left is the confirm of demand 2 (protocol, specs/Demand2).
use Rattle.std.specs.Prelude.{ℕ, ◌≤◌, ◌<◌, List, ◌≡◌, length, take, Some, Ok}
use Rattle.octets.specs.Limits.{max_updates}
use Rattle.octets.specs.Octets.{Octets}
use Rattle.syntax.specs.declared.TampType.TheVariants.{Update}
use Rattle.store.specs.Store.{Store}
use Rattle.store.specs.Image.{decode}
use Rattle.message.specs.declared.Request.{Request}
use Rattle.protocol.specs.Acceptance.{judgement, rights_at}
use Rattle.protocol.specs.Demand2.{entries_of, Confirms}
use Rattle.tamp.specs.Demand3.{Made, Promised}

-- the reply that the host reads, by the answer's length and from the buffer
abbrev pub reply_read : Made → List ℕ
reply_read m = take m.answer.reply_len m.reply_after

-- of a call that kept its promise and ended in no house refusal (201 to 205), and of an accepted Update
abbrev pub Demand2OfCode : Type 0
Demand2OfCode =
    (image : List ℕ) (m : Made) → Octets image → Promised image m → m.answer.number < 201 →
    (σ : Store) → decode image ≡ Some σ → (q : Request) (i : ℕ) → judgement σ m.verdict m.message ≡ Ok (q, i) →
    q.kind ≡ Update → length (entries_of m.message q) ≤ max_updates →
    Confirms m.message q (rights_at σ i) (reply_read m)
