-- How demand 2 follows for the code: the call's promise says what reply it left, and the rule book's call keeps demand 2.
use Prim.Native.Nat.{ℕ, ◌+◌, ◌<◌}
use native.Mathlib.Omega.{arith}
use mathlib.Core.List.{List}
use mathlib.Core.Path.{◌≡◌, refl, ap, ap₂, ◌∙◌}
use lib.ListN.{length, take}
use Rattle.octets.specs.declared.Status.{Status}
use Rattle.octets.specs.Octets.{placed}
use Rattle.octets.proofs.Placed.{take-after-placed}
use Rattle.protocol.specs.Call.{Outcome, refused, answered, outcome_number, reply_of, next_of, reply_buffer, next_buffer}
use Rattle.protocol.specs.Demand3.{outcome}
use Rattle.protocol.proofs.Demand2.{demand2}
use Rattle.protocol.proofs.Statuses.{Numbered, numbered-call}
use Rattle.tamp.specs.Left.{CallResult, result_of, result_for}
use Rattle.tamp.specs.Demand2.{reply_read, Demand2OfCode}
use Rattle.tamp.specs.Demand3.{Made, Promised, inputs}

-- what a call answered, by its promise
record Answered (image : List ℕ) (m : Made) : Type 0 where
  status : Status
  offset : ℕ
  reply : List ℕ
  next : List ℕ
  is : outcome image (inputs m) ≡ answered status offset reply next
  reads : reply_read m ≡ reply

answered_is : (image : List ℕ) (m : Made) → Promised image m → m.answer.number < 201 → Answered image m
unfolding result_for outcome_number reply_of next_of reply_buffer next_buffer
answered_is image m p l = go (outcome image (inputs m)) refl (numbered-call m.message image m.verdict (length m.reply) (length m.next)) p
  where
    go : (o : Outcome) → outcome image (inputs m) ≡ o → Numbered o → result_of m.answer m.reply_after m.next_after ≡ result_for o m.reply m.next → Answered image m
    go (refused number) q n e =
        let h : m.answer.number ≡ number.number = ap (λ (l : CallResult). l.number) e in
        absurd (omega arith)
    go (answered status offset reply next) q n e =
        let z : length reply ≡ 0 + length reply = omega arith in
        let k : m.answer.reply_len ≡ length reply = ap (λ (l : CallResult). l.reply_length) e in
        let b : m.reply_after ≡ placed m.reply 0 reply = ap (λ (l : CallResult). l.reply) e in
        record { status = status; offset = offset; reply = reply; next = next; is = q; reads = ap₂ take (k ∙ z) b ∙ take-after-placed m.reply 0 reply (omega arith) }

pub demand2_of_code : Demand2OfCode
demand2_of_code image m o p l σ d q i j k n =
    let a = answered_is image m p l in
    rw a.reads
    (demand2 m.message image m.verdict (length m.reply) (length m.next) a.status a.offset a.reply a.next m.octets o a.is σ d q i j k n)
