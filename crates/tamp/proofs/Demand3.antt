-- How demand 3 follows for the code: the call's promise says what each call left, and the rule book's calls keep demand 3.
use Prim.Native.Nat.{ℕ, ◌+◌}
use native.Mathlib.Omega.{arith}
use mathlib.Core.List.{List, [], ◌∷◌, map}
use mathlib.Core.Path.{◌≡◌, refl, ap, ap₂, ◌∙◌}
use lib.ListN.{length, take}
use borrow.Author.Tests.{le-leb, lt-leb}
use Rattle.octets.specs.Octets.{placed}
use Rattle.octets.proofs.Placed.{take-after-placed}
use Rattle.store.specs.Records.{records_of}
use Rattle.protocol.specs.Call.{Outcome, refused, answered, outcome_number, reply_of, next_of, reply_buffer, next_buffer}
use Rattle.protocol.specs.Demand3.{outcome, store_after, after, authorising}
use Rattle.protocol.proofs.Demand3.{demand3}
use Rattle.protocol.proofs.Statuses.{Numbered, numbered-call}
use Rattle.tamp.specs.Left.{CallResult, result_of, result_for}
use Rattle.tamp.specs.Demand3.{Made, Promised, store_after_call, after_all, Kept, inputs, Demand3OfCode}

-- what a call left, by its promise
left_is : (image : List ℕ) (m : Made) → Promised image m → store_after_call image m ≡ store_after image (outcome image (inputs m))
unfolding store_after_call store_after result_for outcome_number reply_of next_of reply_buffer next_buffer
left_is image m p = go (outcome image (inputs m)) (numbered-call m.message image m.verdict (length m.reply) (length m.next)) p
  where
    go : (o : Outcome) → Numbered o → result_of m.answer m.reply_after m.next_after ≡ result_for o m.reply m.next → store_after_call image m ≡ store_after image o
    go (refused number) n e =
        let h : m.answer.number ≡ number.number = ap (λ (l : CallResult). l.number) e in
        rw (le-leb 201 m.answer.number (omega arith), store_after_call)
    go (answered status offset reply next) n e =
        let h : m.answer.number ≡ status.number = ap (λ (l : CallResult). l.number) e in
        let z : length next ≡ 0 + length next = omega arith in
        let k : m.answer.next_len ≡ length next = ap (λ (l : CallResult). l.next_length) e in
        let b : m.next_after ≡ placed m.next 0 next = ap (λ (l : CallResult). l.next) e in
        rw (lt-leb 201 m.answer.number (omega arith), store_after_call) (ap₂ take (k ∙ z) b ∙ take-after-placed m.next 0 next (omega arith))

-- what all calls left
pub after_is : (image : List ℕ) (calls : List Made) → Kept image calls → after_all image calls ≡ after image (map inputs calls)
unfolding after_all after
after_is image [] k = refl
after_is image (m ∷ ms) k =
    after_is (store_after_call image m) ms k.1 ∙ ap (λ (i : List ℕ). after i (map inputs ms)) (left_is image m k.0)

pub demand3_of_code : Demand3OfCode
demand3_of_code image σ o d content calls k u =
    ap (λ (i : List ℕ). authorising content (records_of i)) (after_is image calls k) ∙ demand3 image σ o d content (map inputs calls) u
