-- The answer to what acceptance decided: its effect, its reply, and 205.
use Rattle.std.specs.Prelude.{Some, Result, Ok, Err}
use Prim.Native.Nat.{ℕ, ◌+◌, ◌≤◌, ◌<◌}
use native.Mathlib.Omega.{arith}
use mathlib.Core.List.{List, []}
use mathlib.Core.Path.{◌≡◌, refl, sym, ap, ap₂, ◌∙◌}
use lib.ListN.{length, take}
use Rattle.octets.specs.Status.{long_reply, success}
use Rattle.octets.specs.Limits.{image_room, reply_room, max_updates}
use Rattle.octets.specs.Octets.{placed}
use Rattle.octets.proofs.Placed.{take-after-placed}
use Rattle.store.specs.Store.{Store}
use Rattle.store.specs.Image.{decode}
use Rattle.store.proofs.Sizes.{encode-length}
use Rattle.envelope.specs.declared.Refusal.{Refusal}
use Rattle.message.specs.declared.Request.{Request}
use Rattle.protocol.specs.Effect.{effect}
use Rattle.protocol.specs.Call.{Outcome, answered, guarded, outcome_number, outcome_offset, reply_of, next_of, answer_of}
use Rattle.accept.specs.declared.Signer.{Signer}
use Rattle.apply.specs.declared.Done.{Done}
use Rattle.apply.specs.Contract.Effect.{statuses_in, Effected}
use Rattle.tamp.specs.declared.Answer.{Answer}
use Rattle.tamp.specs.Left.{result_of, result_for, house_refusal, answer}
use Rattle.tamp.specs.Contract.Given.{Stored, as_judgement, offset_of, Does}
use Rattle.tamp.specs.Contract.Reply.{request_reply, reply_with, Sizes, Put}
use Rattle.tamp.proofs.Answers.{too_long, written}
use Rattle.tamp.proofs.Replies.{given_lists, left_lists, request_reply_lem, codes_written, some_codes, some-long, some_are, statuses_few}

take-placed : (d s : List ℕ) → take (length s) (placed d 0 s) ≡ s
take-placed d s = let z : length s ≡ 0 + length s = omega arith in ap (λ (n : ℕ). take n (placed d 0 s)) z ∙ take-after-placed d 0 s (omega arith)

module _ (s image : List ℕ) (σ : Store) (d : decode image ≡ Some σ) where
  abbrev outcome : Result (Request × Signer) Refusal → Outcome
  outcome j = answer_of s image σ (as_judgement j)

  -- an outcome by its parts
  outcome_is : (j : Result (Request × Signer) Refusal) → outcome j ≡ answered (outcome_number (outcome j)) (outcome_offset (outcome j)) (reply_of (outcome j)) (next_of (outcome j))
  unfolding answer_of outcome_number outcome_offset reply_of next_of
  outcome_is (Err r) = refl
  outcome_is (Ok (q, w)) = refl

  offset_is : (j : Result (Request × Signer) Refusal) → offset_of j ≡ outcome_offset (outcome j)
  unfolding answer_of outcome_offset
  offset_is (Err r) = refl
  offset_is (Ok (q, w)) = refl

  -- 205 is decided before the effect is there: by the status that it will have, and any octets for its statuses
  long_reply_lem : (j : Result (Request × Signer) Refusal) {n : ℕ} → Sizes s j image n → n ≡ length (reply_of (outcome j))
  unfolding answer_of reply_of
  long_reply_lem (Err r) h = h success (some_codes []) (some-long [])
  long_reply_lem (Ok (q, w)) h =
      let l = statuses_in s q w.position σ in
      h (effect s q w.position σ).status (some_codes l) (some-long l)
      ∙ ap length (request_reply_lem s q w.position σ image (some_codes l) (λ k. given_lists s q w.position σ image d) refl (some_are l))

  pub answers-long : (j : Result (Request × Signer) Refusal) (reply next : List ℕ) {n : ℕ} {r : Answer} → Sizes s j image n → reply_room < n → r ≡ house_refusal long_reply
      → result_of r reply next ≡ result_for (guarded (outcome j)) reply next
  answers-long j reply next h l a =
      too_long (outcome_number (outcome j)) (outcome_offset (outcome j)) (reply_of (outcome j)) (next_of (outcome j)) reply next (long_reply_lem j h) l a
      ∙ ap (λ (o : Outcome). result_for (guarded o) reply next) (sym (outcome_is j))

  module _ {next codes : List ℕ} {done : Done} {next' codes' : List ℕ} (room : image_room ≤ length next) (space : max_updates ≤ length codes) where
    -- the next store in its buffer
    left_is : (j : Result (Request × Signer) Refusal) → Does s j image next codes done next' codes' → take done.len next' ≡ next_of (outcome j)
    left_is j h = ap₂ take (h.size σ d) (h.octets σ d) ∙ take-placed next (next_of (outcome j))

    reply_is : (j : Result (Request × Signer) Refusal) → Does s j image next codes done next' codes'
        → reply_with s j (take done.len next') done.status codes' ≡ reply_of (outcome j)
    unfolding answer_of outcome_number reply_of next_of
    reply_is (Err r) h = refl
    reply_is (Ok (q, w)) h =
        let l = statuses_in s q w.position σ in
        let few = statuses_few s q w.position σ in
        ap (λ (t : List ℕ). request_reply s q t done.status codes') (left_is (Ok (q, w)) h)
        ∙ request_reply_lem s q w.position σ _ codes' (left_lists s q w.position σ (h.valid σ d)) (h.status σ d)
        (codes_written l codes (omega arith) (h.codes_are σ d))

    pub reply_fits : (j : Result (Request × Signer) Refusal) → Does s j image next codes done next' codes' → {m : ℕ} → Sizes s j image m → m ≤ reply_room
        → length (reply_with s j (take done.len next') done.status codes') ≤ reply_room
    reply_fits j h size l = omega (arith, ap length (reply_is j h), long_reply_lem j size)

    pub answers : (j : Result (Request × Signer) Refusal) → Does s j image next codes done next' codes' → (reply : List ℕ) {k n m : ℕ} {r : Answer} {reply' : List ℕ}
        → Sizes s j image m → m ≤ reply_room → k ≡ offset_of j
        → Put (reply_with s j (take done.len next') done.status codes') reply n reply' → r ≡ answer done.status k n done.len
        → result_of r reply' next' ≡ result_for (guarded (outcome j)) reply next
    answers j h reply size l o p a =
        written (outcome_number (outcome j)) (outcome_offset (outcome j)) (reply_of (outcome j)) (next_of (outcome j)) reply next
        (omega (arith, long_reply_lem j size))
        (h.status σ d)
        (o ∙ offset_is j)
        (p.0 ∙ ap length (reply_is j h), p.1 ∙ ap (placed reply 0) (reply_is j h))
        (h.size σ d)
        (h.octets σ d)
        a
        ∙ ap (λ (o : Outcome). result_for (guarded o) reply next) (sym (outcome_is j))

-- the effect of a refusal, and of a request
module _ (s : List ℕ) (image next codes : List ℕ) where
  pub refusal_does : (r : Refusal) {next' : List ℕ} → length image ≤ image_room → next' ≡ placed next 0 image
      → Does s (Err r) image next codes (record { status = r.status; len = length image }) next' codes
  unfolding answer_of outcome_number next_of
  refusal_does r m e =
      record { status = λ σ d. refl; size = λ σ d. refl; octets = λ σ d. e; short = m; valid = tt; codes_are = refl; codes_size = refl }

  pub request_does : {q : Request} (w : Signer) {done : Done} {next' codes' : List ℕ} → Stored image → Effected s q w image next codes done next' codes'
      → length codes' ≡ length codes → Does s (Ok (q, w)) image next codes done next' codes'
  unfolding answer_of outcome_number next_of
  request_does w g h z =
      let e = (h.does g.store g.decodes).writes in
      record {
        status = λ σ d. (h.does σ d).status;
        size = λ σ d. (h.does σ d).writes.size;
        octets = λ σ d. (h.does σ d).writes.octets;
        short = omega (arith, e.size, encode-length _ e.valid);
        valid = λ σ d. (h.does σ d).writes.valid;
        codes_are = h.statuses;
        codes_size = z;
      }
