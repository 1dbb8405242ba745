-- What a call returns and leaves in the two lent buffers: by the code, and by the rule book.
use Rattle.std.specs.Prelude.{ℕ, List, ◌≡◌, length}
use Rattle.octets.specs.declared.Status.{Status}
use Rattle.protocol.specs.Call.{Outcome, call, outcome_number, outcome_offset, reply_of, next_of, reply_buffer, next_buffer}
use Rattle.tamp.specs.declared.Answer.{Answer}

-- the number, the offset, both lengths, and every octet of both buffers
pub record CallResult : Type 0 where
  pub number : ℕ
  pub offset : ℕ
  pub reply_length : ℕ
  pub next_length : ℕ
  pub reply : List ℕ
  pub next : List ℕ

-- the code's answer, and its buffers at exit
abbrev pub result_of : Answer → List ℕ → List ℕ → CallResult
result_of r reply next =
    record { number = r.number; offset = r.offset; reply_length = r.reply_len; next_length = r.next_len; reply = reply; next = next }

-- the rule book's outcome, on the buffers that were lent
unfoldable pub result_for : Outcome → List ℕ → List ℕ → CallResult
result_for o reply next =
    record {
      number = (outcome_number o).number;
      offset = outcome_offset o;
      reply_length = length (reply_of o);
      next_length = length (next_of o);
      reply = reply_buffer o reply;
      next = next_buffer o next;
    }

-- Demand 1, the promise of `tamp_call`, here and in its source: whatever message, image, verdict and rooms are given, number, offset, both lengths and every octet
-- of both lent buffers are what the rule book's call leaves
abbrev pub Promise : List ℕ → List ℕ → List ℕ → List ℕ → List ℕ → Answer → List ℕ → List ℕ → Type 0
Promise message image verdict reply next r reply' next' =
    result_of r reply' next' ≡ result_for (call message image verdict (length reply) (length next)) reply next

-- the two constructors of an answer
abbrev pub house_refusal : Status → Answer
house_refusal status = record { number = status.number; reply_len = 0; next_len = 0; offset = 0 }

abbrev pub answer : Status → ℕ → ℕ → ℕ → Answer
answer status offset reply next = record { number = status.number; reply_len = reply; next_len = next; offset = offset }
