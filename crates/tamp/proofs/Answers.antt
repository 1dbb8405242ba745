-- What the code answers and leaves is what the rule book's outcome leaves.
use Prim.Native.Nat.{ℕ, ◌≤◌, ◌<◌}
use native.Mathlib.Omega.{arith}
use mathlib.Core.List.{List}
use mathlib.Core.Path.{◌≡◌, sym, ap, ap₂, ◌∙◌}
use lib.ListN.{length}
use borrow.Author.Tests.{lt-ltb, le-ltb}
use Rattle.octets.specs.declared.Status.{Status}
use Rattle.octets.specs.Status.{long_reply}
use Rattle.octets.specs.Limits.{reply_room}
use Rattle.octets.specs.First.{given_if}
use Rattle.octets.specs.Octets.{placed}
use Rattle.octets.proofs.Placed.{placed-nil}
use Rattle.protocol.specs.Call.{refused, answered, row_205, guarded, outcome_number, outcome_offset, reply_of, next_of, reply_buffer, next_buffer}
use Rattle.tamp.specs.declared.Answer.{Answer}
use Rattle.tamp.specs.Left.{result_of, result_for, house_refusal, answer}
use Rattle.tamp.specs.Contract.Reply.{Put}

-- "both lengths 0, nothing written"
pub refused_leaves : (status : Status) (reply next : List ℕ) → result_of (house_refusal status) reply next ≡ result_for (refused status) reply next
unfolding result_for outcome_number outcome_offset reply_of next_of reply_buffer next_buffer
refused_leaves status reply next =
    ap₂ (λ (x y : List ℕ). result_of (house_refusal status) x y) (sym (placed-nil reply 0)) (sym (placed-nil next 0))

module _ (status : Status) (offset : ℕ) (content store reply next : List ℕ) where
  -- 205: the reply would pass 10,240 octets
  pub too_long : {n : ℕ} {r : Answer} → n ≡ length content → reply_room < n → r ≡ house_refusal long_reply
      → result_of r reply next ≡ result_for (guarded (answered status offset content store)) reply next
  unfolding guarded row_205 given_if
  too_long f h a =
      ap (λ (r : Answer). result_of r reply next) a ∙ refused_leaves long_reply reply next ∙ rw (lt-ltb reply_room (length content) (omega arith))

  -- an answer that is written
  pub written : {v : Status} {o n k : ℕ} {r : Answer} {reply' next' : List ℕ} → length content ≤ reply_room → v ≡ status → o ≡ offset → Put content reply n reply'
      → k ≡ length store → next' ≡ placed next 0 store → r ≡ answer v o n k
      → result_of r reply' next' ≡ result_for (guarded (answered status offset content store)) reply next
  unfolding guarded row_205 given_if result_for outcome_number outcome_offset reply_of next_of reply_buffer next_buffer
  written h e i p f y a = rw (le-ltb reply_room (length content) h, a, e, i, p.0, p.1, f, y)
