-- `rights::smallest` meets its contract. The loop's invariant: all before n are taken. Assumes nothing.
use Prim.Native.Nat.{ℕ, ◌<◌}
use mathlib.Core.Bool.{true}
use Rattle.rights.proofs.decision.smallest.Given as goal

abbrev pub invariant-loop-n : goal.invariant-loop-n
invariant-loop-n g l = (i : ℕ) → i < l.n → goal.F-post g l.is_taken i true
