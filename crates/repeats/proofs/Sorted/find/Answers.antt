use Prim.Native.Nat.{◌+◌, ◌-◌}
use native.Mathlib.Omega.{arith}
use mathlib.Core.Path.{◌≡◌, sym, ◌∙◌}
use Rattle.repeats.proofs.Led.{find_end, turn_more, turn_not}
use Rattle.repeats.proofs.Sorted.find.Goals.{then-is_before, else-is_before}
use Rattle.repeats.proofs.Sorted.find.Goals as goal

pub loop-digit-preserved : goal.loop-digit-preserved
loop-digit-preserved c =
    let l = c.loop-digit in
    let m : 12 - (l._digit + 1) ≡ (12 - l._digit) - 1 = omega arith in
    elim c.if-is_before.branch [
      | then-is_before w ↦ (rw (m, w.low-is) (turn_more _ l.weight l.low (12 - l._digit) (omega arith) (sym c.is_before.ensures ∙ w.if-is_before.true)) ∙ l.invariant.0, omega (arith, w.low-is, l.invariant.1))
      | else-is_before w ↦ (rw (m, w.low-is) (turn_not _ l.weight l.low (12 - l._digit) (omega arith) (sym c.is_before.ensures ∙ w.if-is_before.false)) ∙ l.invariant.0, omega (arith, w.low-is, l.invariant.1))
    ]

pub returns : goal.returns
returns c = (sym (find_end _ _ _ _ (omega arith)) ∙ c.loop-digit.invariant.0, omega arith)
