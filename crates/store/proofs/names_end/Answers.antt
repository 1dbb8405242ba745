use Prim.Native.Nat.{ℕ, ◌+◌, ◌-◌, min}
use native.Mathlib.Omega.{arith}
use mathlib.Core.Path.{◌≡◌, sym, ap, ◌∙◌}
use lib.ListN.{length, drop}
use Rattle.store.specs.Contract.Parts.{name_end, names_size}
use Rattle.store.proofs.Walk.{sizes_turn}
use Rattle.store.proofs.names_end.Goals as goal

pub loop-preserved : goal.loop-preserved
unfolding name_end
loop-preserved c =
    let s = c.args.s.now in
    let l = c.loop in
    let left = c.args.n - l.counter in
    let one : c.args.n - (l.counter + 1) ≡ left - 1 = omega arith in (
      omega (arith, c.name_end-p.ensures),
      ap (λ (k : ℕ). min (c.name_end-p.result + names_size k (drop c.name_end-p.result s)) (length s)) one
          ∙ ap (λ (q : ℕ). min (q + names_size (left - 1) (drop q s)) (length s)) c.name_end-p.ensures
          ∙ sym (sizes_turn s l.p left (omega (arith, c.loop-test.true)))
          ∙ l.invariant.1,
    )

pub returns : goal.returns
unfolding names_size
returns c =
    let l = c.loop in
    let z : c.args.n - l.counter ≡ 0 = omega (arith, c.loop-test.false) in
    omega (arith, rw z at l.invariant.1)
