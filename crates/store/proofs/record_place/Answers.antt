use Prim.Native.Nat.{ℕ, ◌-◌, ◌+◌}
use mathlib.Core.Path.{sym, ap, ◌∙◌}
use Rattle.store.specs.Contract.Parts.{record_place}
use Rattle.store.proofs.Walk.{place_turn, place_end}
use Rattle.store.proofs.record_place.Goals as goal

pub loop-preserved : goal.loop-preserved
loop-preserved c =
    let s = c.args.image.now in
    let n = c.args.position in
    let l = c.loop in
    ap (λ (q : ℕ). record_place s q (n - (l.counter + 1))) c.record_end-p.ensures ∙ sym (place_turn s l.p l.counter n c.loop-test.true) ∙ l.invariant

pub returns : goal.returns
returns c = sym (place_end c.args.image.now c.loop.p c.loop.counter c.args.position c.loop-test.false) ∙ c.loop.invariant
